use Rattle.std.proofs.Common.{arith}
use Rattle.std.proofs.lemmas.Result.{err_from_is_err_and}
use Rattle.c_reading.specs.Cursor.{here}
use Rattle.c_exprs.proofs.Beginning.{literal_goes, literal_fails}
use Rattle.c_exprs.proofs.below.Below.strings.Goals as goal

pub returns-in_err-pieces : goal.returns-in_err-pieces
returns-in_err-pieces g c =
    let source = c.args.self.now.source in
    let p = err_from_is_err_and c.from_residual.result c.from_residual.ensures.1 in
    record {
      reads = rw (p.1, p.2) (literal_fails c.args.at c.args.first (here source c.args.c.now) _
          c.in_err-pieces.ensures);
      low = rw p.1 tt;
    }

pub returns : goal.returns
returns g c =
    let source = c.args.self.now.source in
    record {
      reads = rw c.string_literal.ensures.tree (literal_goes c.args.at c.args.first c.in_ok-pieces.pieces
          (here source c.args.c.now) (here source c.literals.new.c) c.in_ok-pieces.ensures);
      low = omega (arith, c.string_literal.ensures.height);
    }
