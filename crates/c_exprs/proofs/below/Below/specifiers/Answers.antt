use Rattle.std.proofs.Common.{◌≡◌, ◌-◌, true, false, arith, rules}
use Rattle.std.proofs.lemmas.Result.{err_from_is_err_and}
use Rattle.c_grammar.specs.Parts.{specifies_in}
use Rattle.c_grammar.specs.Reading as spec
use Rattle.c_reading.specs.Cursor.{here}
use Rattle.c_exprs.proofs.Lists.{specifiers_next, specifiers_fail, specifiers_stop, specifiers_out}
use Rattle.c_exprs.proofs.below.Below.specifiers.Goals as goal

pub returns-then-not-specifies : goal.returns-then-not-specifies
returns-then-not-specifies g c =
    let r = spec.rules c.args.self.now.height in
    let source = c.args.self.now.source in
    let l = c.specifiers in
    let s = here source l.c in
    let none : specifies_in l.typed s.0 s.1 ≡ false = search rules in
    record {
      reads = specifiers_stop r (l.left - 1) l.left l.typed l.all.trees s _ (omega arith) none l.invariant.reads;
      low = l.invariant.low;
    }

pub returns-in_err-found : goal.returns-in_err-found
returns-in_err-found g c =
    let r = spec.rules c.args.self.now.height in
    let source = c.args.self.now.source in
    let l = c.specifiers in
    let s = here source l.c in
    let goes : specifies_in l.typed s.0 s.1 ≡ true = search rules in
    let p = err_from_is_err_and c.from_residual.result c.from_residual.ensures.1 in
    record {
      reads = rw (p.1, p.2) (specifiers_fail r (l.left - 1) l.left l.typed l.all.trees s _ _ (omega arith) goes
          c.in_err-found.ensures.reads l.invariant.reads);
      low = rw p.1 tt;
    }

pub specifiers-preserved : goal.specifiers-preserved
specifiers-preserved g c =
    let r = spec.rules c.args.self.now.height in
    let source = c.args.self.now.source in
    let l = c.specifiers in
    let s = here source l.c in
    let goes : specifies_in l.typed s.0 s.1 ≡ true = search rules in
    record {
      reads = specifiers_next r (l.left - 1) l.left l.typed c.typed_after-typed.result l.all.trees
          c.in_ok-all.all.trees c.in_ok-found.found.kind c.in_ok-found.found.tree s
          (here source c.specifier.new.c) _ (omega arith) goes c.in_ok-found.ensures.reads
          c.in_ok-found.found.kind_is c.typed_after-typed.ensures c.in_ok-all.ensures.trees l.invariant.reads;
      low = omega (arith, l.invariant.low, c.in_ok-found.ensures.low, c.in_ok-all.ensures.height);
    }

pub returns : goal.returns
returns g c =
    let r = spec.rules c.args.self.now.height in
    let source = c.args.self.now.source in
    let l = c.specifiers in
    record {
      reads = specifiers_out r l.left l.typed l.all.trees (here source l.c) _ (omega arith) l.invariant.reads;
      low = tt;
    }
