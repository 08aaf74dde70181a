use Rattle.std.proofs.Common.{◌≤◌, ◌<◌, suc, arith}
use Rattle.std.proofs.lemmas.Result.{err_from_is_err_and}
use Rattle.c_grammar.specs.Reading as spec
use Rattle.c_reading.specs.Cursor.{here}
use Rattle.c_exprs.proofs.Climbing.{begins_not, ends, climbs, climbs_not}
use Rattle.c_exprs.proofs.below.Below.read_expr.Goals as goal

pub returns-in_err-all : goal.returns-in_err-all
returns-in_err-all g c =
    let r = spec.rules c.args.self.now.height in
    let source = c.args.self.now.source in
    let s = here source c.args.c.now in
    let p = err_from_is_err_and c.from_residual.result c.from_residual.ensures.1 in
    record {
      reads = rw (p.1, p.2) (begins_not r (suc c.args.self.now.height) c.args.rank s _
          (omega (arith, c.if-rank-le3.false)) c.in_err-all.ensures.reads);
      low = rw p.1 tt;
    }

pub returns-then-next-reached : goal.returns-then-next-reached
returns-then-next-reached g c =
    let r = spec.rules c.args.self.now.height in
    let source = c.args.self.now.source in
    let l = c.ranks in
    let i = l.invariant in
    let s = here source c.args.c.now in
    let z = here source l.c in
    record {
      reads = ends r (suc c.args.self.now.height) l.reached c.args.rank c.binds-next.result s z l.all.tree
          i.least i.most c.binds-next.ensures c.then-next-reached.either i.reads;
      low = i.low;
    }

pub returns-in_err-all-2 : goal.returns-in_err-all-2
returns-in_err-all-2 g c =
    let r = spec.rules c.args.self.now.height in
    let source = c.args.self.now.source in
    let l = c.ranks in
    let i = l.invariant in
    let s = here source c.args.c.now in
    let z = here source l.c in
    let p = err_from_is_err_and c.from_residual-in_err-all-2.result c.from_residual-in_err-all-2.ensures.1 in
    let above : l.reached < c.binds-next.result = omega (arith, c.if-next-reached.false) in
    let within : c.binds-next.result ≤ c.args.rank = omega (arith, c.if-next-rank.false) in
    record {
      reads = rw (p.1, p.2) (climbs_not r (suc c.args.self.now.height) l.reached c.binds-next.result c.args.rank
          s z l.all.tree _ i.least above within c.binds-next.ensures i.reads c.in_err-all-2.ensures.reads);
      low = rw p.1 tt;
    }

pub ranks-preserved : goal.ranks-preserved
ranks-preserved g c =
    let r = spec.rules c.args.self.now.height in
    let source = c.args.self.now.source in
    let l = c.ranks in
    let i = l.invariant in
    let s = here source c.args.c.now in
    let z = here source l.c in
    let w = here source c.more.new.c in
    let above : l.reached < c.binds-next.result = omega (arith, c.if-next-reached.false) in
    let within : c.binds-next.result ≤ c.args.rank = omega (arith, c.if-next-rank.false) in
    record {
      reads = climbs r (suc c.args.self.now.height) l.reached c.binds-next.result s z w l.all.tree
          c.in_ok-all-2.all.tree i.least above c.binds-next.ensures i.reads c.in_ok-all-2.ensures.reads;
      low = c.in_ok-all-2.ensures.low;
      least = omega (arith, above, i.least);
      most = within;
    }
