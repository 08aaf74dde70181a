use Rattle.std.proofs.Common.{◌≡◌, ◌-◌, ◌≤◌, ◌<◌, suc, true, false, arith, nat_eq}
use Rattle.std.proofs.lemmas.Bool.Decides.{nat_tests}
use Rattle.std.proofs.lemmas.Result.{err_from_is_err_and}
use Rattle.c_grammar.specs.Reading as spec
use Rattle.c_reading.specs.Cursor.{here}
use Rattle.c_exprs.proofs.Extending.{more_go, more_high, more_fail, more_stop, more_out}
use Rattle.c_exprs.proofs.below.Below.more.Goals as goal

pub returns-then-binds-rank : goal.returns-then-binds-rank
returns-then-binds-rank g c =
    let r = spec.rules c.args.self.now.height in
    let source = c.args.self.now.source in
    let l = c.operators in
    let s = here source l.c in
    let none : nat_eq (spec.binds s) c.args.rank ≡ false = grind
    (arith, nat_tests, c.binds.ensures, c.if-binds-rank.true) in
    record {
      reads = more_stop r (l.turns - 1) l.turns (suc c.args.self.now.height) c.args.rank l.all.tree s _
          (omega arith) none l.invariant.reads;
      low = l.invariant.low;
    }

pub returns-in_err-all : goal.returns-in_err-all
returns-in_err-all g c =
    let r = spec.rules c.args.self.now.height in
    let source = c.args.self.now.source in
    let l = c.operators in
    let s = here source l.c in
    let goes : nat_eq (spec.binds s) c.args.rank ≡ true = grind
    (arith, nat_tests, c.binds.ensures, c.if-binds-rank.false) in
    let p = err_from_is_err_and c.from_residual.result c.from_residual.ensures.1 in
    record {
      reads = rw (p.1, p.2) (more_fail r (l.turns - 1) l.turns (suc c.args.self.now.height) c.args.rank
          l.all.tree s _ _ (omega arith) goes c.in_err-all.ensures.reads l.invariant.reads);
      low = rw p.1 tt;
    }

pub returns-then-all-self : goal.returns-then-all-self
returns-then-all-self g c =
    let r = spec.rules c.args.self.now.height in
    let source = c.args.self.now.source in
    let l = c.operators in
    let s = here source l.c in
    let z = here source c.extend.new.c in
    let goes : nat_eq (spec.binds s) c.args.rank ≡ true = grind
    (arith, nat_tests, c.binds.ensures, c.if-binds-rank.false) in
    let high : suc c.args.self.now.height < c.in_ok-all.all.height = omega (arith, c.if-all-self.true) in
    record {
      reads = more_high r (l.turns - 1) l.turns (suc c.args.self.now.height) c.args.rank c.in_ok-all.all.height
          l.all.tree c.in_ok-all.all.tree s z _ (omega arith) goes c.in_ok-all.ensures.reads
          c.in_ok-all.all.height_is high l.invariant.reads;
      low = tt;
    }

pub operators-preserved : goal.operators-preserved
operators-preserved g c =
    let r = spec.rules c.args.self.now.height in
    let source = c.args.self.now.source in
    let l = c.operators in
    let s = here source l.c in
    let z = here source c.extend.new.c in
    let goes : nat_eq (spec.binds s) c.args.rank ≡ true = grind
    (arith, nat_tests, c.binds.ensures, c.if-binds-rank.false) in
    let low : c.in_ok-all.all.height ≤ suc c.args.self.now.height = omega (arith, c.if-all-self.false) in
    record {
      reads = more_go r (l.turns - 1) l.turns (suc c.args.self.now.height) c.args.rank c.in_ok-all.all.height
          l.all.tree c.in_ok-all.all.tree s z _ (omega arith) goes c.in_ok-all.ensures.reads
          c.in_ok-all.all.height_is low l.invariant.reads;
      low = omega (arith, low);
    }

pub returns : goal.returns
returns g c =
    let r = spec.rules c.args.self.now.height in
    let source = c.args.self.now.source in
    let l = c.operators in
    record {
      reads = more_out r l.turns (suc c.args.self.now.height) c.args.rank l.all.tree (here source l.c) _
          (omega arith) l.invariant.reads;
      low = tt;
    }
