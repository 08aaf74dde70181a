use Rattle.std.proofs.Common.{◌≡◌, ◌-◌, ◌≤◌, ◌<◌, suc, true, false, arith, rules}
use Rattle.std.proofs.lemmas.Result.{err_from_is_err_and}
use Rattle.c_grammar.specs.Reading as spec
use Rattle.c_reading.specs.Cursor.{here}
use Rattle.c_exprs.proofs.Suffixing.{suffixes_go, suffixes_high, suffixes_fail, suffixes_stop, suffixes_out}
use Rattle.c_exprs.proofs.below.Below.suffixes.Goals as goal

pub returns-then-not-is_suffixed : goal.returns-then-not-is_suffixed
returns-then-not-is_suffixed g c =
    let r = spec.rules c.args.self.now.height in
    let source = c.args.self.now.source in
    let l = c.suffixes in
    let s = here source l.c in
    let none : spec.suffixed s.0 ≡ false = search rules in
    record {
      reads = suffixes_stop r (l.left - 1) l.left (suc c.args.self.now.height) c.args.place l.all.tree s _
          (omega arith) none l.invariant.reads;
      low = l.invariant.low;
    }

pub returns-in_err-all : goal.returns-in_err-all
returns-in_err-all g c =
    let r = spec.rules c.args.self.now.height in
    let source = c.args.self.now.source in
    let l = c.suffixes in
    let s = here source l.c in
    let goes : spec.suffixed s.0 ≡ true = search rules in
    let p = err_from_is_err_and c.from_residual.result c.from_residual.ensures.1 in
    record {
      reads = rw (p.1, p.2) (suffixes_fail r (l.left - 1) l.left (suc c.args.self.now.height) c.args.place
          l.all.tree s _ _ (omega arith) goes c.in_err-all.ensures.reads l.invariant.reads);
      low = rw p.1 tt;
    }

pub returns-then-all-self : goal.returns-then-all-self
returns-then-all-self g c =
    let r = spec.rules c.args.self.now.height in
    let source = c.args.self.now.source in
    let l = c.suffixes in
    let s = here source l.c in
    let z = here source c.suffix.new.c in
    let goes : spec.suffixed s.0 ≡ true = search rules in
    let high : suc c.args.self.now.height < c.in_ok-all.all.height = omega (arith, c.if-all-self.true) in
    record {
      reads = suffixes_high r (l.left - 1) l.left (suc c.args.self.now.height) c.in_ok-all.all.height
          c.args.place l.all.tree c.in_ok-all.all.tree s z _ (omega arith) goes c.in_ok-all.ensures.reads
          c.in_ok-all.all.height_is high l.invariant.reads;
      low = tt;
    }

pub suffixes-preserved : goal.suffixes-preserved
suffixes-preserved g c =
    let r = spec.rules c.args.self.now.height in
    let source = c.args.self.now.source in
    let l = c.suffixes in
    let s = here source l.c in
    let z = here source c.suffix.new.c in
    let goes : spec.suffixed s.0 ≡ true = search rules in
    let low : c.in_ok-all.all.height ≤ suc c.args.self.now.height = omega (arith, c.if-all-self.false) in
    record {
      reads = suffixes_go r (l.left - 1) l.left (suc c.args.self.now.height) c.in_ok-all.all.height c.args.place
          l.all.tree c.in_ok-all.all.tree s z _ (omega arith) goes c.in_ok-all.ensures.reads
          c.in_ok-all.all.height_is low l.invariant.reads;
      low = omega (arith, low);
    }

pub returns : goal.returns
returns g c =
    let r = spec.rules c.args.self.now.height in
    let source = c.args.self.now.source in
    let l = c.suffixes in
    record {
      reads = suffixes_out r l.left (suc c.args.self.now.height) c.args.place l.all.tree (here source l.c) _
          (omega arith) l.invariant.reads;
      low = tt;
    }
