use Rattle.std.proofs.Common.{◌≡◌, ◌-◌, true, false, arith, rules, ◌∙◌}
use Rattle.std.proofs.lemmas.Result.{err_from_is_err_and}
use Rattle.c_language.specs.declared.token.Punctuator.TheVariants as mark
use Rattle.c_grammar.specs.Reading as spec
use Rattle.c_reading.specs.Cursor.{here}
use Rattle.c_exprs.proofs.Enumerating.{
  enumerators_next,
  enumerators_fail,
  enumerators_close,
  enumerators_comma,
  enumerators_out,
}
use Rattle.c_exprs.proofs.below.Below.more_enumerators.Goals as goal

pub returns-then-not-begins : goal.returns-then-not-begins
returns-then-not-begins g c =
    let r = spec.rules c.args.self.now.height in
    let source = c.args.self.now.source in
    let l = c.enumerators in
    let s = here source l.c in
    let none : spec.begins mark.Comma s ≡ false = search rules in
    record {
      reads = enumerators_close r (l.left - 1) l.left l.all.trees l.all.trailing s _ (omega arith) none
          l.invariant.untrailed l.invariant.reads;
      low = l.invariant.low;
    }

pub returns-then-begins : goal.returns-then-begins
returns-then-begins g c =
    let r = spec.rules c.args.self.now.height in
    let source = c.args.self.now.source in
    let l = c.enumerators in
    let s = here source l.c in
    let z = here source c.expect.new.c in
    let goes : spec.begins mark.Comma s ≡ true = search rules in
    let ends : spec.begins mark.RightBrace z ≡ true = search rules in
    record {
      reads = enumerators_comma r (l.left - 1) l.left c.in_ok-expect.field-0 l.all.trees
          c.and_comma.result.trees c.and_comma.result.trailing s z _ (omega arith) goes c.in_ok-expect.ensures
          ends c.and_comma.ensures.trees c.and_comma.ensures.trailing l.invariant.reads;
      low = omega (arith, c.and_comma.ensures.height, l.invariant.low);
    }

pub returns-in_err-found : goal.returns-in_err-found
returns-in_err-found g c =
    let r = spec.rules c.args.self.now.height in
    let source = c.args.self.now.source in
    let l = c.enumerators in
    let s = here source l.c in
    let z = here source c.expect.new.c in
    let goes : spec.begins mark.Comma s ≡ true = search rules in
    let ends : spec.begins mark.RightBrace z ≡ false = search rules in
    let p = err_from_is_err_and c.from_residual-in_err-found.result c.from_residual-in_err-found.ensures.1 in
    record {
      reads = rw (p.1, p.2) (enumerators_fail r (l.left - 1) l.left c.in_ok-expect.field-0 l.all.trees s z _ _
          (omega arith) goes c.in_ok-expect.ensures ends c.in_err-found.ensures.reads l.invariant.reads);
      low = rw p.1 tt;
    }

pub enumerators-preserved : goal.enumerators-preserved
enumerators-preserved g c =
    let r = spec.rules c.args.self.now.height in
    let source = c.args.self.now.source in
    let l = c.enumerators in
    let s = here source l.c in
    let z = here source c.expect.new.c in
    let goes : spec.begins mark.Comma s ≡ true = search rules in
    let ends : spec.begins mark.RightBrace z ≡ false = search rules in
    record {
      reads = enumerators_next r (l.left - 1) l.left c.in_ok-expect.field-0 l.all.trees c.in_ok-all.all.trees
          c.in_ok-found.found.tree s z (here source c.enumerator.new.c) _ (omega arith) goes
          c.in_ok-expect.ensures ends c.in_ok-found.ensures.reads c.in_ok-all.ensures.trees l.invariant.reads;
      low = omega (arith, l.invariant.low, c.in_ok-found.ensures.low, c.in_ok-all.ensures.height);
      untrailed = c.in_ok-all.ensures.trailing ∙ l.invariant.untrailed;
    }

pub returns : goal.returns
returns g c =
    let r = spec.rules c.args.self.now.height in
    let source = c.args.self.now.source in
    let l = c.enumerators in
    record {
      reads = enumerators_out r l.left l.all.trees (here source l.c) _ (omega arith) l.invariant.reads;
      low = tt;
    }
