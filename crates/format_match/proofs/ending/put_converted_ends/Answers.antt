use Rattle.std.proofs.Common.{◌≡◌, ◌∙◌, ◌||◌, Bool, true, false, eqb, refl, ap, sym, take}
use Rattle.std.proofs.lemmas.List.{take_all}
use Rattle.positions.specs.Sets.{has}
use Rattle.format_match.specs.Splits.{conversion_marks}
use Rattle.format_match.proofs.Reached.{converted_ends, split_ends, split_ends_more}
use Rattle.format_match.proofs.ending.put_converted_ends.Goals as goal

pub splits-init : goal.splits-init
splits-init c y = by (has c.args.out.now y)
  where
    by : (b : Bool) → b ≡ (b || false)
    by true = refl
    by false = refl

pub splits-preserved : goal.splits-preserved
splits-preserved c y =
    let s = c.split-item.result in
    let items = c.as_slice-split-items.result.now in
    let i = c.splits.split-index in
    c.in_ok-put.ensures y ∙ ap (λ b. b || eqb s.end y) (c.splits.invariant y)
    ∙ assoc (has c.args.out.now y) (has (split_ends (take i items)) y) (eqb s.end y)
    ∙ ap (λ b. has c.args.out.now y || b) (sym (split_ends_more items i s c.splits-test.true c.split-item.is y))
  where
    assoc : (a b d : Bool) → (a || b || d) ≡ (a || (b || d))
    assoc true b d = refl
    assoc false b d = refl

pub returns : goal.returns
returns c =
    let a = c.args in
    converted_ends a.c.now (conversion_marks a.c.now) a.log.now a.from c.in_ok-splits.splits a.out.now c.splits.out c.requires c.in_ok-splits.ensures
    (λ y. c.splits.invariant y
    ∙ ap (λ l. has a.out.now y || has (split_ends l) y) (take_all c.splits.split-index c.as_slice-split-items.result.now c.splits-test.false)
    ∙ ap (λ l. has a.out.now y || has (split_ends l) y) c.as_slice-split-items.ensures)
