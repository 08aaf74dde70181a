use Rattle.std.proofs.Common.{◌⊎◌, ◌≡◌, ◌∙◌, ◌∷◌, [], Bool, true, false, refl, sym, subst, inl}
use Rattle.term_bank.specs.Under.{Among, IsHeld, IsOnly}
use Rattle.term_bank.proofs.Worth.{each}
use Rattle.term_bank.proofs.BankLemmas.{stays}
use Rattle.term_bank.proofs.OverLemmas.{only_at}
use Rattle.term_bank.proofs.UnderLemmas.{AreHeld, among_front, among_last, held_for, held_less, are_less}
use Rattle.term_bank.proofs.BindingLemmas.{ready, has_shape}
use Rattle.bitvectors.specs.Signals.{is_plain}
use Rattle.bitvectors.proofs.WalkLemmas.{plain-here}
use Rattle.bitvectors.proofs.plainness.are_plain.Goals as goal

refuted : (b : Bool) → b ≡ false → b ≡ true → ⊥
refuted b e f = cc

pub nodes-init : goal.nodes-init
nodes-init c =
    let P = IsOnly is_plain c.args.bank.now in
    let cut = c.in_ok-numbers.ensures in
    record {
      held = held_for c.args.bank.now (λ n. ⊥) P c.in_ok-numbers.numbers (λ q h. absurd h) cut.held;
      rooted = each (λ r. Among r.index c.in_ok-numbers.numbers) (λ r. Among r.index c.in_ok-numbers.numbers ⊎ P r.index) c.args.roots.now (λ r h. inl h) cut.rooted;
      below = cut.only;
    }

pub returns-then-not-is_plain_node : goal.returns-then-not-is_plain_node
returns-then-not-is_plain_node c =
    let shapes = c.args.bank.now in
    let P = IsOnly is_plain shapes in
    let k = c.in-Some.number in
    let ns = c.pop.new.self in
    let found = has_shape shapes shapes P ns k stays (subst (λ ns. IsHeld shapes P ns) c.in-Some.ensures c.nodes.invariant.held) in
    (λ x. absurd (refuted false refl x), λ h. absurd (refuted (is_plain found.0) (sym (c.is_plain_node.ensures found.0 found.1) ∙ c.if-not-is_plain_node.true) (plain-here shapes k found.0 found.1 ((c.nodes.invariant.below k (subst (Among k) (sym c.in-Some.ensures) (among_last ns k))).below shapes stays is_plain h))))

pub nodes-preserved : goal.nodes-preserved
nodes-preserved c =
    let shapes = c.args.bank.now in
    let P = IsOnly is_plain shapes in
    let k = c.in-Some.number in
    let ns = c.pop.new.self in
    let held = subst (λ ns. IsHeld shapes P ns) c.in-Some.ensures c.nodes.invariant.held in
    let rooted = subst (λ ns. AreHeld P ns c.args.roots.now) c.in-Some.ensures c.nodes.invariant.rooted in
    let found = has_shape shapes shapes P ns k stays held in
    let h = ready shapes shapes P ns k found.0 stays held found.1 in
    let here : P k = only_at is_plain shapes k found.0 found.1 (sym (c.is_plain_node.ensures found.0 found.1) ∙ c.if-not-is_plain_node.false) h.parts_have in
    record { held = held_less shapes P P ns k (λ q x. x) here held; rooted = are_less P P ns k c.args.roots.now (λ q x. x) here rooted; below = λ n m. c.nodes.invariant.below n (subst (Among n) (sym c.in-Some.ensures) (among_front n ns (k ∷ []) m)) }
