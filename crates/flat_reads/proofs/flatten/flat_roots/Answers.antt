use Rattle.std.proofs.Common.{◌∙◌, ◌⊎◌, ℕ, sym, subst, inl, inr}
use Rattle.term_bank.specs.Under.{Among, IsHeld}
use Rattle.term_bank.specs.Images.{Imaged}
use Rattle.term_bank.specs.Shapes.{IsWell}
use Rattle.term_bank.proofs.Worth.{each}
use Rattle.term_bank.proofs.BankLemmas.{stays, grows_on}
use Rattle.term_bank.proofs.UnderLemmas.{AreHeld, held_for, held_less, are_less}
use Rattle.term_bank.proofs.ImageLemmas.{imaged_more, imaged_here, all_images}
use Rattle.term_bank.proofs.BindingLemmas.{ready, has_shape}
use Rattle.flat_reads.specs.Flattened.{HasFlat, IsFlattened}
use Rattle.flat_reads.proofs.FlattenLemmas.{no_answers, flat_grown, parts_well, flat_made}
use Rattle.flat_reads.proofs.flatten.flat_roots.Goals as goal

pub nodes-init : goal.nodes-init
nodes-init c =
    let shapes = c.args.bank.now in
    let P = Imaged (HasFlat shapes) c.new-images.result in
    let cut = c.in_ok-numbers.ensures in
    record {
      grows = stays;
      bank = c.requires.bank;
      answers_are = no_answers shapes c.new-answers.result c.new-answers.ensures.empty;
      held = held_for shapes (λ n. ⊥) P c.in_ok-numbers.numbers (λ q h. absurd h) cut.held;
      rooted = each (λ r. Among r.index c.in_ok-numbers.numbers) (λ r. Among r.index c.in_ok-numbers.numbers ⊎ P r.index) c.args.roots.now (λ r h. inl h) cut.rooted;
    }

pub flat_shape-requires-clause-well : goal.flat_shape-requires-clause-well
flat_shape-requires-clause-well c =
    let old = c.args.bank.now in
    let P = Imaged (HasFlat c.nodes.bank) c.nodes.images in
    let h = ready old c.nodes.bank P c.pop.new.self c.in-Some.number c.in-Some-shape.shape c.nodes.invariant.grows (subst (λ ns. IsHeld old P ns) c.in-Some.ensures c.nodes.invariant.held) (sym c.shape.ensures.shape ∙ c.in-Some-shape.is) in
    subst (IsWell c.nodes.bank) (sym c.over.ensures) (parts_well old c.nodes.bank c.nodes.images c.in-Some.number c.in-Some-shape.shape c.nodes.invariant.grows c.requires.bank h.is h.parts_have)

pub nodes-preserved-in_ok-set_image : goal.nodes-preserved-in_ok-set_image
nodes-preserved-in_ok-set_image c =
    let old = c.args.bank.now in
    let k = c.in-Some.number in
    let s = c.in-Some-shape.shape in
    let ns = c.pop.new.self in
    let a = c.nodes.bank in
    let b = c.flat_shape.new.bank in
    let A = HasFlat a in
    let B = HasFlat b in
    let P = Imaged A c.nodes.images in
    let Q = Imaged B c.set_image.new.images in
    let held = subst (λ ns. IsHeld old P ns) c.in-Some.ensures c.nodes.invariant.held in
    let rooted = subst (λ ns. AreHeld P ns c.args.roots.now) c.in-Some.ensures c.nodes.invariant.rooted in
    let e = c.in_ok-node.ensures in
    let h = ready old a P ns k s c.nodes.invariant.grows held (sym c.shape.ensures.shape ∙ c.in-Some-shape.is) in
    let made : B k c.in_ok-node.node = flat_made old a b c.nodes.images k s c.in_ok-node.node c.nodes.invariant.grows e.grows h.is h.parts_have (subst (λ t. IsFlattened b t c.in_ok-node.node) c.over.ensures e.node) in
    let more : (q : ℕ) → P q → Q q = imaged_more A B c.nodes.images c.set_image.new.images k c.in_ok-node.node c.in_ok-set_image.ensures (flat_grown a b e.grows) made in
    let here : Q k = imaged_here B c.nodes.images c.set_image.new.images k c.in_ok-node.node c.in_ok-set_image.ensures made in
    record {
      grows = grows_on c.nodes.invariant.grows e.grows;
      bank = e.bank;
      answers_are = e.answers;
      held = held_less old P Q ns k more here held;
      rooted = are_less P Q ns k c.args.roots.now more here rooted;
    }

pub nodes-preserved : goal.nodes-preserved
nodes-preserved c =
    let old = c.args.bank.now in
    let P = Imaged (HasFlat c.nodes.bank) c.nodes.images in
    let found = has_shape old c.nodes.bank P c.pop.new.self c.in-Some.number c.nodes.invariant.grows (subst (λ ns. IsHeld old P ns) c.in-Some.ensures c.nodes.invariant.held) in
    absurd (c.in_default-shape.not-Some found.0 (c.shape.ensures.shape ∙ found.1))

pub returns-clause-nodes : goal.returns-clause-nodes
returns-clause-nodes c =
    let P = HasFlat c.nodes.bank in
    let rooted = subst (λ ns. AreHeld (Imaged P c.nodes.images) ns c.args.roots.now) c.in_default.ensures.0 c.nodes.invariant.rooted in
    rw c.in_ok-images_of.ensures (all_images P c.nodes.images c.args.roots.now (each (λ r. ⊥ ⊎ Imaged P c.nodes.images r.index) (λ r. Imaged P c.nodes.images r.index) c.args.roots.now (λ r x. elim x [ inl y ↦ absurd y | inr y ↦ y ]) rooted))
