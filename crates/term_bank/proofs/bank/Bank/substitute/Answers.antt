use Rattle.std.proofs.Common.{◌∙◌, ◌⊎◌, ℕ, sym, subst, inl, inr}
use Rattle.term_bank.specs.Under.{Among, IsHeld}
use Rattle.term_bank.specs.Images.{Imaged}
use Rattle.term_bank.specs.Bindings.{HasImage}
use Rattle.term_bank.proofs.Worth.{each}
use Rattle.term_bank.proofs.BankLemmas.{stays, grows_on}
use Rattle.term_bank.proofs.UnderLemmas.{AreHeld, held_for, held_less, are_less}
use Rattle.term_bank.proofs.ImageLemmas.{imaged_more, imaged_here, all_images}
use Rattle.term_bank.proofs.BindingLemmas.{binding_grown, parts_well, image_grown, image_made, ready, has_shape}
use Rattle.term_bank.proofs.bank.Bank.substitute.Goals as goal

pub nodes-init : goal.nodes-init
nodes-init c =
    let shapes = c.args.self.now in
    let P = Imaged (HasImage shapes shapes c.args.binding.now) c.new-images.result in
    let cut = c.in_ok-numbers.ensures in
    record {
      grows = stays;
      bank = rw (← c.self.view_is) c.self.invariant;
      held = held_for shapes (λ n. ⊥) P c.in_ok-numbers.numbers (λ q h. absurd h) cut.held;
      rooted = each (λ r. Among r.index c.in_ok-numbers.numbers) (λ r. Among r.index c.in_ok-numbers.numbers ⊎ P r.index) c.args.roots.now (λ r h. inl h) cut.rooted;
    }

pub put_in-requires-clause-binding : goal.put_in-requires-clause-binding
put_in-requires-clause-binding c = binding_grown c.args.self.now c.nodes.self c.args.binding.now c.nodes.invariant.grows c.requires.binding

pub put_in-requires-clause-well : goal.put_in-requires-clause-well
put_in-requires-clause-well c =
    let old = c.args.self.now in
    let P = Imaged (HasImage old c.nodes.self c.args.binding.now) c.nodes.images in
    let h = ready old c.nodes.self P c.pop.new.self c.in-Some.number c.in-Some-shape.shape c.nodes.invariant.grows (subst (λ ns. IsHeld old P ns) c.in-Some.ensures c.nodes.invariant.held) (sym c.shape.ensures.shape ∙ c.in-Some-shape.is) in
    parts_well old c.nodes.self c.args.binding.now c.nodes.images c.in-Some.number c.in-Some-shape.shape (rw (← c.self.view_is) c.self.invariant) h.is h.parts_have

pub nodes-preserved-in_ok-set_image : goal.nodes-preserved-in_ok-set_image
nodes-preserved-in_ok-set_image c =
    let old = c.args.self.now in
    let put = c.args.binding.now in
    let k = c.in-Some.number in
    let ns = c.pop.new.self in
    let A = HasImage old c.nodes.self put in
    let B = HasImage old c.put_in.new.self put in
    let P = Imaged A c.nodes.images in
    let Q = Imaged B c.set_image.new.images in
    let held = subst (λ ns. IsHeld old P ns) c.in-Some.ensures c.nodes.invariant.held in
    let rooted = subst (λ ns. AreHeld P ns c.args.roots.now) c.in-Some.ensures c.nodes.invariant.rooted in
    let grown = c.in_ok-node.ensures.grows in
    let h = ready old c.nodes.self P ns k c.in-Some-shape.shape c.nodes.invariant.grows held (sym c.shape.ensures.shape ∙ c.in-Some-shape.is) in
    let made : B k c.in_ok-node.node = image_made old c.nodes.self c.put_in.new.self put c.nodes.images k c.in-Some-shape.shape c.in_ok-node.node grown h.is h.parts_have c.in_ok-node.ensures.put in
    let more : (q : ℕ) → P q → Q q = imaged_more A B c.nodes.images c.set_image.new.images k c.in_ok-node.node c.in_ok-set_image.ensures (image_grown old c.nodes.self c.put_in.new.self put grown) made in
    let here : Q k = imaged_here B c.nodes.images c.set_image.new.images k c.in_ok-node.node c.in_ok-set_image.ensures made in
    record {
      grows = grows_on c.nodes.invariant.grows grown;
      bank = c.in_ok-node.ensures.bank;
      held = held_less old P Q ns k more here held;
      rooted = are_less P Q ns k c.args.roots.now more here rooted;
    }

pub nodes-preserved : goal.nodes-preserved
nodes-preserved c =
    let old = c.args.self.now in
    let P = Imaged (HasImage old c.nodes.self c.args.binding.now) c.nodes.images in
    let found = has_shape old c.nodes.self P c.pop.new.self c.in-Some.number c.nodes.invariant.grows (subst (λ ns. IsHeld old P ns) c.in-Some.ensures c.nodes.invariant.held) in
    absurd (c.in_default-shape.not-Some found.0 (c.shape.ensures.shape ∙ found.1))

pub returns-clause-nodes : goal.returns-clause-nodes
returns-clause-nodes c =
    let P = HasImage c.args.self.now c.nodes.self c.args.binding.now in
    let rooted = subst (λ ns. AreHeld (Imaged P c.nodes.images) ns c.args.roots.now) c.in_default.ensures.0 c.nodes.invariant.rooted in
    rw c.in_ok-images_of.ensures (all_images P c.nodes.images c.args.roots.now (each (λ r. ⊥ ⊎ Imaged P c.nodes.images r.index) (λ r. Imaged P c.nodes.images r.index) c.args.roots.now (λ r x. elim x [ inl y ↦ absurd y | inr y ↦ y ]) rooted))
