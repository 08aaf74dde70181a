use Rattle.std.proofs.Common.{◌∙◌, ◌⊎◌, ℕ, sym, subst, inl, inr}
use Rattle.term_bank.specs.Under.{Among, IsHeld}
use Rattle.term_bank.proofs.Worth.{each}
use Rattle.term_bank.proofs.BankLemmas.{stays}
use Rattle.term_bank.proofs.UnderLemmas.{AreHeld, held_for, held_less, are_less}
use Rattle.term_bank.proofs.BindingLemmas.{ready, has_shape}
use Rattle.bitvectors.specs.Signals.{IsSignalled}
use Rattle.bitvectors.proofs.SignalLemmas.{steps-none, steps-then}
use Rattle.bitvectors.proofs.WalkLemmas.{all-plain, known-grown, known-more, known-none, plain-here, plain-last, plain-less, signalled-here, signalled-more}
use Rattle.bitvectors.proofs.blasting.walk.Goals as goal

pub nodes-init : goal.nodes-init
nodes-init c =
    let P = IsSignalled c.args.bank.now c.args.gates.now c.args.inputs.now c.new-signals.result in
    let cut = c.in_ok-numbers.ensures in
    record {
      steps = steps-none c.args.gates.now c.args.inputs.now c.requires.inputs;
      known = known-none c.args.bank.now c.args.gates.now c.args.inputs.now c.new-signals.result c.new-signals.ensures.empty;
      held = held_for c.args.bank.now (λ n. ⊥) P c.in_ok-numbers.numbers (λ q h. absurd h) cut.held;
      rooted = each (λ r. Among r.index c.in_ok-numbers.numbers) (λ r. Among r.index c.in_ok-numbers.numbers ⊎ P r.index) c.args.roots.now (λ r h. inl h) cut.rooted;
      plain = all-plain c.args.bank.now c.args.roots.now c.in_ok-numbers.numbers cut c.requires.plain;
    }

pub node_bits-requires-clause-bank : goal.node_bits-requires-clause-bank
node_bits-requires-clause-bank c = c.shape.ensures.bank

pub node_bits-requires-clause-stands : goal.node_bits-requires-clause-stands
node_bits-requires-clause-stands c = sym c.shape.ensures.shape ∙ c.in-Some-shape.is

pub node_bits-requires-clause-known : goal.node_bits-requires-clause-known
node_bits-requires-clause-known c =
    known-grown c.args.bank.now c.args.gates.now c.nodes.gates c.args.inputs.now c.nodes.inputs c.args.known.now c.nodes.invariant.steps c.requires.known

pub node_bits-requires-clause-inputs : goal.node_bits-requires-clause-inputs
node_bits-requires-clause-inputs c = c.nodes.invariant.steps.inputs

pub node_bits-requires-clause-parts : goal.node_bits-requires-clause-parts
node_bits-requires-clause-parts c =
    let shapes = c.args.bank.now in
    let P = IsSignalled shapes c.nodes.gates c.nodes.inputs c.nodes.signals in
    let is = sym c.shape.ensures.shape ∙ c.in-Some-shape.is in
    let h = ready shapes shapes P c.pop.new.self c.in-Some.number c.in-Some-shape.shape stays (subst (λ ns. IsHeld shapes P ns) c.in-Some.ensures c.nodes.invariant.held) is in
    h.parts_have

pub node_bits-requires-clause-plain : goal.node_bits-requires-clause-plain
node_bits-requires-clause-plain c = plain-here c.args.bank.now c.in-Some.number c.in-Some-shape.shape (sym c.shape.ensures.shape ∙ c.in-Some-shape.is) (plain-last c.args.bank.now c.nodes.numbers c.pop.new.self c.in-Some.number c.in-Some.ensures c.nodes.invariant.plain)

pub nodes-preserved-in-Continue-branch-3 : goal.nodes-preserved-in-Continue-branch-3
nodes-preserved-in-Continue-branch-3 c =
    let shapes = c.args.bank.now in
    let k = c.in-Some.number in
    let s = c.in-Some-shape.shape in
    let ns = c.pop.new.self in
    let word = c.in_ok-word.word in
    let P = IsSignalled shapes c.nodes.gates c.nodes.inputs c.nodes.signals in
    let Q = IsSignalled shapes c.node_bits.new.gates c.node_bits.new.inputs c.set_bits.new.signals in
    let held = subst (λ ns. IsHeld shapes P ns) c.in-Some.ensures c.nodes.invariant.held in
    let rooted = subst (λ ns. AreHeld P ns c.args.roots.now) c.in-Some.ensures c.nodes.invariant.rooted in
    let made = c.in_ok-word.ensures in
    let here : Q k = signalled-here shapes c.node_bits.new.gates c.node_bits.new.inputs c.nodes.signals c.set_bits.new.signals k word made.is c.in_ok-set_bits.ensures in
    let more : (q : ℕ) → P q → Q q = signalled-more shapes c.nodes.gates c.node_bits.new.gates c.nodes.inputs c.node_bits.new.inputs c.nodes.signals c.set_bits.new.signals k word made.steps c.in_ok-set_bits.ensures here in
    record {
      steps = steps-then c.args.gates.now c.nodes.gates c.node_bits.new.gates c.args.inputs.now c.nodes.inputs c.node_bits.new.inputs c.nodes.invariant.steps made.steps;
      known = known-more shapes c.nodes.gates c.node_bits.new.gates c.nodes.inputs c.node_bits.new.inputs c.nodes.signals c.set_bits.new.signals k word made.steps c.in_ok-set_bits.ensures made.is c.nodes.invariant.known;
      held = held_less shapes P Q ns k more here held;
      rooted = are_less P Q ns k c.args.roots.now more here rooted;
      plain = plain-less shapes c.nodes.numbers ns k c.in-Some.ensures c.nodes.invariant.plain;
    }

pub nodes-preserved : goal.nodes-preserved
nodes-preserved c =
    let shapes = c.args.bank.now in
    let P = IsSignalled shapes c.nodes.gates c.nodes.inputs c.nodes.signals in
    let found = has_shape shapes shapes P c.pop.new.self c.in-Some.number stays (subst (λ ns. IsHeld shapes P ns) c.in-Some.ensures c.nodes.invariant.held) in
    absurd (c.in_default-shape.not-Some found.0 (c.shape.ensures.shape ∙ found.1))

pub returns : goal.returns
returns c =
    let P = IsSignalled c.args.bank.now c.nodes.gates c.nodes.inputs c.nodes.signals in
    let rooted = subst (λ ns. AreHeld P ns c.args.roots.now) c.in_default.ensures.0 c.nodes.invariant.rooted in
    record {
      steps = c.nodes.invariant.steps;
      known = c.nodes.invariant.known;
      rooted = each (λ r. ⊥ ⊎ P r.index) (λ r. P r.index) c.args.roots.now (λ r x. elim x [ inl y ↦ absurd y | inr y ↦ y ]) rooted;
    }
