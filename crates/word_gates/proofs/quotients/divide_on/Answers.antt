use Rattle.std.proofs.Common.{◌+◌, ◌∷◌, ◌∙◌, sym, ap, length, refl}
use Rattle.word_gates.proofs.WordLemmas.{bits-grown}
use Rattle.word_gates.proofs.QuotientLemmas.{stands-as, shifted-stands, opposites-of-wide, step-width, divides-on}
use Rattle.word_gates.proofs.quotients.divide_on.Goals as goal

pub add_with_carry-requires-clause-a : goal.add_with_carry-requires-clause-a
add_with_carry-requires-clause-a c = shifted-stands c.args.gates.now c.args.bit.now c.args.division.now.remainder c.as_slice-3.result.now (c.as_slice-3.ensures ∙ c.in_ok-shifted.ensures ∙ ap (λ t. c.args.bit.now ∷ t) c.as_slice.ensures) c.requires.bit c.requires.remainder

pub add_with_carry-requires-clause-b : goal.add_with_carry-requires-clause-b
add_with_carry-requires-clause-b c = opposites-of-wide c.args.gates.now c.args.divisor.now c.as_slice-2.result.now c.as_slice-4.result.now (length c.args.divisor.now + 1) refl (c.as_slice-2.ensures ∙ c.in_ok-wide.ensures) (c.as_slice-4.ensures ∙ c.in_ok-opposites.ensures) c.requires.divisor

pub add_with_carry-requires-clause-width : goal.add_with_carry-requires-clause-width
add_with_carry-requires-clause-width c = step-width c.args.bit.now c.args.division.now.remainder c.args.divisor.now c.as_slice-3.result.now c.as_slice-2.result.now c.as_slice-4.result.now (length c.args.divisor.now + 1) c.requires.width (c.as_slice-3.ensures ∙ c.in_ok-shifted.ensures ∙ ap (λ t. c.args.bit.now ∷ t) c.as_slice.ensures) refl (c.as_slice-2.ensures ∙ c.in_ok-wide.ensures) (c.as_slice-4.ensures ∙ c.in_ok-opposites.ensures)

pub choose-requires-clause-a : goal.choose-requires-clause-a
choose-requires-clause-a c = stands-as c.add_with_carry.new.gates c.as_slice-5.result.now c.in_ok-sum.sum.word c.as_slice-5.ensures c.in_ok-sum.ensures.stand

pub choose-requires-clause-b : goal.choose-requires-clause-b
choose-requires-clause-b c = stands-as c.add_with_carry.new.gates c.as_slice-6.result.now c.as_slice-3.result.now (c.as_slice-6.ensures ∙ sym c.as_slice-3.ensures) (bits-grown c.args.gates.now c.add_with_carry.new.gates c.as_slice-3.result.now c.in_ok-sum.ensures.grows (shifted-stands c.args.gates.now c.args.bit.now c.args.division.now.remainder c.as_slice-3.result.now (c.as_slice-3.ensures ∙ c.in_ok-shifted.ensures ∙ ap (λ t. c.args.bit.now ∷ t) c.as_slice.ensures) c.requires.bit c.requires.remainder))

pub choose-requires-clause-width : goal.choose-requires-clause-width
choose-requires-clause-width c = ap length c.as_slice-5.ensures ∙ c.in_ok-sum.ensures.width ∙ ap length (c.as_slice-3.ensures ∙ sym c.as_slice-6.ensures)

pub returns : goal.returns
returns c =
    divides-on c.args.gates.now _ _ c.args.division.now c.args.bit.now c.args.divisor.now c.as_slice-3.result.now c.as_slice-2.result.now c.as_slice-4.result.now c.as_slice-6.result.now c.as_slice-5.result.now c.in_ok-kept.kept c.as_slice-7.result.now c.in_ok-remainder.remainder c.in_ok-quotient.quotient c.in_ok-sum.sum (length c.args.divisor.now + 1) c.requires.width c.requires.quotient c.requires.remainder c.requires.bit c.requires.divisor
    (c.as_slice-3.ensures ∙ c.in_ok-shifted.ensures ∙ ap (λ t. c.args.bit.now ∷ t) c.as_slice.ensures) refl (c.as_slice-2.ensures ∙ c.in_ok-wide.ensures) (c.as_slice-4.ensures ∙ c.in_ok-opposites.ensures)
    c.in_ok-sum.ensures c.as_slice-5.ensures (c.as_slice-6.ensures ∙ sym c.as_slice-3.ensures) c.in_ok-kept.ensures c.as_slice-7.ensures c.in_ok-remainder.ensures (c.in_ok-quotient.ensures ∙ ap (λ t. c.in_ok-sum.sum.carry ∷ t) c.as_slice-8.ensures)
