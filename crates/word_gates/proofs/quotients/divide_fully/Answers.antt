use Rattle.std.proofs.Common.{◌≡◌, ◌<◌, ◌-◌, arith, length, refl}
use Rattle.word_gates.proofs.QuotientLemmas.{dividing-start, dividing-more, dividing-end}
use Rattle.word_gates.proofs.quotients.divide_fully.Goals as goal

pub bits-init : goal.bits-init
bits-init c = dividing-start c.args.gates.now c.args.a.now c.args.b.now c.in_ok-remainder.remainder _ c.in_ok-remainder.ensures c.no_bits-quotient.ensures

pub bits-preserved : goal.bits-preserved
bits-preserved c =
    let within : c.bits.index < length c.args.a.now = omega arith in
    dividing-more c.args.gates.now c.bits.gates _ c.args.a.now c.args.b.now c.bits.index (length c.args.a.now - 1 - c.bits.index) c.bits.division _ c.index-a-place.result within refl c.index-a-place.is c.bits.invariant c.in_ok-division.ensures

pub returns : goal.returns
returns c =
    let at_end : c.bits.index ≡ length c.args.a.now = omega arith in
    dividing-end c.args.gates.now c.bits.gates c.args.a.now c.args.b.now c.bits.index c.bits.division c.requires.width at_end c.bits.invariant
