use Rattle.std.proofs.Common.{◌≡◌, arith, subst}
use Rattle.word_gates.specs.Spelling.{IsInputWord}
use Rattle.word_gates.proofs.WordLemmas.{input-more}
use Rattle.word_gates.proofs.words.input.Goals as goal

pub bits-preserved : goal.bits-preserved
bits-preserved c = input-more c.args.gates.now c.bits.gates _ c.bits._index c.bits.word _ c.in_ok-bit.bit c.bits.invariant c.in_ok-bit.ensures c.in_ok-push.ensures.ok

pub returns : goal.returns
returns c =
    let at_end : c.bits._index ≡ c.args.bits = omega arith in
    subst (λ n. IsInputWord c.args.gates.now c.bits.gates n c.bits.word) at_end c.bits.invariant
