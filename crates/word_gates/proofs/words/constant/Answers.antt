use Rattle.std.proofs.Common.{◌^◌, ◌/◌, ◌%◌, arith}
use Rattle.word_gates.proofs.NumberLemmas.{number-one}
use Rattle.word_gates.proofs.WordLemmas.{constant-more}
use Rattle.word_gates.proofs.words.constant.Goals as goal

pub bits-preserved : goal.bits-preserved
bits-preserved c = constant-more c.args.gates.now c.args.value c.bits.index c.bits.word _ _ c.bits.invariant (number-one (c.args.value / 2 ^ c.bits.index % 2) (omega arith)) c.in_ok-push.ensures.ok
