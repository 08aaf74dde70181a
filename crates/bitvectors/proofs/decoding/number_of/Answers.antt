use Rattle.std.proofs.Common.{◌≤◌, ◌+◌, arith, length}
use Rattle.cnf_core.specs.Truth.{value_of}
use Rattle.bitvectors.proofs.DecodeLemmas.{number-more, number-small, number-whole}
use Rattle.bitvectors.proofs.decoding.number_of.Goals as goal

pub overflow_add-number : goal.overflow_add-number
overflow_add-number c =
    let more = number-more (value_of c.args.values.now) c.args.word.now c.bits.index c.bits.number c.part-more.result c.index-word-index.result c.bits-test.true c.index-word-index.is c.bits.invariant c.part-more.ensures in
    let within : c.bits.index + 1 ≤ length c.args.word.now = omega arith in
    record { fits = number-small (value_of c.args.values.now) c.args.word.now (c.bits.index + 1) (c.bits.number + c.part-more.result) within c.requires more }

pub bits-preserved : goal.bits-preserved
bits-preserved c = number-more (value_of c.args.values.now) c.args.word.now c.bits.index c.bits.number c.part-more.result c.index-word-index.result c.bits-test.true c.index-word-index.is c.bits.invariant c.part-more.ensures

pub returns : goal.returns
returns c = number-whole (value_of c.args.values.now) c.args.word.now c.bits.index c.bits.number c.bits-test.false c.bits.invariant
