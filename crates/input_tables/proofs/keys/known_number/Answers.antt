use Rattle.std.proofs.Common.{◌≤◌, ◌+◌, arith, length}
use Rattle.std.proofs.Math.Nat.{pow-le-pow_right}
use Rattle.input_tables.proofs.RowLemmas.{known-more, known-small}
use Rattle.input_tables.proofs.keys.known_number.Goals as goal

pub overflow_add-number : goal.overflow_add-number
overflow_add-number c =
    let more = known-more c.args.word.now c.bits.index c.bits.number c.in_ok-part.part c.index-word-index.result c.bits-test.true c.index-word-index.is c.bits.invariant c.in_ok-part.ensures in
    let within : c.bits.index + 1 ≤ length c.args.word.now = omega arith in
    let small = known-small c.args.word.now (c.bits.index + 1) (c.bits.number + c.in_ok-part.part) within more in
    let top = pow-le-pow_right {n = 2} (omega arith) {i = c.bits.index + 1} {j = 64} (omega arith) in
    record { fits = omega (arith, small, top) }

pub bits-preserved : goal.bits-preserved
bits-preserved c = known-more c.args.word.now c.bits.index c.bits.number c.in_ok-part.part c.index-word-index.result c.bits-test.true c.index-word-index.is c.bits.invariant c.in_ok-part.ensures
