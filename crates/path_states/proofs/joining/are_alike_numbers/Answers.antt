use Rattle.std.proofs.Common.{◌<◌, length, arith}
use Rattle.path_states.proofs.Chosen.{alike_more}
use Rattle.path_states.proofs.joining.are_alike_numbers.Goals as goal

pub loop-i-preserved : goal.loop-i-preserved
loop-i-preserved c =
    let k : c.loop-i.i < length c.args.second.now = omega arith in
    alike_more c.args.first.now c.args.second.now c.loop-i.i _ (omega arith) k c.loop-i.invariant
    (c.is_same_word.ensures c.if-not-is_same_word.false)
