use Rattle.signed_gates.proofs.NetLemmas.{sum-over-of}
use Rattle.signed_gates.proofs.overflow.sum_overflows.Goals as goal

pub returns : goal.returns
returns c = sum-over-of c.args.gates.now _ _ _ c.args.width c.args.a.now c.args.b.now c.split_at.result.0.now c.split_at-2.result.0.now c.args.carry c.index-a-top.result c.index-b-top.result c.in_ok-carried_out.carried_out c.in_ok-leaves.leaves c.in_ok-sum.sum c.requires.a_width c.requires.b_width c.split_at.ensures.front c.split_at-2.ensures.front c.index-a-top.is c.index-b-top.is c.in_ok-sum.ensures c.in_ok-carried_out.ensures c.in_ok-leaves.ensures
