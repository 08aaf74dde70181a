use Rattle.std.proofs.Common.{◌<◌, length, arith}
use Rattle.std.proofs.lemmas.List.{take_all}
use Rattle.path_states.proofs.Growth.{numbers_grown}
use Rattle.path_states.proofs.Chosen.{alike_length, alike_index, number_at, chosen_none, chosen_next}
use Rattle.path_states.proofs.joining.chosen_all.Goals as goal

pub bounds-second-i : goal.bounds-second-i
bounds-second-i c = omega (arith, alike_length c.args.first.now c.args.second.now c.requires.alike)

pub chosen-requires-clause-first : goal.chosen-requires-clause-first
chosen-requires-clause-first c =
    number_at _ _ _ _ (numbers_grown c.loop-i.invariant.grows c.args.first.now c.requires.first) (omega arith)

pub chosen-requires-clause-second : goal.chosen-requires-clause-second
chosen-requires-clause-second c =
    number_at _ _ _ _ (numbers_grown c.loop-i.invariant.grows c.args.second.now c.requires.second)
    (omega (arith, alike_length c.args.first.now c.args.second.now c.requires.alike))

pub chosen-requires-clause-alike : goal.chosen-requires-clause-alike
chosen-requires-clause-alike c =
    alike_index _ _ _ _ c.requires.alike (omega arith) (omega (arith, alike_length c.args.first.now c.args.second.now c.requires.alike))

pub loop-i-init : goal.loop-i-init
loop-i-init c = rw c.new-all.ensures (chosen_none c.args.bank.now c.args.condition)

pub loop-i-preserved : goal.loop-i-preserved
loop-i-preserved c =
    let k : c.loop-i.i < length c.args.second.now = omega (arith, alike_length c.args.first.now c.args.second.now c.requires.alike) in
    rw c.in_ok-push.ensures.ok
    (chosen_next _ _ _ _ _ _ _ _ _ _ (omega arith) k c.loop-i.invariant c.in_ok-z.ensures)

pub returns : goal.returns
returns c =
    let e = take_all c.loop-i.i c.args.first.now c.loop-i-test.false in
    let f = take_all c.loop-i.i c.args.second.now (omega (arith, c.loop-i-test.false, alike_length c.args.first.now c.args.second.now c.requires.alike)) in
    rw (e, f) at c.loop-i.invariant
