use Rattle.std.proofs.Common.{take}
use Rattle.std.proofs.lemmas.List.{take_all}
use Rattle.path_states.proofs.Paths.{more_of}
use Rattle.run_formula.specs.Settings.{still_around}
use Rattle.run_formula.proofs.Readied.{sets_none, sets_more}
use Rattle.run_formula.proofs.settings.set_all.Goals as goal

pub loop-one-init : goal.loop-one-init
loop-one-init c =
    let a = c.args in
    sets_none (still_around a.still.now.log.now a.still.now.bounds.now) 4294967296 a.bank.now a.states.now c.in_ok-set.set
    (c.in_ok-set.ensures 4294967296 a.bank.now c.requires)

pub set_one-requires : goal.set_one-requires
set_one-requires c = rw c.as_slice.ensures c.loop-one.invariant.states

pub loop-one-preserved : goal.loop-one-preserved
loop-one-preserved c =
    let a = c.args in
    let i = c.loop-one.one-index in
    let one = rw c.as_slice.ensures at c.in_ok-set-2.ensures in
    rw (more_of a.settings.now i c.one-item.result c.loop-one-test.true c.one-item.is)
    (sets_more (still_around a.still.now.log.now a.still.now.bounds.now) 4294967296 _ _ _ a.states.now c.loop-one.set c.in_ok-set-2.set
    (take i a.settings.now) c.one-item.result c.loop-one.invariant one)

pub returns : goal.returns
returns c = rw (take_all c.loop-one.one-index c.args.settings.now c.loop-one-test.false) at c.loop-one.invariant
