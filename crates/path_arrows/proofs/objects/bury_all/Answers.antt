use Rattle.std.proofs.Common.{take, get_or}
use Rattle.std.proofs.lemmas.List.{take_all, take_more}
use Rattle.path_arrows.specs.declared.objects.Object.{Object}
use Rattle.path_arrows.proofs.Living.{buries_none, buries_more}
use Rattle.path_arrows.proofs.objects.bury_all.Goals as goal

pub loop-object-init : goal.loop-object-init
loop-object-init c = buries_none c.args.bank.now c.args.memory c.requires

pub loop-object-preserved : goal.loop-object-preserved
loop-object-preserved c =
    let none : Object = record { at = 0; offset = 0; size = 0 } in
    let i = c.loop-object.object-index in
    rw (take_more c.args.objects.now i none c.loop-object-test.true)
    (buries_more _ _ _ c.args.memory _ _ (take i c.args.objects.now) (get_or c.args.objects.now i none) c.loop-object.invariant
    c.in_ok-memory.ensures)

pub returns : goal.returns
returns c = rw (take_all c.loop-object.object-index c.args.objects.now c.loop-object-test.false) at c.loop-object.invariant
