use Rattle.core_functions.proofs.Objects as objects
use Rattle.core_functions.proofs.heads.parameters_of.Goals as goal

pub loop-entry-init : goal.loop-entry-init
loop-entry-init c = objects.begins c.args.scope.now c.args.entries.now c.new-all.result c.new-all.ensures

pub loop-entry-preserved : goal.loop-entry-preserved
loop-entry-preserved c =
    objects.goes_on c.args.scope.now c.args.entries.now c.loop-entry.entry-index c.entry-item.result c.get.result.now
    c.loop-entry.all c.push.new.self c.parameter-found.result c.loop-entry-test.true c.entry-item.is c.get.ensures
    c.loop-entry.invariant c.parameter-found.ensures c.in_ok-push.ensures.ok

pub returns : goal.returns
returns c =
    objects.ends c.args.scope.now c.args.entries.now c.loop-entry.entry-index c.loop-entry.all c.loop-entry-test.false
    c.loop-entry.invariant
