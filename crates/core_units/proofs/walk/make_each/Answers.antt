use Rattle.core_units.proofs.Making.{plan_there, walking_at, walked_to_end}
use Rattle.core_units.proofs.walk.make_each.Goals as goal

pub bounds-plans-index : goal.bounds-plans-index
bounds-plans-index c =
    plan_there c.args.around.now c.each.external-index c.each.index c.external-item.result c.each.scope c.each.made
    c.args.plans.now c.each-test.true c.external-item.is c.each.invariant c.requires.plans

pub each-preserved : goal.each-preserved
each-preserved c =
    walking_at c.args.around.now c.each.external-index c.each.index c.external-item.result c.get.result.now
    c.each.scope c.made_of.new.scope c.each.made c.in_ok-more.more c.append.new.self c.append-in-each.new.self
    c.append-in-each-2.new.self
    c.each-test.true c.external-item.is c.get.ensures c.each.invariant c.in_ok-more.ensures.made
    c.in_ok-more.ensures.after c.in_ok-append.ensures.ok c.in_ok-append-2.ensures.ok c.in_ok-append-3.ensures.ok

pub returns : goal.returns
returns c = walked_to_end c.args.around.now c.each.external-index c.each.index c.each.scope c.each.made c.each-test.false c.each.invariant
