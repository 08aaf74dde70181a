use Rattle.c_means.specs.Statements.{declaring}
use Rattle.std.proofs.Common.{map}
use Rattle.core_declarations.proofs.InOrder.{begins, a_declarator, all_declarators}
use Rattle.core_declarations.proofs.declarations.each_declarator.Goals as goal

pub loop-item-init : goal.loop-item-init
loop-item-init g c =
    begins (g.C.Places.numbering c.args.callees.now) c.args.storage c.args.specified.now c.args.scope.now
    (map declaring c.args.items.now) c.nothing_begun-begun.result c.nothing_begun-begun.ensures

pub loop-item-preserved : goal.loop-item-preserved
loop-item-preserved g c =
    a_declarator (g.C.Places.numbering c.args.callees.now) c.args.storage c.args.specified.now c.args.scope.now
    c.args.items.now c.loop-item.item-index c.item-item.result c.loop-item.begun c.in_ok-begun.begun c.loop-item.scope
    c.and_declarator.new.scope c.loop-item-test.true c.item-item.is c.loop-item.invariant c.in_ok-begun.ensures

pub returns : goal.returns
returns g c =
    all_declarators (g.C.Places.numbering c.args.callees.now) c.args.storage c.args.specified.now c.args.scope.now
    c.args.items.now c.loop-item.item-index c.loop-item.begun c.loop-item.scope c.loop-item-test.false c.loop-item.invariant
