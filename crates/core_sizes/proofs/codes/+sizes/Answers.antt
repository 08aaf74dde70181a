use Rattle.std.proofs.Common.{arith, ap, drop, drop_of_length-le}
use Rattle.core_sizes.specs.Nodes.{items_nodes}
use Rattle.core_sizes.proofs.CodeNodes as nodes
use Rattle.core_sizes.proofs.codes.+sizes.Goals as goal

pub code_size-returns-in-Nothing : goal.code_size-returns-in-Nothing
code_size-returns-in-Nothing g t c =
    grind (arith, nodes.nodes-Nothing (g.S.Sizes.measures c.args.scene.now) c.args.code.now _ c.in-Nothing.is)

pub code_size-returns-in-Value : goal.code_size-returns-in-Value
code_size-returns-in-Value g t c =
    grind (arith, nodes.nodes-Value (g.S.Sizes.measures c.args.scene.now) c.args.code.now _ _ c.in-Value.is)

pub code_size-returns-in-Declare : goal.code_size-returns-in-Declare
code_size-returns-in-Declare g t c =
    grind (arith, nodes.nodes-Declare (g.S.Sizes.measures c.args.scene.now) c.args.code.now _ _ _ _ c.in-Declare.is)

pub code_size-returns-in-Static : goal.code_size-returns-in-Static
code_size-returns-in-Static g t c =
    grind (arith, nodes.nodes-Static (g.S.Sizes.measures c.args.scene.now) c.args.code.now _ _ c.in-Static.is)

pub code_size-returns-in-Block : goal.code_size-returns-in-Block
code_size-returns-in-Block g t c =
    grind (arith, nodes.nodes-Block (g.S.Sizes.measures c.args.scene.now) c.args.code.now _ _ c.in-Block.is)

pub code_size-returns-in-Label : goal.code_size-returns-in-Label
code_size-returns-in-Label g t c =
    grind (arith, nodes.nodes-Label (g.S.Sizes.measures c.args.scene.now) c.args.code.now _ _ c.in-Label.is)

pub code_size-returns-in-Case : goal.code_size-returns-in-Case
code_size-returns-in-Case g t c =
    grind (arith, nodes.nodes-Case (g.S.Sizes.measures c.args.scene.now) c.args.code.now _ _ _ c.in-Case.is)

pub code_size-returns-in-Default : goal.code_size-returns-in-Default
code_size-returns-in-Default g t c =
    grind (arith, nodes.nodes-Default (g.S.Sizes.measures c.args.scene.now) c.args.code.now _ c.in-Default.is)

pub code_size-returns-in-If : goal.code_size-returns-in-If
code_size-returns-in-If g t c =
    grind (arith, nodes.nodes-If (g.S.Sizes.measures c.args.scene.now) c.args.code.now _ _ _ _ c.in-If.is)

pub code_size-returns-in-Switch : goal.code_size-returns-in-Switch
code_size-returns-in-Switch g t c =
    grind (arith, nodes.nodes-Switch (g.S.Sizes.measures c.args.scene.now) c.args.code.now _ _ _ _ _ _ c.in-Switch.is)

pub code_size-returns-in-Goto : goal.code_size-returns-in-Goto
code_size-returns-in-Goto g t c =
    grind (arith, nodes.nodes-Goto (g.S.Sizes.measures c.args.scene.now) c.args.code.now _ c.in-Goto.is)

pub code_size-returns-in-Continue : goal.code_size-returns-in-Continue
code_size-returns-in-Continue g t c =
    grind (arith, nodes.nodes-Continue (g.S.Sizes.measures c.args.scene.now) c.args.code.now c.in-Continue.is)

pub code_size-returns-in-Break : goal.code_size-returns-in-Break
code_size-returns-in-Break g t c =
    grind (arith, nodes.nodes-Break (g.S.Sizes.measures c.args.scene.now) c.args.code.now c.in-Break.is)

pub code_size-returns-in-Return : goal.code_size-returns-in-Return
code_size-returns-in-Return g t c =
    grind (arith, nodes.nodes-Return (g.S.Sizes.measures c.args.scene.now) c.args.code.now _ c.in-Return.is)

pub code_size-returns-in-Loop : goal.code_size-returns-in-Loop
code_size-returns-in-Loop g t c =
    nodes.capped_loop (g.S.Sizes.measures c.args.scene.now) c.args.code.now _ _ _ _ c.saturating_add-turn.result
    c.turns_size.result c.in-Loop.is (grind arith) c.turns_size.ensures

pub code_size-returns-in-Repeat : goal.code_size-returns-in-Repeat
code_size-returns-in-Repeat g t c =
    nodes.capped_repeat (g.S.Sizes.measures c.args.scene.now) c.args.code.now _ _ _
    c.saturating_add-turn-in-Repeat.result c.turns_size-in-Repeat.result c.in-Repeat.is (grind arith)
    c.turns_size-in-Repeat.ensures

pub items_size-returns : goal.items_size-returns
items_size-returns g t c =
    nodes.sum_done c.loop-item.all
    (items_nodes (g.S.Sizes.measures c.args.scene.now) (drop c.loop-item.item-index c.args.items.now))
    (items_nodes (g.S.Sizes.measures c.args.scene.now) c.args.items.now) c.loop-item.invariant.fits
    (ap (items_nodes (g.S.Sizes.measures c.args.scene.now))
    (drop_of_length-le c.args.items.now (omega (arith, c.loop-item-test.false)))) c.loop-item.invariant.sum
