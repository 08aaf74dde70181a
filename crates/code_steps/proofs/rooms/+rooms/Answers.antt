use Rattle.std.proofs.Common.{arith, ap, drop, drop_of_length-le}
use Rattle.code_steps.specs.Rooms.{items_room}
use Rattle.code_steps.proofs.Places as places
use Rattle.code_steps.proofs.rooms.+rooms.Goals as goal

pub room_of_code-returns-in-Nothing : goal.room_of_code-returns-in-Nothing
room_of_code-returns-in-Nothing g t c =
    grind (arith, places.room-Nothing (g.L.Scene.setting c.args.scene.now) c.args.code.now _ c.in-Nothing.is)

pub room_of_code-returns-in-Value : goal.room_of_code-returns-in-Value
room_of_code-returns-in-Value g t c =
    grind (arith, places.room-Value (g.L.Scene.setting c.args.scene.now) c.args.code.now _ _ c.in-Value.is)

pub room_of_code-returns-in-Declare : goal.room_of_code-returns-in-Declare
room_of_code-returns-in-Declare g t c =
    grind (arith, places.room-Declare (g.L.Scene.setting c.args.scene.now) c.args.code.now _ _ _ _ c.in-Declare.is)

pub room_of_code-returns-in-Static : goal.room_of_code-returns-in-Static
room_of_code-returns-in-Static g t c =
    grind (arith, places.room-Static (g.L.Scene.setting c.args.scene.now) c.args.code.now _ _ c.in-Static.is)

pub room_of_code-returns-in-Block : goal.room_of_code-returns-in-Block
room_of_code-returns-in-Block g t c =
    grind (arith, places.room-Block (g.L.Scene.setting c.args.scene.now) c.args.code.now _ _ c.in-Block.is)

pub room_of_code-returns-in-Label : goal.room_of_code-returns-in-Label
room_of_code-returns-in-Label g t c =
    grind (arith, places.room-Label (g.L.Scene.setting c.args.scene.now) c.args.code.now _ _ c.in-Label.is)

pub room_of_code-returns-in-Case : goal.room_of_code-returns-in-Case
room_of_code-returns-in-Case g t c =
    grind (arith, places.room-Case (g.L.Scene.setting c.args.scene.now) c.args.code.now _ _ _ c.in-Case.is)

pub room_of_code-returns-in-Default : goal.room_of_code-returns-in-Default
room_of_code-returns-in-Default g t c =
    grind (arith, places.room-Default (g.L.Scene.setting c.args.scene.now) c.args.code.now _ c.in-Default.is)

pub room_of_code-returns-in-If : goal.room_of_code-returns-in-If
room_of_code-returns-in-If g t c =
    grind (arith, places.room-If (g.L.Scene.setting c.args.scene.now) c.args.code.now _ _ _ _ c.in-If.is)

pub room_of_code-returns-in-Switch : goal.room_of_code-returns-in-Switch
room_of_code-returns-in-Switch g t c =
    grind (arith, places.room-Switch (g.L.Scene.setting c.args.scene.now) c.args.code.now _ _ _ _ _ _ c.in-Switch.is)

pub room_of_code-returns-in-Goto : goal.room_of_code-returns-in-Goto
room_of_code-returns-in-Goto g t c =
    grind (arith, places.room-Goto (g.L.Scene.setting c.args.scene.now) c.args.code.now _ c.in-Goto.is)

pub room_of_code-returns-in-Continue : goal.room_of_code-returns-in-Continue
room_of_code-returns-in-Continue g t c =
    grind (arith, places.room-Continue (g.L.Scene.setting c.args.scene.now) c.args.code.now c.in-Continue.is)

pub room_of_code-returns-in-Break : goal.room_of_code-returns-in-Break
room_of_code-returns-in-Break g t c =
    grind (arith, places.room-Break (g.L.Scene.setting c.args.scene.now) c.args.code.now c.in-Break.is)

pub room_of_code-returns-in-Return : goal.room_of_code-returns-in-Return
room_of_code-returns-in-Return g t c =
    grind (arith, places.room-Return (g.L.Scene.setting c.args.scene.now) c.args.code.now _ c.in-Return.is)

pub room_of_code-returns-in-Loop : goal.room_of_code-returns-in-Loop
room_of_code-returns-in-Loop g t c =
    places.capped_loop (g.L.Scene.setting c.args.scene.now) c.args.code.now _ _ _ _ c.saturating_add-turn.result
    c.room_of_turns.result c.in-Loop.is (grind arith) c.room_of_turns.ensures

pub room_of_code-returns-in-Repeat : goal.room_of_code-returns-in-Repeat
room_of_code-returns-in-Repeat g t c =
    places.capped_repeat (g.L.Scene.setting c.args.scene.now) c.args.code.now _ _ _
    c.saturating_add-turn-in-Repeat.result c.room_of_turns-in-Repeat.result c.in-Repeat.is (grind arith)
    c.room_of_turns-in-Repeat.ensures

pub room_of_items-returns : goal.room_of_items-returns
room_of_items-returns g t c =
    places.sum_done c.loop-item.all
    (items_room (g.L.Scene.setting c.args.scene.now) (drop c.loop-item.item-index c.args.items.now))
    (items_room (g.L.Scene.setting c.args.scene.now) c.args.items.now) c.loop-item.invariant.fits
    (ap (items_room (g.L.Scene.setting c.args.scene.now))
    (drop_of_length-le c.args.items.now (omega (arith, c.loop-item-test.false)))) c.loop-item.invariant.sum
