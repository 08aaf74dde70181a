use Rattle.std.proofs.Common.{refl, sym}
use Rattle.path_rooms.proofs.CodeCounts as places
use Rattle.path_rooms.proofs.CodeCounts.{counted_as}
use Rattle.path_rooms.proofs.code_rooms.+rooms.Goals as goal

pub room_of_code-returns-in-Nothing : goal.room_of_code-returns-in-Nothing
room_of_code-returns-in-Nothing g t c =
    sym (places.room-Nothing (g.C.Calls.around c.args.scene.now).measures c.args.code.now _ c.in-Nothing.is)

pub room_of_code-returns-in-Value : goal.room_of_code-returns-in-Value
room_of_code-returns-in-Value g t c =
    counted_as c.value_room.result _ _ (places.room-Value (g.C.Calls.around c.args.scene.now).measures c.args.code.now _ _ c.in-Value.is) (rw c.get.ensures at c.value_room.ensures)

pub room_of_code-returns-in-Declare : goal.room_of_code-returns-in-Declare
room_of_code-returns-in-Declare g t c =
    counted_as c.both.result _ _ (places.room-Declare (g.C.Calls.around c.args.scene.now).measures c.args.code.now _ _ _ _ c.in-Declare.is) (c.both.ensures _ _ refl (rw c.as_slice.ensures at c.room_of_settings.ensures))

pub room_of_code-returns-in-Static : goal.room_of_code-returns-in-Static
room_of_code-returns-in-Static g t c =
    sym (places.room-Static (g.C.Calls.around c.args.scene.now).measures c.args.code.now _ _ c.in-Static.is)

pub room_of_code-returns-in-Block : goal.room_of_code-returns-in-Block
room_of_code-returns-in-Block g t c =
    counted_as c.room_of_items.result _ _ (places.room-Block (g.C.Calls.around c.args.scene.now).measures c.args.code.now _ _ c.in-Block.is) (rw c.as_slice-in-Block.ensures at c.room_of_items.ensures)

pub room_of_code-returns-in-Label : goal.room_of_code-returns-in-Label
room_of_code-returns-in-Label g t c =
    counted_as c.room_of_code.result _ _ (places.room-Label (g.C.Calls.around c.args.scene.now).measures c.args.code.now _ _ c.in-Label.is) (rw c.get-in-Label.ensures at c.room_of_code.ensures)

pub room_of_code-returns-in-Case : goal.room_of_code-returns-in-Case
room_of_code-returns-in-Case g t c =
    counted_as c.room_of_code-in-Case.result _ _ (places.room-Case (g.C.Calls.around c.args.scene.now).measures c.args.code.now _ _ _ c.in-Case.is) (rw c.get-in-Case.ensures at c.room_of_code-in-Case.ensures)

pub room_of_code-returns-in-Default : goal.room_of_code-returns-in-Default
room_of_code-returns-in-Default g t c =
    counted_as c.room_of_code-in-Default.result _ _ (places.room-Default (g.C.Calls.around c.args.scene.now).measures c.args.code.now _ c.in-Default.is) (rw c.get-in-Default.ensures at c.room_of_code-in-Default.ensures)

pub room_of_code-returns-in-If : goal.room_of_code-returns-in-If
room_of_code-returns-in-If g t c =
    counted_as c.both-in-If.result _ _ (places.room-If (g.C.Calls.around c.args.scene.now).measures c.args.code.now _ _ _ _ c.in-If.is)
    (c.both-in-If.ensures _ _ (rw c.get-in-If-3.ensures at c.value_room-in-If.ensures) (c.both-sides.ensures _ _ (rw c.get-in-If.ensures at c.room_of_code-in-If.ensures) (rw c.get-in-If-2.ensures at c.room_of_code-in-If-2.ensures)))

pub room_of_code-returns-in-Switch : goal.room_of_code-returns-in-Switch
room_of_code-returns-in-Switch g t c =
    counted_as c.both-in-Switch.result _ _ (places.room-Switch (g.C.Calls.around c.args.scene.now).measures c.args.code.now _ _ _ _ _ _ c.in-Switch.is)
    (c.both-in-Switch.ensures _ _ (rw c.get-in-Switch.ensures at c.value_room-in-Switch.ensures) (rw c.as_slice-in-Switch.ensures at c.room_of_items-in-Switch.ensures))

pub room_of_code-returns-in-Loop : goal.room_of_code-returns-in-Loop
room_of_code-returns-in-Loop g t c =
    counted_as c.room_of_turns.result _ _ (places.room-Loop (g.C.Calls.around c.args.scene.now).measures c.args.code.now _ _ _ _ c.in-Loop.is)
    (c.room_of_turns.ensures _ (c.both-turn.ensures _ _ c.room_of_option-in-Loop.ensures
    (c.both-behind.ensures _ _ (rw c.get-in-Loop.ensures at c.room_of_code-in-Loop.ensures) c.room_of_option.ensures)))

pub room_of_code-returns-in-Repeat : goal.room_of_code-returns-in-Repeat
room_of_code-returns-in-Repeat g t c =
    counted_as c.room_of_turns-in-Repeat.result _ _ (places.room-Repeat (g.C.Calls.around c.args.scene.now).measures c.args.code.now _ _ _ c.in-Repeat.is)
    (c.room_of_turns-in-Repeat.ensures _ (c.both-turn-in-Repeat.ensures _ _ (rw c.get-in-Repeat.ensures at c.room_of_code-in-Repeat.ensures) (rw c.get-in-Repeat-2.ensures at c.value_room-in-Repeat.ensures)))

pub room_of_code-returns-in-Goto : goal.room_of_code-returns-in-Goto
room_of_code-returns-in-Goto g t c =
    sym (places.room-Goto (g.C.Calls.around c.args.scene.now).measures c.args.code.now _ c.in-Goto.is)

pub room_of_code-returns-in-Continue : goal.room_of_code-returns-in-Continue
room_of_code-returns-in-Continue g t c =
    sym (places.room-Continue (g.C.Calls.around c.args.scene.now).measures c.args.code.now c.in-Continue.is)

pub room_of_code-returns-in-Break : goal.room_of_code-returns-in-Break
room_of_code-returns-in-Break g t c =
    sym (places.room-Break (g.C.Calls.around c.args.scene.now).measures c.args.code.now c.in-Break.is)

pub room_of_code-returns-in-Return : goal.room_of_code-returns-in-Return
room_of_code-returns-in-Return g t c =
    counted_as c.room_of_option-in-Return.result _ _ (places.room-Return (g.C.Calls.around c.args.scene.now).measures c.args.code.now _ c.in-Return.is) c.room_of_option-in-Return.ensures
