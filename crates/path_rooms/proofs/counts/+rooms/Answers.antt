use Rattle.std.proofs.Common.{sym}
use Rattle.path_rooms.proofs.CodeCounts.{counted_as}
use Rattle.path_rooms.proofs.PlaceCounts as places
use Rattle.path_rooms.proofs.counts.+rooms.Goals as goal

pub value_room-returns-in-Constant : goal.value_room-returns-in-Constant
value_room-returns-in-Constant g t c =
    sym (places.room_Constant (g.C.Calls.around c.args.scene.now).measures c.args.e.now _ c.in-Constant.is)

pub value_room-returns-in-Fixed : goal.value_room-returns-in-Fixed
value_room-returns-in-Fixed g t c =
    sym (places.room_Fixed (g.C.Calls.around c.args.scene.now).measures c.args.e.now _ c.in-Fixed.is)

pub value_room-returns-in-Local : goal.value_room-returns-in-Local
value_room-returns-in-Local g t c =
    sym (places.room_Local (g.C.Calls.around c.args.scene.now).measures c.args.e.now _ c.in-Local.is)

pub value_room-returns-in-Load : goal.value_room-returns-in-Load
value_room-returns-in-Load g t c =
    counted_as c.value_room.result _ _ (places.room_Load (g.C.Calls.around c.args.scene.now).measures c.args.e.now _ _ c.in-Load.is) (rw c.get.ensures at c.value_room.ensures)

pub value_room-returns-in-Target : goal.value_room-returns-in-Target
value_room-returns-in-Target g t c =
    counted_as c.value_room-in-Target.result _ _ (places.room_Target (g.C.Calls.around c.args.scene.now).measures c.args.e.now _ c.in-Target.is) (rw c.get-in-Target.ensures at c.value_room-in-Target.ensures)

pub value_room-returns-in-Pointer : goal.value_room-returns-in-Pointer
value_room-returns-in-Pointer g t c =
    counted_as c.value_room-in-Pointer.result _ _ (places.room_Pointer (g.C.Calls.around c.args.scene.now).measures c.args.e.now _ c.in-Pointer.is) (rw c.get-in-Pointer.ensures at c.value_room-in-Pointer.ensures)

pub value_room-returns-in-Offset : goal.value_room-returns-in-Offset
value_room-returns-in-Offset g t c =
    counted_as c.value_room-in-Offset.result _ _ (places.room_Offset (g.C.Calls.around c.args.scene.now).measures c.args.e.now _ _ c.in-Offset.is) (rw c.get-in-Offset.ensures at c.value_room-in-Offset.ensures)

pub value_room-returns-in-Extract : goal.value_room-returns-in-Extract
value_room-returns-in-Extract g t c =
    counted_as c.value_room-in-Extract.result _ _ (places.room_Extract (g.C.Calls.around c.args.scene.now).measures c.args.e.now _ _ _ c.in-Extract.is) (rw c.get-in-Extract.ensures at c.value_room-in-Extract.ensures)

pub value_room-returns-in-Convert : goal.value_room-returns-in-Convert
value_room-returns-in-Convert g t c =
    counted_as c.value_room-in-Convert.result _ _ (places.room_Convert (g.C.Calls.around c.args.scene.now).measures c.args.e.now _ _ c.in-Convert.is) (rw c.get-in-Convert.ensures at c.value_room-in-Convert.ensures)

pub value_room-returns-in-Cast : goal.value_room-returns-in-Cast
value_room-returns-in-Cast g t c =
    counted_as c.value_room-in-Cast.result _ _ (places.room_Cast (g.C.Calls.around c.args.scene.now).measures c.args.e.now _ _ c.in-Cast.is) (rw c.get-in-Cast.ensures at c.value_room-in-Cast.ensures)

pub value_room-returns-in-Turn : goal.value_room-returns-in-Turn
value_room-returns-in-Turn g t c =
    counted_as c.value_room-in-Turn.result _ _ (places.room_Turn (g.C.Calls.around c.args.scene.now).measures c.args.e.now _ _ _ _ _ c.in-Turn.is) (rw c.get-in-Turn.ensures at c.value_room-in-Turn.ensures)

pub value_room-returns-in-Not : goal.value_room-returns-in-Not
value_room-returns-in-Not g t c =
    counted_as c.value_room-in-Not.result _ _ (places.room_Not (g.C.Calls.around c.args.scene.now).measures c.args.e.now _ c.in-Not.is) (rw c.get-in-Not.ensures at c.value_room-in-Not.ensures)

pub value_room-returns-in-Operate : goal.value_room-returns-in-Operate
value_room-returns-in-Operate g t c =
    counted_as c.both.result _ _ (places.room_Operate (g.C.Calls.around c.args.scene.now).measures c.args.e.now _ _ _ _ _ c.in-Operate.is) (c.both.ensures _ _ (rw c.get-in-Operate.ensures at c.value_room-in-Operate.ensures) (rw c.get-in-Operate-2.ensures at c.value_room-in-Operate-2.ensures))

pub value_room-returns-in-And : goal.value_room-returns-in-And
value_room-returns-in-And g t c =
    counted_as c.both-in-And.result _ _ (places.room_And (g.C.Calls.around c.args.scene.now).measures c.args.e.now _ _ _ c.in-And.is) (c.both-in-And.ensures _ _ (rw c.get-in-And.ensures at c.value_room-in-And.ensures) (rw c.get-in-And-2.ensures at c.value_room-in-And-2.ensures))

pub value_room-returns-in-Or : goal.value_room-returns-in-Or
value_room-returns-in-Or g t c =
    counted_as c.both-in-Or.result _ _ (places.room_Or (g.C.Calls.around c.args.scene.now).measures c.args.e.now _ _ _ c.in-Or.is) (c.both-in-Or.ensures _ _ (rw c.get-in-Or.ensures at c.value_room-in-Or.ensures) (rw c.get-in-Or-2.ensures at c.value_room-in-Or-2.ensures))

pub value_room-returns-in-Choose : goal.value_room-returns-in-Choose
value_room-returns-in-Choose g t c =
    counted_as c.both-in-Choose.result _ _ (places.room_Choose (g.C.Calls.around c.args.scene.now).measures c.args.e.now _ _ _ _ c.in-Choose.is)
    (c.both-in-Choose.ensures _ _ (rw c.get-in-Choose-3.ensures at c.value_room-in-Choose-3.ensures) (c.both-arms.ensures _ _ (rw c.get-in-Choose.ensures at c.value_room-in-Choose.ensures) (rw c.get-in-Choose-2.ensures at c.value_room-in-Choose-2.ensures)))

pub value_room-returns-in-Store : goal.value_room-returns-in-Store
value_room-returns-in-Store g t c =
    counted_as c.both-in-Store.result _ _ (places.room_Store (g.C.Calls.around c.args.scene.now).measures c.args.e.now _ _ _ _ c.in-Store.is) (c.both-in-Store.ensures _ _ (rw c.get-in-Store.ensures at c.value_room-in-Store.ensures) (rw c.get-in-Store-2.ensures at c.value_room-in-Store-2.ensures))

pub value_room-returns-in-Update : goal.value_room-returns-in-Update
value_room-returns-in-Update g t c =
    counted_as c.both-in-Update.result _ _ (places.room_Update (g.C.Calls.around c.args.scene.now).measures c.args.e.now _ _ _ _ _ c.in-Update.is) (c.both-in-Update.ensures _ _ (rw c.get-in-Update.ensures at c.value_room-in-Update.ensures) (rw c.get-in-Update-2.ensures at c.value_room-in-Update-2.ensures))

pub value_room-returns-in-Step : goal.value_room-returns-in-Step
value_room-returns-in-Step g t c =
    counted_as c.value_room-in-Step.result _ _ (places.room_Step (g.C.Calls.around c.args.scene.now).measures c.args.e.now _ _ _ _ _ c.in-Step.is) (rw c.get-in-Step.ensures at c.value_room-in-Step.ensures)

pub value_room-returns-in-Comma : goal.value_room-returns-in-Comma
value_room-returns-in-Comma g t c =
    counted_as c.both-in-Comma.result _ _ (places.room_Comma (g.C.Calls.around c.args.scene.now).measures c.args.e.now _ _ c.in-Comma.is) (c.both-in-Comma.ensures _ _ (rw c.get-in-Comma.ensures at c.value_room-in-Comma.ensures) (rw c.get-in-Comma-2.ensures at c.value_room-in-Comma-2.ensures))

pub value_room-returns-in-Call : goal.value_room-returns-in-Call
value_room-returns-in-Call g t c =
    counted_as c.both-in-Call.result _ _ (places.room_Call (g.C.Calls.around c.args.scene.now).measures c.args.e.now _ _ _ _ _ c.in-Call.is) (c.both-in-Call.ensures _ _ (rw c.as_slice.ensures at c.all_rooms.ensures) c.callee_room.ensures)
