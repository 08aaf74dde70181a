use Rattle.std.proofs.Common.{arith}
use Rattle.run_values.proofs.PlaceCounts as places
use Rattle.run_values.proofs.rooms.+rooms.Goals as goal

pub value_room-returns-in-Constant : goal.value_room-returns-in-Constant
value_room-returns-in-Constant g t c =
    grind (arith, places.room_Constant (g.L.Scene.setting c.args.scene.now) c.args.e.now _ c.in-Constant.is)

pub value_room-returns-in-Fixed : goal.value_room-returns-in-Fixed
value_room-returns-in-Fixed g t c =
    grind (arith, places.room_Fixed (g.L.Scene.setting c.args.scene.now) c.args.e.now _ c.in-Fixed.is)

pub value_room-returns-in-Local : goal.value_room-returns-in-Local
value_room-returns-in-Local g t c =
    grind (arith, places.room_Local (g.L.Scene.setting c.args.scene.now) c.args.e.now _ c.in-Local.is)

pub value_room-returns-in-Load : goal.value_room-returns-in-Load
value_room-returns-in-Load g t c =
    grind (arith, places.room_Load (g.L.Scene.setting c.args.scene.now) c.args.e.now _ _ c.in-Load.is)

pub value_room-returns-in-Target : goal.value_room-returns-in-Target
value_room-returns-in-Target g t c =
    grind (arith, places.room_Target (g.L.Scene.setting c.args.scene.now) c.args.e.now _ c.in-Target.is)

pub value_room-returns-in-Pointer : goal.value_room-returns-in-Pointer
value_room-returns-in-Pointer g t c =
    grind (arith, places.room_Pointer (g.L.Scene.setting c.args.scene.now) c.args.e.now _ c.in-Pointer.is)

pub value_room-returns-in-Offset : goal.value_room-returns-in-Offset
value_room-returns-in-Offset g t c =
    grind (arith, places.room_Offset (g.L.Scene.setting c.args.scene.now) c.args.e.now _ _ c.in-Offset.is)

pub value_room-returns-in-Extract : goal.value_room-returns-in-Extract
value_room-returns-in-Extract g t c =
    grind (arith, places.room_Extract (g.L.Scene.setting c.args.scene.now) c.args.e.now _ _ _ c.in-Extract.is)

pub value_room-returns-in-Convert : goal.value_room-returns-in-Convert
value_room-returns-in-Convert g t c =
    grind (arith, places.room_Convert (g.L.Scene.setting c.args.scene.now) c.args.e.now _ _ c.in-Convert.is)

pub value_room-returns-in-Cast : goal.value_room-returns-in-Cast
value_room-returns-in-Cast g t c =
    grind (arith, places.room_Cast (g.L.Scene.setting c.args.scene.now) c.args.e.now _ _ c.in-Cast.is)

pub value_room-returns-in-Turn : goal.value_room-returns-in-Turn
value_room-returns-in-Turn g t c =
    grind (arith, places.room_Turn (g.L.Scene.setting c.args.scene.now) c.args.e.now _ _ _ _ _ c.in-Turn.is)

pub value_room-returns-in-Not : goal.value_room-returns-in-Not
value_room-returns-in-Not g t c =
    grind (arith, places.room_Not (g.L.Scene.setting c.args.scene.now) c.args.e.now _ c.in-Not.is)

pub value_room-returns-in-Operate : goal.value_room-returns-in-Operate
value_room-returns-in-Operate g t c =
    grind (arith, places.room_Operate (g.L.Scene.setting c.args.scene.now) c.args.e.now _ _ _ _ _ c.in-Operate.is)

pub value_room-returns-in-And : goal.value_room-returns-in-And
value_room-returns-in-And g t c =
    grind (arith, places.room_And (g.L.Scene.setting c.args.scene.now) c.args.e.now _ _ _ c.in-And.is)

pub value_room-returns-in-Or : goal.value_room-returns-in-Or
value_room-returns-in-Or g t c =
    grind (arith, places.room_Or (g.L.Scene.setting c.args.scene.now) c.args.e.now _ _ _ c.in-Or.is)

pub value_room-returns-in-Choose : goal.value_room-returns-in-Choose
value_room-returns-in-Choose g t c =
    grind (arith, places.room_Choose (g.L.Scene.setting c.args.scene.now) c.args.e.now _ _ _ _ c.in-Choose.is)

pub value_room-returns-in-Store : goal.value_room-returns-in-Store
value_room-returns-in-Store g t c =
    grind (arith, places.room_Store (g.L.Scene.setting c.args.scene.now) c.args.e.now _ _ _ _ c.in-Store.is)

pub value_room-returns-in-Update : goal.value_room-returns-in-Update
value_room-returns-in-Update g t c =
    grind (arith, places.room_Update (g.L.Scene.setting c.args.scene.now) c.args.e.now _ _ _ _ _ c.in-Update.is)

pub value_room-returns-in-Step : goal.value_room-returns-in-Step
value_room-returns-in-Step g t c =
    grind (arith, places.room_Step (g.L.Scene.setting c.args.scene.now) c.args.e.now _ _ _ _ _ c.in-Step.is)

pub value_room-returns-in-Comma : goal.value_room-returns-in-Comma
value_room-returns-in-Comma g t c =
    grind (arith, places.room_Comma (g.L.Scene.setting c.args.scene.now) c.args.e.now _ _ c.in-Comma.is)

pub value_room-returns-in-Call : goal.value_room-returns-in-Call
value_room-returns-in-Call g t c =
    grind (arith, places.room_Call (g.L.Scene.setting c.args.scene.now) c.args.e.now _ _ _ _ _ c.in-Call.is)
