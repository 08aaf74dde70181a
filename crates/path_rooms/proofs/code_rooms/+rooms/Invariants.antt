use Rattle.std.proofs.Common.{◌≡◌, ◌+◌, drop}
use Rattle.path_rooms.specs.Rooms.{items_room}
use Rattle.path_rooms.proofs.code_rooms.+rooms.Given as goal

abbrev pub invariant-room_of_items-loop-item : goal.invariant-room_of_items-loop-item
invariant-room_of_items-loop-item g l =
    l.room + items_room (g.C.Calls.around l.scene).measures (drop l.item-index l.items)
    ≡ items_room (g.C.Calls.around l.scene).measures l.items
