use Rattle.std.proofs.Common.{◌≡◌, ◌+◌, drop}
use Rattle.path_rooms.specs.Rooms.{rooms_of}
use Rattle.path_rooms.proofs.counts.+rooms.Given as goal

abbrev pub invariant-all_rooms-loop-item : goal.invariant-all_rooms-loop-item
invariant-all_rooms-loop-item g l =
    l.room + rooms_of (g.C.Calls.around l.scene).measures (drop l.item-index l.items) ≡ rooms_of (g.C.Calls.around l.scene).measures l.items
