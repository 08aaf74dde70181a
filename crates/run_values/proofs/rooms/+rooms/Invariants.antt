use Rattle.std.proofs.Common.{◌≡◌, ◌≤◌, ◌+◌, drop}
use Rattle.run_values.specs.Places.{capped, rooms_of}
use Rattle.run_values.proofs.rooms.+rooms.Given as goal

abbrev pub invariant-all_rooms-loop-item : goal.invariant-all_rooms-loop-item
invariant-all_rooms-loop-item g l =
    (l.room ≤ 18446744073709551615)
    × (capped (l.room + rooms_of (g.L.Scene.setting l.scene) (drop l.item-index l.items)) ≡ capped
    (rooms_of (g.L.Scene.setting l.scene) l.items))
