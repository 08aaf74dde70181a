use Rattle.std.proofs.Common.{◌≡◌, ◌≤◌, ◌+◌, ◌-◌, ◌^◌, drop}
use Rattle.code_steps.specs.Below.{capped}
use Rattle.code_steps.specs.Rooms.{items_room}
use Rattle.code_steps.proofs.rooms.+rooms.Given as goal

abbrev pub invariant-room_of_items-loop-item : goal.invariant-room_of_items-loop-item
invariant-room_of_items-loop-item g l = record {
  sum : capped (l.all + items_room (g.L.Scene.setting l.scene) (drop l.item-index l.items))
      ≡ capped (items_room (g.L.Scene.setting l.scene) l.items);
  fits : l.all ≤ 2 ^ 64 - 1;
}
