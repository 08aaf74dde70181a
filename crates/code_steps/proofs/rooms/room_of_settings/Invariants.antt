use Rattle.std.proofs.Common.{◌≡◌, ◌≤◌, ◌+◌, ◌-◌, ◌^◌, drop}
use Rattle.code_steps.specs.Below.{capped}
use Rattle.code_steps.specs.Rooms.{settings_room}
use Rattle.code_steps.proofs.rooms.room_of_settings.Given as goal

abbrev pub invariant-loop-setting : goal.invariant-loop-setting
invariant-loop-setting g l = record {
  sum : capped (l.all + settings_room (g.L.Scene.setting l.scene) (drop l.setting-index l.settings))
      ≡ capped (settings_room (g.L.Scene.setting l.scene) l.settings);
  fits : l.all ≤ 2 ^ 64 - 1;
}
