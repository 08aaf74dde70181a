use Rattle.std.proofs.Common.{◌≡◌, ◌+◌, drop}
use Rattle.path_rooms.specs.Rooms.{settings_room}
use Rattle.path_rooms.proofs.code_rooms.room_of_settings.Given as goal

abbrev pub invariant-loop-setting : goal.invariant-loop-setting
invariant-loop-setting g l =
    l.room + settings_room (g.C.Calls.around l.scene).measures (drop l.setting-index l.settings)
    ≡ settings_room (g.C.Calls.around l.scene).measures l.settings
