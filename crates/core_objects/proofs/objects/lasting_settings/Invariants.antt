use Rattle.std.proofs.Common.{◌≡◌, map}
use Rattle.core_objects.specs.Given.{lasting_setting}
use Rattle.core_objects.proofs.objects.lasting_settings.Given as goal

abbrev pub invariant-loop-setting : goal.invariant-loop-setting
invariant-loop-setting l = l.lasting ≡ map (lasting_setting l.place) l.yielded
