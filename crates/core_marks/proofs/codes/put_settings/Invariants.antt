use Rattle.core_marks.specs.Marks.{setting_marks}
use Rattle.core_marks.proofs.Loops.{Leads}
use Rattle.core_marks.proofs.codes.put_settings.Given as goal

abbrev pub invariant-settings : goal.invariant-settings
invariant-settings l = Leads setting_marks l.settings l.setting-index l.initial.out l.out
