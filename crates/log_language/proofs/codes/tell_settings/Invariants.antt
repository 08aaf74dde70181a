use Rattle.std.proofs.Common.{drop}
use Rattle.log_language.proofs.OnCodes.{SettingsLead}
use Rattle.log_language.proofs.codes.tell_settings.Given as goal

abbrev pub invariant-settings : goal.invariant-settings
invariant-settings l = SettingsLead l.settings (drop l.setting-index l.settings) l.fn.told l.told
