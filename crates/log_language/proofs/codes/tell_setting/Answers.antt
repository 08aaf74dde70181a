use Rattle.log_language.proofs.OnCodes.{setting_value, setting_text}
use Rattle.log_language.proofs.codes.tell_setting.Goals as goal

pub returns-in_ok-tell_value-in-Value : goal.returns-in_ok-tell_value-in-Value
returns-in_ok-tell_value-in-Value c = setting_value c.in-Value.is c.get.ensures c.in_ok-tell_value-in-Value.ensures

pub returns-in-Text : goal.returns-in-Text
returns-in-Text c = setting_text c.in-Text.is
