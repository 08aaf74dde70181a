use Rattle.log_expr.proofs.CodeSteps.{setting_value, setting_text}
use Rattle.log_expr.proofs.steps.step_setting.Goals as goal

pub returns-in_ok-step_value-in-Value : goal.returns-in_ok-step_value-in-Value
returns-in_ok-step_value-in-Value g c = setting_value c.in-Value.is c.get.ensures c.in_ok-step_value-in-Value.ensures

pub returns-in-Text : goal.returns-in-Text
returns-in-Text g c = setting_text c.in-Text.is
