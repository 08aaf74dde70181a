use Rattle.log_expr.proofs.CodeSteps.{step_in_some, step_in_none}
use Rattle.log_expr.proofs.steps.step_step.Goals as goal

pub returns-in_ok-step_value-in-Some : goal.returns-in_ok-step_value-in-Some
returns-in_ok-step_value-in-Some g c = step_in_some c.in-Some.is c.get.ensures c.in_ok-step_value-in-Some.ensures

pub returns-in-None : goal.returns-in-None
returns-in-None g c = step_in_none c.in-None.is
