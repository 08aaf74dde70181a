use Rattle.log_expr.proofs.CodeSteps.{return_in_some, return_in_none}
use Rattle.log_expr.proofs.steps.step_return.Goals as goal

pub returns-in_ok-jump_back-in-Some : goal.returns-in_ok-jump_back-in-Some
returns-in_ok-jump_back-in-Some g c = return_in_some c.in-Some.is c.get.ensures c.in_ok-step_value-in-Some.ensures c.in_ok-jump_back-in-Some.ensures

pub returns-in_ok-jump_back-in-None : goal.returns-in_ok-jump_back-in-None
returns-in_ok-jump_back-in-None g c = return_in_none c.in-None.is c.in_ok-jump_back-in-None.ensures
