use Rattle.log_expr.proofs.CodeSteps.{test_in_some, test_in_none}
use Rattle.log_expr.proofs.steps.step_test.Goals as goal

pub returns-in_ok-pass-in-Some : goal.returns-in_ok-pass-in-Some
returns-in_ok-pass-in-Some g c = test_in_some c.in-Some.is c.get.ensures c.in_ok-step_value-in-Some.ensures c.in_ok-pass-in-Some.ensures

pub returns-in-None : goal.returns-in-None
returns-in-None g c = test_in_none c.in-None.is
