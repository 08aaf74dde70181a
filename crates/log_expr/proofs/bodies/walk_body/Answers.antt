use Rattle.std.proofs.Common.{map, ◌∙◌, ap}
use Rattle.core_tree.specs.Codes.{code, in_turn}
use Rattle.log_expr.specs.Courses.{only_running}
use Rattle.log_expr.proofs.BodyEnds.{body_walked}
use Rattle.log_expr.proofs.bodies.walk_body.Goals as goal

pub returns : goal.returns
returns g c = body_walked c.as_slice.ensures (c.begin-course.ensures ∙ ap only_running c.in_ok-starts.ensures) c.in_ok-walk_codes.ensures
    c.into_flow.ensures c.in_ok-ends.ensures
