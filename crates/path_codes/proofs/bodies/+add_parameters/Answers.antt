use Rattle.std.proofs.Common.{rules, ◌≡◌, ◌∷◌}
use Rattle.path_codes.proofs.Functions.{frames_more}
use Rattle.path_codes.proofs.bodies.+add_parameters.Goals as goal

pub returns-in_ok-add_parameters-in-Some : goal.returns-in_ok-add_parameters-in-Some
returns-in_ok-add_parameters-in-Some t c =
    let split : c.args.parameters.now ≡ c.in-Some.parameter.now ∷ c.in-Some.rest.now = search rules in
    rw split
    (frames_more c.in-Some.parameter.now c.in-Some.rest.now c.args.offset c.in_ok-next-in-Some.next c.size_of-size.result c.args.all.now _ _
    c.size_of-size.ensures c.in_ok-next-in-Some.ensures c.in_ok-push-in-Some.ensures.ok c.in_ok-add_parameters-in-Some.ensures)
