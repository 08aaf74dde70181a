use Rattle.path_codes.proofs.below.Steps.case.Goals as goal

pub returns : goal.returns
returns g c = λ more. rw c.at_case.ensures at (c.in_ok-coded.ensures more)
