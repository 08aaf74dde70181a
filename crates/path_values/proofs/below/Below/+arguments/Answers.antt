use Rattle.std.proofs.Common.{◌≡◌, ◌∷◌}
use Rattle.std.proofs.lemmas.List.{nil_from_length}
use Rattle.path_values.proofs.FormLemmas.{none_evaluated, more_evaluated}
use Rattle.path_values.proofs.below.Below.+arguments.Goals as goal

pub returns-in-None-clause-evaluated : goal.returns-in-None-clause-evaluated
returns-in-None-clause-evaluated g t c =
    rw (nil_from_length c.args.items.now c.in-None.ensures.cases)
    (none_evaluated _ _ _ _ _ _ _ c.requires.starts)

pub returns-in_ok-next-in-Some-clause-evaluated : goal.returns-in_ok-next-in-Some-clause-evaluated
returns-in_ok-next-in-Some-clause-evaluated g t c =
    let split : c.args.items.now ≡ c.in-Some.first.now ∷ c.in-Some.rest.now = c.in-Some.ensures.cases.0 in
    let first = rw c.get.ensures at c.in_ok-behind-in-Some.ensures.evaluated in
    rw split (more_evaluated _ _ _ _ _ _ _ _ _ _ _ _ _ _ _ first c.in_ok-next-in-Some.ensures.evaluated)
