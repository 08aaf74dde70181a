use Rattle.std.proofs.Common.{◌∙◌}
use Rattle.path_forms.proofs.Evaluated.{evaluates_or}
use Rattle.path_forms.proofs.Reached.{ready_grown}
use Rattle.path_forms.proofs.WaitLemmas.{waits_ready}
use Rattle.path_values.proofs.FormLemmas.{evaluated, starts_on}
use Rattle.path_values.proofs.below.Below.either.Goals as goal

pub value-requires-2-clause-starts : goal.value-requires-2-clause-starts
value-requires-2-clause-starts g c =
    let taken = c.in_ok-take_no.ensures in
    starts_on _ _ _ _ _ c.in_ok-behind.ensures.evaluated.starts taken.branches.grows taken.ready

pub close_or-requires-clause-waits : goal.close_or-requires-clause-waits
close_or-requires-clause-waits g c =
    let taken = c.in_ok-take_no.ensures in
    waits_ready _ _ _ taken.last (c.in_ok-next.ensures.same ∙ taken.waits)
    (ready_grown _ _ _ c.in_ok-next.ensures.evaluated.evaluates.reach.grows taken.branches.ready)

pub returns-clause-same : goal.returns-clause-same
returns-clause-same g c =
    let taken = c.in_ok-take_no.ensures in
    let closed = c.in_ok-close_or.ensures.closes _ taken.last (c.in_ok-next.ensures.same ∙ taken.waits) in
    closed.0 ∙ c.in_ok-behind.ensures.same

pub returns-clause-evaluated : goal.returns-clause-evaluated
returns-clause-evaluated g c =
    let taken = c.in_ok-take_no.ensures in
    let closed = c.in_ok-close_or.ensures.closes _ taken.last (c.in_ok-next.ensures.same ∙ taken.waits) in
    evaluated _ _ _ _ _ _ _ _ _ _ _ c.requires.starts
    (evaluates_or _ _ _ _ _ _ _ _ _ _ _ _ _ _ _ _ c.in_ok-behind.ensures.evaluated.evaluates c.args.at _ taken.branches
    c.in_ok-next.ensures.evaluated.evaluates _ closed.1)
