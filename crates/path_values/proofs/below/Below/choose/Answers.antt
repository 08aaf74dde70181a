use Rattle.std.proofs.Common.{◌∙◌}
use Rattle.path_forms.proofs.Evaluated.{evaluates_choose}
use Rattle.path_forms.proofs.Reached.{ready_grown}
use Rattle.path_forms.proofs.WaitLemmas.{waits_ready}
use Rattle.path_values.proofs.FormLemmas.{evaluated, starts_on}
use Rattle.path_values.proofs.below.Below.choose.Goals as goal

pub value-requires-2-clause-starts : goal.value-requires-2-clause-starts
value-requires-2-clause-starts g c =
    let taken = c.in_ok-take_yes.ensures in
    starts_on _ _ _ _ _ c.in_ok-first.ensures.evaluated.starts taken.branches.grows taken.ready

pub change-requires-clause-waits : goal.change-requires-clause-waits
change-requires-clause-waits g c =
    let taken = c.in_ok-take_yes.ensures in
    waits_ready _ _ _ taken.last (c.in_ok-second.ensures.same ∙ taken.waits)
    (ready_grown _ _ _ c.in_ok-second.ensures.evaluated.evaluates.reach.grows taken.branches.other)

pub value-requires-3-clause-starts : goal.value-requires-3-clause-starts
value-requires-3-clause-starts g c =
    let taken = c.in_ok-take_yes.ensures in
    let changed = c.in_ok-change.ensures.changes _ taken.last (c.in_ok-second.ensures.same ∙ taken.waits) in
    starts_on _ _ _ _ _ c.in_ok-second.ensures.evaluated.starts changed.1.grows c.in_ok-change.ensures.ready

pub meet_waiting-requires-clause-waits : goal.meet_waiting-requires-clause-waits
meet_waiting-requires-clause-waits g c =
    let taken = c.in_ok-take_yes.ensures in
    let changed = c.in_ok-change.ensures.changes _ taken.last (c.in_ok-second.ensures.same ∙ taken.waits) in
    waits_ready _ _ _ c.in_ok-change.ensures.last (c.in_ok-next.ensures.same ∙ changed.0)
    (ready_grown _ _ _ c.in_ok-next.ensures.evaluated.evaluates.reach.grows changed.1.first)

pub returns-clause-same : goal.returns-clause-same
returns-clause-same g c =
    let taken = c.in_ok-take_yes.ensures in
    let changed = c.in_ok-change.ensures.changes _ taken.last (c.in_ok-second.ensures.same ∙ taken.waits) in
    let met = c.in_ok-meet_waiting.ensures.meets _ c.in_ok-change.ensures.last (c.in_ok-next.ensures.same ∙ changed.0) in
    met.0 ∙ c.in_ok-first.ensures.same

pub returns-clause-evaluated : goal.returns-clause-evaluated
returns-clause-evaluated g c =
    let taken = c.in_ok-take_yes.ensures in
    let changed = c.in_ok-change.ensures.changes _ taken.last (c.in_ok-second.ensures.same ∙ taken.waits) in
    let met = c.in_ok-meet_waiting.ensures.meets _ c.in_ok-change.ensures.last (c.in_ok-next.ensures.same ∙ changed.0) in
    evaluated _ _ _ _ _ _ _ _ _ _ _ c.requires.starts
    (evaluates_choose _ _ _ _ _ _ _ _ _ _ _ _ _ _ _ _ _ _ _ _ _ _ _ _ _ c.in_ok-first.ensures.evaluated.evaluates
    taken.branches c.in_ok-second.ensures.evaluated.evaluates changed.1 c.in_ok-next.ensures.evaluated.evaluates met.1)
