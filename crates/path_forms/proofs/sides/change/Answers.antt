use Rattle.path_forms.proofs.WaitLemmas.{changes_by}
use Rattle.path_forms.proofs.sides.change.Goals as goal

pub turn-requires-clause-yes : goal.turn-requires-clause-yes
turn-requires-clause-yes c = rw c.replace-now.ensures.value c.requires.ready

pub turn-requires-clause-no : goal.turn-requires-clause-no
turn-requires-clause-no c = c.requires.waits.last c.pop.new.self c.in-Some.field-0 c.in-Some.ensures

pub returns : goal.returns
returns c =
    let turned = rw c.replace-now.ensures.value at c.in_ok-first.ensures in
    changes_by _ _ c.args.walked.now _ c.args.waiting.now c.pop.new.self c.in-Some.field-0 c.in-Some.ensures c.push.new.self
    (record { side = c.in_ok-first.field-0.yes; ended = c.in_ok-first.field-0.ended }) c.in_ok-push.ensures.ok turned
