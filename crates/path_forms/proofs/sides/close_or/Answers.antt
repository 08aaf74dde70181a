use Rattle.path_forms.proofs.WaitLemmas.{closes_or}
use Rattle.path_forms.proofs.sides.close_or.Goals as goal

pub close-requires-clause-yes : goal.close-requires-clause-yes
close-requires-clause-yes c = c.requires.waits.last c.pop.new.self c.in-Some.field-0 c.in-Some.ensures

pub close-requires-clause-no : goal.close-requires-clause-no
close-requires-clause-no c = rw c.replace-now.ensures.value c.requires.ready

pub returns : goal.returns
returns c =
    let done = rw c.replace-now.ensures.value at c.in_ok-closed.ensures in
    closes_or _ _ c.args.walked.now _ c.args.waiting.now c.pop.new.self c.in-Some.field-0 c.in-Some.ensures c.args.room done
