use Rattle.path_forms.proofs.WaitLemmas.{meets_by}
use Rattle.path_forms.proofs.sides.meet_waiting.Goals as goal

pub meet-requires-clause-yes : goal.meet-requires-clause-yes
meet-requires-clause-yes c = c.requires.waits.last c.pop.new.self c.in-Some.field-0 c.in-Some.ensures

pub meet-requires-clause-no : goal.meet-requires-clause-no
meet-requires-clause-no c = rw c.replace-now.ensures.value c.requires.ready

pub returns : goal.returns
returns c =
    let done = rw c.replace-now.ensures.value at c.in_ok-met.ensures in
    meets_by _ _ c.args.walked.now _ c.args.waiting.now c.pop.new.self c.in-Some.field-0 c.in-Some.ensures done
