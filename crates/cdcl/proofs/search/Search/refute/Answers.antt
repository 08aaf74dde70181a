use Rattle.std.proofs.Common.{◌∙◌, refl}
use Rattle.cdcl.proofs.Lessons.{refuted, refuted-tidy}
use Rattle.cdcl.proofs.Searching.{reasoned-root}
use Rattle.cdcl.proofs.search.Search.refute.Goals as goal

pub returns-clause-refutes : goal.returns-clause-refutes
returns-clause-refutes c = refuted c.args.self.now.clauses c.from_steps.result (record {
  moved = c.in_ok-steps.steps;
  final = record { clause = c.deref-2.result.now; hints = c.deref-3.result.now };
  ids = c.in_ok-lesson.lesson.hints.items;
  learnt = c.requires.learnt;
  moved_is = rw (c.len-given.ensures, c.len-listed.ensures) at c.in_ok-steps.ensures;
  whole = c.from_steps.ensures ∙ c.in_ok-push.ensures.ok;
  empty = c.deref-2.ensures.value ∙ c.in_ok-lesson.ensures.empty refl (reasoned-root c.args.self.now.trail.entries.items c.args.self.now.trail.level c.requires.trail.have_levels c.requires.root);
  hints = c.deref-3.ensures.value ∙ rw (c.deref.ensures.value, c.len-given.ensures, c.len-listed.ensures) at c.in_ok-hints.ensures;
  valid = rw c.deref-2.ensures.value c.in_ok-lesson.ensures.valid;
})

pub returns-clause-tidy : goal.returns-clause-tidy
returns-clause-tidy c = refuted-tidy c.args.self.now.clauses c.from_steps.result (record {
  moved = c.in_ok-steps.steps;
  final = record { clause = c.deref-2.result.now; hints = c.deref-3.result.now };
  ids = c.in_ok-lesson.lesson.hints.items;
  learnt = c.requires.learnt;
  moved_is = rw (c.len-given.ensures, c.len-listed.ensures) at c.in_ok-steps.ensures;
  whole = c.from_steps.ensures ∙ c.in_ok-push.ensures.ok;
  empty = c.deref-2.ensures.value ∙ c.in_ok-lesson.ensures.empty refl (reasoned-root c.args.self.now.trail.entries.items c.args.self.now.trail.level c.requires.trail.have_levels c.requires.root);
  hints = c.deref-3.ensures.value ∙ rw (c.deref.ensures.value, c.len-given.ensures, c.len-listed.ensures) at c.in_ok-hints.ensures;
  valid = rw c.deref-2.ensures.value c.in_ok-lesson.ensures.valid;
})
