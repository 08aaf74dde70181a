use Rattle.std.proofs.Common.{◌∙◌, ap, Err}
use Rattle.config_text.proofs.reading.is_refused.Goals as goal
use Rattle.config_text.proofs.reading.is_refused.Goals.{in-Ok, in-Err-BadPattern, in-Err-Memory}

pub returns : goal.returns
returns c = elim c.match-new.branch [
  | in-Ok w ↦ rw w.result-is (w.in-Ok.field-0, w.in-Ok.ensures.read)
  | in-Err-BadPattern w ↦ rw w.result-is (c.new.ensures.bad (w.in-Err-BadPattern.is ∙ ap Err w.in-Err-BadPattern.field-0-is))
  | in-Err-Memory w ↦ rw w.result-is tt
]
