use Rattle.c_item_notes.specs.Levels.{judged}
use Rattle.acceptance.proofs.Keeping.{judged_ok}
use Rattle.acceptance.proofs.accepting.judged_by.Goals as goal

pub returns : goal.returns
returns c = judged_ok (judged c.args.source.now) c.why_refused.result c.why_refused.ensures
