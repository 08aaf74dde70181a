use Rattle.std.proofs.Common.{sym, ◌∙◌}
use Rattle.log_expr.specs.Tours.{tour_of}
use Rattle.path_summaries.proofs.Answering.{turns_are}
use Rattle.path_summaries.proofs.level.LevelCalls.turns.Goals as goal

pub returns : goal.returns
returns c =
    let l = c.args.self.now in
    c.turns_in.ensures ∙ sym (turns_are (tour_of l.core.now l.log.now l.bounds.now l.ends.now) l.left l.function.now)
