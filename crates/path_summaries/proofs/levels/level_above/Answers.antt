use Rattle.log_expr.specs.Tours.{tour_of}
use Rattle.path_summaries.proofs.Levelling.{based}
use Rattle.path_summaries.proofs.levels.level_above.Goals as goal

pub level_on-requires : goal.level_on-requires
level_on-requires c =
    let a = c.args in
    let t = tour_of a.core.now a.log.now a.bounds.now a.ends.now in
    rw c.as_slice.ensures (based t a.bank.now a.left a.below.now c.requires.sound c.requires.below)
