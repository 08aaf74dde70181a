use Rattle.path_states.proofs.Growth.{states_grown}
use Rattle.table_rows.proofs.observations.put_each.Goals as goal

pub watches-preserved : goal.watches-preserved
watches-preserved c = states_grown c.in_ok-seen.ensures.grows c.args.formula.now.states c.watches.invariant
