use Rattle.std.proofs.Common.{suc, ◌+◌, sym, ap, ◌∙◌, option_map, arith}
use Rattle.plain_data.specs.Worlds.{WorldTables}
use Rattle.c_means.specs.Units.{world_of}
use Rattle.core_tree.specs.Codes.{code, turns_from}
use Rattle.core_tree.specs.Values.{value}
use Rattle.core_running.specs.Frames.{env_of}
use Rattle.core_running.specs.Settings.{level}
use Rattle.run_codes.specs.Turns.{step_of}
use Rattle.run_codes.proofs.Turning.{turn_ends, turn_over, turn_none, one_less, last_one, low_part, low_next}
use Rattle.run_codes.proofs.below.Steps.turns.Goals as goal

pub turns-preserved : goal.turns-preserved
turns-preserved g c = record {
  world = c.in_ok-goes_on.ensures.world ∙ c.turns.invariant.world;
  env = c.in_ok-goes_on.ensures.env ∙ c.turns.invariant.env;
  low = low_next c.turns.next c.turns.left c.args.rooms.whole (omega arith) c.turns.invariant.low;
  runs = one_less (λ v n. turns_from c.args.at (option_map value c.args.test.now) (code c.args.body.now)
      (step_of c.args.step.now) (level (g.L.Scene.setting c.args.self.now.scene.now)) v n) (env_of c.args.frame.now)
      (env_of c.turns.frame) c.turns.left c.turns.next c.args.rooms.whole _ _ _ (omega arith) c.turns.invariant.env
      (rw c.if-not-goes_on.false at c.in_ok-goes_on.ensures.turns) c.turns.invariant.runs;
}

pub returns-then-not-goes_on-clause-runs : goal.returns-then-not-goes_on-clause-runs
returns-then-not-goes_on-clause-runs g c =
    last_one (λ v n. turns_from c.args.at (option_map value c.args.test.now) (code c.args.body.now)
    (step_of c.args.step.now) (level (g.L.Scene.setting c.args.self.now.scene.now)) v n) (env_of c.args.frame.now)
    (env_of c.turns.frame) c.turns.left c.turns.next _ _ _ (omega arith) c.turns.invariant.env
    (rw c.if-not-goes_on.true at c.in_ok-goes_on.ensures.turns) c.turns.invariant.runs
