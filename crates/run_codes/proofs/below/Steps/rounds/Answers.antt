use Rattle.std.proofs.Common.{◌∙◌, arith}
use Rattle.core_tree.specs.Codes.{code, rounds_from}
use Rattle.core_tree.specs.Values.{value}
use Rattle.core_running.specs.Frames.{env_of}
use Rattle.core_running.specs.Settings.{level}
use Rattle.run_codes.proofs.Turning.{one_less, last_one, low_next}
use Rattle.run_codes.proofs.below.Steps.rounds.Goals as goal

pub rounds-preserved : goal.rounds-preserved
rounds-preserved g c = record {
  world = c.in_ok-goes_on.ensures.world ∙ c.rounds.invariant.world;
  env = c.in_ok-goes_on.ensures.env ∙ c.rounds.invariant.env;
  low = low_next c.rounds.next c.rounds.left c.args.whole (omega arith) c.rounds.invariant.low;
  runs = one_less (λ v n. rounds_from c.args.at (code c.args.body.now) (value c.args.test.now)
      (level (g.L.Scene.setting c.args.self.now.scene.now)) v n) (env_of c.args.frame.now)
      (env_of c.rounds.frame) c.rounds.left c.rounds.next c.args.whole _ _ _ (omega arith) c.rounds.invariant.env
      (rw c.if-not-goes_on.false at c.in_ok-goes_on.ensures.turns) c.rounds.invariant.runs;
}
