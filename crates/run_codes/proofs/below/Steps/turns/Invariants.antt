use Rattle.std.proofs.Common.{◌≡◌, ◌+◌, ◌*◌, option_map}
use Rattle.core_tree.specs.Codes.{code, turns_from}
use Rattle.core_tree.specs.Values.{value}
use Rattle.core_running.specs.Frames.{env_of}
use Rattle.core_running.specs.Running.{done, Low}
use Rattle.core_running.specs.Settings.{level}
use Rattle.run_codes.specs.Turns.{step_of}
use Rattle.run_codes.proofs.below.Steps.turns.Given as goal

abbrev pub invariant-turns : goal.invariant-turns
invariant-turns g l = record {
  world : l.m.world ≡ l.fn.m.world;
  env : env_of l.frame ≡ env_of l.fn.frame;
  low : Low l.next ((l.left + 1) * l.rooms.whole);
  runs : turns_from l.at (option_map value l.test) (code l.body) (step_of l.step)
      (level (g.L.Scene.setting l.self.scene.now)) (env_of l.fn.frame) l.left l.next (done l.m)
      ≡ turns_from l.at (option_map value l.test) (code l.body) (step_of l.step)
      (level (g.L.Scene.setting l.self.scene.now)) (env_of l.fn.frame)
      (g.L.Scene.setting l.self.scene.now).measures.turns l.base (done l.fn.m);
}

abbrev pub decreases-turns : goal.decreases-turns
decreases-turns g l = l.left
