use Rattle.std.proofs.Common.{◌≡◌, ◌+◌, ◌*◌}
use Rattle.core_tree.specs.Codes.{code, rounds_from}
use Rattle.core_tree.specs.Values.{value}
use Rattle.core_running.specs.Frames.{env_of}
use Rattle.core_running.specs.Running.{done, Low}
use Rattle.core_running.specs.Settings.{level}
use Rattle.run_codes.proofs.below.Steps.rounds.Given as goal

abbrev pub invariant-rounds : goal.invariant-rounds
invariant-rounds g l = record {
  world : l.m.world ≡ l.fn.m.world;
  env : env_of l.frame ≡ env_of l.fn.frame;
  low : Low l.next ((l.left + 1) * l.whole);
  runs : rounds_from l.at (code l.body) (value l.test) (level (g.L.Scene.setting l.self.scene.now))
      (env_of l.fn.frame) l.left l.next (done l.m)
      ≡ rounds_from l.at (code l.body) (value l.test) (level (g.L.Scene.setting l.self.scene.now))
      (env_of l.fn.frame) (g.L.Scene.setting l.self.scene.now).measures.turns l.base (done l.fn.m);
}

abbrev pub decreases-rounds : goal.decreases-rounds
decreases-rounds g l = l.left
