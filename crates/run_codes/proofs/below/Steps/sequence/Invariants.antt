use Rattle.std.proofs.Common.{◌≡◌, ◌+◌, drop}
use Rattle.core_running.specs.Frames.{env_of}
use Rattle.core_running.specs.Running.{done}
use Rattle.core_running.specs.Settings.{level}
use Rattle.code_steps.specs.Blocks.{item_of}
use Rattle.code_steps.specs.Rooms.{items_room}
use Rattle.run_codes.proofs.below.Steps.sequence.Given as goal

abbrev pub invariant-loop-item : goal.invariant-loop-item
invariant-loop-item g l = record {
  world : l.m.world ≡ l.fn.m.world;
  env : env_of l.frame ≡ env_of l.fn.frame;
  next : l.next + items_room (g.L.Scene.setting l.self.scene.now) (drop l.item-index l.items)
      ≡ l.base + items_room (g.L.Scene.setting l.self.scene.now) l.items;
  runs : (item_of (drop l.item-index l.items)).run (level (g.L.Scene.setting l.self.scene.now)) (env_of l.fn.frame)
      l.next (done l.m)
      ≡ (item_of l.items).run (level (g.L.Scene.setting l.self.scene.now)) (env_of l.fn.frame) l.base (done l.fn.m);
}
