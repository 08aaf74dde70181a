-- Cores that run the same.
use Rattle.std.specs.Prelude.{◌≡◌, ℕ, List}
use Rattle.c_means.specs.Parts.{World, Limits}
use Rattle.core_tree.specs.declared.program.Core.{Core}
use Rattle.core_tree.specs.Fits.{run_along}
use Rattle.core_tree.specs.Programs.{machine, run_of, room_of, unrolled_size}
use Rattle.core_tree.specs.States.{plain}

-- In every world and limits, and to every depth, one does what the other does: what it prints, what happens, and how it
-- ends, and so along every log. It takes as many places, and unrolls to as many nodes.
pub record RunsAs (p q : Core) : Type 0 where
  pub run : (w : World) (limits : Limits) (depth : ℕ) → run_of p w limits depth ≡ run_of q w limits depth
  pub along : (log : List ℕ) (w : World) (limits : Limits) (depth : ℕ)
      → run_along log p w limits depth ≡ run_along log q w limits depth
  pub room : (w : World) (limits : Limits) (depth : ℕ)
      → room_of (machine plain p w limits depth) ≡ room_of (machine plain q w limits depth)
  pub size : (w : World) (limits : Limits) (depth : ℕ)
      → unrolled_size (machine plain p w limits depth) ≡ unrolled_size (machine plain q w limits depth)
