-- How many nodes the functions of a program unroll to, by how many levels of calls are left.
use Rattle.std.specs.Prelude.{◌≡◌, ℕ, zero, suc, List, unwrap_or, slice_get}
use Rattle.plain_data.specs.declared.bounds.Bounds.{Bounds}
use Rattle.c_means.specs.Units.{limits_of, silent}
use Rattle.core_tree.specs.declared.program.Core.{Core}
use Rattle.core_tree.specs.declared.program.Function.{Function}
use Rattle.core_tree.specs.Programs.{Machine, machine, measures_of, size_by, body_of, body_size}
use Rattle.core_tree.specs.States.{Output, plain}
use Rattle.core_sizes.specs.Nodes.{capped}

-- a program within bounds, in the world that gives 0 everywhere: no size asks for the world
abbrev pub silent_machine : Core → Bounds → Machine Output
silent_machine p b = machine plain p silent (limits_of b) b.depth

-- of the function of this number, where it is called
abbrev pub sizes_at : Machine Output → ℕ → ℕ → ℕ
sizes_at m zero g = 0
sizes_at m (suc n) g = size_by (measures_of m n) (m.body g)

abbrev pub size_in : List ℕ → ℕ → ℕ
size_in row g = unwrap_or (slice_get row g) 0

-- a row of sizes by function has them
abbrev pub HoldsSizes : Machine Output → ℕ → List ℕ → Type 0
HoldsSizes m n row = (g : ℕ) → size_in row g ≡ capped (sizes_at m n g)

-- of a function with so many levels left below it
abbrev pub size_over : Machine Output → ℕ → Function → ℕ
size_over m n f = capped (body_size {O = Output} (body_of f) (measures_of m n f))
