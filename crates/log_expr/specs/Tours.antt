-- A program within bounds along a log.
use Rattle.std.specs.Prelude.{ℕ, List}
use Rattle.plain_data.specs.declared.bounds.Bounds.{Bounds}
use Rattle.c_means.specs.Parts.{Limits}
use Rattle.c_means.specs.Units.{limits_of}
use Rattle.core_tree.specs.declared.program.Core.{Core}
use Rattle.log_expr.specs.declared.table.Entry.{Entry}

-- A program, a log, the bounds, and the end table of the program along the log.
pub record Tour : Type 0 where
  pub core : Core
  pub log : List ℕ
  pub limits : Limits
  pub depth : ℕ
  pub ends : List (List Entry)

abbrev pub tour_of : Core → List ℕ → Bounds → List (List Entry) → Tour
tour_of p log b ends = record { core = p; log = log; limits = limits_of b; depth = b.depth; ends = ends }
