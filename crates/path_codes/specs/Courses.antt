-- Runs of which some are over, and the others go on.
use Rattle.std.specs.Prelude.{◌≡◌, ℕ, ℤ, List, ◌++◌}
use Rattle.core_tree.specs.States.{Done, Arrow, onward}
use Rattle.term_bank.specs.declared.shape.Shape.{Shape}
use Rattle.term_bank.specs.Values.{Environment, Values}
use Rattle.path_states.specs.declared.state.State.{State}
use Rattle.path_states.specs.States.{Held}
use Rattle.path_states.specs.Ways.{Way, Goes, to_list, ◌>>=◌}
use Rattle.path_steps.specs.Operands.{top}
use Rattle.path_arrows.specs.Arrows.{bared, by_arrow}

-- an arrow with the value on top
abbrev pub on_top : (Environment → ℤ → Arrow ℕ) → Way
on_top f e v h = bared (f e (top h.operands) h.done)

-- Some states became these: the first are over, and where the others go on by what is left, all are what the whole makes.
pub record Splits (room : ℕ) (a b : List Shape) (ss ended going : List State) (rest whole : Way) : Type 0 where
  pub over_way : Way
  pub on_way : Way
  pub over : Goes room a b ss ended over_way
  pub on : Goes room a b ss going on_way
  pub leads : (e : Environment) (v : Values) (h : Held)
      → to_list (over_way e v h) ++ to_list (on_way e v h >>= rest e v) ≡ to_list (whole e v h)

-- what is left, behind what was done, is the whole
pub record Toward (room : ℕ) (a b : List Shape) (ss ts : List State) (rest whole : Environment → Arrow ℕ) : Type 0 where
  pub arrow : Environment → Arrow ℕ
  pub goes : Goes room a b ss ts (by_arrow arrow)
  pub leads : (e : Environment) (d : Done ℕ) → onward (arrow e d) (rest e) ≡ whole e d
