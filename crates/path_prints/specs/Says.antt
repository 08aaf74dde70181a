-- What the pieces of a format make of a run: each takes its text at the position behind the last one.
use Rattle.std.specs.Prelude.{◌≡◌, ◌≤◌, ◌-◌, ℕ, List, [], ◌∷◌, ◌++◌, Bool, true, false, cond, Option, Some, None, length, take, drop}
use Rattle.printf_text.specs.declared.piece.Piece.{Piece}
use Rattle.printf_text.specs.declared.piece.Piece.TheVariants.{Literal, Converted}
use Rattle.printf_text.specs.Texts.{piece_kinds, piece_text}
use Rattle.format_match.specs.Reading.{is_integer}
use Rattle.format_match.specs.Splits.{meet_all}
use Rattle.format_match.specs.declared.split.Split.{Split}
use Rattle.core_tree.specs.States.{along}
use Rattle.term_bank.specs.declared.shape.Shape.{Shape}
use Rattle.term_bank.specs.Values.{Environment, Values, Models, Grows}
use Rattle.path_states.specs.declared.state.Number.{Number}
use Rattle.path_states.specs.declared.state.State.{State}
use Rattle.path_states.specs.States.{Held, AreStates, run_in, standing}
use Rattle.path_states.specs.Ways.{Way, Goes, ◌>>=◌}
use Rattle.path_prints.specs.Arguments.{args_in}

-- bytes that stand for themselves, or an integer that is converted
abbrev pub takes_integers : Piece → Bool
takes_integers (Literal bytes) = true
takes_integers (Converted c) = is_integer c.form

-- a run at this position, if there is one
abbrev pub at_position : Held → Option ℕ → Option Held
at_position h None = None
at_position h (Some o) = Some (record h { done = record h.done { out = o } })

abbrev pub moved_to : ℕ → Held → Held
moved_to o h = record h { done = record h.done { out = o } }

-- a piece with these arguments
abbrev pub piece_way : List ℕ → Piece → List Number → Way
piece_way log p xs e v h = at_position h ((along log).take_text (piece_text p (args_in v xs)) h.done.out)

-- pieces that take their arguments from the front
abbrev pub pieces_way : List ℕ → List Piece → List Number → Way
pieces_way log [] xs e v h = Some h
pieces_way log (p ∷ ps) xs e v h =
    piece_way log p (take (length (piece_kinds p)) xs) e v h >>= pieces_way log ps (drop (length (piece_kinds p)) xs) e v

-- there are arguments for all pieces, and they are integers
abbrev pub AreIntegers : List Piece → ℕ → Type 0
AreIntegers [] n = Unit {0}
AreIntegers (p ∷ ps) n = (takes_integers p ≡ true) × (length (piece_kinds p) ≤ n) × AreIntegers ps (n - length (piece_kinds p))

pub record SaysAll (a b : List Shape) (log : List ℕ) (ps : List Piece) (xs : List Number) (ss ts : List State) : Type 0 where
  pub integers : AreIntegers ps (length xs)
  pub states : AreStates b ts
  pub grows : Grows a b
  pub goes : (room : ℕ) → Goes room a b ss ts (pieces_way log ps xs)

-- ---- one split

-- what the state at an end says, where its guard is true and the arguments meet the split
abbrev pub met_in : Values → State → List Number → Split → List Held
met_in v s xs w =
    cond (cond (v s.guard.index).truth (meet_all w.constraints (args_in v xs)) false) (moved_to w.end (run_in v s) ∷ []) []

abbrev pub all_met_in : Values → State → List Number → List Split → List Held
all_met_in v s xs [] = []
all_met_in v s xs (w ∷ ws) = met_in v s xs w ++ all_met_in v s xs ws

pub record PutsSplit (a b : List Shape) (s : State) (w : Split) (xs : List Number) (before after : List State) : Type 0 where
  pub grows : Grows a b
  pub states : AreStates b after
  pub stand : (e : Environment) (v : Values) → Models b e v → standing v after ≡ standing v before ++ met_in v s xs w

-- the states behind all splits
pub record PutsSplits (a b : List Shape) (s : State) (xs : List Number) (ws : List Split) (ts : List State) : Type 0 where
  pub grows : Grows a b
  pub states : AreStates b ts
  pub stand : (e : Environment) (v : Values) → Models b e v → standing v ts ≡ all_met_in v s xs ws

-- a piece of some states
pub record SaysEach (a b : List Shape) (log : List ℕ) (p : Piece) (xs : List Number) (ss ts : List State) : Type 0 where
  pub goes : (room : ℕ) → Goes room a b ss ts (piece_way log p xs)
