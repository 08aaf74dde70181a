-- Where a format ends that spells a log from a position on, whatever its arguments are.
use Rattle.std.specs.Prelude.{◌≡◌, ◌||◌, ◌&&◌, ◌↔◌, ◌≤◌, ◌<◌, ℕ, zero, suc, nat_lt, nat_eq, not, Bool, true, false, List, length, slice_index}
use Rattle.printf_text.specs.declared.piece.Arg.{Arg}
use Rattle.printf_text.specs.declared.piece.Piece.{Piece}
use Rattle.printf_text.specs.declared.piece.Conversion.{Conversion}
use Rattle.printf_text.specs.declared.piece.Flags.{Flags}
use Rattle.printf_text.specs.declared.piece.Form.{Form}
use Rattle.printf_text.specs.declared.piece.Form.TheVariants.{Text}
use Rattle.printf_text.specs.declared.piece.Piece.TheVariants.{Literal, Converted}
use Rattle.printf_text.specs.declared.piece.Size.{Size}
use Rattle.printf_text.specs.declared.piece.Size.TheVariants.{Omitted}
use Rattle.printf_text.specs.Texts.{HaveKinds, kinds, piece_kinds, piece_text, text_of}
use Rattle.format_match.specs.Splits.{Spells}
use Rattle.positions.specs.Sets.{has}

-- some arguments of the pieces' kinds spell the log from one position to the other
pub record IsSpelled (pieces : List Piece) (log : List ℕ) (from end : ℕ) : Type 0 where
  pub args : List Arg
  pub have : HaveKinds (kinds pieces) args
  pub spells : Spells (text_of pieces args) log from end

-- exactly the ends that some arguments reach
abbrev pub EndsExactly : List Piece → List ℕ → ℕ → List ℕ → Type 0
EndsExactly pieces log from ends = (end : ℕ) → (has ends end ≡ true) ↔ IsSpelled pieces log from end

-- ---- piece by piece

-- some arguments of the piece's kinds spell the log from one position to the other
pub record IsPieceSpelled (piece : Piece) (log : List ℕ) (from end : ℕ) : Type 0 where
  pub args : List Arg
  pub have : HaveKinds (piece_kinds piece) args
  pub spells : Spells (piece_text piece args) log from end

-- the ends of a piece that begins at a position were put in
pub record AddsEnds (piece : Piece) (log : List ℕ) (from : ℕ) (old now : List ℕ) : Type 0 where
  pub added : List ℕ
  pub same : (y : ℕ) → has now y ≡ (has old y || has added y)
  pub exact : (end : ℕ) → (has added end ≡ true) ↔ IsPieceSpelled piece log from end

-- the piece ends here from one of these positions on
pub record IsBehind (piece : Piece) (log before : List ℕ) (end : ℕ) : Type 0 where
  pub from : ℕ
  pub begins : has before from ≡ true
  pub spelled : IsPieceSpelled piece log from end

-- exactly where the piece ends from some of these positions on
abbrev pub EndsBehind : Piece → List ℕ → List ℕ → List ℕ → Type 0
EndsBehind piece log before ends = (end : ℕ) → (has ends end ≡ true) ↔ IsBehind piece log before end

-- positions of a log
abbrev pub AreWithin : List ℕ → List ℕ → Type 0
AreWithin log before = (y : ℕ) → has before y ≡ true → y ≤ length log

-- ---- `%s` without width and precision

abbrev pub plain_text : Flags → Conversion
plain_text flags = record { flags = flags; width = Omitted; precision = Omitted; form = Text }

-- a byte of the log that a text may hold stands here
abbrev pub is_printed : List ℕ → ℕ → Bool
is_printed log n = nat_lt n (length log) && not (nat_eq (slice_index log n) 0)

-- a text that began at an earlier one of these positions may go on, or one begins here
abbrev pub goes_on : List ℕ → List ℕ → ℕ → Bool
goes_on before log zero = false
goes_on before log (suc n) = (goes_on before log n || has before n) && is_printed log n

abbrev pub may_end : List ℕ → List ℕ → ℕ → Bool
may_end before log n = goes_on before log n || has before n

abbrev pub is_text : Form → Bool
is_text Text = true
is_text _ = false

abbrev pub has_no_sizes : Size → Size → Bool
has_no_sizes Omitted Omitted = true
has_no_sizes _ _ = false

-- `%s` without width and precision
abbrev pub is_plain_text : Piece → Bool
is_plain_text (Literal bytes) = false
is_plain_text (Converted c) = has_no_sizes c.width c.precision && is_text c.form

-- all are below this number
abbrev pub AreBelow : ℕ → List ℕ → Type 0
AreBelow n before = (y : ℕ) → has before y ≡ true → y < n
