-- What is found of a format's pieces along a log.
use Rattle.std.specs.Prelude.{◌≡◌, ℕ, List, [], ◌∷◌, Option, Some, slice_get, ⊤, ◌⊎◌}
use Rattle.printf_text.specs.declared.piece.Conversion.{Conversion}
use Rattle.printf_text.specs.declared.piece.Piece.{Piece}
use Rattle.printf_text.specs.declared.piece.Piece.TheVariants.{Literal, Converted}
use Rattle.format_match.specs.Spelled.{EndsBehind, EndsExactly}
use Rattle.format_ends.specs.Reached.{AreStarts, StandExactly, reached}
use Rattle.format_ends.specs.declared.texts.Texts.{Texts}
use Rattle.format_ends.specs.declared.parts.Part.{Part}
use Rattle.format_ends.specs.declared.ending.FormatEnds.{FormatEnds}
use Rattle.format_ends.specs.declared.ending.Reached.{Reached}

-- where texts may begin, by the positions that they reach, and all positions
pub record AreTexts (log : List ℕ) (texts : Texts) : Type 0 where
  pub starts : AreStarts log texts.starts.items
  pub all : StandExactly [] log texts.all

-- what is known by position are exactly the ends of the conversion that begins there
abbrev pub KnowsEnds : Conversion → List ℕ → List (Option (List ℕ)) → Type 0
KnowsEnds c log known =
    (from : ℕ) (ends : List ℕ) → slice_get known from ≡ Some (Some ends) → EndsExactly (Converted c ∷ []) log from ends

-- it was known before, or these are the ends at this position
abbrev pub IsKept : List (Option (List ℕ)) → ℕ → List ℕ → ℕ → List ℕ → Type 0
IsKept known at ends from got = (slice_get known from ≡ Some (Some got)) ⊎ ((from ≡ at) × (got ≡ ends))

-- where a literal stands, or where a conversion ends
abbrev pub IsPart : Piece → List ℕ → Part → Type 0
IsPart (Literal bytes) log part = StandExactly bytes log part.stops
IsPart (Converted c) log part = KnowsEnds c log part.known

-- one for each piece
abbrev pub AreParts : List Piece → List ℕ → List Part → Type 0
AreParts [] log [] = ⊤
AreParts (piece ∷ pieces) log (part ∷ parts) = IsPart piece log part × AreParts pieces log parts
AreParts _ log _ = ⊥

-- made ready for a format of these pieces and for this log
pub record IsReadyFor (pieces : List Piece) (log : List ℕ) (format : FormatEnds) : Type 0 where
  pub texts : AreTexts log format.texts
  pub parts : AreParts pieces log format.parts.items

-- ---- from one piece to the next

abbrev pub positions_of : List ℕ → Reached → List ℕ
positions_of log from = reached log from.text from.before

-- the piece leads from these positions to exactly those
abbrev pub LeadsTo : Piece → List ℕ → Reached → Reached → Type 0
LeadsTo piece log from ends = EndsBehind piece log (positions_of log from) (positions_of log ends)
