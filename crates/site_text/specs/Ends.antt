-- Where prints of log calls can end along a log, line by line.
use Rattle.std.specs.Prelude.{◌≡◌, ◌+◌, ℕ, true, nat_lt, List, [], ◌∷◌, ◌++◌, codes}
use Rattle.std.specs.List.{filter, flat_map}
use Rattle.printf_text.specs.declared.piece.Piece.{Piece}
use Rattle.printf_text.specs.Pieces.{pieces_of}
use Rattle.log_text.specs.Lines.{line_starts}
use Rattle.positions.specs.Sets.{ascends}
use Rattle.format_match.specs.Spelled.{EndsExactly}
use Rattle.c_language.specs.PlaceTables.{PlaceTable}
use Rattle.c_means.specs.Calls.{newline_if, pieces_or_none}
use Rattle.c_notes.specs.declared.calls.LogFormat.{LogFormat}
use Rattle.report_text.specs.Numbers.{Text, count_text}
use Rattle.report_text.specs.FactTexts.{at_text}
use Rattle.source_sites.specs.declared.listing.Site.{Site}

-- the pieces of a format, with the newline that is added
abbrev pub pieces_in : LogFormat → List Piece
pieces_in format = pieces_or_none (pieces_of format.bytes) ++ newline_if format.newline

-- ---- one line

abbrev pub position_text : ℕ → Text
position_text position = count_text (codes " ") position

-- of this log call and this line of the log, from 1, the positions at which a print that begins the line can end
abbrev pub match_line : PlaceTable → ℕ → ℕ → List ℕ → Text
match_line places at number positions =
    codes "match " ++ (at_text places at ++ (count_text (codes " line ") number
    ++ (codes " ends" ++ (flat_map position_text positions ++ codes "\n"))))

-- where there is one
abbrev pub match_if : PlaceTable → ℕ → ℕ → List ℕ → Text
match_if places at number [] = []
match_if places at number (position ∷ positions) = match_line places at number (position ∷ positions)

-- the line on a line of the log, given by its number and first position: exactly the ends above that position that some
-- arguments reach, in ascending order
pub record IsLineText (places : PlaceTable) (log : List ℕ) (at : ℕ) (pieces : List Piece) (line : ℕ × ℕ) (text : Text) : Type 0 where
  pub ends : List ℕ
  pub ordered : ascends ends ≡ true
  pub exact : EndsExactly pieces log line.1 ends
  pub is : text ≡ match_if places at line.0 (filter (nat_lt line.1) ends)

-- ---- one behind the other

-- the texts of a list's items, each of which is one of its item
abbrev pub AreTexts : {A : Type 0} → (A → Text → Type 0) → List A → Text → Type 0
AreTexts P [] text = text ≡ []
AreTexts P (x ∷ xs) text = (head : Text) × ((rest : Text) × (P x head × (AreTexts P xs rest × (text ≡ head ++ rest))))

-- lines of a log by their first positions, numbered from this one on
abbrev pub numbered : ℕ → List ℕ → List (ℕ × ℕ)
numbered number [] = []
numbered number (start ∷ starts) = (number, start) ∷ numbered (number + 1) starts

-- the lines of a log call of these pieces, in the order of the log's lines
abbrev pub AreLineTexts : PlaceTable → List ℕ → ℕ → List Piece → Text → Type 0
AreLineTexts places log at pieces text = AreTexts (IsLineText places log at pieces) (numbered 1 (line_starts log)) text

abbrev pub IsSiteText : PlaceTable → List ℕ → Site → Text → Type 0
IsSiteText places log site text = AreLineTexts places log site.at (pieces_in site.format) text

-- ---- as they are put

-- a text of this kind was put at the end
pub record Adds (P : Text → Type 0) (old now : Text) : Type 0 where
  pub added : Text
  pub just : P added
  pub is : now ≡ old ++ added
