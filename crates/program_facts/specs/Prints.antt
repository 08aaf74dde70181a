-- In which lines of a log prints of a site can begin.
use Rattle.std.specs.Prelude.{◌≡◌, ◌↔◌, ◌<◌, ◌||◌, ◌++◌, ◌∷◌, [], ℕ, zero, suc, nat_eq, true, List, map, slice_get, Option, Some, None}
use Rattle.plain_data.specs.declared.fact.Fact.TheVariants as fact
use Rattle.plain_data.specs.declared.fact.Facts.{Facts}
use Rattle.printf_text.specs.declared.piece.Piece.{Piece}
use Rattle.log_text.specs.Lines.{line_of}
use Rattle.positions.specs.Sets.{has, ascends}
use Rattle.format_match.specs.Spelled.{IsSpelled}
use Rattle.core_tree.specs.declared.expr.Watched.{Watched as Variable}
use Rattle.core_marks.specs.declared.mark.Site.{Site}
use Rattle.program_facts.specs.Entries.{Entry, with_all}

-- some arguments of the format's kinds make it spell a stretch of the log that begins in this line and isn't empty
pub record IsPrintedIn (pieces : List Piece) (log : List ℕ) (line : ℕ) : Type 0 where
  pub from : ℕ
  pub end : ℕ
  pub some : from < end
  pub spelled : IsSpelled pieces log from end
  pub begins : line_of log from ≡ line

-- exactly these lines, in order
pub record AreLinesOf (pieces : List Piece) (log : List ℕ) (lines : List ℕ) : Type 0 where
  pub ordered : ascends lines ≡ true
  pub exact : (line : ℕ) → (has lines line ≡ true) ↔ IsPrintedIn pieces log line

-- a print in each line, of which each watches the site's variables
abbrev pub print_entries : ℕ → List Variable → List ℕ → List Entry
print_entries at shown lines = map (λ line. record { fact = fact.Print at line; shown = shown }) lines

-- the facts of a site's prints, by line
pub record ArePrintsOf (log : List ℕ) (site : Site) (entries : List Entry) : Type 0 where
  pub lines : List ℕ
  pub are : AreLinesOf site.pieces log lines
  pub is : entries ≡ print_entries site.at site.watched lines

-- ---- as they are found

pub record PutsPrints (log : List ℕ) (site : Site) (old now : Facts) : Type 0 where
  pub entries : List Entry
  pub are : ArePrintsOf log site entries
  pub is : now ≡ with_all old entries

-- the line of each position below this one
abbrev pub line_table : List ℕ → ℕ → List ℕ
line_table log zero = []
line_table log (suc n) = line_table log n ++ line_of log n ∷ []

-- a line was put in among others, if there is one
abbrev pub PutsLine : Option ℕ → List ℕ → List ℕ → Type 0
PutsLine None old now = now ≡ old
PutsLine (Some line) old now = (y : ℕ) → has now y ≡ (has old y || nat_eq line y)

-- some of these positions is in the line
pub record IsLineOf (table starts : List ℕ) (line : ℕ) : Type 0 where
  pub start : ℕ
  pub begins : has starts start ≡ true
  pub there : slice_get table start ≡ Some line

abbrev pub IsAmongLines : List ℕ → List ℕ → ℕ → List ℕ → Type 0
IsAmongLines table starts line lines = (has lines line ≡ true) ↔ IsLineOf table starts line
