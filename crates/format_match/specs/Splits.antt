-- Which arguments a split stands for, and when splits are all ways of a format to spell a stretch of a log.
use Rattle.std.specs.Prelude.{ℕ, ◌-◌, ◌≤◌, ◌≡◌, ◌==◌, Bool, true, false, not, ◌&&◌, ◌||◌, if◌then◌else◌, List, [], ◌∷◌, ◌++◌, length, take, drop, map, All, IsTrue, ◌↔◌, int_lt}
use Rattle.std.specs.List.{Contains, filter}
use Rattle.std.specs.Str.{bytes_eq}
use Rattle.plain_data.specs.Words.{word}
use Rattle.printf_text.specs.declared.kind.Kind.{Kind}
use Rattle.printf_text.specs.declared.piece.Arg.{Arg}
use Rattle.printf_text.specs.declared.piece.Arg.TheVariants as arg
use Rattle.printf_text.specs.declared.piece.Size.{Size}
use Rattle.printf_text.specs.declared.piece.Size.TheVariants.{Omitted, Written, Star}
use Rattle.printf_text.specs.declared.piece.Conversion.{Conversion}
use Rattle.printf_text.specs.declared.piece.Piece.{Piece}
use Rattle.printf_text.specs.declared.piece.Piece.TheVariants.{Literal, Converted}
use Rattle.printf_text.specs.Texts.{HaveKinds, kinds, number_of, int_of, text_of}
use Rattle.format_match.specs.declared.split.Constraint.{Constraint}
use Rattle.format_match.specs.declared.split.Constraint.TheVariants.{Equal, Between, Text, Null, Shown}
use Rattle.format_match.specs.declared.split.Split.{Split}

-- ---- which arguments meet a split

-- the second text begins with the first
abbrev pub begins : List ℕ → List ℕ → Bool
begins [] bytes = true
begins (x ∷ xs) [] = false
begins (x ∷ xs) (y ∷ ys) = x == y && begins xs ys

-- an argument's bits at a width, its number as an `int`, its text or the text's beginning, or its pointer
abbrev pub meets : Constraint → Arg → Bool
meets (Equal bits width) (arg.Word a w sign) = word width (number_of (arg.Word a w sign)) == bits
meets (Between low high) (arg.Word a w sign) =
    not (int_lt (int_of (arg.Word a w sign)) low || int_lt high (int_of (arg.Word a w sign)))
meets (Text bytes ended) (arg.Text text) = if ended then bytes_eq bytes text else begins bytes text
meets Null arg.Null = true
meets (Shown word) (arg.Shown n) = n == word
meets _ _ = false

-- one constraint for each argument
abbrev pub meet_all : List Constraint → List Arg → Bool
meet_all [] [] = true
meet_all (c ∷ constraints) (a ∷ args) = meets c a && meet_all constraints args
meet_all _ _ = false

-- ---- which arguments are those of `*`

abbrev pub star_marks : Size → List Bool
star_marks Omitted = []
star_marks (Written n) = []
star_marks Star = true ∷ []

-- of the width, the precision and the converted argument
abbrev pub conversion_marks : Conversion → List Bool
conversion_marks c = star_marks c.width ++ star_marks c.precision ++ false ∷ []

abbrev pub marks : List Piece → List Bool
marks [] = []
marks (Literal bytes ∷ pieces) = marks pieces
marks (Converted c ∷ pieces) = conversion_marks c ++ marks pieces

abbrev pub is_between : Constraint → Bool
is_between (Between low high) = true
is_between _ = false

-- ---- the splits of a format along a log

-- the log has this text from one position to the other
pub record Spells (text log : List ℕ) (from end : ℕ) : Type 0 where
  pub ordered : from ≤ end
  pub within : end ≤ length log
  pub is : text ≡ take (end - from) (drop from log)

-- one of the splits with this end is met
abbrev pub IsMetAt : ℕ → List Arg → List Split → Type 0
IsMetAt end args splits = (s : Split) × Contains splits s × (s.end ≡ end) × IsTrue (meet_all s.constraints args)

-- some arguments of these kinds meet the split
pub record IsMet (kinds : List Kind) (s : Split) : Type 0 where
  pub args : List Arg
  pub have : HaveKinds kinds args
  pub meet : IsTrue (meet_all s.constraints args)

-- the splits that arguments meet
abbrev pub met_splits : List Split → List Arg → List Split
met_splits splits args = filter (λ s. meet_all s.constraints args) splits

-- arguments of the pieces' kinds spell the log up to an end exactly where they meet a split with that end, no
-- arguments meet two, some meet each; the argument of a `*` has a range, and no other has one
pub record SplitsExactly (pieces : List Piece) (log : List ℕ) (from : ℕ) (splits : List Split) : Type 0 where
  pub spelled : (args : List Arg) (end : ℕ) → HaveKinds (kinds pieces) args → Spells (text_of pieces args) log from end ↔ IsMetAt end args splits
  pub once : (args : List Arg) → HaveKinds (kinds pieces) args → length (met_splits splits args) ≤ 1
  pub met : All (λ s. IsMet (kinds pieces) s) splits
  pub stars : All (λ s. map is_between s.constraints ≡ marks pieces) splits
