-- The text of a world, and where bytes that are none go wrong.
use Rattle.std.specs.Prelude.{◌≡◌, ◌≢◌, ℕ, zero, suc, ◌<◌, ◌≤◌, ◌⊎◌, Bool, true, ◌&&◌, ◌||◌, ◌==◌, nat_le, nat_lt, List, [], ◌∷◌, ◌++◌, length, take, map, codes, slice_index, Result, Ok, Err}
use Rattle.std.specs.List.{filter, concat, list_all}
use Rattle.std.specs.Fmt.{decimal}
use Rattle.std.specs.Char.{is_ascii_digit}
use Rattle.plain_data.specs.Worlds.{Table, WorldTables}
use Rattle.cert_text.specs.Lines.{Text, lines_of}
use Rattle.cert_text.specs.declared.fault.CertFault.{CertFault}
use Rattle.cert_text.specs.declared.fault.CertFault.TheVariants.{BadLine, WrongVersion, Memory}

-- ---- the text

abbrev pub head_line : Text
head_line = codes "sherlog world 1\n"

abbrev pub end_line : Text
end_line = codes "end\n"

-- a letter, a key and what stands there, with one space between parts
abbrev pub entry_line : ℕ → ℕ × ℕ → Text
entry_line letter entry = letter ∷ 32 ∷ (decimal entry.0 ++ 32 ∷ (decimal entry.1 ++ 10 ∷ []))

abbrev pub word_line : ℕ × ℕ → Text
word_line entry = entry_line 119 entry

abbrev pub byte_line : ℕ × ℕ → Text
byte_line entry = entry_line 98 entry

-- a word whose place is outside 1 to 4294967295 has no line
abbrev pub has_line : ℕ × ℕ → Bool
has_line entry = nat_le 1 entry.0 && nat_le entry.0 4294967295

-- `w P V` by ascending place, `b A V` by ascending address
abbrev pub world_lines : WorldTables → List Text
world_lines world = head_line ∷ (map word_line (filter has_line world.words) ++ (map byte_line world.bytes ++ end_line ∷ []))

abbrev pub world_text : WorldTables → Text
world_text world = concat (world_lines world)

-- ---- the ranges

-- keys rise strictly, the first is at least `least`, the last at most `most`, and what stands there is from 1 to `top`
abbrev pub Rises : ℕ → ℕ → ℕ → Table → Type 0
Rises least most top [] = Unit {0}
Rises least most top (entry ∷ table) =
    (least ≤ entry.0) × (entry.0 ≤ most) × (1 ≤ entry.1) × (entry.1 ≤ top) × Rises (suc entry.0) most top table

-- places from 1 to 4294967295 with 64-bit words, and 64-bit addresses with bytes
pub record InRange (world : WorldTables) : Type 0 where
  pub words : Rises 1 4294967295 18446744073709551615 world.words
  pub bytes : Rises 0 18446744073709551615 255 world.bytes

-- ---- bytes that are no world's text

-- the lines of some world begin so
pub record Begins (lines : List Text) : Type 0 where
  pub world : WorldTables
  pub in_range : InRange world
  pub rest : List Text
  pub same : world_lines world ≡ lines ++ rest

-- these are all lines of some world
pub record AreWhole (lines : List Text) : Type 0 where
  pub world : WorldTables
  pub in_range : InRange world
  pub same : world_lines world ≡ lines

-- the line of this number, from 1, is the first that has no place: the lines before it begin a world, and with it
-- they don't; behind the last line, where a further line is still wanted
abbrev pub IsFirstBad : ℕ → List Text → Type 0
IsFirstBad zero lines = ⊥
IsFirstBad (suc before) lines =
    Begins (take before lines)
    × (((before < length lines) × (Begins (take (suc before) lines) → ⊥)) ⊎ ((before ≡ length lines) × (AreWhole lines → ⊥)))

-- a number without leading zeros
abbrev pub is_numeral : Text → Bool
is_numeral digits = (length digits == 1 || nat_lt 48 (slice_index digits 0)) && list_all is_ascii_digit digits

-- the line names a version other than 1
pub record IsOtherVersion (line : Text) : Type 0 where
  pub number : Text
  pub numeral : is_numeral number ≡ true
  pub other : number ≢ codes "1"
  pub same : line ≡ codes "sherlog world " ++ (number ++ 10 ∷ [])

-- the first line does
abbrev pub NamesOtherVersion : List Text → Type 0
NamesOtherVersion [] = ⊥
NamesOtherVersion (line ∷ lines) = IsOtherVersion line

-- what is read of bytes
pub record ReadsWorld (bytes : Text) (result : Result WorldTables CertFault) : Type 0 where
  -- the world whose text they are, and this wherever there is one
  pub ok : (world : WorldTables) → result ≡ Ok world → InRange world × (bytes ≡ world_text world)
  pub spelled : (world : WorldTables) → InRange world → bytes ≡ world_text world → result ≢ Err Memory → result ≡ Ok world
  -- the first line that has no place, unless line 1 is of another version
  pub bad_line : (line : ℕ) → result ≡ Err (BadLine line) → IsFirstBad line (lines_of bytes) × (NamesOtherVersion (lines_of bytes) → ⊥)
  -- another version, wherever line 1 names one
  pub wrong_version : result ≡ Err WrongVersion → NamesOtherVersion (lines_of bytes)
  pub other_version : NamesOtherVersion (lines_of bytes) → result ≢ Err Memory → result ≡ Err WrongVersion
