-- A world's text read line by line.
use Rattle.std.specs.Prelude.{◌≡◌, ℕ, suc, ◌+◌, ◌-◌, ◌*◌, ◌<◌, min, Bool, ◌&&◌, ◌==◌, nat_le, if◌then◌else◌, List, [], ◌∷◌, ◌++◌, Option, Some, None, Result, Ok, Err}
use Rattle.std.specs.Char.{is_ascii_digit}
use Rattle.std.specs.Str.{bytes_eq}
use Rattle.plain_data.specs.Worlds.{Table, WorldTables, Sets}
use Rattle.cert_text.specs.Lines.{Text, lines_of}
use Rattle.cert_text.specs.WorldTexts.{head_line, end_line, entry_line}
use Rattle.cert_text.specs.declared.fault.CertFault.{CertFault}
use Rattle.cert_text.specs.declared.fault.CertFault.TheVariants.{BadLine}
use Rattle.cert_text.specs.declared.entry.Entry.{Entry}
use Rattle.cert_text.specs.declared.saying.Said.{Said}
use Rattle.cert_text.specs.declared.saying.Said.TheVariants.{Head, Word, Byte, End}
use Rattle.cert_text.specs.declared.stage.Stage.{Stage}
use Rattle.cert_text.specs.declared.stage.Stage.TheVariants as stage

-- ---- the two numbers of a line, whatever else stands in it

-- a space begins the second number; a digit goes to the end of the number, up to the greatest word
abbrev pub entry_with : Entry → ℕ → Entry
entry_with entry byte =
    if byte == 32 then record { key = entry.value; value = 0 }
    else (if is_ascii_digit byte then record entry { value = min (entry.value * 10 + (byte - 48)) 18446744073709551615 } else entry)

abbrev pub entry_after : Entry → Text → Entry
entry_after entry [] = entry
entry_after entry (byte ∷ bytes) = entry_after (entry_with entry byte) bytes

abbrev pub entry_in : Text → Entry
entry_in line = entry_after (record { key = 0; value = 0 }) line

-- ---- what a line says, if anything

abbrev pub spells : ℕ → Entry → Text → Bool
spells letter entry line = bytes_eq line (entry_line letter (entry.key, entry.value))

abbrev pub is_word : Entry → Bool
is_word entry = nat_le 1 entry.key && nat_le entry.key 4294967295 && nat_le 1 entry.value

abbrev pub is_byte : Entry → Bool
is_byte entry = nat_le 1 entry.value && nat_le entry.value 255

unfoldable pub entry_said : Entry → Text → Option Said
entry_said entry line =
    if spells 119 entry line then (if is_word entry then Some (Word entry.key entry.value) else None)
    else (if spells 98 entry line then (if is_byte entry then Some (Byte entry.key entry.value) else None) else None)

unfoldable pub said_by : Text → Option Said
said_by line =
    if bytes_eq line head_line then Some Head
    else (if bytes_eq line end_line then Some End else entry_said (entry_in line) line)

-- ---- the order of lines

abbrev pub from_place : ℕ → ℕ → Option Stage
from_place least place = if nat_le least place then Some (stage.Words (suc place)) else None

abbrev pub from_address : ℕ → ℕ → Option Stage
from_address least address = if nat_le least address then Some (stage.Bytes (suc address)) else None

-- the stage behind a line, if it has a place there
abbrev pub stage_after : Stage → Said → Option Stage
stage_after stage.Head Head = Some (stage.Words 1)
stage_after (stage.Words least) (Word place value) = from_place least place
stage_after (stage.Words least) (Byte address value) = from_address 0 address
stage_after (stage.Words least) End = Some stage.Done
stage_after (stage.Bytes least) (Byte address value) = from_address least address
stage_after (stage.Bytes least) End = Some stage.Done
stage_after _ _ = None

-- what a line puts at the end of the tables
abbrev pub with_said : WorldTables → Said → WorldTables
with_said world (Word place value) = record world { words = world.words ++ (place, value) ∷ [] }
with_said world (Byte address value) = record world { bytes = world.bytes ++ (address, value) ∷ [] }
with_said world _ = world

-- what is left of the lines, the first of this number, read behind a stage
abbrev pub end_read : Stage → ℕ → WorldTables → Result WorldTables CertFault
end_read stage.Done number world = Ok world
end_read _ number world = Err (BadLine number)

-- the stage behind a line, if it says something that has a place
abbrev pub line_stage : Stage → Option Said → Option Stage
line_stage stage None = None
line_stage stage (Some said) = stage_after stage said

abbrev pub line_world : WorldTables → Option Said → WorldTables
line_world world None = world
line_world world (Some said) = with_said world said

abbrev pub on_stage : Option Stage → ℕ → (Stage → Result WorldTables CertFault) → Result WorldTables CertFault
on_stage None number go = Err (BadLine number)
on_stage (Some stage) number go = go stage

unfoldable pub read_from : Stage → ℕ → WorldTables → List Text → Result WorldTables CertFault
read_from stage number world [] = end_read stage number world
read_from stage number world (line ∷ lines) =
    on_stage (line_stage stage (said_by line)) number (λ next. read_from next (suc number) (line_world world (said_by line)) lines)

-- what is read of bytes
abbrev pub reading : Text → Result WorldTables CertFault
reading bytes = read_from stage.Head 1 (record { words = []; bytes = [] }) (lines_of bytes)

-- each key is below this one
abbrev pub Below : ℕ → Table → Type 0
Below key [] = Unit {0}
Below key (entry ∷ table) = (entry.0 < key) × Below key table

-- the world takes what a line says
abbrev pub PutsSaid : WorldTables → WorldTables → Said → Type 0
PutsSaid old new (Word place value) = Sets old.words new.words place value × (new.bytes ≡ old.bytes)
PutsSaid old new (Byte address value) = (new.words ≡ old.words) × Sets old.bytes new.bytes address value
PutsSaid old new _ = new ≡ old

-- one line is taken at a stage
pub record TakesLine (stage : Stage) (line : Text) (old new : WorldTables) (next : Stage) : Type 0 where
  pub said : Said
  pub is : said_by line ≡ Some said
  pub goes : stage_after stage said ≡ Some next
  pub puts : PutsSaid old new said
