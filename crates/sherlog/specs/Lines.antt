-- What is told of a command line.
use Rattle.std.specs.Prelude.{◌≡◌, ◌++◌, ◌⊎◌, ℕ, List, codes}
use Rattle.std.specs.Fmt.{decimal, signed_decimal}
use Rattle.plain_data.specs.declared.run.Finish.{Finish}
use Rattle.plain_data.specs.declared.run.Finish.TheVariants as finish
use Rattle.plain_data.specs.declared.run.Undefined.{Undefined}
use Rattle.plain_data.specs.declared.run.Undefined.TheVariants as undefined
use Rattle.c_language.specs.declared.token.Spot.{Spot}
use Rattle.config_text.specs.declared.config.ConfigFault.{ConfigFault}
use Rattle.config_text.specs.declared.config.ConfigFault.TheVariants as config
use Rattle.sl_io.specs.SinkStates.{SinkState}
use Rattle.sl_io.specs.Writes.{Told}
use Rattle.sherlog.specs.Words.{Asked}
use Rattle.sherlog.specs.Inputs.{name_of}
use Rattle.sherlog.specs.Places.{spot_at, spot_text}
use Rattle.sherlog.specs.Sources.{fault_name, rule_name}
use Rattle.sherlog.specs.declared.refusal.Refusal.{Refusal}
use Rattle.sherlog.specs.declared.refusal.Refusal.TheVariants.{BadConfig, BadSource, NoMain, Broken, NotYetRead, TooManyLines, TooLarge, BadWorld, Fault, TooLong, Memory}

-- of words that are no command line
abbrev pub usage_line : List ℕ
usage_line = codes "sherlog: 2 usage\n"

-- of a want of memory
abbrev pub memory_line : List ℕ
memory_line = codes "sherlog: 12 memory\n"

-- ---- refusals

-- a name, and a place as FILE:LINE:COL
abbrev pub placed_line : List ℕ → Spot → List ℕ
placed_line name spot = codes "sherlog: 3 " ++ (name ++ (codes " " ++ (spot_text spot ++ codes "\n")))

-- a name, and a key
abbrev pub key_line : List ℕ → List ℕ → List ℕ
key_line name key = codes "sherlog: 5 " ++ (name ++ (codes " " ++ (key ++ codes "\n")))

abbrev pub config_line : ConfigFault → List ℕ
config_line config.NotJson = codes "sherlog: 5 NotJson\n"
config_line (config.UnknownKey key) = key_line (codes "UnknownKey") key
config_line (config.WrongType key) = key_line (codes "WrongType") key
config_line (config.OutOfRange key) = key_line (codes "OutOfRange") key
config_line config.BadPattern = codes "sherlog: 5 BadPattern\n"
config_line config.Memory = memory_line

-- the first line that has no place in a world's text
abbrev pub world_line : ℕ → List ℕ
world_line number = codes "sherlog: 10 line " ++ (decimal number ++ codes "\n")

-- how many lines a log has
abbrev pub lines_line : ℕ → List ℕ
lines_line count = codes "sherlog: 4 lines " ++ (decimal count ++ codes "\n")

-- the name of a file
abbrev pub long_line : List ℕ → List ℕ
long_line name = codes "sherlog: 7 " ++ (name ++ codes "\n")

abbrev pub line_of : Asked → Refusal → List ℕ
line_of asked (BadConfig fault) = config_line fault
line_of asked (BadSource fault spot) = placed_line (fault_name fault) spot
line_of asked NoMain = codes "sherlog: 3 NoMain\n"
line_of asked (Broken rule spot) = placed_line (rule_name rule) spot
line_of asked NotYetRead = codes "sherlog: 3 NotYetRead\n"
line_of asked (TooManyLines count) = lines_line count
line_of asked TooLarge = codes "sherlog: 8 measure\n"
line_of asked (BadWorld line) = world_line line
line_of asked Fault = codes "sherlog: 6 fault\n"
line_of asked (TooLong file) = long_line (name_of asked file)
line_of asked Memory = memory_line

abbrev pub status_of : Refusal → ℕ
status_of (BadConfig fault) = 5
status_of (BadSource fault spot) = 3
status_of NoMain = 3
status_of (Broken rule spot) = 3
status_of NotYetRead = 3
status_of (TooManyLines count) = 4
status_of TooLarge = 8
status_of (BadWorld line) = 10
status_of Fault = 6
status_of (TooLong file) = 7
status_of Memory = 12

-- a refusal is told by its line and status, or want of memory is
pub record TellsAs (status : ℕ) (line : List ℕ) (old new : SinkState) (result : ℕ) : Type 0 where
  pub is_status : result ≡ status
  pub told : Told old new line

-- (that the output was written in part is told without memory)
abbrev pub TellsOf : Asked → Refusal → SinkState → SinkState → ℕ → Type 0
TellsOf asked Fault old new result = TellsAs 6 (codes "sherlog: 6 fault\n") old new result
TellsOf asked refusal old new result =
    TellsAs (status_of refusal) (line_of asked refusal) old new result ⊎ TellsAs 12 memory_line old new result

-- ---- how a run ended

abbrev pub kind_word : Undefined → List ℕ
kind_word undefined.Overflow = codes "overflow"
kind_word undefined.ZeroDivisor = codes "divisor"
kind_word undefined.Shift = codes "shift"
kind_word undefined.PointerRange = codes "range"
kind_word undefined.Dereference = codes "dereference"
kind_word undefined.LiteralWrite = codes "literal"
kind_word undefined.Free = codes "free"
kind_word undefined.PointerOrder = codes "order"
kind_word undefined.MissingValue = codes "missing"

abbrev pub undefined_end : Undefined → List ℕ → List ℕ → ℕ → List ℕ
undefined_end kind name source at =
    codes "end undefined " ++ (kind_word kind ++ (codes " " ++ (spot_text (spot_at name source at) ++ codes "\n")))

abbrev pub left_end : List ℕ → List ℕ → ℕ → List ℕ
left_end name source at = codes "end left " ++ (spot_text (spot_at name source at) ++ codes "\n")

-- the end of a run of a source of this name
abbrev pub end_line : List ℕ → List ℕ → Finish → List ℕ
end_line name source (finish.Return value) = codes "end return " ++ (signed_decimal value ++ codes "\n")
end_line name source (finish.Exit value) = codes "end exit " ++ (signed_decimal value ++ codes "\n")
end_line name source finish.Abort = codes "end abort\n"
end_line name source (finish.Stopped kind at) = undefined_end kind name source at
end_line name source (finish.Left at) = left_end name source at
