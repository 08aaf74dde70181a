-- Which words are a command line, and what they ask for.
use Rattle.std.specs.Prelude.{ℕ, ◌+◌, ◌-◌, ◌*◌, ◌==◌, ◌&&◌, min, not, nat_le, nat_lt, if◌then◌else◌, unwrap_or, is_some, Bool, true, false, List, [], ◌∷◌, ◌++◌, length, slice_index, codes, option_and_then, Option, Some, None, Result, Ok, Err}
use Rattle.std.specs.List.{list_all, list_any, before_first, after_first}
use Rattle.std.specs.Char.{is_ascii_digit}
use Rattle.std.specs.Str.{bytes_eq}
use Rattle.sl_config.specs.Generated.{Text}
use Rattle.sl_config.specs.declared.job.Command.{Command}
use Rattle.sl_config.specs.declared.job.Command.TheVariants.{Diagnose, Check, Replay, Sites, Match, SelfTest}
use Rattle.sl_config.specs.declared.job.Job.{Job}
use Rattle.sl_config.specs.declared.job.WordsFault.{WordsFault}
use Rattle.sl_config.specs.declared.job.WordsFault.TheVariants.{Usage}
use Rattle.sl_config.specs.declared.given.Setting.{Setting}
use Rattle.sl_config.specs.declared.given.Setting.TheVariants.{Config, Turns, Depth, Conflicts, Cert}
use Rattle.sl_config.specs.declared.given.Flag.{Flag}
use Rattle.sl_config.specs.declared.given.Flag.TheVariants.{ByLine, Json}
use Rattle.sl_config.specs.declared.given.Given.{Given}

-- ---- the table of commands

abbrev pub command_named : Text → Option Command
command_named word =
    if bytes_eq word (codes "diagnose") then Some Diagnose
    else (if bytes_eq word (codes "check") then Some Check
    else (if bytes_eq word (codes "replay") then Some Replay
    else (if bytes_eq word (codes "sites") then Some Sites
    else (if bytes_eq word (codes "match") then Some Match
    else (if bytes_eq word (codes "self") then Some SelfTest else None)))))

-- how many words stand by themselves
abbrev pub places : Command → ℕ
places Diagnose = 2
places Check = 3
places Replay = 2
places Sites = 1
places Match = 2
places SelfTest = 1

abbrev pub takes : Command → Setting → Bool
takes Diagnose _ = true
takes Check Config = true
takes Check Turns = true
takes Check Depth = true
takes Replay Config = true
takes Replay Turns = true
takes Replay Depth = true
takes Sites Config = true
takes Match Config = true
takes _ _ = false

abbrev pub takes_flag : Command → Flag → Bool
takes_flag Diagnose _ = true
takes_flag Check ByLine = true
takes_flag _ _ = false

abbrev pub setting_named : Text → Option Setting
setting_named name =
    if bytes_eq name (codes "config") then Some Config
    else (if bytes_eq name (codes "turns") then Some Turns
    else (if bytes_eq name (codes "depth") then Some Depth
    else (if bytes_eq name (codes "conflicts") then Some Conflicts
    else (if bytes_eq name (codes "cert") then Some Cert else None))))

abbrev pub flag_named : Text → Option Flag
flag_named name =
    if bytes_eq name (codes "by-line") then Some ByLine
    else (if bytes_eq name (codes "json") then Some Json else None)

-- ---- numbers

-- the number that digits go on to give; nine digits never reach the bound
abbrev pub value_after : ℕ → Text → ℕ
value_after value [] = value
value_after value (byte ∷ bytes) = value_after (min (value * 10 + (byte - 48)) 4294967295) bytes

abbrev pub is_number : Text → Bool
is_number word = nat_le 1 (length word) && nat_le (length word) 9 && list_all is_ascii_digit word

-- one to nine digits with a value in the range
abbrev pub number_in : ℕ → ℕ → Text → Option ℕ
number_in low high word =
    if is_number word then (if nat_le low (value_after 0 word) && nat_le (value_after 0 word) high then Some (value_after 0 word) else None) else None

-- ---- one word after the other

abbrev pub Answer : Type 0
Answer = Result Given WordsFault

abbrev pub is_empty : Text → Bool
is_empty word = length word == 0

-- a word by itself
abbrev pub with_place : Command → Given → Text → Answer
with_place command given word =
    if is_empty word then Err Usage
    else (if nat_lt (length given.places) (places command) then Ok (record given { places = given.places ++ word ∷ [] }) else Err Usage)

abbrev pub has : Given → Setting → Bool
has given Config = is_some given.config
has given Turns = is_some given.turns
has given Depth = is_some given.depth
has given Conflicts = is_some given.conflicts
has given Cert = is_some given.cert

-- the option may come now: the command takes it, and it wasn't given yet
abbrev pub may_come : Command → Given → Setting → Bool
may_come command given setting = takes command setting && not (has given setting)

abbrev pub with_turns : Given → Option ℕ → Answer
with_turns given None = Err Usage
with_turns given (Some n) = Ok (record given { turns = Some n })

abbrev pub with_depth : Given → Option ℕ → Answer
with_depth given None = Err Usage
with_depth given (Some n) = Ok (record given { depth = Some n })

abbrev pub with_conflicts : Given → Option ℕ → Answer
with_conflicts given None = Err Usage
with_conflicts given (Some n) = Ok (record given { conflicts = Some n })

abbrev pub with_value : Given → Setting → Text → Answer
with_value given Config value = Ok (record given { config = Some value })
with_value given Cert value = Ok (record given { cert = Some value })
with_value given Turns value = with_turns given (number_in 1 64 value)
with_value given Depth value = with_depth given (number_in 1 16 value)
with_value given Conflicts value = with_conflicts given (number_in 1 200000 value)

-- an option with its value, which isn't empty
abbrev pub with_setting : Command → Given → Setting → Text → Answer
with_setting command given setting value =
    if may_come command given setting then (if is_empty value then Err Usage else with_value given setting value) else Err Usage

-- an option whose value is the next word
abbrev pub with_wanted : Command → Given → Setting → Answer
with_wanted command given setting =
    if may_come command given setting then Ok (record given { waits = Some setting }) else Err Usage

abbrev pub flag_given : Given → Flag → Bool
flag_given given ByLine = given.by_line
flag_given given Json = given.json

abbrev pub flag_set : Given → Flag → Given
flag_set given ByLine = record given { by_line = true }
flag_set given Json = record given { json = true }

abbrev pub with_flag : Command → Given → Flag → Answer
with_flag command given flag =
    if takes_flag command flag && not (flag_given given flag) then Ok (flag_set given flag) else Err Usage

abbrev pub on_setting : Option Setting → (Setting → Answer) → Answer
on_setting None go = Err Usage
on_setting (Some setting) go = go setting

abbrev pub on_flag : Option Flag → (Flag → Answer) → Answer → Answer
on_flag None go other = other
on_flag (Some flag) go other = go flag

abbrev pub with_bare_name : Command → Given → Text → Answer
with_bare_name command given name =
    on_flag (flag_named name) (λ f. with_flag command given f) (on_setting (setting_named name) (λ s. with_wanted command given s))

-- a name behind `--`, and the value behind its `=`, if there is one
abbrev pub with_name : Command → Given → Text → Option Text → Answer
with_name command given name None = with_bare_name command given name
with_name command given name (Some value) = on_setting (setting_named name) (λ s. with_setting command given s value)

abbrev pub is_equals : ℕ → Bool
is_equals byte = byte == 61

-- the bytes before the first `=`, and those behind it
abbrev pub name_and_value : Text → Text × Option Text
name_and_value word = (before_first is_equals word, if list_any is_equals word then Some (after_first is_equals word) else None)

-- it begins with `-` and is longer than one byte
abbrev pub is_dashed : Text → Bool
is_dashed word = nat_lt 1 (length word) && (slice_index word 0 == 45)

abbrev pub behind_hyphen : Text → Option Text
behind_hyphen [] = None
behind_hyphen (byte ∷ word) = if byte == 45 then Some word else None

abbrev pub behind_hyphens : Text → Option Text
behind_hyphens word = option_and_then behind_hyphen (behind_hyphen word)

abbrev pub by_option : Command → Given → Option Text → Answer
by_option command given None = Err Usage
by_option command given (Some option) = with_name command given (name_and_value option).0 (name_and_value option).1

unfoldable pub with_option : Command → Given → Text → Answer
with_option command given word = by_option command given (behind_hyphens word)

abbrev pub with_free_word : Command → Given → Text → Answer
with_free_word command given word =
    if bytes_eq word (codes "--") then Ok (record given { trailing = true })
    else (if is_dashed word then with_option command given word else with_place command given word)

abbrev pub by_waiting : Command → Given → Option Setting → Text → Answer
by_waiting command given None word = with_free_word command given word
by_waiting command given (Some setting) word =
    if is_dashed word then Err Usage else with_setting command (record given { waits = None }) setting word

unfoldable pub with_word : Command → Given → Text → Answer
with_word command given word = if given.trailing then with_place command given word else by_waiting command given given.waits word

abbrev pub on_ok : Answer → (Given → Answer) → Answer
on_ok (Ok given) go = go given
on_ok (Err fault) go = Err fault

unfoldable pub with_words : Command → Given → List Text → Answer
with_words command given [] = Ok given
with_words command given (word ∷ words) = on_ok (with_word command given word) (λ next. with_words command next words)

-- ---- all words

abbrev pub nothing_given : Given
nothing_given = record {
  places = [];
  config = None;
  cert = None;
  turns = None;
  depth = None;
  conflicts = None;
  by_line = false;
  json = false;
  waits = None;
  trailing = false;
}

-- the number that `self` stands with
abbrev pub count_of : Command → List Text → Option ℕ
count_of SelfTest (word ∷ words) = number_in 1 200 word
count_of _ _ = None

abbrev pub job : Command → Given → Option ℕ → Job
job command given count = record {
  command = command;
  places = given.places;
  count = count;
  config = given.config;
  cert = given.cert;
  turns = unwrap_or given.turns 8;
  depth = unwrap_or given.depth 8;
  conflicts = unwrap_or given.conflicts 20000;
  by_line = given.by_line;
  json = given.json;
}

abbrev pub by_count : Command → Given → Option ℕ → Result Job WordsFault
by_count SelfTest given None = Err Usage
by_count command given count = Ok (job command given count)

-- no option waits for its value, and each place is taken
abbrev pub is_whole : Command → Given → Bool
is_whole command given = not (is_some given.waits) && (length given.places == places command)

abbrev pub finished : Command → Given → Result Job WordsFault
finished command given = if is_whole command given then by_count command given (count_of command given.places) else Err Usage

abbrev pub on_given : Answer → (Given → Result Job WordsFault) → Result Job WordsFault
on_given (Ok given) go = go given
on_given (Err fault) go = Err fault

abbrev pub on_command : Option Command → (Command → Result Job WordsFault) → Result Job WordsFault
on_command None go = Err Usage
on_command (Some command) go = go command

-- the job of the words after the program's name
abbrev pub job_of : List Text → Result Job WordsFault
job_of [] = Err Usage
job_of (word ∷ words) = on_command (command_named word) (λ command. on_given (with_words command nothing_given words) (finished command))
