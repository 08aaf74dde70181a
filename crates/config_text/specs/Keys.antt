-- What is wrong with a configuration: its first faulty key, in the order of the keys' bytes.
use Rattle.std.specs.Prelude.{ℕ, ◌&&◌, ◌||◌, not, nat_le, if◌then◌else◌, Bool, true, false, List, codes}
use Rattle.std.specs.Prelude.{Option, Some, None, is_some}
use Rattle.std.specs.Result.{is_ok}
use Rattle.std.specs.Str.{bytes_eq}
use Rattle.serde_json.specs.Data.{Data, number, unsigned, negative, boolean, string, array, object, Items, no_items, item, Members, no_members, member}
use Rattle.serde_json.specs.Find.{get}
use Rattle.printf_text.specs.Pieces.{pieces_of}
use Rattle.config_text.specs.declared.config.ConfigFault.{ConfigFault}
use Rattle.config_text.specs.declared.config.ConfigFault.TheVariants.{UnknownKey, WrongType, OutOfRange, BadPattern}
use Rattle.config_text.specs.declared.config.KeyFault.{KeyFault}
use Rattle.config_text.specs.declared.config.KeyFault.TheVariants as key_
use Rattle.config_text.specs.declared.config.EntryKind.{EntryKind}
use Rattle.config_text.specs.declared.config.EntryKind.TheVariants.{Log, Identity, Fill}

abbrev pub Text : Type 0
Text = List ℕ

-- ---- values

-- a whole number in a range; a float is of another type
abbrev pub number_fault : ℕ → ℕ → Data → Option KeyFault
number_fault low high (number (unsigned n)) = if nat_le low n && nat_le n high then None else Some key_.OutOfRange
number_fault low high (number (negative z)) = Some key_.OutOfRange
number_fault low high _ = Some key_.WrongType

-- the index of an argument
abbrev pub index_fault : Data → Option KeyFault
index_fault value = number_fault 0 15 value

abbrev pub flag_fault : Data → Option KeyFault
flag_fault (boolean b) = None
flag_fault _ = Some key_.WrongType

-- a flag that may only be set
abbrev pub set_fault : Data → Option KeyFault
set_fault (boolean true) = None
set_fault (boolean false) = Some key_.OutOfRange
set_fault _ = Some key_.WrongType

-- a format that printf takes here
abbrev pub format_fault : Data → Option KeyFault
format_fault (string text) = if is_ok (pieces_of text) then None else Some key_.OutOfRange
format_fault _ = Some key_.WrongType

abbrev pub is_answer : Text → Bool
is_answer text = bytes_eq text (codes "free") || bytes_eq text (codes "count")

abbrev pub answer_fault : Data → Option KeyFault
answer_fault (string text) = if is_answer text then None else Some key_.OutOfRange
answer_fault _ = Some key_.WrongType

abbrev pub are_strings : Items → Bool
are_strings no_items = true
are_strings (item (string text) more) = are_strings more
are_strings (item _ more) = false

-- a list of names
abbrev pub names_fault : Data → Option KeyFault
names_fault (array items) = if are_strings items then None else Some key_.WrongType
names_fault _ = Some key_.WrongType

-- ---- members, in the order of their keys

abbrev pub named : KeyFault → Text → ConfigFault
named key_.Unknown key = UnknownKey key
named key_.WrongType key = WrongType key
named key_.OutOfRange key = OutOfRange key

abbrev pub under : Text → Option KeyFault → Option ConfigFault
under key None = None
under key (Some fault) = Some (named fault key)

abbrev pub first_of : Option ConfigFault → Option ConfigFault → Option ConfigFault
first_of None other = other
first_of (Some fault) other = Some fault

abbrev pub first_fault : (Text → Data → Option ConfigFault) → Members → Option ConfigFault
first_fault fault no_members = None
first_fault fault (member key value more) = first_of (fault key value) (first_fault fault more)

abbrev pub members_in : Data → Members
members_in (object members) = members
members_in _ = no_members

-- ---- entries

abbrev pub has : Data → Text → Bool
has entry key = is_some (get key entry)

-- it has the keys of one form: an index of the format, or a text of its own
abbrev pub is_log_entry : Data → Bool
is_log_entry entry =
    if has entry (codes "text") then not (has entry (codes "format")) && not (has entry (codes "newline"))
    else has entry (codes "format")

abbrev pub is_fill_entry : Data → Bool
is_fill_entry entry = has entry (codes "buffer") && has entry (codes "length")

abbrev pub whole_fault : Bool → Option KeyFault
whole_fault true = None
whole_fault false = Some key_.WrongType

-- what is wrong with an entry as a whole
abbrev pub own_fault : EntryKind → Data → Option KeyFault
own_fault Log entry = whole_fault (is_log_entry entry)
own_fault Identity entry = index_fault entry
own_fault Fill entry = whole_fault (is_fill_entry entry)

abbrev pub log_key_fault : Text → Data → Option KeyFault
log_key_fault key value =
    if bytes_eq key (codes "format") then index_fault value
    else (if bytes_eq key (codes "newline") then set_fault value
    else (if bytes_eq key (codes "text") then format_fault value else Some key_.Unknown))

abbrev pub fill_key_fault : Text → Data → Option KeyFault
fill_key_fault key value =
    if bytes_eq key (codes "answer") then answer_fault value
    else (if bytes_eq key (codes "buffer") || bytes_eq key (codes "length") then index_fault value
    else Some key_.Unknown)

-- what is wrong with a key of an entry
abbrev pub key_fault : EntryKind → Text → Data → Option KeyFault
key_fault Log key value = log_key_fault key value
key_fault Identity key value = Some key_.Unknown
key_fault Fill key value = fill_key_fault key value

-- an entry's own fault comes before those of its keys
abbrev pub entry_fault : EntryKind → Text → Data → Option ConfigFault
entry_fault kind name entry =
    first_of (under name (own_fault kind entry))
    (first_fault (λ key value. under key (key_fault kind key value)) (members_in entry))

abbrev pub entries_fault : EntryKind → Text → Data → Option ConfigFault
entries_fault kind key (object members) = first_fault (entry_fault kind) members
entries_fault kind key _ = Some (WrongType key)

-- ---- the keys of a configuration

-- the numbers, with their ranges
abbrev pub range_of : Text → Option (ℕ × ℕ)
range_of key =
    if bytes_eq key (codes "arguments") then Some (1, 8)
    else (if bytes_eq key (codes "heap") then Some (1, 4096)
    else (if bytes_eq key (codes "outside") then Some (0, 256)
    else (if bytes_eq key (codes "texts") then Some (1, 1024) else None)))

-- the objects from names to entries
abbrev pub kind_of : Text → Option EntryKind
kind_of key =
    if bytes_eq key (codes "fills") then Some Fill
    else (if bytes_eq key (codes "identity") then Some Identity
    else (if bytes_eq key (codes "log") then Some Log else None))

abbrev pub pattern_fault : Bool → Text → Data → Option ConfigFault
pattern_fault refused key (string text) = if refused then Some BadPattern else None
pattern_fault refused key _ = Some (WrongType key)

abbrev pub other_fault : Bool → Text → Data → Option ConfigFault
other_fault refused key value =
    if bytes_eq key (codes "drop_unmatched") then under key (flag_fault value)
    else (if bytes_eq key (codes "never_null") then under key (names_fault value)
    else (if bytes_eq key (codes "prefix") then pattern_fault refused key value else Some (UnknownKey key)))

abbrev pub by_kind : Bool → Option EntryKind → Text → Data → Option ConfigFault
by_kind refused (Some kind) key value = entries_fault kind key value
by_kind refused None key value = other_fault refused key value

abbrev pub by_range : Bool → Option (ℕ × ℕ) → Text → Data → Option ConfigFault
by_range refused (Some range) key value = under key (number_fault range.0 range.1 value)
by_range refused None key value = by_kind refused (kind_of key) key value

-- What is wrong with a key of the whole and with what stands under it; `refused`: its pattern is none.
unfoldable pub setting_fault : Bool → Text → Data → Option ConfigFault
setting_fault refused key value = by_range refused (range_of key) key value
