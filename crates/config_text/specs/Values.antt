-- What a configuration settles: the defaults, with what its keys say.
use Rattle.std.specs.Prelude.{ℕ, ◌≤◌, ◌&&◌, nat_le, if◌then◌else◌, Bool, false, List, [], ◌∷◌, ◌++◌, codes, Option, Some, None}
use Rattle.std.specs.Str.{bytes_eq}
use Rattle.serde_json.specs.Data.{Data, number, unsigned, boolean, string, array, Items, no_items, item, Members, no_members, member}
use Rattle.serde_json.specs.Find.{get}
use Rattle.c_means.specs.declared.profile.FillAnswer.{FillAnswer}
use Rattle.c_means.specs.declared.profile.FillAnswer.TheVariants as answer
use Rattle.c_means.specs.declared.profile.FillFunction.{FillFunction}
use Rattle.c_means.specs.declared.profile.IdentityFunction.{IdentityFunction}
use Rattle.c_means.specs.declared.profile.LogFunction.{LogFunction}
use Rattle.c_means.specs.declared.profile.LogText.{LogText}
use Rattle.c_means.specs.declared.profile.LogText.TheVariants.{Format, Text as OwnText}
use Rattle.c_means.specs.declared.profile.Profile.{Profile}
use Rattle.config_text.specs.Keys.{Text, members_in}
use Rattle.config_text.specs.declared.config.Config.{Config}

-- ---- values

-- a number in its range, or another one
abbrev pub number_or : ℕ → ℕ → ℕ → Option Data → ℕ
number_or low high other (Some (number (unsigned n))) = if nat_le low n && nat_le n high then n else other
number_or low high other _ = other

abbrev pub is_set : Option Data → Bool
is_set (Some (boolean b)) = b
is_set _ = false

abbrev pub text_in : Option Data → Option Text
text_in (Some (string text)) = Some text
text_in _ = None

abbrev pub texts_in : Items → List Text
texts_in no_items = []
texts_in (item (string text) more) = text ∷ texts_in more
texts_in (item _ more) = texts_in more

-- ---- functions

abbrev pub index_in : Text → Data → ℕ
index_in key entry = number_or 0 15 0 (get key entry)

abbrev pub log_text_by : Option Text → Data → LogText
log_text_by (Some text) entry = OwnText text
log_text_by None entry = Format (index_in (codes "format") entry) (is_set (get (codes "newline") entry))

abbrev pub log_text_of : Data → LogText
log_text_of entry = log_text_by (text_in (get (codes "text") entry)) entry

abbrev pub log_function : Text → Data → LogFunction
log_function name entry = record { name = name; text = log_text_of entry }

abbrev pub identity_function : Text → Data → IdentityFunction
identity_function name entry = record { name = name; index = number_or 0 15 0 (Some entry) }

abbrev pub answer_by : Option Text → FillAnswer
answer_by (Some text) = if bytes_eq text (codes "count") then answer.Count else answer.Free
answer_by None = answer.Free

abbrev pub fill_function : Text → Data → FillFunction
fill_function name entry = record {
  name = name;
  buffer = index_in (codes "buffer") entry;
  length = index_in (codes "length") entry;
  answer = answer_by (text_in (get (codes "answer") entry));
}

-- one for each member
abbrev pub for_each : {A : Type 0} → (Text → Data → A) → Members → List A
for_each make no_members = []
for_each make (member name entry more) = make name entry ∷ for_each make more

-- ---- the defaults

abbrev pub of_format : Text → ℕ → LogFunction
of_format name index = record { name = name; text = Format index false }

abbrev pub of_text : Text → Text → LogFunction
of_text name format = record { name = name; text = OwnText format }

abbrev pub default_log : List LogFunction
default_log =
    of_format (codes "printf") 0 ∷ of_format (codes "fprintf") 1 ∷ of_text (codes "puts") (codes "%s\n")
    ∷ of_text (codes "fputs") (codes "%s") ∷ []

abbrev pub default_identity : List IdentityFunction
default_identity = record { name = codes "gettext"; index = 0 } ∷ []

abbrev pub default_never_null : List Text
default_never_null = codes "__errno_location" ∷ codes "strerror" ∷ []

-- ---- the whole

abbrev pub entries_of : Option Members → Members
entries_of None = no_members
entries_of (Some members) = members

abbrev pub entries_in : Option Data → Members
entries_in None = no_members
entries_in (Some value) = members_in value

abbrev pub items_in : Option Data → Items
items_in (Some (array items)) = items
items_in _ = no_items

-- The lists of functions: of two entries of one name the last counts, so what a configuration says adds to the defaults
-- or replaces them.
abbrev pub log_functions : Data → List LogFunction
log_functions document = default_log ++ for_each log_function (entries_in (get (codes "log") document))

abbrev pub identity_functions : Data → List IdentityFunction
identity_functions document =
    default_identity ++ for_each identity_function (entries_in (get (codes "identity") document))

abbrev pub fill_functions : Data → List FillFunction
fill_functions document = for_each fill_function (entries_in (get (codes "fills") document))

abbrev pub never_null : Data → List Text
never_null document = default_never_null ++ texts_in (items_in (get (codes "never_null") document))

abbrev pub profile_of : Data → Profile
profile_of document = record {
  log = log_functions document;
  identity = identity_functions document;
  fills = fill_functions document;
  never_null = never_null document;
}

abbrev pub config_of : Data → Config
config_of document = record {
  profile = profile_of document;
  heap = number_or 1 4096 256 (get (codes "heap") document);
  outside = number_or 0 256 64 (get (codes "outside") document);
  texts = number_or 1 1024 32 (get (codes "texts") document);
  arguments = number_or 1 8 2 (get (codes "arguments") document);
  prefix = text_in (get (codes "prefix") document);
  drop_unmatched = is_set (get (codes "drop_unmatched") document);
}

-- the numbers are bounds
pub record InRanges (config : Config) : Type 0 where
  pub heap : (1 ≤ config.heap) × (config.heap ≤ 4096)
  pub outside : config.outside ≤ 256
  pub texts : (1 ≤ config.texts) × (config.texts ≤ 1024)
  pub arguments : (1 ≤ config.arguments) × (config.arguments ≤ 8)
