-- Which texts are configurations, and what they settle.
use Rattle.std.specs.Prelude.{◌≡◌, ℕ, Bool, true, false, List, codes, Option, Some, None, Result, Ok, Err, IsUtf8}
use Rattle.serde_json.specs.Data.{Data, object, no_members}
use Rattle.serde_json.specs.Find.{get}
use Rattle.serde_json.specs.Read.{read}
use Rattle.log_text.specs.Patterns.{IsBadPattern, IsReadIn}
use Rattle.log_text.specs.declared.prefix.Prefix.{Prefix}
use Rattle.config_text.specs.Keys.{Text, first_fault, setting_fault}
use Rattle.config_text.specs.Values.{config_of, text_in}
use Rattle.config_text.specs.declared.config.Config.{Config}
use Rattle.config_text.specs.declared.config.ConfigFault.{ConfigFault}
use Rattle.config_text.specs.declared.config.ConfigFault.TheVariants.{NotJson}

abbrev pub unless : Option ConfigFault → Config → Result Config ConfigFault
unless None config = Ok config
unless (Some fault) config = Err fault

-- What a document says: the first faulty key in the order of bytes, or what its keys settle.
abbrev pub config_in : Bool → Option Data → Result Config ConfigFault
config_in refused (Some (object members)) =
    unless (first_fault (setting_fault refused) members) (config_of (object members))
config_in refused _ = Err NotJson

-- the pattern of a document
abbrev pub pattern_in : Data → Option Text
pattern_in document = text_in (get (codes "prefix") document)

-- whether a pattern is refused; where the document has none, there is nothing to refuse
abbrev pub Judges : Option Text → Bool → Type 0
Judges None refused = refused ≡ false
Judges (Some text) true = IsBadPattern text
Judges (Some text) false = (p : Prefix) × IsReadIn text p

abbrev pub JudgesIn : Option Data → Bool → Type 0
JudgesIn None refused = refused ≡ false
JudgesIn (Some document) refused = Judges (pattern_in document) refused

-- what a document says, whose pattern is judged
pub record Says (document : Option Data) (result : Result Config ConfigFault) : Type 0 where
  pub refused : Bool
  pub judged : JudgesIn document refused
  pub says : result ≡ config_in refused document

-- what bytes say: those that are no UTF-8 are no JSON
pub record Reads (bytes : List ℕ) (result : Result Config ConfigFault) : Type 0 where
  pub text : IsUtf8 bytes → Says (read bytes) result
  pub no_text : (IsUtf8 bytes → ⊥) → result ≡ Err NotJson

-- where nothing is configured
abbrev pub default_config : Config
default_config = config_of (object no_members)
