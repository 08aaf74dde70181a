-- Which texts are patterns.
use Rattle.std.specs.Prelude.{◌≡◌, ◌≢◌, ℕ, List, false}
use Rattle.regex.specs.Bytes.{regex_pattern, regex_source, regex_config, IsReadFromSource}
use Rattle.regex.specs.Patterns.{Re, Config, default_config, Refuses}
use Rattle.regex_syntax.specs.declared.error.ErrorKind.{ErrorKind}
use Rattle.regex_syntax.specs.declared.error.ErrorKind.TheVariants.{OutOfMemory}
use Rattle.log_text.specs.declared.prefix.Prefix.{Prefix}

-- the options of a search in bytes
abbrev pub in_bytes : Config
in_bytes = record default_config { utf8 = false }

-- what a prefix matches
abbrev pub prefix_pattern : Prefix → Re
prefix_pattern p = regex_pattern p.regex

-- the prefix is what the grammar reads in the text
pub record IsReadIn (source : List ℕ) (p : Prefix) : Type 0 where
  pub config : regex_config p.regex ≡ in_bytes
  pub text : regex_source p.regex ≡ source
  pub read : IsReadFromSource p.regex

-- the grammar reads no pattern in the text, or nests too deep for its limit
pub record IsBadPattern (source : List ℕ) : Type 0 where
  pub kind : ErrorKind
  pub refused : Refuses in_bytes source kind
  pub no_memory : kind ≢ OutOfMemory
