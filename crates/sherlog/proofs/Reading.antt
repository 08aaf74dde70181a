-- What is lexed and parsed is a unit.
use Rattle.std.proofs.Common.{◌≡◌, List, ℕ, Ok}
use Rattle.c_grammar.specs.Units.{derives}
use Rattle.c_lexer.specs.Reading.{lexed}
use Rattle.c_language.specs.declared.token.Tokens.{Tokens}
use Rattle.c_parser.specs.Parsing.{IsOnly}
use Rattle.c_language.specs.PlaceTables.{places_of}
use Rattle.c_language.specs.declared.unit.Unit.{Unit}
use Rattle.sherlog.specs.Sources.{IsUnit}

pub unit_of : (name bytes : List ℕ) (tokens : Tokens) (unit : Unit) → lexed name bytes ≡ Ok tokens
    → derives tokens.tokens unit.externals → IsOnly tokens.tokens unit.externals
    → unit.places.places ≡ places_of tokens.tokens → unit.places.files ≡ tokens.files → IsUnit name bytes unit
unit_of name bytes tokens unit spelled derived only places files = record {
  is_derived = record { tokens = tokens; spelled = spelled; derived = derived; only = only };
  places = places;
  files = files;
}
