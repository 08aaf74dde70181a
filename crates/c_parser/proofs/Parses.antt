-- What a parse says of the grammar, by the laws of the grammar.
use Rattle.std.proofs.Common.{◌≡◌, List, Some}
use Rattle.c_language.specs.declared.token.Token.{Token}
use Rattle.c_language.specs.declared.unit.External.{External}
use Rattle.c_grammar.specs.Units.{derives}
use Rattle.c_grammar.specs.UnitReading.{read_unit}
use Rattle.c_grammar.proofs.UnitSound.{unit_sound}
use Rattle.c_grammar.proofs.UnitComplete.{unit_unique, unit_none}
use Rattle.c_reading.specs.declared.fault.ParseFault.{ParseFault}
use Rattle.c_reading.specs.declared.fault.ParseFault.TheVariants as fault
use Rattle.c_reading.specs.Cursor.{Fails}
use Rattle.c_parser.specs.Parsing.{IsOnly, Refuses}

pub is_derived : (tokens : List Token) (unit : List External) → read_unit tokens ≡ Some unit → derives tokens unit
is_derived tokens unit read = unit_sound tokens unit read

pub is_only : (tokens : List Token) (unit : List External) → read_unit tokens ≡ Some unit → IsOnly tokens unit
is_only tokens unit read = λ xs d. unit_unique tokens xs unit d (unit_sound tokens unit read)

pub is_refused : (tokens : List Token) (f : ParseFault) → Fails f (read_unit tokens) → Refuses tokens f
is_refused tokens fault.Memory none = tt
is_refused tokens (fault.Syntax k) none = λ xs d. unit_none tokens xs none d
is_refused tokens (fault.TooDeep k) none = λ xs d. unit_none tokens xs none d

-- what a unit that was read, or none, says of the grammar
pub ruleset says = (is_derived, is_only, is_refused)
