-- What a parse says of the tokens.
use Rattle.std.specs.Prelude.{◌≡◌, List}
use Rattle.c_language.specs.declared.token.Token.{Token}
use Rattle.c_language.specs.declared.unit.External.{External}
use Rattle.c_grammar.specs.Units.{derives}
use Rattle.c_reading.specs.declared.fault.ParseFault.{ParseFault}
use Rattle.c_reading.specs.declared.fault.ParseFault.TheVariants as fault

-- the grammar derives nothing from the tokens
abbrev pub IsUnderivable : List Token → Type 0
IsUnderivable tokens = (xs : List External) → derives tokens xs → ⊥

-- the grammar derives nothing else from the tokens
abbrev pub IsOnly : List Token → List External → Type 0
IsOnly tokens unit = (xs : List External) → derives tokens xs → xs ≡ unit

-- tokens are refused only where nothing is derived; want of memory is free
abbrev pub Refuses : List Token → ParseFault → Type 0
Refuses tokens (fault.Syntax k) = IsUnderivable tokens
Refuses tokens (fault.TooDeep k) = IsUnderivable tokens
Refuses tokens fault.Memory = Unit {0}
