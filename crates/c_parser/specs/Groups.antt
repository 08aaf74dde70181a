-- The closing brackets that a brace group wants, token by token.
use Rattle.std.specs.Prelude.{◌≡◌, ℕ, List, [], ◌∷◌, ◌++◌, Bool, true, false, cond, Option, Some, None, take, drop}
use Rattle.c_language.specs.declared.token.Token.{Token}
use Rattle.c_language.specs.declared.token.TokenKind.{TokenKind}
use Rattle.c_language.specs.declared.token.Punctuator.{Punctuator}
use Rattle.c_grammar.specs.Parts.{is_punctuator}
use Rattle.c_grammar.specs.Reading.{◌>>=◌}
use Rattle.c_grammar.specs.Units.{closer, closing}
use Rattle.c_grammar.specs.UnitReading.{Cut}
use Rattle.c_parser.specs.declared.groups.Extent.{Extent}
use Rattle.c_parser.specs.declared.groups.Extent.TheVariants.{Closed, Broken}

abbrev pub wants_none : List Punctuator → Bool
wants_none [] = true
wants_none (m ∷ ms) = false

-- what is wanted behind a closing bracket, where it is wanted
abbrev pub closed_by : TokenKind → List Punctuator → Option (List Punctuator)
closed_by k [] = None
closed_by k (m ∷ ms) = cond (is_punctuator m k) (Some ms) None

abbrev pub wanted_by : Option Punctuator → Bool → Option (List Punctuator) → List Punctuator → Option (List Punctuator)
wanted_by (Some o) is_closing closed ms = Some (o ∷ ms)
wanted_by None true closed ms = closed
wanted_by None false closed ms = Some ms

-- the closing brackets that are wanted behind a token, unless it closes what isn't open
abbrev pub wanted_behind : TokenKind → List Punctuator → Option (List Punctuator)
wanted_behind k ms = wanted_by (closer k) (closing k) (closed_by k ms) ms

-- whether there is such a list, and that it is this one
abbrev pub Changes : Option (List Punctuator) → Bool → List Punctuator → Type 0
Changes expected true new = expected ≡ Some new
Changes expected false new = expected ≡ None

-- the place up to which a group goes, where it is closed
abbrev pub closed : Extent → Option ℕ
closed (Closed n) = Some n
closed (Broken n) = None

-- the place up to which its brackets match
abbrev pub reach : Extent → ℕ
reach (Closed n) = n
reach (Broken n) = n

-- the tokens up to a place, and those behind
abbrev pub parted : Option ℕ → List Token → Cut
parted None tokens = None
parted (Some n) tokens = Some (take n tokens, drop n tokens)

-- what is cut off, with these before it
abbrev pub fronted : List Token → Cut → Cut
fronted front read = read >>= (λ x. Some (front ++ x.0, x.1))
