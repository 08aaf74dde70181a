-- What is wrong with a source, and where.
use Rattle.std.specs.Prelude.{◌≡◌, ℕ, List, length, slice_get, Option, Some, None, Ok, Err, false, codes, ⊤}
use Rattle.acceptance.specs.Refusals.{IsFirstBroken, judged_in}
use Rattle.c_lexer.specs.Places.{located}
use Rattle.c_lexer.specs.Reading.{lexed}
use Rattle.c_lexer.specs.declared.fault.LexFault.TheVariants as lexical
use Rattle.c_language.specs.declared.token.Spot.{Spot}
use Rattle.c_language.specs.declared.token.Token.{Token}
use Rattle.c_language.specs.declared.token.Tokens.{Tokens}
use Rattle.c_language.specs.PlaceTables.{places_of}
use Rattle.c_language.specs.declared.unit.External.{External}
use Rattle.c_language.specs.declared.unit.Unit.{Unit}
use Rattle.c_grammar.specs.Units.{derives}
use Rattle.c_parser.specs.Parsing.{IsUnderivable, IsOnly}
use Rattle.c_means.specs.declared.breach.Breach.{Breach}
use Rattle.c_means.specs.declared.breach.BrokenRule.{BrokenRule}
use Rattle.c_means.specs.declared.breach.BrokenRule.TheVariants as broken
use Rattle.c_means.specs.declared.profile.Profile.{Profile}
use Rattle.c_means.specs.Checks.{has_main}
use Rattle.c_language.specs.declared.scope.LayoutRule.{LayoutRule}
use Rattle.c_language.specs.declared.scope.LayoutRule.TheVariants as layout
use Rattle.c_language.specs.declared.scope.Rule.{Rule}
use Rattle.c_language.specs.declared.scope.Rule.TheVariants as rule
use Rattle.printf_text.specs.declared.parse.FormatFault.{FormatFault}
use Rattle.printf_text.specs.declared.parse.FormatFault.TheVariants as format
use Rattle.sherlog.specs.Places.{spot_at}
use Rattle.sherlog.specs.declared.refusal.Refusal.{Refusal}
use Rattle.sherlog.specs.declared.refusal.Refusal.TheVariants.{NoMain, Broken, Memory}
use Rattle.sherlog.specs.declared.refusal.SourceFault.{SourceFault}
use Rattle.sherlog.specs.declared.refusal.SourceFault.TheVariants.{BadByte, OpenText, WideNumber, BadConstant, BadDirective, Syntax, TooDeep}

-- ---- the names that are told

abbrev pub fault_name : SourceFault → List ℕ
fault_name BadByte = codes "BadByte"
fault_name OpenText = codes "OpenText"
fault_name WideNumber = codes "WideNumber"
fault_name BadConstant = codes "BadConstant"
fault_name BadDirective = codes "BadDirective"
fault_name Syntax = codes "Syntax"
fault_name TooDeep = codes "TooDeep"

abbrev pub layout_name : LayoutRule → List ℕ
layout_name layout.Incomplete = codes "Layout Incomplete"
layout_name layout.ObjectTooLarge = codes "Layout ObjectTooLarge"
layout_name layout.NotConstant = codes "Layout NotConstant"

abbrev pub typing_name : Rule → List ℕ
typing_name rule.Undeclared = codes "Undeclared"
typing_name rule.TypeMismatch = codes "TypeMismatch"
typing_name rule.NotModifiable = codes "NotModifiable"
typing_name rule.FloatUsed = codes "FloatUsed"
typing_name rule.IndirectCall = codes "IndirectCall"
typing_name rule.StructByValue = codes "StructByValue"
typing_name rule.BitField = codes "BitField"
typing_name (rule.Layout r) = layout_name r
typing_name rule.DuplicateDefinition = codes "DuplicateDefinition"

-- (that memory runs out is no fault of a format)
abbrev pub format_name : FormatFault → List ℕ
format_name (format.Unsupported at) = codes "FormatFault Unsupported"
format_name (format.Truncated at) = codes "FormatFault Truncated"
format_name format.Memory = codes "FormatFault"

abbrev pub rule_name : BrokenRule → List ℕ
rule_name broken.UnreadBody = codes "UnreadBody"
rule_name (broken.Typing r) = typing_name r
rule_name broken.BadGoto = codes "BadGoto"
rule_name broken.FormatNotLiteral = codes "FormatNotLiteral"
rule_name (broken.Format fault) = format_name fault
rule_name broken.FormatArgument = codes "FormatArgument"

-- ---- reading

-- a source without a lexical fault, of whose tokens the grammar derives these externals and no others
pub record IsDerived (name bytes : List ℕ) (externals : List External) : Type 0 where
  pub tokens : Tokens
  pub spelled : lexed name bytes ≡ Ok tokens
  pub derived : derives tokens.tokens externals
  pub only : IsOnly tokens.tokens externals

-- the unit of a source, with the places of its tokens
pub record IsUnit (name bytes : List ℕ) (unit : Unit) : Type 0 where
  pub is_derived : IsDerived name bytes unit.externals
  pub places : unit.places.places ≡ places_of is_derived.tokens.tokens
  pub files : unit.places.files ≡ is_derived.tokens.files

abbrev pub start_or : ℕ → Option Token → ℕ
start_or end None = end
start_or end (Some token) = token.start

-- the byte at which a token begins, by its number, or the end of the source
abbrev pub start_at : List ℕ → List Token → ℕ → ℕ
start_at bytes tokens k = start_or (length bytes) (slice_get tokens k)

-- a byte at which a token begins, or the end of the source
abbrev pub IsTokenPlace : List ℕ → List Token → ℕ → Type 0
IsTokenPlace bytes tokens at = (k : ℕ) × (at ≡ start_at bytes tokens k)

-- a source without a lexical fault, of whose tokens the grammar derives nothing
pub record IsUnparsed (name bytes : List ℕ) (at : ℕ) : Type 0 where
  pub tokens : Tokens
  pub spelled : lexed name bytes ≡ Ok tokens
  pub underivable : IsUnderivable tokens.tokens
  pub stands : IsTokenPlace bytes tokens.tokens at

-- The first lexical fault of a source of this name is this one, and stands at this byte; or it has none and is not derived, and
-- reading stopped at this byte.
abbrev pub HasFault : List ℕ → List ℕ → SourceFault → ℕ → Type 0
HasFault name bytes BadByte at = lexed name bytes ≡ Err (lexical.BadByte at)
HasFault name bytes OpenText at = lexed name bytes ≡ Err (lexical.OpenText at)
HasFault name bytes WideNumber at = lexed name bytes ≡ Err (lexical.WideNumber at)
HasFault name bytes BadConstant at = lexed name bytes ≡ Err (lexical.BadConstant at)
HasFault name bytes BadDirective at = lexed name bytes ≡ Err (lexical.BadDirective at)
HasFault name bytes Syntax at = IsUnparsed name bytes at
HasFault name bytes TooDeep at = IsUnparsed name bytes at

-- the fault, and the place of its byte by the line markers before it
pub record HasFaultIn (name bytes : List ℕ) (fault : SourceFault) (spot : Spot) : Type 0 where
  pub at : ℕ
  pub first : HasFault name bytes fault at
  pub place : spot ≡ located name bytes at

-- ---- the rules

-- of the rules that are broken this one is the first, and stands at this place
pub record IsBrokenAt (name bytes : List ℕ) (externals : List External) (profile : Profile) (told : BrokenRule) (spot : Spot) : Type 0 where
  pub breach : Breach
  pub first : IsFirstBroken externals profile breach
  pub is_rule : told ≡ breach.rule
  pub place : spot ≡ spot_at name bytes breach.at

-- why a source that is derived is refused
abbrev pub IsRefusedFor : List ℕ → List ℕ → List External → Profile → Refusal → Type 0
IsRefusedFor name bytes externals profile NoMain = has_main (judged_in externals profile) ≡ false
IsRefusedFor name bytes externals profile (Broken told spot) = IsBrokenAt name bytes externals profile told spot
IsRefusedFor name bytes externals profile Memory = ⊤
IsRefusedFor name bytes externals profile _ = ⊥
