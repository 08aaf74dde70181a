-- A fault stands at a byte of its source.
use Rattle.std.proofs.Common.{◌≢◌, ◌≤◌, ◌<◌, ◌+◌, ◌-◌, ℕ, zero, suc, Bool, true, List, [], ◌∷◌, length, drop}
use Rattle.std.proofs.Common.{Option, Some, None, Result, Ok, Err, arith, ap, length-append, length-take, length-drop}
use Rattle.std.proofs.Common.{refl, inl, inr, subst}
use Rattle.std.specs.Option.{IfSome}
use Rattle.std.specs.Result.{IfErr}
use Rattle.c_lexer.specs.Class.{Text}
use Rattle.c_lexer.specs.Division.{Element, fresh_after}
use Rattle.c_lexer.specs.Literal.{unescape, unit, before, from_unit}
use Rattle.c_lexer.specs.Number.{number}
use Rattle.c_lexer.specs.Meaning.{meaning, number_kind, character_kind, string_kind, stray_fault, between_quotes}
use Rattle.c_lexer.specs.Reading.{Reading, FaultAfter, IsFirstFault}
use Rattle.c_lexer.specs.Standing.{fault_byte}
use Rattle.c_lexer.specs.declared.fault.LexFault.{LexFault}
use Rattle.c_lexer.specs.declared.fault.LexFault.TheVariants as fault
use Rattle.c_lexer.specs.declared.number.NumberFault.{NumberFault}
use Rattle.c_lexer.specs.declared.number.NumberFault.TheVariants as number_fault
use Rattle.c_lexer.specs.declared.number.Numeric.{Numeric}
use Rattle.c_lexer.specs.declared.number.Numeric.TheVariants as numeric
use Rattle.c_lexer.specs.declared.piece.Lexeme.{Lexeme}
use Rattle.c_lexer.specs.declared.piece.Lexeme.TheVariants as lexeme
use Rattle.c_lexer.specs.declared.piece.Stray.{Stray}
use Rattle.c_lexer.specs.declared.piece.Stray.TheVariants as stray
use Rattle.c_language.specs.declared.token.TokenKind.{TokenKind}
use Rattle.c_lexer.proofs.Unique.{begins_long}

-- a fault stands before a byte
abbrev IsBefore : ℕ → LexFault → Type 0
IsBefore end f = IfSome (fault_byte f) (λ at. at < end)

-- the fault of a result, where it has one
abbrev StandsBefore : {A : Type 0} → ℕ → Result A LexFault → Type 0
StandsBefore end (Ok x) = Unit {0}
StandsBefore end (Err f) = IsBefore end f

before_more : (few many : ℕ) (f : LexFault) → few ≤ many → IsBefore few f → IsBefore many f
before_more few many (fault.BadByte at) h below = omega arith
before_more few many (fault.OpenText at) h below = omega arith
before_more few many (fault.WideNumber at) h below = omega arith
before_more few many (fault.BadConstant at) h below = omega arith
before_more few many (fault.BadDirective at) h below = omega arith
before_more few many fault.Memory h below = tt

-- a bad escape stands before the end of its literal
unit_before : (at end : ℕ) (u : Option (ℕ × ℕ)) (rest : ℕ → Result Text LexFault) → at < end →
    ((left : ℕ) → StandsBefore end (rest left)) → StandsBefore end (from_unit u at rest)
unit_before at end None rest here more = here
unit_before at end (Some u) rest here more = then_before u.0 (rest (u.1 - 1)) (more (u.1 - 1))
  where
    then_before : (meant : ℕ) (r : Result Text LexFault) → StandsBefore end r → StandsBefore end (before meant r)
    then_before meant (Ok more) below = tt
    then_before meant (Err f) below = below

unescape_before : (left at end : ℕ) (text : Text) → at + length text ≤ end → StandsBefore end (unescape left at text)
unescape_before left at end [] within = tt
unescape_before (suc left) at end (b ∷ text) within = unescape_before left (at + 1) end text (omega arith)
unescape_before zero at end (b ∷ text) within =
    unit_before at end (unit (b ∷ text)) (λ left. unescape left (at + 1) text) (omega arith)
    (λ left. unescape_before left (at + 1) end text (omega arith))

stray_before : (at end : ℕ) (s : Stray) → at < end → IsBefore end (stray_fault at s)
stray_before at end stray.BadByte here = here
stray_before at end stray.OpenText here = here
stray_before at end stray.BadDirective here = here

number_before : (at end : ℕ) (r : Result Numeric NumberFault) → at < end → StandsBefore end (number_kind at r)
number_before at end (Ok numeric.Floating) here = tt
number_before at end (Ok (numeric.Integer c)) here = tt
number_before at end (Err number_fault.Wide) here = here
number_before at end (Err number_fault.Bad) here = here

character_before : (at end : ℕ) (r : Result Text LexFault) → at < end → StandsBefore end r →
    StandsBefore end (character_kind at r)
character_before at end (Err f) here below = below
character_before at end (Ok []) here below = here
character_before at end (Ok (b ∷ [])) here below = tt
character_before at end (Ok (b ∷ c ∷ more)) here below = here

string_before : (end : ℕ) (r : Result Text LexFault) → StandsBefore end r → StandsBefore end (string_kind r)
string_before end (Err f) below = below
string_before end (Ok bytes) below = tt

-- what stands between the quotes ends with the literal
quoted_within : (at : ℕ) (bytes : Text) → 1 ≤ length bytes → at + 1 + length (between_quotes bytes) ≤ at + length bytes
quoted_within at bytes some = omega (arith, length-take (length bytes - 1 - 1) (drop 1 bytes), length-drop 1 bytes)

quoted_before : (at : ℕ) (bytes : Text) → 1 ≤ length bytes →
    StandsBefore (at + length bytes) (unescape 0 (at + 1) (between_quotes bytes))
quoted_before at bytes some = unescape_before 0 (at + 1) (at + length bytes) (between_quotes bytes)
    (quoted_within at bytes some)

-- a fault of a piece stands within it
meaning_before : (at : ℕ) (kind : Lexeme) (bytes : Text) → 1 ≤ length bytes →
    StandsBefore (at + length bytes) (meaning at (kind, bytes))
unfolding meaning
meaning_before at lexeme.Blank bytes some = tt
meaning_before at lexeme.Newline bytes some = tt
meaning_before at lexeme.Comment bytes some = tt
meaning_before at (lexeme.Marker line from to) bytes some = tt
meaning_before at lexeme.Ignored bytes some = tt
meaning_before at lexeme.Word bytes some = tt
meaning_before at lexeme.Number bytes some = number_before at (at + length bytes) (number bytes) (omega arith)
meaning_before at lexeme.Character bytes some =
    character_before at (at + length bytes) (unescape 0 (at + 1) (between_quotes bytes)) (omega arith)
    (quoted_before at bytes some)
meaning_before at lexeme.Text bytes some =
    string_before (at + length bytes) (unescape 0 (at + 1) (between_quotes bytes)) (quoted_before at bytes some)
meaning_before at lexeme.WideCharacter bytes some = tt
meaning_before at lexeme.WideText bytes some = tt
meaning_before at (lexeme.Punctuator p) bytes some = tt
meaning_before at (lexeme.Stray s) bytes some = stray_before at (at + length bytes) s (omega arith)

some_bytes : (text : Text) → text ≢ [] → 1 ≤ length text
some_bytes [] some = absurd (some refl)
some_bytes (b ∷ text) some = omega arith

after_before : (before : List Element) (fresh : Bool) (at : ℕ) (text : Text) (f : LexFault) →
    FaultAfter before fresh at text f →
    IsBefore (at + length text) f
after_before [] fresh at text f (inl stands) =
    let some = some_bytes text stands.0 in
    rw (stands.2) (stray_before at (at + length text) _ (omega arith))
after_before [] fresh at text f (inr stands) =
    let some = begins_long fresh stands.0 stands.1 stands.2 stands.3.begins in
    let below : IsBefore (at + length stands.1) f
    = subst (λ (r : Result (Option TokenKind) LexFault). StandsBefore (at + length stands.1) r) stands.4
    (meaning_before at stands.0 stands.1 some) in
    before_more (at + length stands.1) (at + length text) f
    (omega (arith, ap length stands.3.splits, length-append stands.1 stands.2)) below
after_before (e ∷ es) fresh at text f stands =
    before_more (at + length e.1 + length stands.0) (at + length text) f
    (omega (arith, ap length stands.1.splits, length-append e.1 stands.0))
    (after_before es (fresh_after fresh e.0) (at + length e.1) stands.0 f stands.3)

first_before : (bytes : Text) (f : LexFault) → IsFirstFault bytes f → IsBefore (length bytes) f
first_before bytes f first = before_more (0 + length bytes) (length bytes) f (omega arith)
    (after_before first.before true 0 bytes f first.stands)

-- the fault that is answered
pub answer_within : (bytes : Text) (r : Reading) → IfErr r (λ f. f ≢ fault.Memory → IsFirstFault bytes f) →
    IfErr r (λ f. IfSome (fault_byte f) (λ at. at < length bytes))
answer_within bytes (Ok tokens) first = tt
answer_within bytes (Err fault.Memory) first = tt
answer_within bytes (Err (fault.BadByte at)) first = first_before bytes (fault.BadByte at) (first (λ e. cc))
answer_within bytes (Err (fault.OpenText at)) first = first_before bytes (fault.OpenText at) (first (λ e. cc))
answer_within bytes (Err (fault.WideNumber at)) first = first_before bytes (fault.WideNumber at) (first (λ e. cc))
answer_within bytes (Err (fault.BadConstant at)) first = first_before bytes (fault.BadConstant at) (first (λ e. cc))
answer_within bytes (Err (fault.BadDirective at)) first = first_before bytes (fault.BadDirective at) (first (λ e. cc))
