-- The rules that an accepted program keeps: those of needed declarations and of the functions that are reached, and
-- those that a log, identity or filling function has by the profile. `breaches_of` lists what is broken; a program
-- is accepted where `main` is one and the list is empty.
use Rattle.std.specs.Prelude.{◌≡◌, ℕ, suc, Bool, true, false, not, ◌&&◌, nat_eq, List, [], ◌∷◌, ◌++◌, length, drop}
use Rattle.std.specs.Prelude.{Option, Some, None, Result, Ok, Err, slice_get, unwrap_or}
use Rattle.printf_text.specs.declared.kind.Kind.{Kind}
use Rattle.printf_text.specs.declared.kind.Kind.TheVariants as kind
use Rattle.printf_text.specs.declared.parse.FormatFault.{FormatFault}
use Rattle.printf_text.specs.declared.piece.Piece.{Piece}
use Rattle.printf_text.specs.Pieces.{pieces_of}
use Rattle.printf_text.specs.Texts.{kinds}
use Rattle.c_language.specs.declared.ctype.CType.{CType}
use Rattle.c_language.specs.declared.ctype.Derivation.{Derivation}
use Rattle.c_language.specs.declared.ctype.Derivation.TheVariants as d
use Rattle.c_language.specs.declared.ctype.IntegerKind.TheVariants as int_
use Rattle.c_language.specs.declared.tables.Prototype.{Prototype}
use Rattle.c_language.specs.declared.tables.Prototype.TheVariants as prototype_
use Rattle.c_language.specs.declared.tables.Signature.{Signature}
use Rattle.c_language.specs.declared.tables.Tables.{Tables}
use Rattle.c_language.specs.Types.{is_integer, is_pointer, is_scalar, target_of, returned_of}
use Rattle.c_language.specs.Layouts.{is_sized}
use Rattle.c_language.specs.declared.scope.Entry.{Entry}
use Rattle.c_language.specs.declared.scope.Means.{Means}
use Rattle.c_language.specs.declared.scope.Means.TheVariants as means
use Rattle.c_language.specs.declared.scope.Rule.TheVariants as rule
use Rattle.c_language.specs.Scopes.{Scope, entry_in}
use Rattle.c_language.specs.Typing.{incomplete}
use Rattle.c_language.specs.Declarations.{tentative_type}
use Rattle.c_means.specs.Parts.{Level, Site}
use Rattle.c_means.specs.declared.breach.Breach.{Breach}
use Rattle.c_means.specs.declared.breach.BrokenRule.{BrokenRule}
use Rattle.c_means.specs.declared.breach.BrokenRule.TheVariants as broken
use Rattle.c_means.specs.declared.profile.FillFunction.{FillFunction}
use Rattle.c_means.specs.declared.profile.LogText.{LogText}
use Rattle.c_means.specs.declared.profile.LogText.TheVariants as log_
use Rattle.c_means.specs.Items.{Lasting, Item, breach, breach_if}
use Rattle.c_means.specs.Rules.{Plain, PlainInteger, plain_type, plain_result, same_plain, Rules, LogCall}
use Rattle.c_means.specs.Rules.{IdentityCall, BodyCall, LibraryCall, PreludeCall, OutsideCall, fill_of}
use Rattle.c_means.specs.Programs.{Function, Outer, reached, needed}
use Rattle.c_means.specs.Runs.{Machine, rule_of, bare, main_of}

abbrev pub mismatch : BrokenRule
mismatch = broken.Typing rule.TypeMismatch

-- ---- calls, by the types of their arguments as they are converted

abbrev pub type_at : List (Option CType) → ℕ → Option CType
type_at ts i = unwrap_or (slice_get ts i) None

abbrev pub meets : (CType → Bool) → Option CType → Bool
meets f None = false
meets f (Some t) = f t

abbrev pub is_of_kind : Kind → Option CType → Bool
is_of_kind kind.Integer t = meets is_integer t
is_of_kind kind.Text t = meets is_pointer t
is_of_kind kind.Pointer t = meets is_pointer t

-- one argument for each that the format takes; surplus ones are evaluated and ignored (C99 7.19.6.1p2)
abbrev pub are_of_kinds : List Kind → List (Option CType) → Bool
are_of_kinds [] ts = true
are_of_kinds (k ∷ ks) [] = false
are_of_kinds (k ∷ ks) (t ∷ ts) = is_of_kind k t && are_of_kinds ks ts

abbrev pub pieces_breaches : ℕ → Result (List Piece) FormatFault → List (Option CType) → List Breach
pieces_breaches at (Err fault) ts = breach at (broken.Format fault)
pieces_breaches at (Ok ps) ts = breach_if (not (are_of_kinds (kinds ps) ts)) at broken.FormatArgument

abbrev pub literal_breaches : ℕ → Option (List ℕ) → List (Option CType) → List Breach
literal_breaches at None ts = breach at broken.FormatNotLiteral
literal_breaches at (Some bytes) ts = pieces_breaches at (pieces_of bytes) ts

abbrev pub log_breaches : LogText → Site → List Breach
log_breaches (log_.Format i newline) g =
    literal_breaches g.at (unwrap_or (slice_get g.texts i) None) (drop (suc i) g.types)
log_breaches (log_.Text format) g = pieces_breaches g.at (pieces_of format) g.types

-- what is handed on is a scalar
abbrev pub identity_breaches : ℕ → Site → List Breach
identity_breaches i g = breach_if (not (meets is_scalar (type_at g.types i))) g.at mismatch

-- as many arguments as there are parameters, whatever the declaration in force says (C99 6.5.2.2p6)
abbrev pub body_breaches : Function → Site → List Breach
body_breaches f g = breach_if (not (nat_eq (length f.parameters) (length g.types))) g.at mismatch

abbrev pub fill_breaches : Option FillFunction → Site → List Breach
fill_breaches None g = []
fill_breaches (Some f) g =
    breach_if (not (meets is_pointer (type_at g.types f.buffer) && meets is_integer
    (type_at g.types f.length))) g.at mismatch

abbrev pub rule_breaches : Machine → Site → Rules Function → List Breach
rule_breaches m g (LogCall text) = log_breaches text g
rule_breaches m g (IdentityCall i) = identity_breaches i g
rule_breaches m g (BodyCall f) = body_breaches f g
rule_breaches m g (LibraryCall f) = []
rule_breaches m g (PreludeCall f) = body_breaches f g
rule_breaches m g OutsideCall = fill_breaches (fill_of m.profile g.callee.name) g

abbrev pub call_breaches : Machine → List (Level → Site) → List Breach
call_breaches m [] = []
call_breaches m (f ∷ fs) =
    let g = f (bare m m.limits.turns) in rule_breaches m g (rule_of m g) ++ call_breaches m fs

abbrev pub item_breaches : Machine → Item → List Breach
item_breaches m x = x.breaches ++ call_breaches m x.calls

-- ---- a body that couldn't be read, where the function is reached

abbrev pub unread_breaches : Option ℕ → List Breach
unread_breaches None = []
unread_breaches (Some at) = breach at broken.UnreadBody

abbrev pub function_breaches : Machine → List Function → List Breach
function_breaches m [] = []
function_breaches m (f ∷ fs) = unread_breaches f.unread ++ item_breaches m f.body ++ function_breaches m fs

-- ---- a definition whose type is incomplete at the end of the file (C99 6.9.2p3)

abbrev pub is_known : Tables → Means → Bool
is_known tables (means.Object t dur l) = is_sized tables (tentative_type t)
is_known tables (means.Function t l) = true
is_known tables (means.Typedef t) = true
is_known tables (means.Constant z) = true
is_known tables means.Faulty = true

abbrev pub final_breaches : Scope → Lasting → Option Entry → List Breach
final_breaches s x None = []
final_breaches s x (Some e) =
    breach_if (x.is_defined && nat_eq e.at x.entry.at && not (is_known s.tables e.means)) x.at
    (broken.Typing incomplete)

abbrev pub lasting_breaches : Scope → List Lasting → List Breach
lasting_breaches s [] = []
lasting_breaches s (x ∷ xs) = final_breaches s x (entry_in s.file x.entry.name) ++ lasting_breaches s xs

abbrev pub outer_breaches : Machine → List Outer → List Breach
outer_breaches m [] = []
outer_breaches m (x ∷ xs) =
    item_breaches m x.item ++ lasting_breaches m.program.scope x.item.lasting ++ outer_breaches m xs

-- ---- the program

-- what is broken, in no order: the refusal is the one at the least offset
abbrev pub breaches_of : Machine → List Breach
breaches_of m = outer_breaches m (needed m.profile m.program) ++ function_breaches m (reached m.profile m.program)

-- int main(void), int main(), int main(int, char **) (C99 5.1.2.2.1p1)
abbrev pub is_int : Option Plain → Bool
is_int t = same_plain t (Some (PlainInteger int_.Int))

abbrev pub is_char : CType → Bool
is_char t = same_plain (plain_type t) (Some (PlainInteger int_.Char))

abbrev pub is_char_pointer : CType → Bool
is_char_pointer t = meets is_char (target_of t)

abbrev pub is_strings : CType → Bool
is_strings t = meets is_char_pointer (target_of t)

abbrev pub are_main_parameters : List CType → Bool
are_main_parameters [] = true
are_main_parameters (t ∷ []) = false
are_main_parameters (t ∷ u ∷ []) = is_int (plain_type t) && is_strings u
are_main_parameters (t ∷ u ∷ v ∷ ts) = false

abbrev pub is_main_prototype : Prototype → Bool
is_main_prototype prototype_.Fixed = true
is_main_prototype prototype_.EmptyDefinition = true
is_main_prototype prototype_.Unspecified = true
is_main_prototype prototype_.Variadic = false

abbrev pub is_main_signature : Option Signature → Bool
is_main_signature None = false
is_main_signature (Some g) = is_main_prototype g.prototype && are_main_parameters g.parameters

abbrev pub is_main_from : Tables → List Derivation → Bool
is_main_from tables (d.Function n ∷ ds) = is_main_signature (slice_get tables.signatures n)
is_main_from tables _ = false

abbrev pub is_main_type : Tables → CType → Bool
is_main_type tables t = is_int (plain_result (returned_of t)) && is_main_from tables t.derivations

abbrev pub is_main_means : Tables → Means → Bool
is_main_means tables (means.Function t l) = is_main_type tables t
is_main_means tables (means.Object t dur l) = false
is_main_means tables (means.Typedef t) = false
is_main_means tables (means.Constant z) = false
is_main_means tables means.Faulty = false

abbrev pub is_main : Option Function → Bool
is_main None = false
is_main (Some f) = is_main_means f.inside.tables f.means

abbrev pub has_main : Machine → Bool
has_main m = is_main (main_of m)

-- a program of which no rule is broken
pub record IsAccepted (m : Machine) : Type 0 where
  pub main : has_main m ≡ true
  pub kept : breaches_of m ≡ []
