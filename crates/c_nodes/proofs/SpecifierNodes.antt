-- The heights of specifiers that are made, and what they say of the type.
use Rattle.std.proofs.Common.{◌≡◌, ℕ, List, [], ◌∷◌, ◌++◌, Option, Bool, refl, sym, ap, ◌∙◌, arith, ◌+◌}
use Rattle.std.specs.Prelude.{max, map}
use Rattle.c_language.specs.declared.expr.StorageClass.{StorageClass}
use Rattle.c_language.specs.declared.expr.Qualifier.{Qualifier}
use Rattle.c_language.specs.declared.expr.TypeWord.{TypeWord}
use Rattle.c_language.specs.declared.expr.AggregateKind.{AggregateKind}
use Rattle.c_language.specs.declared.expr.TagName.{TagName}
use Rattle.c_language.specs.declared.expr.MemberDeclaration.{MemberDeclaration}
use Rattle.c_language.specs.declared.expr.Enumerator.{Enumerator}
use Rattle.c_language.specs.declared.expr.Declarator.{Declarator}
use Rattle.c_language.specs.declared.expr.TypeName.{TypeName}
use Rattle.c_language.specs.declared.expr.Specifier.{Specifier}
use Rattle.c_language.specs.declared.expr.Specifier.TheVariants as specifier
use Rattle.c_grammar.specs.declared.type_words.TypeKind.{TypeKind}
use Rattle.c_grammar.specs.declared.type_words.TypeKind.TheVariants as type_kind
use Rattle.c_grammar.specs.declared.type_words.TypeWords.{TypeWords}
use Rattle.c_grammar.specs.TypeWords.{none, words_from, with_kind}
use Rattle.c_grammar.specs.Reading.{kind_of}
use Rattle.c_grammar.specs.Grammar.{
  form,
  specifier_of,
  highest,
  highest_specifier,
  member_of,
  enumerator_of,
  type_name_of,
}
use Rattle.c_grammar.proofs.Equations.{
  specifier-Storage,
  specifier-Qualifier,
  specifier-Inline,
  specifier-Word,
  specifier-Typedef,
  specifier-Tag,
  specifier-Aggregate,
  specifier-EnumTag,
  specifier-Enumeration,
  type-name-is,
}

pub height_typedef : (at : ℕ) (name : List ℕ) → 1 ≡ (specifier_of (specifier.Typedef at name)).height
height_typedef at name = sym (ap (λ w. w.height) (specifier-Typedef at name))

pub kind_typedef : (at : ℕ) (name : List ℕ) → type_kind.Whole ≡ (specifier_of (specifier.Typedef at name)).kind
kind_typedef at name = sym (ap (λ w. w.kind) (specifier-Typedef at name))

pub height_tag : (at : ℕ) (kind : AggregateKind) (tag : TagName) →
    1 ≡ (specifier_of (specifier.Tag at kind tag)).height
height_tag at kind tag = sym (ap (λ w. w.height) (specifier-Tag at kind tag))

pub kind_tag : (at : ℕ) (kind : AggregateKind) (tag : TagName) →
    type_kind.Whole ≡ (specifier_of (specifier.Tag at kind tag)).kind
kind_tag at kind tag = sym (ap (λ w. w.kind) (specifier-Tag at kind tag))

pub height_enum_tag : (at : ℕ) (tag : TagName) → 1 ≡ (specifier_of (specifier.EnumTag at tag)).height
height_enum_tag at tag = sym (ap (λ w. w.height) (specifier-EnumTag at tag))

pub kind_enum_tag : (at : ℕ) (tag : TagName) → type_kind.Whole ≡ (specifier_of (specifier.EnumTag at tag)).kind
kind_enum_tag at tag = sym (ap (λ w. w.kind) (specifier-EnumTag at tag))

pub height_storage : (at : ℕ) (class : StorageClass) → 1 ≡ (specifier_of (specifier.Storage at class)).height
height_storage at class = sym (ap (λ w. w.height) (specifier-Storage at class))

pub kind_storage : (at : ℕ) (class : StorageClass) →
    type_kind.NoType ≡ (specifier_of (specifier.Storage at class)).kind
kind_storage at class = sym (ap (λ w. w.kind) (specifier-Storage at class))

pub height_qualifier : (at : ℕ) (qualifier : Qualifier) → 1 ≡ (specifier_of (specifier.Qualifier at qualifier)).height
height_qualifier at qualifier = sym (ap (λ w. w.height) (specifier-Qualifier at qualifier))

pub kind_qualifier : (at : ℕ) (qualifier : Qualifier) →
    type_kind.NoType ≡ (specifier_of (specifier.Qualifier at qualifier)).kind
kind_qualifier at qualifier = sym (ap (λ w. w.kind) (specifier-Qualifier at qualifier))

pub height_inline : (at : ℕ) → 1 ≡ (specifier_of (specifier.Inline at)).height
height_inline at = sym (ap (λ w. w.height) (specifier-Inline at))

pub kind_inline : (at : ℕ) → type_kind.NoType ≡ (specifier_of (specifier.Inline at)).kind
kind_inline at = sym (ap (λ w. w.kind) (specifier-Inline at))

pub height_word : (at : ℕ) (word : TypeWord) → 1 ≡ (specifier_of (specifier.Word at word)).height
height_word at word = sym (ap (λ w. w.height) (specifier-Word at word))

pub kind_word : (at : ℕ) (word : TypeWord) → type_kind.Word word ≡ (specifier_of (specifier.Word at word)).kind
kind_word at word = sym (ap (λ w. w.kind) (specifier-Word at word))

pub height_aggregate : (at : ℕ) (kind : AggregateKind) (tag : Option TagName) (members : List MemberDeclaration)
    (h0 h : ℕ) → h0 ≡ highest (map member_of members) → h ≡ h0 →
    h + 1 ≡ (specifier_of (specifier.Aggregate at kind tag members)).height
height_aggregate at kind tag members h0 h e g =
    let s = ap (λ w. w.height) (specifier-Aggregate at kind tag members) in
    omega (arith, s)

pub kind_aggregate : (at : ℕ) (kind : AggregateKind) (tag : Option TagName) (members : List MemberDeclaration) →
    type_kind.Whole ≡ (specifier_of (specifier.Aggregate at kind tag members)).kind
kind_aggregate at kind tag members = sym (ap (λ w. w.kind) (specifier-Aggregate at kind tag members))

pub height_enumeration : (at : ℕ) (tag : Option TagName) (enumerators : List Enumerator) (trailing : Bool)
    (h0 h : ℕ) → h0 ≡ highest (map enumerator_of enumerators) → h ≡ h0 →
    h + 1 ≡ (specifier_of (specifier.Enumeration at tag enumerators trailing)).height
height_enumeration at tag enumerators trailing h0 h e g =
    let s = ap (λ w. w.height) (specifier-Enumeration at tag enumerators trailing) in
    omega (arith, s)

pub kind_enumeration : (at : ℕ) (tag : Option TagName) (enumerators : List Enumerator) (trailing : Bool) →
    type_kind.Whole ≡ (specifier_of (specifier.Enumeration at tag enumerators trailing)).kind
kind_enumeration at tag enumerators trailing = sym (ap (λ w. w.kind)
    (specifier-Enumeration at tag enumerators trailing))

pub height_type_name : (specifiers : List Specifier) (declarator : Declarator) (h0 h1 h : ℕ) →
    h0 ≡ highest_specifier (map specifier_of specifiers) → h1 ≡ (form declarator).height → h ≡ max h0 h1 →
    h ≡ (type_name_of (record { specifiers = specifiers; declarator = declarator })).height
height_type_name specifiers declarator h0 h1 h e0 e1 g =
    let s = ap (λ w. w.height) (type-name-is (record { specifiers = specifiers; declarator = declarator })) in
    omega (arith, s)

highest_more : (xs : List Specifier) (x : Specifier) →
    highest_specifier (map specifier_of (xs ++ x ∷ [])) ≡ max (highest_specifier (map specifier_of xs))
    (specifier_of x).height
highest_more [] x = omega arith
highest_more (y ∷ ys) x =
    let m = highest_more ys x in
    omega (arith, m)

pub height_more : (xs : List Specifier) (x : Specifier) (h0 h1 h : ℕ) →
    h0 ≡ highest_specifier (map specifier_of xs) → h1 ≡ (specifier_of x).height → h ≡ max h0 h1 →
    h ≡ highest_specifier (map specifier_of (xs ++ x ∷ []))
height_more xs x h0 h1 h e0 e1 g =
    let m = highest_more xs x in
    omega (arith, m)

more_words : (w : TypeWords) (xs : List Specifier) (x : Specifier) →
    words_from w (map kind_of (xs ++ x ∷ [])) ≡ with_kind (words_from w (map kind_of xs)) (kind_of x)
more_words w [] x = refl
more_words w (y ∷ ys) x = more_words (with_kind w (kind_of y)) ys x

pub words_more : (xs : List Specifier) (x : Specifier) (w0 w : TypeWords) (k : TypeKind) →
    w0 ≡ words_from none (map kind_of xs) → k ≡ (specifier_of x).kind → w ≡ with_kind w0 k →
    w ≡ words_from none (map kind_of (xs ++ x ∷ []))
words_more xs x w0 w k e0 e1 g = g ∙ ap (λ v. with_kind v k) e0 ∙ ap
    (λ v. with_kind (words_from none (map kind_of xs)) v) e1 ∙ sym (more_words none xs x)

-- what is said of an enumeration that is made
pub ruleset of_enumeration = (height_enumeration, kind_enumeration)
