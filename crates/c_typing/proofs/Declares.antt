-- What specifiers, members, enumerators, declarators, parameters and type names say, from what the code has found of
-- their parts: one lemma a constructor.
use Rattle.std.proofs.Common.{◌≡◌, ℕ, suc, add-one, ◌+◌, ◌<◌, ◌≤◌, pos, List, [], ◌∷◌, ◌++◌, Option, Some, None, Bool, true, false, map, length, drop, get_or, drop-cons, refl, sym, ap, ◌∙◌}
use Rattle.std.specs.Bool.{◌==◌}
use Rattle.std.proofs.lemmas.Bool.{false≢true}
use Rattle.std.proofs.lemmas.List.{drop_all}
use Rattle.c_language.specs.declared.expr.AggregateKind.{AggregateKind}
use Rattle.c_language.specs.declared.expr.ArrayWord.{ArrayWord}
use Rattle.c_language.specs.declared.expr.Declarator.{Declarator}
use Rattle.c_language.specs.declared.expr.Declarator.TheVariants as declarator
use Rattle.c_language.specs.declared.expr.Enumerator.{Enumerator}
use Rattle.c_language.specs.declared.expr.Expr.{Expr}
use Rattle.c_language.specs.declared.expr.Field.{Field}
use Rattle.c_language.specs.declared.expr.Field.TheVariants as field
use Rattle.c_language.specs.declared.expr.MemberDeclaration.{MemberDeclaration}
use Rattle.c_language.specs.declared.expr.Parameter.{Parameter}
use Rattle.c_language.specs.declared.expr.Qualifier.{Qualifier}
use Rattle.c_language.specs.declared.expr.Specifier.{Specifier}
use Rattle.c_language.specs.declared.expr.Specifier.TheVariants as specifier
use Rattle.c_language.specs.declared.expr.StorageClass.{StorageClass}
use Rattle.c_language.specs.declared.expr.TagName.{TagName}
use Rattle.c_language.specs.declared.expr.TypeName.{TypeName}
use Rattle.c_language.specs.declared.expr.TypeWord.{TypeWord}
use Rattle.c_language.specs.Types.{with_both}
use Rattle.c_language.specs.declared.ctype.CType.{CType}
use Rattle.c_language.specs.declared.tables.Prototype.{Prototype}
use Rattle.c_language.specs.declared.scope.Fault.{Fault}
use Rattle.c_language.specs.declared.shown.Told.{Told}
use Rattle.c_language.specs.Scopes.{Name, Scope, look_up, tag_of, enter}
use Rattle.c_language.specs.Typing.{Typed, typed_in}
use Rattle.c_language.specs.Declares as spec
use Rattle.c_language.specs.Trees.{
  typed,
  declarator_says,
  specifier_says,
  field_says,
  enumerator_says,
  member_says,
  parameter_says,
  type_name_says,
}
use Rattle.c_language.proofs.Equations as eq
use Rattle.c_language.specs.declared.ctype.Derivation.TheVariants as d
use Rattle.c_typing.specs.Parts.{length_says, bits_say}
use Rattle.c_declares.specs.declared.declarators.Counted.{Counted}
use Rattle.c_declares.specs.declared.declarators.Formed.{Formed}
use Rattle.c_declares.specs.declared.enumerations.Counting.{Counting}
use Rattle.c_declares.specs.declared.members.Laid.{Laid}
use Rattle.c_declares.specs.declared.parameters.Listed.{Listed}
use Rattle.c_declares.specs.declared.parameters.Named.{Named}
use Rattle.c_declares.specs.declared.said.Said.{Said}
use Rattle.c_declares.specs.declared.tags.Begun.{Begun}
use Rattle.c_declares.specs.declared.type_names.TypeSaid.{TypeSaid}
use Rattle.c_declares.specs.Views.{
  said_in,
  begun_in,
  formed_in,
  counted_in,
  named_in,
  listed_in,
  laid_in,
  counting_in,
  type_said_in,
}

-- ---- what was read through an owner, or from a list's slice

pub of-child : {x : Typed} {e e' : Expr} (s : Scope) → x ≡ typed e s → e ≡ e' → x ≡ typed e' s
of-child s said is = said ∙ ap (λ (z : Expr). typed z s) is

pub of-declarator : {x : spec.Formed} {d d' : Declarator} (s : Scope) → x ≡ declarator_says d s → d ≡ d' →
    x ≡ declarator_says d' s
of-declarator s said is = said ∙ ap (λ (z : Declarator). declarator_says z s) is

pub of-specifiers : {x : spec.Said} {xs ys : List Specifier} {f g : List Fault} (s : Scope) →
    x ≡ spec.said_by (map specifier_says xs) false f s → xs ≡ ys → f ≡ g →
    x ≡ spec.said_by (map specifier_says ys) false g s
of-specifiers {ys = ys} {f = f} s said is same =
    said ∙ ap (λ (z : List Specifier). spec.said_by (map specifier_says z) false f s) is
    ∙ ap (λ (z : List Fault). spec.said_by (map specifier_says ys) false z s) same

pub of-members : {x : spec.Laid} {xs ys : List MemberDeclaration} (before : spec.Laid) →
    x ≡ spec.in_order (map member_says xs) before → xs ≡ ys → x ≡ spec.in_order (map member_says ys) before
of-members before said is = said ∙ ap (λ (z : List MemberDeclaration). spec.in_order (map member_says z) before) is

pub of-enumerators : {x : spec.Counting} {xs ys : List Enumerator} (before : spec.Counting) →
    x ≡ spec.in_order (map enumerator_says xs) before → xs ≡ ys → x ≡ spec.in_order (map enumerator_says ys) before
of-enumerators before said is = said ∙ ap (λ (z : List Enumerator). spec.in_order (map enumerator_says z) before) is

pub of-parameters : {x : spec.Listed} {xs ys : List Parameter} (before : spec.Listed) →
    x ≡ spec.listed before (map parameter_says xs) → xs ≡ ys → x ≡ spec.listed before (map parameter_says ys)
of-parameters before said is = said ∙ ap (λ (z : List Parameter). spec.listed before (map parameter_says z)) is

-- ---- declarators

pub on-Name : {d : Declarator} (at : ℕ) (name : Name) (s : Scope) (x : Formed) → d ≡ declarator.Name at name →
    formed_in x s ≡ spec.named (Some (at, name)) s → formed_in x s ≡ declarator_says d s
on-Name at name s x is said =
    rw (is, eq.says-Name at name) said

pub on-Omitted : {d : Declarator} (s : Scope) (x : Formed) → d ≡ declarator.Omitted →
    formed_in x s ≡ spec.named None s → formed_in x s ≡ declarator_says d s
on-Omitted s x is said =
    rw (is, eq.says-Omitted) said

pub on-Grouped : {d : Declarator} (at : ℕ) (inner : Declarator) (s s1 : Scope) (x : Formed) →
    d ≡ declarator.Grouped at inner → formed_in x s1 ≡ declarator_says inner s → formed_in x s1 ≡ declarator_says d s
on-Grouped at inner s s1 x is said =
    rw (is, eq.says-Grouped at inner) said

pub on-Pointer : {d : Declarator} (at : ℕ) {qualifiers : List Qualifier} (inner : Declarator) (read : List Qualifier)
    (s s1 : Scope) (x y : Formed) → d ≡ declarator.Pointer at qualifiers inner →
    formed_in x s1 ≡ declarator_says inner s → read ≡ qualifiers →
    formed_in y s1 ≡ spec.to_pointer read (formed_in x s1) → formed_in y s1 ≡ declarator_says d s
on-Pointer at {qualifiers} inner read s s1 x y is first same said =
    rw (is, eq.says-Pointer at qualifiers inner, sym first)
    (said ∙ ap (λ (z : List Qualifier). spec.to_pointer z (formed_in x s1)) same)

pub on-Array : {d : Declarator} (at : ℕ) (inner : Declarator) {words : List ArrayWord} (length' : Option Expr)
    (read : List ArrayWord) (s s1 s2 : Scope) (x y : Formed) (n : Counted) →
    d ≡ declarator.Array at inner words length' → formed_in x s1 ≡ declarator_says inner s →
    counted_in n s2 ≡ length_says length' s1 → read ≡ words →
    formed_in y s2 ≡ spec.to_array (spec.qualifiers_among read) (formed_in x s1) (counted_in n s2) →
    formed_in y s2 ≡ declarator_says d s
on-Array at inner {words} length' read s s1 s2 x y n is first counts same said =
    rw (is, eq.says-Array at inner words length', sym first)
    (said ∙ ap (λ (z : List ArrayWord). spec.to_array (spec.qualifiers_among z) (formed_in x s1) (counted_in n s2)) same
    ∙ ap (spec.to_array (spec.qualifiers_among words) (formed_in x s1)) counts)

pub no-length : (e : Option Expr) (s : Scope) (n : Counted) → e ≡ None → n ≡ record {
  step = Some (d.Array None);
  faults = [];
} → counted_in n s ≡ length_says e s
no-length e s n is said = rw (is, said) refl

pub some-length : (e : Option Expr) (v : Expr) (s s1 : Scope) (x : Told) (n : Counted) → e ≡ Some v →
    typed_in x s1 ≡ typed v s → counted_in n s1 ≡ spec.counted_by (typed_in x s1) → counted_in n s1 ≡ length_says e s
some-length e v s s1 x n is first said = rw (is, sym first) said

pub on-Function : {d : Declarator} (at : ℕ) (inner : Declarator) {parameters : List Parameter} {variadic : Bool}
    (read : List Parameter) (prototype : Prototype) (s s1 s2 s3 s4 : Scope) (x y : Formed) (l : Listed) →
    d ≡ declarator.Function at inner parameters variadic → formed_in x s1 ≡ declarator_says inner s →
    s2 ≡ enter s1 → listed_in l s3 ≡ spec.listed (spec.none_listed s2) (map parameter_says parameters) →
    prototype ≡ spec.prototype_of (map parameter_says read) variadic → read ≡ parameters →
    formed_in y s4 ≡ spec.to_function prototype (formed_in x s1) (listed_in l s3) → formed_in y s4 ≡ declarator_says d s
on-Function at inner {parameters} {variadic} read prototype s s1 s2 s3 s4 x y l is first entered second judged same said =
    let whole = spec.prototype_of (map parameter_says parameters) variadic in
    rw (is, eq.says-Function at inner parameters variadic, sym first)
    (said ∙ ap (λ (z : Prototype). spec.to_function z (formed_in x s1) (listed_in l s3)) judged
    ∙ ap (λ (z : List Parameter). spec.to_function (spec.prototype_of (map parameter_says z) variadic) (formed_in x s1)
    (listed_in l s3)) same
    ∙ ap (spec.to_function whole (formed_in x s1)) second
    ∙ ap (λ (z : Scope). spec.to_function whole (formed_in x s1) (spec.listed (spec.none_listed z) (map parameter_says
    parameters))) entered)

-- ---- specifiers

pub on-Storage : {x : Specifier} (at : ℕ) (class : StorageClass) (s : Scope) (a b : Said) →
    x ≡ specifier.Storage at class →
    b ≡ record a { start = spec.started_at a.start at; storage = Some class } →
    said_in b s ≡ specifier_says x (said_in a s)
on-Storage at class s a b is said =
    rw (is, eq.says-Storage at class) (ap (λ (z : Said). said_in z s) said)

pub on-Qualifier : {x : Specifier} (at : ℕ) (qualifier : Qualifier) (s : Scope) (a b : Said) →
    x ≡ specifier.Qualifier at qualifier →
    b ≡ record a {
      start = spec.started_at a.start at;
      qualifiers = with_both a.qualifiers (spec.of_qualifier qualifier);
    } → said_in b s ≡ specifier_says x (said_in a s)
on-Qualifier at qualifier s a b is said =
    rw (is, eq.says-Qualifier at qualifier) (ap (λ (z : Said). said_in z s) said)

pub on-Inline : {x : Specifier} (at : ℕ) (s : Scope) (a b : Said) → x ≡ specifier.Inline at →
    b ≡ record a { start = spec.started_at a.start at; is_inline = true } →
    said_in b s ≡ specifier_says x (said_in a s)
on-Inline at s a b is said =
    rw (is, eq.says-Inline at) (ap (λ (z : Said). said_in z s) said)

pub on-Word : {x : Specifier} (at : ℕ) (word : TypeWord) (s : Scope) (a b : Said) → x ≡ specifier.Word at word →
    b ≡ record a { start = spec.started_at a.start at; words = a.words ++ word ∷ [] } →
    said_in b s ≡ specifier_says x (said_in a s)
on-Word at word s a b is said =
    rw (is, eq.says-Word at word) (ap (λ (z : Said). said_in z s) said)

pub on-Typedef : {x : Specifier} (at : ℕ) (name : Name) (s : Scope) (a b : Said) → x ≡ specifier.Typedef at name →
    said_in b s ≡ spec.typedef_in at (look_up s name) (spec.started at (said_in a s)) →
    said_in b s ≡ specifier_says x (said_in a s)
on-Typedef at name s a b is said =
    rw (is, eq.says-Typedef at name) said

pub on-Tag : {x : Specifier} (at : ℕ) (kind : AggregateKind) (tag : TagName) (s s1 : Scope) (a b : Said) →
    x ≡ specifier.Tag at kind tag →
    said_in b s1 ≡ spec.refers (spec.form_of kind) tag (spec.referred_tag a.alone s tag.name) (spec.started at
    (said_in a s)) → said_in b s1 ≡ specifier_says x (said_in a s)
on-Tag at kind tag s s1 a b is said =
    rw (is, eq.says-Tag at kind tag) said

pub on-EnumTag : {x : Specifier} (at : ℕ) (tag : TagName) (s : Scope) (a b : Said) → x ≡ specifier.EnumTag at tag →
    said_in b s ≡ spec.enumeration_tag tag.at (tag_of s tag.name) (spec.started at (said_in a s)) →
    said_in b s ≡ specifier_says x (said_in a s)
on-EnumTag at tag s a b is said =
    rw (is, eq.says-EnumTag at tag) said

pub on-Aggregate : {x : Specifier} (at : ℕ) (kind : AggregateKind) (tag : Option TagName)
    (members : List MemberDeclaration) (s s1 s2 s3 : Scope) (a b c : Said) (n : Begun) (l : Laid) →
    x ≡ specifier.Aggregate at kind tag members →
    begun_in n s1 ≡ spec.begins (spec.form_of kind) tag a.faults s →
    b ≡ record a { start = spec.started_at a.start at; faults = [] } →
    laid_in l s2 ≡ spec.in_order (map member_says members) (spec.none_laid (spec.form_of kind) n.faults s1) →
    said_in c s3 ≡ spec.ends_members (spec.form_of kind) n.number (laid_in l s2) (said_in b s2) →
    said_in c s3 ≡ specifier_says x (said_in a s)
on-Aggregate at kind tag members s s1 s2 s3 a b c n l is begins starts second said =
    let form = spec.form_of kind in
    rw (is, eq.says-Aggregate at kind tag members)
    (said ∙ ap (λ (z : spec.Laid). spec.ends_members form n.number z (said_in b s2)) second
    ∙ ap (λ (z : Said). spec.ends_members form n.number (spec.in_order (map member_says members) (spec.none_laid form
    n.faults s1)) (said_in z s2)) starts
    ∙ ap (λ (z : spec.Begun). spec.members_of form (map member_says members) z (spec.started at (said_in a s))) begins)

pub on-Enumeration : {x : Specifier} (at : ℕ) (tag : Option TagName) (enumerators : List Enumerator)
    (trailing : Bool) (s s1 s2 s3 : Scope) (a b c : Said) (n : Begun) (l : Counting) →
    x ≡ specifier.Enumeration at tag enumerators trailing →
    begun_in n s1 ≡ spec.begins_enumeration tag a.faults s →
    b ≡ record a { start = spec.started_at a.start at; faults = [] } →
    counting_in l s2 ≡ spec.in_order (map enumerator_says enumerators) (record {
      next = Some (pos 0);
      faults = n.faults;
      scope = s1;
    }) → said_in c s3 ≡ spec.ends_enumerators n.number (counting_in l s2) (said_in b s2) →
    said_in c s3 ≡ specifier_says x (said_in a s)
on-Enumeration at tag enumerators trailing s s1 s2 s3 a b c n l is begins starts second said =
    rw (is, eq.says-Enumeration at tag enumerators trailing)
    (said ∙ ap (λ (z : spec.Counting). spec.ends_enumerators n.number z (said_in b s2)) second
    ∙ ap (λ (z : Said). spec.ends_enumerators n.number (spec.in_order (map enumerator_says enumerators) (record {
      next = Some (pos 0);
      faults = n.faults;
      scope = s1;
    })) (said_in z s2)) starts
    ∙ ap (λ (z : spec.Begun). spec.enumerators_of (map enumerator_says enumerators) z (spec.started at (said_in a s)))
    begins)

-- ---- members, fields and enumerators

pub on-MemberDeclaration : (m : MemberDeclaration) (read : List Field) (s s1 s2 : Scope) (a b c e : Laid) (d : Said)
    (t : Option CType) → b ≡ record a { faults = [] } →
    said_in d s1 ≡ spec.said_by (map specifier_says m.specifiers) false a.faults s →
    c ≡ record b { faults = d.faults } → t ≡ spec.specified (said_in d s1) → read ≡ m.fields →
    laid_in e s2 ≡ spec.fields_of (map field_says read) t (laid_in c s1) →
    laid_in e s2 ≡ member_says m (laid_in a s)
on-MemberDeclaration m read s s1 s2 a b c e d t taken first put specified same said =
    let fields = map field_says m.fields in
    rw (eq.says-MemberDeclaration m)
    (said ∙ ap (λ (z : List Field). spec.fields_of (map field_says z) t (laid_in c s1)) same
    ∙ ap (λ (z : Option CType). spec.fields_of fields z (laid_in c s1)) specified
    ∙ ap (λ (z : Laid). spec.fields_of fields (spec.specified (said_in d s1)) (laid_in z s1)) put
    ∙ ap (λ (z : Laid). spec.fields_of fields (spec.specified (said_in d s1)) (laid_in (record z {
      faults = d.faults;
    }) s1)) taken
    ∙ ap (λ (z : spec.Said). spec.members_from z fields (laid_in a s)) first)

pub on-Plain : {f : Field} (inner : Declarator) (s s1 : Scope) (x : Formed) (a b : Laid) (t : Option CType) →
    f ≡ field.Plain inner → formed_in x s1 ≡ declarator_says inner s →
    laid_in b s1 ≡ spec.lays_formed (formed_in x s1) t (laid_in a s) → laid_in b s1 ≡ field_says f t (laid_in a s)
on-Plain inner s s1 x a b t is first said =
    rw (is, eq.says-Plain inner, sym first) said

pub on-Bits : {f : Field} (at : ℕ) (named : Option Declarator) (width : Expr) (s s1 s2 : Scope) (w : Told)
    (a b c : Laid) (t : Option CType) → f ≡ field.Bits at named width → laid_in b s1 ≡ bits_say named (laid_in a s) →
    typed_in w s2 ≡ typed width s1 → laid_in c s2 ≡ spec.bits_wide (typed_in w s2) (laid_in b s1) →
    laid_in c s2 ≡ field_says f t (laid_in a s)
on-Bits at named width s s1 s2 w a b c t is bits second said =
    rw (is, eq.says-Bits at named width)
    (said ∙ ap (λ (z : Typed). spec.bits_wide z (laid_in b s1)) second
    ∙ ap (λ (z : spec.Laid). spec.bits_wide (typed width z.scope) z) bits)

pub no-bits-name : (n : Option Declarator) (s : Scope) (a b : Laid) → n ≡ None →
    laid_in b s ≡ spec.next_member (laid_in a s) → laid_in b s ≡ bits_say n (laid_in a s)
no-bits-name n s a b is said = rw is said

pub some-bits-name : (n : Option Declarator) (d : Declarator) (s s1 : Scope) (x : Formed) (a b : Laid) → n ≡ Some d →
    formed_in x s1 ≡ declarator_says d s → laid_in b s1 ≡ spec.bits_formed (formed_in x s1) (laid_in a s) →
    laid_in b s1 ≡ bits_say n (laid_in a s)
some-bits-name n d s s1 x a b is first said = rw (is, sym first) said

pub on-Enumerator-None : (e : Enumerator) (s s1 : Scope) (a b : Counting) → e.value ≡ None →
    counting_in b s1 ≡ spec.enumerates e.at e.name a.next a.faults s →
    counting_in b s1 ≡ enumerator_says e (counting_in a s)
on-Enumerator-None e s s1 a b is said = rw (eq.says-Enumerator e, is) said

pub on-Enumerator-Some : (e : Enumerator) (value : Expr) (s s1 s2 : Scope) (x : Told) (a b : Counting) →
    e.value ≡ Some value → typed_in x s1 ≡ typed value s →
    counting_in b s2 ≡ spec.enumerates_typed e.at e.name (typed_in x s1) a.faults →
    counting_in b s2 ≡ enumerator_says e (counting_in a s)
on-Enumerator-Some e value s s1 s2 x a b is first said = rw (eq.says-Enumerator e, is, sym first) said

-- ---- parameters and type names

pub on-Parameter : (p : Parameter) (s s1 s2 : Scope) (d : Said) (x : Formed) (y : Named) →
    said_in d s1 ≡ spec.said_by (map specifier_says p.specifiers) false [] s →
    formed_in x s2 ≡ declarator_says p.declarator s1 →
    named_in y s2 ≡ spec.parameter_formed (said_in d s1) (formed_in x s2) → named_in y s2 ≡ parameter_says p s
on-Parameter p s s1 s2 d x y first second said =
    rw (eq.says-Parameter p)
    (said ∙ ap (spec.parameter_formed (said_in d s1)) second
    ∙ ap (λ (z : spec.Said). spec.parameter_formed z (declarator_says p.declarator z.scope)) first)

pub on-TypeName : (n : TypeName) (s s1 s2 : Scope) (d : Said) (x : Formed) (y : TypeSaid) →
    said_in d s1 ≡ spec.said_by (map specifier_says n.specifiers) false [] s →
    formed_in x s2 ≡ declarator_says n.declarator s1 →
    type_said_in y s2 ≡ spec.type_formed (said_in d s1) (formed_in x s2) → type_said_in y s2 ≡ type_name_says n s
on-TypeName n s s1 s2 d x y first second said =
    rw (eq.says-TypeName n)
    (said ∙ ap (spec.type_formed (said_in d s1)) second
    ∙ ap (λ (z : spec.Said). spec.type_formed z (declarator_says n.declarator z.scope)) first)

-- ---- lists: what remains computes the whole

module _ {A R W : Type 0} (g : List A → R → W) where
  pub goes-on : {step : A → R → R} → ((x : A) (xs : List A) (a : R) → g (x ∷ xs) a ≡ g xs (step x a)) →
      (xs : List A) (i : ℕ) (x y : A) (a b : R) {w : W} → i < length xs → x ≡ get_or xs i x → y ≡ x → b ≡ step y a →
      g (drop i xs) a ≡ w → g (drop (i + 1) xs) b ≡ w
  goes-on {step} steps xs i x y a b within is same said whole =
      let cut : drop i xs ≡ x ∷ drop (i + 1) xs = drop-cons xs i x within
      ∙ ap (λ (z : A). z ∷ drop (suc i) xs) (sym is) ∙ ap (λ (k : ℕ). x ∷ drop k xs) (sym (add-one i)) in
      ap (g (drop (i + 1) xs)) (said ∙ ap (λ (z : A). step z a) same) ∙ sym (steps x (drop (i + 1) xs) a)
      ∙ ap (λ (z : List A). g z a) (sym cut) ∙ whole

  pub ends : (xs : List A) (i : ℕ) (a : R) {v w : W} → g [] a ≡ v → length xs ≤ i → g (drop i xs) a ≡ w → v ≡ w
  ends xs i a none over whole = sym none ∙ ap (λ (z : List A). g z a) (sym (drop_all i xs over)) ∙ whole

pub some-fields : (xs : List Field) (t : Option CType) (x : spec.Laid) → (length xs == 0) ≡ false →
    spec.each_field (map field_says xs) t x ≡ spec.fields_of (map field_says xs) t x
some-fields [] t x is = absurd (false≢true (sym is))
some-fields (y ∷ ys) t x is = refl
