-- Lists that a loop reads to its end.
use Rattle.std.proofs.Common.{◌≡◌, ℕ, suc, List, [], ◌∷◌, ◌++◌, Some, None, Bool, true, false, refl, ap, ◌∙◌, ◌||◌}
use Rattle.c_language.specs.declared.token.Punctuator.TheVariants as mark
use Rattle.c_language.specs.declared.expr.Specifier.{Specifier}
use Rattle.c_language.specs.declared.expr.Field.{Field}
use Rattle.c_language.specs.declared.expr.MemberDeclaration.{MemberDeclaration}
use Rattle.c_grammar.specs.declared.type_words.TypeKind.{TypeKind}
use Rattle.c_grammar.specs.Grammar.{specifier_of}
use Rattle.c_grammar.specs.TypeWords.{is_type}
use Rattle.c_grammar.specs.Parts.{State, specifies_in}
use Rattle.c_grammar.specs.Reading.{
  Reading,
  Rules,
  ◌>>=◌,
  kind_of,
  specifiers_at,
  begins,
  expect,
  field_at,
  more_fields_at,
  member_at,
  members_at,
}
use Rattle.c_reading.specs.declared.fault.ParseFault.{ParseFault}
use Rattle.c_reading.specs.declared.fault.ParseFault.TheVariants as fault
use Rattle.c_reading.specs.Cursor.{Fails, after}
use Rattle.c_reading.proofs.Lists.{turned, stopped, failed}

-- ---- specifiers

specifier_step : (r : Rules) (m left : ℕ) (typed : Bool) (s : State) (read : Reading Specifier) → left ≡ suc m →
    specifies_in typed s.0 s.1 ≡ true → r.specifier s ≡ read
    → specifiers_at r left typed s ≡ (read >>= (λ x. specifiers_at r m (typed || is_type (kind_of x.0)) x.1 >>=
    (λ more. Some (x.0 ∷ more.0, more.1))))
unfolding specifiers_at
specifier_step r m left typed s read e goes is = rw (e, goes, is) refl

specifier_none : (r : Rules) (m left : ℕ) (typed : Bool) (s : State) → left ≡ suc m →
    specifies_in typed s.0 s.1 ≡ false → specifiers_at r left typed s ≡ Some ([], s)
unfolding specifiers_at
specifier_none r m left typed s e none = rw (e, none) refl

specifier_zero : (r : Rules) (left : ℕ) (typed : Bool) (s : State) → left ≡ 0 → specifiers_at r left typed s ≡ None
unfolding specifiers_at
specifier_zero r left typed s e = rw e refl

pub specifiers_go : (r : Rules) (m left : ℕ) (typed : Bool) (front : List Specifier) (x : Specifier)
    (s z : State) (whole : Reading (List Specifier)) → left ≡ suc m → specifies_in typed s.0 s.1 ≡ true →
    r.specifier s ≡ Some (x, z)
    → after front (specifiers_at r left typed s) ≡ whole →
    after (front ++ x ∷ []) (specifiers_at r m (typed || is_type (kind_of x)) z) ≡ whole
specifiers_go r m left typed front x s z whole e goes is reads =
    turned front x (specifiers_at r left typed s) (specifiers_at r m (typed || is_type (kind_of x)) z) whole
    (specifier_step r m left typed s (Some (x, z)) e goes is) reads

pub specifiers_fail : (r : Rules) (m left : ℕ) (typed : Bool) (front : List Specifier) (s : State)
    (whole : Reading (List Specifier)) (f : ParseFault) → left ≡ suc m → specifies_in typed s.0 s.1 ≡ true →
    Fails f (r.specifier s)
    → after front (specifiers_at r left typed s) ≡ whole → Fails f whole
specifiers_fail r m left typed front s whole fault.Memory e goes none reads = tt
specifiers_fail r m left typed front s whole (fault.Syntax at) e goes none reads = failed front
    (specifiers_at r left typed s) whole (specifier_step r m left typed s None e goes none) reads
specifiers_fail r m left typed front s whole (fault.TooDeep at) e goes none reads = failed front
    (specifiers_at r left typed s) whole (specifier_step r m left typed s None e goes none) reads

pub specifiers_stop : (r : Rules) (m left : ℕ) (typed : Bool) (front : List Specifier) (s : State)
    (whole : Reading (List Specifier)) → left ≡ suc m → specifies_in typed s.0 s.1 ≡ false
    → after front (specifiers_at r left typed s) ≡ whole → whole ≡ Some (front, s)
specifiers_stop r m left typed front s whole e none reads = stopped front (specifiers_at r left typed s) whole s
    (specifier_none r m left typed s e none) reads

pub specifiers_out : (r : Rules) (left : ℕ) (typed : Bool) (front : List Specifier) (s : State)
    (whole : Reading (List Specifier)) → left ≡ 0 → after front (specifiers_at r left typed s) ≡ whole → whole ≡ None
specifiers_out r left typed front s whole e reads = failed front (specifiers_at r left typed s) whole
    (specifier_zero r left typed s e) reads

pub specifiers_next : (r : Rules) (m left : ℕ) (typed now : Bool) (front all : List Specifier) (k : TypeKind)
    (x : Specifier) (s z : State) (whole : Reading (List Specifier)) → left ≡ suc m →
    specifies_in typed s.0 s.1 ≡ true → r.specifier s ≡ Some (x, z)
    → k ≡ (specifier_of x).kind → now ≡ (typed || is_type k) → all ≡ front ++ x ∷ [] →
    after front (specifiers_at r left typed s) ≡ whole → after all (specifiers_at r m now z) ≡ whole
specifiers_next r m left typed now front all k x s z whole e goes is kind typing appended reads =
    ap (λ l. after l (specifiers_at r m now z)) appended
    ∙ ap (λ b. after (front ++ x ∷ []) (specifiers_at r m b z)) (typing ∙ ap (λ w. typed || is_type w) kind)
    ∙ specifiers_go r m left typed front x s z whole e goes is reads

-- ---- fields

field_none : (r : Rules) (m left : ℕ) (s : State) → left ≡ suc m → begins mark.Comma s ≡ false →
    more_fields_at r left s ≡ Some ([], s)
unfolding more_fields_at
field_none r m left s e none = rw (e, none) refl

field_step : (r : Rules) (m left at : ℕ) (s z : State) (read : Reading Field) → left ≡ suc m →
    begins mark.Comma s ≡ true → expect mark.Comma s ≡ Some (tt, at, z) → field_at r z ≡ read
    → more_fields_at r left s ≡ (read >>= (λ x. more_fields_at r m x.1 >>= (λ more. Some (x.0 ∷ more.0, more.1))))
unfolding more_fields_at
field_step r m left at s z read e goes is reads = rw (e, goes, is, reads) refl

field_zero : (r : Rules) (left : ℕ) (s : State) → left ≡ 0 → more_fields_at r left s ≡ None
unfolding more_fields_at
field_zero r left s e = rw e refl

pub fields_stop : (r : Rules) (m left : ℕ) (front : List Field) (s : State) (whole : Reading (List Field)) →
    left ≡ suc m → begins mark.Comma s ≡ false → after front (more_fields_at r left s) ≡ whole →
    whole ≡ Some (front, s)
fields_stop r m left front s whole e none reads = stopped front (more_fields_at r left s) whole s
    (field_none r m left s e none) reads

pub fields_fail : (r : Rules) (m left at : ℕ) (front : List Field) (s z : State) (whole : Reading (List Field))
    (f : ParseFault) → left ≡ suc m → begins mark.Comma s ≡ true → expect mark.Comma s ≡ Some (tt, at, z) →
    Fails f (field_at r z) → after front (more_fields_at r left s) ≡ whole → Fails f whole
fields_fail r m left at front s z whole fault.Memory e goes is none reads = tt
fields_fail r m left at front s z whole (fault.Syntax p) e goes is none reads = failed front
    (more_fields_at r left s) whole (field_step r m left at s z None e goes is none) reads
fields_fail r m left at front s z whole (fault.TooDeep p) e goes is none reads = failed front
    (more_fields_at r left s) whole (field_step r m left at s z None e goes is none) reads

pub fields_next : (r : Rules) (m left at : ℕ) (front all : List Field) (x : Field) (s z w : State)
    (whole : Reading (List Field)) → left ≡ suc m → begins mark.Comma s ≡ true →
    expect mark.Comma s ≡ Some (tt, at, z) → field_at r z ≡ Some (x, w) → all ≡ front ++ x ∷ [] →
    after front (more_fields_at r left s) ≡ whole → after all (more_fields_at r m w) ≡ whole
fields_next r m left at front all x s z w whole e goes is took appended reads =
    ap (λ l. after l (more_fields_at r m w)) appended ∙ turned front x (more_fields_at r left s)
    (more_fields_at r m w) whole (field_step r m left at s z (Some (x, w)) e goes is took) reads

pub fields_out : (r : Rules) (left : ℕ) (front : List Field) (s : State) (whole : Reading (List Field)) →
    left ≡ 0 → after front (more_fields_at r left s) ≡ whole → whole ≡ None
fields_out r left front s whole e reads = failed front (more_fields_at r left s) whole (field_zero r left s e) reads

-- ---- members

member_none : (r : Rules) (m left : ℕ) (s : State) → left ≡ suc m → begins mark.RightBrace s ≡ true →
    members_at r left s ≡ Some ([], s)
unfolding members_at
member_none r m left s e none = rw (e, none) refl

member_step : (r : Rules) (m left : ℕ) (s : State) (read : Reading MemberDeclaration) → left ≡ suc m →
    begins mark.RightBrace s ≡ false → member_at r s ≡ read
    → members_at r left s ≡ (read >>= (λ x. members_at r m x.1 >>= (λ more. Some (x.0 ∷ more.0, more.1))))
unfolding members_at
member_step r m left s read e goes reads = rw (e, goes, reads) refl

member_zero : (r : Rules) (left : ℕ) (s : State) → left ≡ 0 → members_at r left s ≡ None
unfolding members_at
member_zero r left s e = rw e refl

pub members_stop : (r : Rules) (m left : ℕ) (front : List MemberDeclaration) (s : State)
    (whole : Reading (List MemberDeclaration)) → left ≡ suc m → begins mark.RightBrace s ≡ true →
    after front (members_at r left s) ≡ whole → whole ≡ Some (front, s)
members_stop r m left front s whole e none reads = stopped front (members_at r left s) whole s
    (member_none r m left s e none) reads

pub members_fail : (r : Rules) (m left : ℕ) (front : List MemberDeclaration) (s : State)
    (whole : Reading (List MemberDeclaration)) (f : ParseFault) → left ≡ suc m →
    begins mark.RightBrace s ≡ false → Fails f (member_at r s) → after front (members_at r left s) ≡ whole →
    Fails f whole
members_fail r m left front s whole fault.Memory e goes none reads = tt
members_fail r m left front s whole (fault.Syntax p) e goes none reads = failed front (members_at r left s)
    whole (member_step r m left s None e goes none) reads
members_fail r m left front s whole (fault.TooDeep p) e goes none reads = failed front (members_at r left s)
    whole (member_step r m left s None e goes none) reads

pub members_next : (r : Rules) (m left : ℕ) (front all : List MemberDeclaration) (x : MemberDeclaration)
    (s w : State) (whole : Reading (List MemberDeclaration)) → left ≡ suc m → begins mark.RightBrace s ≡ false →
    member_at r s ≡ Some (x, w) → all ≡ front ++ x ∷ [] → after front (members_at r left s) ≡ whole →
    after all (members_at r m w) ≡ whole
members_next r m left front all x s w whole e goes took appended reads =
    ap (λ l. after l (members_at r m w)) appended ∙ turned front x (members_at r left s) (members_at r m w)
    whole (member_step r m left s (Some (x, w)) e goes took) reads

pub members_out : (r : Rules) (left : ℕ) (front : List MemberDeclaration) (s : State)
    (whole : Reading (List MemberDeclaration)) → left ≡ 0 → after front (members_at r left s) ≡ whole → whole ≡ None
members_out r left front s whole e reads = failed front (members_at r left s) whole (member_zero r left s e) reads
