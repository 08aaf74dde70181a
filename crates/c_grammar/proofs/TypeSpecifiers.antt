-- The counts of words allow exactly the type specifiers that are listed. One computation compares the two on every
-- beginning of a listed type and on one word more; behind that, neither allows anything.
use Rattle.std.proofs.Common.{
  ◌≡◌,
  ℕ,
  zero,
  suc,
  List,
  [],
  ◌∷◌,
  Bool,
  true,
  false,
  ◌||◌,
  ◌&&◌,
  not,
  length,
  refl,
  sym,
  subst,
  ap,
  ◌∙◌,
  Option,
  Some,
  None,
  arith,
  rules,
  nat_eq,
  nat_le,
  inl,
  inr,
}
use Rattle.std.proofs.Math.Bool.{or-true}
use Rattle.std.proofs.lemmas.Bool.{or_cases}
use Rattle.c_language.specs.declared.expr.TypeWord.TheVariants as word
use Rattle.c_grammar.specs.declared.type_words.TypeKind.{TypeKind}
use Rattle.c_grammar.specs.declared.type_words.TypeKind.TheVariants as kind
use Rattle.c_grammar.specs.declared.type_words.TypeWords.{TypeWords}
use Rattle.c_grammar.specs.TypeWords.{
  none,
  more,
  with_kind,
  words_from,
  is_allowed,
  are_allowed,
  is_type,
  is_whole,
  is_char,
  is_integer,
  is_floating,
  is_standard,
  is_interchange,
  is_declared,
  has_no_integer,
  has_no_floating,
  has_no_interchange,
}
use Rattle.c_grammar.specs.TypeSpecifiers.{types, without, same_in_any_order, is_among, type_specifiers, are_listed}
use Rattle.c_grammar.proofs.Spans.{both, nat_eq_true, nat_le_true}

-- ---- what is left of the list behind a specifier

abbrev kept : Option (List TypeKind) → List (List TypeKind) → List (List TypeKind)
kept None ts = ts
kept (Some t) ts = t ∷ ts

-- each type that has this specifier, without it
abbrev behind : TypeKind → List (List TypeKind) → List (List TypeKind)
behind k [] = []
behind k (t ∷ ts) = kept (without k t) (behind k ts)

among_by : (k : TypeKind) (ks : List TypeKind) (o : Option (List TypeKind)) (ts : List (List TypeKind)) →
    is_among (k ∷ ks) ts ≡ is_among ks (behind k ts) →
    (elim o as (λ _. Bool) [ None ↦ false | Some rest ↦ same_in_any_order ks rest ] || is_among (k ∷ ks) ts)
    ≡ is_among ks (kept o (behind k ts))
among_by k ks None ts e = e
among_by k ks (Some t) ts e = ap (λ b. same_in_any_order ks t || b) e

among_behind : (k : TypeKind) (ks : List TypeKind) (ts : List (List TypeKind)) →
    is_among (k ∷ ks) ts ≡ is_among ks (behind k ts)
among_behind k ks [] = refl
among_behind k ks (t ∷ ts) = among_by k ks (without k t) ts (among_behind k ks ts)

-- ---- words that no further word makes a type

abbrev counts : TypeWords → List ℕ
counts w =
    w.alone ∷ w.char ∷ w.short ∷ w.int ∷ w.long ∷ w.sign ∷ w.float ∷ w.double ∷ w.complex
    ∷ w.float32 ∷ w.float64 ∷ w.float64x ∷ w.float128 ∷ []

abbrev within : List ℕ → List ℕ → Bool
within [] most = true
within (n ∷ ns) [] = true
within (n ∷ ns) (m ∷ ms) = nat_le n m && within ns ms

abbrev within_any : List ℕ → List (List ℕ) → Bool
within_any ns [] = false
within_any ns (most ∷ others) = within ns most || within_any ns others

-- the greatest counts of each group of types
abbrev greatest : List (List ℕ)
greatest =
    (1 ∷ 0 ∷ 0 ∷ 0 ∷ 0 ∷ 0 ∷ 0 ∷ 0 ∷ 0 ∷ 0 ∷ 0 ∷ 0 ∷ 0 ∷ [])
    ∷ (0 ∷ 1 ∷ 0 ∷ 0 ∷ 0 ∷ 1 ∷ 0 ∷ 0 ∷ 0 ∷ 0 ∷ 0 ∷ 0 ∷ 0 ∷ [])
    ∷ (0 ∷ 0 ∷ 1 ∷ 1 ∷ 0 ∷ 1 ∷ 0 ∷ 0 ∷ 0 ∷ 0 ∷ 0 ∷ 0 ∷ 0 ∷ [])
    ∷ (0 ∷ 0 ∷ 0 ∷ 1 ∷ 2 ∷ 1 ∷ 0 ∷ 0 ∷ 0 ∷ 0 ∷ 0 ∷ 0 ∷ 0 ∷ [])
    ∷ (0 ∷ 0 ∷ 0 ∷ 0 ∷ 0 ∷ 0 ∷ 1 ∷ 0 ∷ 1 ∷ 0 ∷ 0 ∷ 0 ∷ 0 ∷ [])
    ∷ (0 ∷ 0 ∷ 0 ∷ 0 ∷ 1 ∷ 0 ∷ 0 ∷ 1 ∷ 1 ∷ 0 ∷ 0 ∷ 0 ∷ 0 ∷ [])
    ∷ (0 ∷ 0 ∷ 0 ∷ 0 ∷ 0 ∷ 0 ∷ 0 ∷ 0 ∷ 1 ∷ 1 ∷ 0 ∷ 0 ∷ 0 ∷ [])
    ∷ (0 ∷ 0 ∷ 0 ∷ 0 ∷ 0 ∷ 0 ∷ 0 ∷ 0 ∷ 1 ∷ 0 ∷ 1 ∷ 0 ∷ 0 ∷ [])
    ∷ (0 ∷ 0 ∷ 0 ∷ 0 ∷ 0 ∷ 0 ∷ 0 ∷ 0 ∷ 1 ∷ 0 ∷ 0 ∷ 1 ∷ 0 ∷ [])
    ∷ (0 ∷ 0 ∷ 0 ∷ 0 ∷ 0 ∷ 0 ∷ 0 ∷ 0 ∷ 1 ∷ 0 ∷ 0 ∷ 0 ∷ 1 ∷ [])
    ∷ (0 ∷ 0 ∷ 0 ∷ 0 ∷ 0 ∷ 0 ∷ 1 ∷ 0 ∷ 0 ∷ 1 ∷ 0 ∷ 0 ∷ 0 ∷ [])
    ∷ (0 ∷ 0 ∷ 0 ∷ 0 ∷ 0 ∷ 0 ∷ 0 ∷ 1 ∷ 0 ∷ 0 ∷ 1 ∷ 0 ∷ 0 ∷ [])
    ∷ (0 ∷ 0 ∷ 0 ∷ 0 ∷ 1 ∷ 0 ∷ 0 ∷ 1 ∷ 0 ∷ 0 ∷ 0 ∷ 1 ∷ 0 ∷ [])
    ∷ []

abbrev may_follow : TypeWords → Bool
may_follow w = within_any (counts w) greatest

-- one count is one more, counted up to 3
abbrev raised : ℕ → List ℕ → List ℕ
raised i [] = []
raised zero (n ∷ ns) = more n ∷ ns
raised (suc i) (n ∷ ns) = n ∷ raised i ns

abbrev all_small : List ℕ → Bool
all_small [] = true
all_small (m ∷ ms) = nat_le m 2 && all_small ms

small_step : (n m : ℕ) → nat_le m 2 ≡ true → nat_le n m ≡ false → nat_le (more n) m ≡ false
small_step n m s h = grind (arith, rules)

small_and : (a a' b : Bool) → (a ≡ false → a' ≡ false) → (a && b) ≡ false → (a' && b) ≡ false
small_and false a' b f h = rw (f refl) refl
small_and true false b f h = refl
small_and true true b f h = h

small_rest : (a b b' : Bool) → (b ≡ false → b' ≡ false) → (a && b) ≡ false → (a && b') ≡ false
small_rest false b b' f h = refl
small_rest true b b' f h = f h

raised_beyond : (i : ℕ) (ns most : List ℕ) → all_small most ≡ true → within ns most ≡ false →
    within (raised i ns) most ≡ false
raised_beyond i [] most s h = cc
raised_beyond zero (n ∷ ns) [] s h = cc
raised_beyond zero (n ∷ ns) (m ∷ ms) s h =
    small_and (nat_le n m) _ (within ns ms) (small_step n m (both (nat_le m 2) (all_small ms) s).0) h
raised_beyond (suc i) (n ∷ ns) [] s h = cc
raised_beyond (suc i) (n ∷ ns) (m ∷ ms) s h =
    small_rest (nat_le n m) _ _ (raised_beyond i ns ms (both (nat_le m 2) (all_small ms) s).1) h

neither : (a b : Bool) → (a || b) ≡ false → (a ≡ false) × (b ≡ false)
neither true b h = cc
neither false b h = (refl, h)

abbrev all_rows_small : List (List ℕ) → Bool
all_rows_small [] = true
all_rows_small (most ∷ others) = all_small most && all_rows_small others

raised_beyond_any : (i : ℕ) (ns : List ℕ) (all : List (List ℕ)) → all_rows_small all ≡ true →
    within_any ns all ≡ false → within_any (raised i ns) all ≡ false
raised_beyond_any i ns [] s h = refl
raised_beyond_any i ns (most ∷ others) s h =
    let p = both (all_small most) (all_rows_small others) s in
    let n = neither (within ns most) (within_any ns others) h in
    rw (raised_beyond i ns most p.0 n.0, raised_beyond_any i ns others p.1 n.1) refl

-- which count a specifier raises
abbrev index : TypeKind → ℕ
index kind.NoType = 13
index kind.Whole = 0
index (kind.Word word.Void) = 0
index (kind.Word word.Bool) = 0
index (kind.Word word.VaList) = 0
index (kind.Word word.Char) = 1
index (kind.Word word.Short) = 2
index (kind.Word word.Int) = 3
index (kind.Word word.Long) = 4
index (kind.Word word.Signed) = 5
index (kind.Word word.Unsigned) = 5
index (kind.Word word.Float) = 6
index (kind.Word word.Double) = 7
index (kind.Word word.Complex) = 8
index (kind.Word word.Imaginary) = 8
index (kind.Word word.Float32) = 9
index (kind.Word word.Float64) = 10
index (kind.Word word.Float32x) = 10
index (kind.Word word.Float64x) = 11
index (kind.Word word.Float128) = 12

counted : (w : TypeWords) (k : TypeKind) → counts (with_kind w k) ≡ raised (index k) (counts w)
counted w kind.NoType = refl
counted w kind.Whole = refl
counted w (kind.Word word.Void) = refl
counted w (kind.Word word.Bool) = refl
counted w (kind.Word word.VaList) = refl
counted w (kind.Word word.Char) = refl
counted w (kind.Word word.Short) = refl
counted w (kind.Word word.Int) = refl
counted w (kind.Word word.Long) = refl
counted w (kind.Word word.Signed) = refl
counted w (kind.Word word.Unsigned) = refl
counted w (kind.Word word.Float) = refl
counted w (kind.Word word.Double) = refl
counted w (kind.Word word.Complex) = refl
counted w (kind.Word word.Imaginary) = refl
counted w (kind.Word word.Float32) = refl
counted w (kind.Word word.Float64) = refl
counted w (kind.Word word.Float32x) = refl
counted w (kind.Word word.Float64x) = refl
counted w (kind.Word word.Float128) = refl

none_follows : (w : TypeWords) (k : TypeKind) → may_follow w ≡ false → may_follow (with_kind w k) ≡ false
none_follows w k h =
    subst (λ l. within_any l greatest ≡ false) (sym (counted w k)) (raised_beyond_any (index k) (counts w) greatest
    refl h)

-- ---- what is allowed is within a group

fewer : {A : Type 0} (i : ℕ) (x : A) (xs : List A) → nat_le (suc (suc i)) (length (x ∷ xs)) ≡ true →
    nat_le (suc i) (length xs) ≡ true
fewer i x xs l = grind (arith, l)

abbrev group : ℕ → List (List ℕ) → List ℕ
group i [] = []
group zero (most ∷ others) = most
group (suc i) (most ∷ others) = group i others

within_group : (i : ℕ) (ns : List ℕ) (all : List (List ℕ)) → nat_le (suc i) (length all) ≡ true →
    within ns (group i all) ≡ true → within_any ns all ≡ true
within_group i ns [] l h = let bad = nat_le_true (suc i) 0 l in absurd (omega (arith, bad))
within_group zero ns (most ∷ others) l h = rw h refl
within_group (suc i) ns (most ∷ others) l h =
    rw (within_group i ns others (fewer i most others l) h) (or-true (within ns most))

all3 : (a b c : Bool) → (a && b && c) ≡ true → (a ≡ true) × (b ≡ true) × (c ≡ true)
all3 true true true h = (refl, refl, refl)
all3 true true false h = cc
all3 true false c h = cc
all3 false b c h = cc

all4 : (a b c d : Bool) → (a && b && c && d) ≡ true → (a ≡ true) × (b ≡ true) × (c ≡ true) × (d ≡ true)
all4 a b c d h =
    let p = both (a && b && c) d h in
    let q = all3 a b c p.0 in
    (q.0, q.1, q.2, p.1)

-- these counts are 0
record NoInteger (w : TypeWords) : Type 0 where
  char : w.char ≡ 0
  short : w.short ≡ 0
  int : w.int ≡ 0
  sign : w.sign ≡ 0

no_integer : (w : TypeWords) → has_no_integer w ≡ true → NoInteger w
no_integer w h =
    let p = all4 (nat_eq w.char 0) (nat_eq w.short 0) (nat_eq w.int 0) (nat_eq w.sign 0) h in
    record {
      char = nat_eq_true w.char 0 p.0;
      short = nat_eq_true w.short 0 p.1;
      int = nat_eq_true w.int 0 p.2;
      sign = nat_eq_true w.sign 0 p.3;
    }

-- these counts of types of TS 18661-3
record Interchange (w : TypeWords) (a b c d : ℕ) : Type 0 where
  float32 : w.float32 ≡ a
  float64 : w.float64 ≡ b
  float64x : w.float64x ≡ c
  float128 : w.float128 ≡ d

interchange : (w : TypeWords) (a b c d : ℕ) →
    (nat_eq w.float32 a && nat_eq w.float64 b && nat_eq w.float64x c && nat_eq w.float128 d) ≡ true →
    Interchange w a b c d
interchange w a b c d h =
    let p = all4 (nat_eq w.float32 a) (nat_eq w.float64 b) (nat_eq w.float64x c) (nat_eq w.float128 d) h in
    record {
      float32 = nat_eq_true w.float32 a p.0;
      float64 = nat_eq_true w.float64 b p.1;
      float64x = nat_eq_true w.float64x c p.2;
      float128 = nat_eq_true w.float128 d p.3;
    }

-- these counts of `float`, `double` and `long`
record Real (w : TypeWords) (a b c : ℕ) : Type 0 where
  float : w.float ≡ a
  double : w.double ≡ b
  long : w.long ≡ c

real : (w : TypeWords) (a b c : ℕ) → (nat_eq w.float a && nat_eq w.double b && nat_eq w.long c) ≡ true → Real w a b c
real w a b c h =
    let p = all3 (nat_eq w.float a) (nat_eq w.double b) (nat_eq w.long c) h in
    record {
      float = nat_eq_true w.float a p.0;
      double = nat_eq_true w.double b p.1;
      long = nat_eq_true w.long c p.2;
    }

record NoFloating (w : TypeWords) : Type 0 where
  float : w.float ≡ 0
  double : w.double ≡ 0
  complex : w.complex ≡ 0
  others : Interchange w 0 0 0 0

no_floating : (w : TypeWords) → has_no_floating w ≡ true → NoFloating w
no_floating w h =
    let p = all4 (nat_eq w.float 0) (nat_eq w.double 0) (nat_eq w.complex 0) (has_no_interchange w) h in
    record {
      float = nat_eq_true w.float 0 p.0;
      double = nat_eq_true w.double 0 p.1;
      complex = nat_eq_true w.complex 0 p.2;
      others = interchange w 0 0 0 0 p.3;
    }

whole_within : (w : TypeWords) → is_whole w ≡ true → within (counts w) (group 0 greatest) ≡ true
whole_within w h =
    let p = all4 (nat_eq w.alone 1) (has_no_integer w) (nat_eq w.long 0) (has_no_floating w) h in
    let n = no_integer w p.1 in
    let f = no_floating w p.3 in
    rw (
      nat_eq_true w.alone 1 p.0,
      nat_eq_true w.long 0 p.2,
      n.char,
      n.short,
      n.int,
      n.sign,
      f.float,
      f.double,
      f.complex,
      f.others.float32,
      f.others.float64,
      f.others.float64x,
      f.others.float128,
    ) refl

char_within : (w : TypeWords) → is_char w ≡ true → within (counts w) (group 1 greatest) ≡ true
char_within w h =
    let p = all4 (nat_eq w.char 1 && nat_le w.sign 1 && nat_eq w.alone 0 && nat_eq w.short 0)
    (nat_eq w.int 0) (nat_eq w.long 0) (has_no_floating w) h in
    let q = all4 (nat_eq w.char 1) (nat_le w.sign 1) (nat_eq w.alone 0) (nat_eq w.short 0) p.0 in
    let f = no_floating w p.3 in
    rw (
      nat_eq_true w.char 1 q.0,
      q.1,
      nat_eq_true w.alone 0 q.2,
      nat_eq_true w.short 0 q.3,
      nat_eq_true w.int 0 p.1,
      nat_eq_true w.long 0 p.2,
      f.float,
      f.double,
      f.complex,
      f.others.float32,
      f.others.float64,
      f.others.float64x,
      f.others.float128,
    ) refl

-- what the words of an integer type have in common
abbrev begins_integer : TypeWords → Bool
begins_integer w = nat_eq w.alone 0 && nat_eq w.char 0 && has_no_floating w && nat_le w.sign 1 && nat_le w.int 1

short_within : (w : TypeWords) → begins_integer w ≡ true → (nat_le w.short 1 && nat_eq w.long 0) ≡ true →
    within (counts w) (group 2 greatest) ≡ true
short_within w h x =
    let p = all3 (nat_eq w.alone 0 && nat_eq w.char 0 && has_no_floating w) (nat_le w.sign 1) (nat_le w.int 1) h in
    let q = all3 (nat_eq w.alone 0) (nat_eq w.char 0) (has_no_floating w) p.0 in
    let f = no_floating w q.2 in
    let y = both (nat_le w.short 1) (nat_eq w.long 0) x in
    rw (
      nat_eq_true w.alone 0 q.0,
      nat_eq_true w.char 0 q.1,
      y.0,
      p.2,
      nat_eq_true w.long 0 y.1,
      p.1,
      f.float,
      f.double,
      f.complex,
      f.others.float32,
      f.others.float64,
      f.others.float64x,
      f.others.float128,
    ) refl

long_within : (w : TypeWords) → begins_integer w ≡ true → (nat_eq w.short 0 && nat_le w.long 2) ≡ true →
    within (counts w) (group 3 greatest) ≡ true
long_within w h x =
    let p = all3 (nat_eq w.alone 0 && nat_eq w.char 0 && has_no_floating w) (nat_le w.sign 1) (nat_le w.int 1) h in
    let q = all3 (nat_eq w.alone 0) (nat_eq w.char 0) (has_no_floating w) p.0 in
    let f = no_floating w q.2 in
    let y = both (nat_eq w.short 0) (nat_le w.long 2) x in
    rw (
      nat_eq_true w.alone 0 q.0,
      nat_eq_true w.char 0 q.1,
      nat_eq_true w.short 0 y.0,
      p.2,
      y.1,
      p.1,
      f.float,
      f.double,
      f.complex,
      f.others.float32,
      f.others.float64,
      f.others.float64x,
      f.others.float128,
    ) refl

float_within : (w : TypeWords) → (nat_eq w.alone 0 && has_no_integer w) ≡ true → nat_le w.complex 1 ≡ true →
    Interchange w 0 0 0 0 →
    Real w 1 0 0 → within (counts w) (group 4 greatest) ≡ true
float_within w a c o r =
    let b = both (nat_eq w.alone 0) (has_no_integer w) a in
    let n = no_integer w b.1 in
    rw (
      nat_eq_true w.alone 0 b.0,
      n.char,
      n.short,
      n.int,
      n.sign,
      r.float,
      r.double,
      r.long,
      c,
      o.float32,
      o.float64,
      o.float64x,
      o.float128,
    ) refl

double_within : (w : TypeWords) → (nat_eq w.alone 0 && has_no_integer w) ≡ true → nat_le w.complex 1 ≡ true →
    Interchange w 0 0 0 0 →
    (nat_eq w.float 0 && nat_eq w.double 1 && nat_le w.long 1) ≡ true → within (counts w) (group 5 greatest) ≡ true
double_within w a c o x =
    let b = both (nat_eq w.alone 0) (has_no_integer w) a in
    let n = no_integer w b.1 in
    let r = all3 (nat_eq w.float 0) (nat_eq w.double 1) (nat_le w.long 1) x in
    rw (
      nat_eq_true w.alone 0 b.0,
      n.char,
      n.short,
      n.int,
      n.sign,
      nat_eq_true w.float 0 r.0,
      nat_eq_true w.double 1 r.1,
      r.2,
      c,
      o.float32,
      o.float64,
      o.float64x,
      o.float128,
    ) refl

float32_within : (w : TypeWords) → (nat_eq w.alone 0 && has_no_integer w) ≡ true → nat_le w.complex 1 ≡ true →
    Real w 0 0 0 →
    Interchange w 1 0 0 0 → within (counts w) (group 6 greatest) ≡ true
float32_within w a c r o =
    let b = both (nat_eq w.alone 0) (has_no_integer w) a in
    let n = no_integer w b.1 in
    rw (
      nat_eq_true w.alone 0 b.0,
      n.char,
      n.short,
      n.int,
      n.sign,
      r.float,
      r.double,
      r.long,
      c,
      o.float32,
      o.float64,
      o.float64x,
      o.float128,
    ) refl

float64_within : (w : TypeWords) → (nat_eq w.alone 0 && has_no_integer w) ≡ true → nat_le w.complex 1 ≡ true →
    Real w 0 0 0 →
    Interchange w 0 1 0 0 → within (counts w) (group 7 greatest) ≡ true
float64_within w a c r o =
    let b = both (nat_eq w.alone 0) (has_no_integer w) a in
    let n = no_integer w b.1 in
    rw (
      nat_eq_true w.alone 0 b.0,
      n.char,
      n.short,
      n.int,
      n.sign,
      r.float,
      r.double,
      r.long,
      c,
      o.float32,
      o.float64,
      o.float64x,
      o.float128,
    ) refl

float64x_within : (w : TypeWords) → (nat_eq w.alone 0 && has_no_integer w) ≡ true → nat_le w.complex 1 ≡ true →
    Real w 0 0 0 →
    Interchange w 0 0 1 0 → within (counts w) (group 8 greatest) ≡ true
float64x_within w a c r o =
    let b = both (nat_eq w.alone 0) (has_no_integer w) a in
    let n = no_integer w b.1 in
    rw (
      nat_eq_true w.alone 0 b.0,
      n.char,
      n.short,
      n.int,
      n.sign,
      r.float,
      r.double,
      r.long,
      c,
      o.float32,
      o.float64,
      o.float64x,
      o.float128,
    ) refl

float128_within : (w : TypeWords) → (nat_eq w.alone 0 && has_no_integer w) ≡ true → nat_le w.complex 1 ≡ true →
    Real w 0 0 0 →
    Interchange w 0 0 0 1 → within (counts w) (group 9 greatest) ≡ true
float128_within w a c r o =
    let b = both (nat_eq w.alone 0) (has_no_integer w) a in
    let n = no_integer w b.1 in
    rw (
      nat_eq_true w.alone 0 b.0,
      n.char,
      n.short,
      n.int,
      n.sign,
      r.float,
      r.double,
      r.long,
      c,
      o.float32,
      o.float64,
      o.float64x,
      o.float128,
    ) refl

as_float_within : (w : TypeWords) → (nat_eq w.alone 0 && has_no_integer w) ≡ true → w.complex ≡ 0 → Real w 1 0 0 →
    Interchange w 1 0 0 0 → within (counts w) (group 10 greatest) ≡ true
as_float_within w a c r o =
    let b = both (nat_eq w.alone 0) (has_no_integer w) a in
    let n = no_integer w b.1 in
    rw (
      nat_eq_true w.alone 0 b.0,
      n.char,
      n.short,
      n.int,
      n.sign,
      r.float,
      r.double,
      r.long,
      c,
      o.float32,
      o.float64,
      o.float64x,
      o.float128,
    ) refl

as_double_within : (w : TypeWords) → (nat_eq w.alone 0 && has_no_integer w) ≡ true → w.complex ≡ 0 → Real w 0 1 0 →
    Interchange w 0 1 0 0 → within (counts w) (group 11 greatest) ≡ true
as_double_within w a c r o =
    let b = both (nat_eq w.alone 0) (has_no_integer w) a in
    let n = no_integer w b.1 in
    rw (
      nat_eq_true w.alone 0 b.0,
      n.char,
      n.short,
      n.int,
      n.sign,
      r.float,
      r.double,
      r.long,
      c,
      o.float32,
      o.float64,
      o.float64x,
      o.float128,
    ) refl

as_long_double_within : (w : TypeWords) → (nat_eq w.alone 0 && has_no_integer w) ≡ true → w.complex ≡ 0 →
    Real w 0 1 1 →
    Interchange w 0 0 1 0 → within (counts w) (group 12 greatest) ≡ true
as_long_double_within w a c r o =
    let b = both (nat_eq w.alone 0) (has_no_integer w) a in
    let n = no_integer w b.1 in
    rw (
      nat_eq_true w.alone 0 b.0,
      n.char,
      n.short,
      n.int,
      n.sign,
      r.float,
      r.double,
      r.long,
      c,
      o.float32,
      o.float64,
      o.float64x,
      o.float128,
    ) refl

-- the words of a declared type of TS 18661-3
declared : (w : TypeWords) (a b c d e f : ℕ) → nat_eq w.float128 0 ≡ true →
    (nat_eq w.float a && nat_eq w.double b && nat_eq w.long c
    && nat_eq w.float32 d && nat_eq w.float64 e && nat_eq w.float64x f) ≡ true →
    Real w a b c × Interchange w d e f 0
declared w a b c d e f z h =
    let p = all4 (nat_eq w.float a && nat_eq w.double b && nat_eq w.long c) (nat_eq w.float32 d)
    (nat_eq w.float64 e) (nat_eq w.float64x f) h in (
      real w a b c p.0,
      record {
        float32 = nat_eq_true w.float32 d p.1;
        float64 = nat_eq_true w.float64 e p.2;
        float64x = nat_eq_true w.float64x f p.3;
        float128 = nat_eq_true w.float128 0 z;
      },
    )

integer_follows : (w : TypeWords) → is_integer w ≡ true → may_follow w ≡ true
integer_follows w h =
    let p = both _ _ (both _ _ h).0 in
    elim (or_cases _ _ p.1) [
      | inl x ↦ within_group 2 (counts w) greatest refl (short_within w p.0 x)
      | inr x ↦ within_group 3 (counts w) greatest refl (long_within w p.0 x)
    ]

standard_follows : (w : TypeWords) → (nat_eq w.alone 0 && has_no_integer w) ≡ true → nat_le w.complex 1 ≡ true →
    is_standard w ≡ true → may_follow w ≡ true
standard_follows w a c h =
    let p = both _ _ h in
    elim (or_cases _ _ p.1) [
      | inl x ↦ within_group 4 (counts w) greatest refl (float_within w a c (interchange w 0 0 0 0 p.0)
          (real w 1 0 0 x))
      | inr x ↦ within_group 5 (counts w) greatest refl (double_within w a c (interchange w 0 0 0 0 p.0) x)
    ]

interchange_follows : (w : TypeWords) → (nat_eq w.alone 0 && has_no_integer w) ≡ true → nat_le w.complex 1 ≡ true →
    is_interchange w ≡ true → may_follow w ≡ true
interchange_follows w a c h =
    let p = both _ _ h in
    elim (or_cases _ _ p.1) [
      | inl q ↦ elim (or_cases _ _ q) [
        | inl r ↦ elim (or_cases _ _ r) [
          | inl x ↦ within_group 6 (counts w) greatest refl (float32_within w a c (real w 0 0 0 p.0)
              (interchange w 1 0 0 0 x))
          | inr x ↦ within_group 7 (counts w) greatest refl (float64_within w a c (real w 0 0 0 p.0)
              (interchange w 0 1 0 0 x))
        ]
        | inr x ↦ within_group 8 (counts w) greatest refl (float64x_within w a c (real w 0 0 0 p.0)
            (interchange w 0 0 1 0 x))
      ]
      | inr x ↦ within_group 9 (counts w) greatest refl (float128_within w a c (real w 0 0 0 p.0)
          (interchange w 0 0 0 1 x))
    ]

declared_follows : (w : TypeWords) → (nat_eq w.alone 0 && has_no_integer w) ≡ true → is_declared w ≡ true →
    may_follow w ≡ true
declared_follows w a h =
    let p = both (nat_eq w.complex 0 && nat_eq w.float128 0) _ h in
    let c = both (nat_eq w.complex 0) (nat_eq w.float128 0) p.0 in
    elim (or_cases _ _ p.1) [
      | inl q ↦ elim (or_cases _ _ q) [
        | inl x ↦ let y = declared w 1 0 0 1 0 0 c.1 x in
            within_group 10 (counts w) greatest refl
            (as_float_within w a (nat_eq_true w.complex 0 c.0) y.0 y.1)
        | inr x ↦ let y = declared w 0 1 0 0 1 0 c.1 x in
            within_group 11 (counts w) greatest refl
            (as_double_within w a (nat_eq_true w.complex 0 c.0) y.0 y.1)
      ]
      | inr x ↦ let y = declared w 0 1 1 0 0 1 c.1 x in
          within_group 12 (counts w) greatest refl
          (as_long_double_within w a (nat_eq_true w.complex 0 c.0) y.0 y.1)
    ]

floating_follows : (w : TypeWords) → is_floating w ≡ true → may_follow w ≡ true
floating_follows w h =
    let p = both _ _ h in
    elim (or_cases _ _ p.1) [
      | inl x ↦
          let q = both _ _ x in
          elim (or_cases _ _ q.1) [
            | inl y ↦ standard_follows w p.0 q.0 y
            | inr y ↦ interchange_follows w p.0 q.0 y
          ]
      | inr x ↦ declared_follows w p.0 x
    ]

allowed_follows : (w : TypeWords) → is_allowed w ≡ true → may_follow w ≡ true
allowed_follows w h =
    elim (or_cases _ _ h) [
      | inl p ↦ elim (or_cases _ _ p) [
        | inl q ↦ elim (or_cases _ _ q) [
          | inl x ↦ integer_follows w x
          | inr x ↦ within_group 0 (counts w) greatest refl (whole_within w x)
        ]
        | inr x ↦ within_group 1 (counts w) greatest refl (char_within w x)
      ]
      | inr x ↦ floating_follows w x
    ]

refuted : (a b : Bool) → (a ≡ true → b ≡ true) → b ≡ false → a ≡ false
refuted true b f h = let y = f refl in cc
refuted false b f h = refl

-- words that no further word makes a type are never one
beyond_refused : (w : TypeWords) → may_follow w ≡ false → (ks : List TypeKind) → is_allowed (words_from w ks) ≡ false
beyond_refused w h [] = refuted (is_allowed w) (may_follow w) (allowed_follows w) h
beyond_refused w h (k ∷ ks) = beyond_refused (with_kind w k) (none_follows w k h) ks

-- ---- the computation

abbrev same : Bool → Bool → Bool
same true b = b
same false b = not b

same_is : (a b : Bool) → same a b ≡ true → a ≡ b
same_is true b h = sym h
same_is false true h = cc
same_is false false h = refl

-- every specifier that says something of the type
abbrev kinds : List TypeKind
kinds =
    kind.Whole
    ∷ kind.Word word.Void
    ∷ kind.Word word.Char
    ∷ kind.Word word.Short
    ∷ kind.Word word.Int
    ∷ kind.Word word.Long
    ∷ kind.Word word.Float
    ∷ kind.Word word.Double
    ∷ kind.Word word.Signed
    ∷ kind.Word word.Unsigned
    ∷ kind.Word word.Bool
    ∷ kind.Word word.Complex
    ∷ kind.Word word.Imaginary
    ∷ kind.Word word.Float32
    ∷ kind.Word word.Float64
    ∷ kind.Word word.Float32x
    ∷ kind.Word word.Float64x
    ∷ kind.Word word.Float128
    ∷ kind.Word word.VaList
    ∷ []

abbrev of_all : (TypeKind → Bool) → List TypeKind → Bool
of_all f [] = true
of_all f (k ∷ ks) = f k && of_all f ks

abbrev kind_at : ℕ → List TypeKind → TypeKind
kind_at i [] = kind.NoType
kind_at zero (k ∷ ks) = k
kind_at (suc i) (k ∷ ks) = kind_at i ks

of_at : (f : TypeKind → Bool) (i : ℕ) (ks : List TypeKind) → nat_le (suc i) (length ks) ≡ true →
    of_all f ks ≡ true → f (kind_at i ks) ≡ true
of_at f i [] l h = let bad = nat_le_true (suc i) 0 l in absurd (omega (arith, bad))
of_at f zero (k ∷ ks) l h = (both (f k) (of_all f ks) h).0
of_at f (suc i) (k ∷ ks) l h = of_at f i ks (fewer i k ks l) (both (f k) (of_all f ks) h).1

of_each : (f : TypeKind → Bool) (k : TypeKind) → of_all f kinds ≡ true → is_type k ≡ true → f k ≡ true
of_each f kind.NoType h t = cc
of_each f kind.Whole h t = of_at f 0 kinds refl h
of_each f (kind.Word word.Void) h t = of_at f 1 kinds refl h
of_each f (kind.Word word.Char) h t = of_at f 2 kinds refl h
of_each f (kind.Word word.Short) h t = of_at f 3 kinds refl h
of_each f (kind.Word word.Int) h t = of_at f 4 kinds refl h
of_each f (kind.Word word.Long) h t = of_at f 5 kinds refl h
of_each f (kind.Word word.Float) h t = of_at f 6 kinds refl h
of_each f (kind.Word word.Double) h t = of_at f 7 kinds refl h
of_each f (kind.Word word.Signed) h t = of_at f 8 kinds refl h
of_each f (kind.Word word.Unsigned) h t = of_at f 9 kinds refl h
of_each f (kind.Word word.Bool) h t = of_at f 10 kinds refl h
of_each f (kind.Word word.Complex) h t = of_at f 11 kinds refl h
of_each f (kind.Word word.Imaginary) h t = of_at f 12 kinds refl h
of_each f (kind.Word word.Float32) h t = of_at f 13 kinds refl h
of_each f (kind.Word word.Float64) h t = of_at f 14 kinds refl h
of_each f (kind.Word word.Float32x) h t = of_at f 15 kinds refl h
of_each f (kind.Word word.Float64x) h t = of_at f 16 kinds refl h
of_each f (kind.Word word.Float128) h t = of_at f 17 kinds refl h
of_each f (kind.Word word.VaList) h t = of_at f 18 kinds refl h

-- whether the counts and what is left of the list allow the same, now and behind each further specifier
abbrev agree : ℕ → TypeWords → List (List TypeKind) → Bool
agree zero w ts = false
agree (suc n) w ts =
    same (is_allowed w) (is_among [] ts) && elim ts as (λ _. Bool) [
      | [] ↦ not (may_follow w)
      | t ∷ others ↦ of_all (λ k. agree n (with_kind w k) (behind k (t ∷ others))) kinds
    ]

not_true : (b : Bool) → not b ≡ true → b ≡ false
not_true true h = cc
not_true false h = refl

none_among : (ks : List TypeKind) → is_among (type_specifiers ks) [] ≡ false
none_among ks = refl

agrees : (n : ℕ) (w : TypeWords) (ts : List (List TypeKind)) → agree n w ts ≡ true → (ks : List TypeKind) →
    is_allowed (words_from w ks) ≡ is_among (type_specifiers ks) ts
agrees zero w ts h ks = cc
agrees (suc n) w ts h [] = same_is (is_allowed w) (is_among [] ts) (both _ _ h).0
agrees (suc n) w ts h (kind.NoType ∷ ks) = agrees (suc n) w ts h ks
agrees (suc n) w [] h (kind.Whole ∷ ks) = beyond_refused w (not_true (may_follow w) (both _ _ h).1) (kind.Whole ∷ ks)
agrees (suc n) w [] h (kind.Word x ∷ ks) = beyond_refused w (not_true (may_follow w) (both _ _ h).1) (kind.Word x ∷ ks)
agrees (suc n) w (t ∷ ts) h (kind.Whole ∷ ks) =
    let each = of_each (λ k. agree n (with_kind w k) (behind k (t ∷ ts))) kind.Whole (both _ _ h).1 refl in
    agrees n (with_kind w kind.Whole) (behind kind.Whole (t ∷ ts)) each ks
    ∙ sym (among_behind kind.Whole (type_specifiers ks) (t ∷ ts))
agrees (suc n) w (t ∷ ts) h (kind.Word x ∷ ks) =
    let each = of_each (λ k. agree n (with_kind w k) (behind k (t ∷ ts))) (kind.Word x) (both _ _ h).1 refl in
    agrees n (with_kind w (kind.Word x)) (behind (kind.Word x) (t ∷ ts)) each ks
    ∙ sym (among_behind (kind.Word x) (type_specifiers ks) (t ∷ ts))

computed : agree 6 none types ≡ true
computed = refl

-- the counts allow what is listed
pub allowed_as_listed : (ks : List TypeKind) → are_allowed ks ≡ are_listed ks
allowed_as_listed ks = agrees 6 none types computed ks
