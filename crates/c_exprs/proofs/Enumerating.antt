-- Enumerators, one after the other.
use Rattle.std.proofs.Common.{
  ◌≡◌,
  ℕ,
  suc,
  List,
  [],
  ◌∷◌,
  ◌++◌,
  Some,
  None,
  Bool,
  true,
  false,
  refl,
  sym,
  ap,
  ◌∙◌,
  arith,
}
use Rattle.std.specs.Prelude.{max, map}
use Rattle.c_language.specs.declared.token.Punctuator.TheVariants as mark
use Rattle.c_language.specs.declared.expr.Enumerator.{Enumerator}
use Rattle.c_grammar.specs.Grammar.{enumerator_of, highest}
use Rattle.c_grammar.specs.Parts.{State}
use Rattle.c_grammar.specs.Reading.{Reading, Rules, ◌>>=◌, begins, expect, enumerator_at, more_enumerators_at}
use Rattle.c_reading.specs.declared.fault.ParseFault.{ParseFault}
use Rattle.c_reading.specs.declared.fault.ParseFault.TheVariants as fault
use Rattle.c_reading.specs.Cursor.{Fails, behind}
use Rattle.c_reading.proofs.Tails.{turned, stopped, failed}

-- ---- heights

highest_more : (xs : List Enumerator) (x : Enumerator) →
    highest (map enumerator_of (xs ++ x ∷ [])) ≡ max (highest (map enumerator_of xs)) (enumerator_of x).height
highest_more [] x = omega arith
highest_more (y ∷ ys) x =
    let m = highest_more ys x in
    omega (arith, m)

pub height_enumerators : (xs : List Enumerator) (x : Enumerator) (h0 h1 h : ℕ) →
    h0 ≡ highest (map enumerator_of xs) → h1 ≡ (enumerator_of x).height → h ≡ max h0 h1 →
    h ≡ highest (map enumerator_of (xs ++ x ∷ []))
height_enumerators xs x h0 h1 h e0 e1 g =
    let m = highest_more xs x in
    omega (arith, m)

-- ---- the loop

abbrev Enumerators : Type 0
Enumerators = List Enumerator × Bool

no_comma : (r : Rules) (m left : ℕ) (s : State) → left ≡ suc m → begins mark.Comma s ≡ false →
    more_enumerators_at r left s ≡ Some (([], false), s)
unfolding more_enumerators_at
no_comma r m left s e none = rw (e, none) refl

trailing_comma : (r : Rules) (m left at : ℕ) (s z : State) → left ≡ suc m → begins mark.Comma s ≡ true →
    expect mark.Comma s ≡ Some (tt, at, z) → begins mark.RightBrace z ≡ true →
    more_enumerators_at r left s ≡ Some (([], true), z)
unfolding more_enumerators_at
trailing_comma r m left at s z e goes is ends = rw (e, goes, is, ends) refl

enumerator_step : (r : Rules) (m left at : ℕ) (s z : State) (read : Reading Enumerator) → left ≡ suc m →
    begins mark.Comma s ≡ true → expect mark.Comma s ≡ Some (tt, at, z) → begins mark.RightBrace z ≡ false →
    enumerator_at r z ≡ read
    → more_enumerators_at r left s ≡ (read >>= (λ x. more_enumerators_at r m x.1 >>=
    (λ more. Some ((x.0 ∷ more.0.0, more.0.1), more.1))))
unfolding more_enumerators_at
enumerator_step r m left at s z read e goes is ends reads = rw (e, goes, is, ends, reads) refl

zero_enumerators : (r : Rules) (left : ℕ) (s : State) → left ≡ 0 → more_enumerators_at r left s ≡ None
unfolding more_enumerators_at
zero_enumerators r left s e = rw e refl

pub enumerators_close : (r : Rules) (m left : ℕ) (front : List Enumerator) (b : Bool) (s : State)
    (whole : Reading Enumerators) → left ≡ suc m → begins mark.Comma s ≡ false → b ≡ false →
    behind front (more_enumerators_at r left s) ≡ whole → whole ≡ Some ((front, b), s)
enumerators_close r m left front b s whole e none bare reads =
    stopped front false (more_enumerators_at r left s) whole s (no_comma r m left s e none) reads ∙ ap
    (λ v. Some ((front, v), s)) (sym bare)

pub enumerators_comma : (r : Rules) (m left at : ℕ) (front all : List Enumerator) (b : Bool) (s z : State)
    (whole : Reading Enumerators) → left ≡ suc m → begins mark.Comma s ≡ true →
    expect mark.Comma s ≡ Some (tt, at, z) → begins mark.RightBrace z ≡ true → all ≡ front → b ≡ true →
    behind front (more_enumerators_at r left s) ≡ whole → whole ≡ Some ((all, b), z)
enumerators_comma r m left at front all b s z whole e goes is ends same comma reads =
    stopped front true (more_enumerators_at r left s) whole z (trailing_comma r m left at s z e goes is ends)
    reads ∙ ap (λ v. Some ((front, v), z)) (sym comma) ∙ ap (λ l. Some ((l, b), z)) (sym same)

pub enumerators_fail : (r : Rules) (m left at : ℕ) (front : List Enumerator) (s z : State)
    (whole : Reading Enumerators) (f : ParseFault) → left ≡ suc m → begins mark.Comma s ≡ true →
    expect mark.Comma s ≡ Some (tt, at, z) → begins mark.RightBrace z ≡ false → Fails f (enumerator_at r z) →
    behind front (more_enumerators_at r left s) ≡ whole → Fails f whole
enumerators_fail r m left at front s z whole fault.Memory e goes is ends none reads = tt
enumerators_fail r m left at front s z whole (fault.Syntax p) e goes is ends none reads = failed front
    (more_enumerators_at r left s) whole (enumerator_step r m left at s z None e goes is ends none) reads
enumerators_fail r m left at front s z whole (fault.TooDeep p) e goes is ends none reads = failed front
    (more_enumerators_at r left s) whole (enumerator_step r m left at s z None e goes is ends none) reads

pub enumerators_next : (r : Rules) (m left at : ℕ) (front all : List Enumerator) (x : Enumerator)
    (s z w : State) (whole : Reading Enumerators) → left ≡ suc m → begins mark.Comma s ≡ true →
    expect mark.Comma s ≡ Some (tt, at, z) → begins mark.RightBrace z ≡ false →
    enumerator_at r z ≡ Some (x, w) → all ≡ front ++ x ∷ [] →
    behind front (more_enumerators_at r left s) ≡ whole → behind all (more_enumerators_at r m w) ≡ whole
enumerators_next r m left at front all x s z w whole e goes is ends took appended reads =
    ap (λ l. behind l (more_enumerators_at r m w)) appended
    ∙ turned front x (more_enumerators_at r left s) (more_enumerators_at r m w) whole
    (enumerator_step r m left at s z (Some (x, w)) e goes is ends took) reads

pub enumerators_out : (r : Rules) (left : ℕ) (front : List Enumerator) (s : State) (whole : Reading Enumerators)
    → left ≡ 0 → behind front (more_enumerators_at r left s) ≡ whole → whole ≡ None
enumerators_out r left front s whole e reads = failed front (more_enumerators_at r left s) whole
    (zero_enumerators r left s e) reads
