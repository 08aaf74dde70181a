-- Literals of clauses and of trails.
use Rattle.std.proofs.Common.{◌≡◌, ◌⊎◌, ◌∷◌, [], ℕ, zero, suc, List, Bool, true, false, not, cond, eqb, refl, ap, ◌∙◌, inl, inr, subst}
use Rattle.std.specs.List.{list_all, filter}
use Rattle.std.proofs.lemmas.Bool.{or_cases, or_left, or_right, and_parts, and_from, both_ways, eqb-true, eq-eqb}
use Rattle.cnf_core.specs.Literal.{Literal}
use Rattle.cnf_core.specs.Literal.{negated, same}
use Rattle.proof_check.specs.declared.propagation.Reading.TheVariants.{Falsified, Implied}
use Rattle.proof_check.specs.Propagation.{Known, isnt_false, reading_of, reading}
use Rattle.cnf_core.specs.Equality.{same-self, same-true}
use Rattle.std.specs.Prelude.{Contains}
use Rattle.std.proofs.lemmas.Option.{get_or_from_slice_get, slice_get_within}
use Rattle.proof_check.specs.Room.{Within}
use Rattle.cdcl.specs.Known.{Member}
use Rattle.cdcl.specs.Trails.{names}

pub Member-tail : (l x : Literal) (xs : List Literal) → Member l xs → Member l (x ∷ xs)
Member-tail l x xs m = (suc m.0, m.1)

pub names-member : (l : Literal) (clause : List Literal) → Member l clause → names l.variable clause ≡ true
names-member l [] m = absurd (cc (m.1))
names-member l (x ∷ xs) (zero, e) = let s : x ≡ l = cc in or_left (eqb x.variable l.variable) (names l.variable xs) (eq-eqb x.variable l.variable (ap (λ k. k.variable) s))
names-member l (x ∷ xs) (suc k, e) = or_right (eqb x.variable l.variable) (names l.variable xs) (names-member l xs (k, e))

pub member-named : (v : ℕ) (clause : List Literal) → names v clause ≡ true → (l : Literal) × Member l clause × (l.variable ≡ v)
member-named v [] e = absurd (cc)
member-named v (x ∷ xs) e =
    elim (or_cases (eqb x.variable v) (names v xs) e) [
      | inl h ↦ (x, (0, refl), eqb-true x.variable v h)
      | inr t ↦ let r = member-named v xs t in (r.0, Member-tail r.0 x xs r.1, r.2)
    ]

not_not : (b : Bool) → not (not b) ≡ b
not_not true = refl
not_not false = refl

pub negated-negated : (l : Literal) → negated (negated l) ≡ l
negated-negated l = let e = not_not l.positive in λ i. record { variable = l.variable; positive = e i }

-- a clause whose literals are all false
all-false : (known : Known) (clause : List Literal) → ((l : Literal) → Member l clause → known (negated l) ≡ true) → filter (isnt_false known) clause ≡ []
all-false known [] f = refl
all-false known (x ∷ xs) f = rw (f x (0, refl)) (all-false known xs (λ l m. f l (Member-tail l x xs m)))

pub reading-falsified : (known : Known) (clause : List Literal) → ((l : Literal) → Member l clause → known (negated l) ≡ true) → reading known clause ≡ Falsified
reading-falsified known clause f = rw (all-false known clause f) refl

-- a clause whose literals but one are false
abbrev Others : Known → Literal → List Literal → Type 0
Others known p clause = (l : Literal) → Member l clause → (l ≡ p) ⊎ (known (negated l) ≡ true)

Others-tail : (known : Known) (p x : Literal) (xs : List Literal) → Others known p (x ∷ xs) → Others known p xs
Others-tail known p x xs o l m = o l (Member-tail l x xs m)

only-one : (known : Known) (p : Literal) (clause : List Literal) → Others known p clause → list_all (same p) (filter (isnt_false known) clause) ≡ true
only-one known p [] o = refl
only-one known p (x ∷ xs) o =
    let rest = only-one known p xs (Others-tail known p x xs o) in
    elim (isnt_false known x) as (λ b. isnt_false known x ≡ b → list_all (same p) (cond b (x ∷ filter (isnt_false known) xs) (filter (isnt_false known) xs)) ≡ true) [
      | false ↦ λ _. rest
      | true ↦ λ is. elim (o x (0, refl)) [
        | inl e ↦ and_from (same p x) (list_all (same p) (filter (isnt_false known) xs)) (rw e (same-self p)) rest
        | inr f ↦ absurd (both_ways (known (negated x)) (not-true' (known (negated x)) is) f)
      ]
    ] refl
  where
    not-true' : (t : Bool) → not t ≡ true → t ≡ false
    not-true' true e = cc
    not-true' false e = refl

some-left : (known : Known) (p : Literal) (clause : List Literal) → Member p clause → isnt_false known p ≡ true → filter (isnt_false known) clause ≡ [] → ⊥
some-left known p [] m h e = cc (m.1)
some-left known p (x ∷ xs) (zero, e) h f = let s : x ≡ p = cc in let t : isnt_false known x ≡ true = ap (isnt_false known) s ∙ h in let g = rw t at f in cc
some-left known p (x ∷ xs) (suc k, e) h f =
    elim (isnt_false known x) as (λ b. cond b (x ∷ filter (isnt_false known) xs) (filter (isnt_false known) xs) ≡ [] → ⊥) [
      | true ↦ λ g. cc
      | false ↦ λ g. some-left known p xs (k, e) h g
    ] f

implied-of : (known : Known) (p : Literal) (xs : List Literal) → list_all (same p) xs ≡ true → (xs ≡ [] → ⊥) → known p ≡ false → reading_of known xs ≡ Implied p
implied-of known p [] a n f = absurd (n refl)
implied-of known p (x ∷ more) a n f =
    let h = and_parts (same p x) (list_all (same p) more) a in
    let e : p ≡ x = same-true p x h.0 in
    let P : Literal → Type 0 = λ t. reading_of known (t ∷ more) ≡ Implied p in
    subst P e (rw (h.1, f) refl)

pub reading-implied : (known : Known) (p : Literal) (clause : List Literal) → Member p clause → Others known p clause → known (negated p) ≡ false → known p ≡ false → reading known clause ≡ Implied p
reading-implied known p clause m o n f =
    implied-of known p (filter (isnt_false known) clause) (only-one known p clause o) (some-left known p clause m (rw n refl)) f

pub within-member : (vars : List ℕ) (clause : List Literal) (l : Literal) → Within vars clause → Member l clause → Contains vars l.variable
within-member vars clause l w (k, e) =
    let P : Literal → Type 0 = λ t. Contains vars t.variable in
    subst P (get_or_from_slice_get clause k l l e) (w k l (slice_get_within clause k l e))
