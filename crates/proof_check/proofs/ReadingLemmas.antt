-- What the loop over a clause has found of its literals that aren't false.
use Rattle.std.proofs.Common.{◌≡◌, ◌++◌, ◌∷◌, [], ℕ, ◌+◌, ◌≤◌, take_all, suc, List, Option, Some, None, Bool, true, false, not, refl, sym, ap, ◌∙◌, ◌<◌, take, drop, length, get_or, append-nil, cond, subst}
use Rattle.std.specs.Prelude.{Contains}
use Rattle.std.specs.List.{list_all, filter}
use Rattle.std.proofs.lemmas.List.{take-append-drop}
use Rattle.std.proofs.lemmas.List.Elements.{filter_more, filter-append}
use Rattle.std.proofs.lemmas.List.Folds.{list_all-append}
use Rattle.std.proofs.lemmas.Bool.{and_right, false_from_ne_true, both_ways, not-true, not-false}
use Rattle.std.proofs.Math.Seq.{drop-cons}
use Rattle.cnf_core.specs.Literal.{Literal, negated, same}
use Rattle.cnf_core.specs.Equality.{same-self, same-true}
use Rattle.proof_check.specs.declared.propagation.Reading.TheVariants.{Falsified, Implied, Neither}
use Rattle.proof_check.specs.Room.{Within}
use Rattle.proof_check.specs.Propagation.{Known, isnt_false, reading, reading_of}

-- no literal is left so far, or this one alone
abbrev pub SoFar : List Literal → Option Literal → Type 0
SoFar xs None = xs ≡ []
SoFar xs (Some first) = (more : List Literal) × (xs ≡ first ∷ more) × (list_all (same first) more ≡ true)

pub SoFar-first : (xs : List Literal) (l : Literal) → SoFar xs None → SoFar (xs ++ l ∷ []) (Some l)
SoFar-first xs l e = ([], rw e refl, refl)

pub SoFar-again : (xs : List Literal) (first l : Literal) → first ≡ l → SoFar xs (Some first) → SoFar (xs ++ l ∷ []) (Some first)
SoFar-again xs first l e s = (s.0 ++ l ∷ [], ap (λ t. t ++ l ∷ []) s.1, rw (list_all-append (same first) s.0 (l ∷ []), s.2, ← e, same-self first) refl)

pub reading-none : (known : Known) (xs : List Literal) → SoFar xs None → reading_of known xs ≡ Falsified
reading-none known xs e = rw e refl

pub reading-known : (known : Known) (xs : List Literal) (first : Literal) → SoFar xs (Some first) → known first ≡ true → reading_of known xs ≡ Neither
reading-known known xs first s e = rw (s.1, s.2, e) refl

pub reading-open : (known : Known) (xs : List Literal) (first : Literal) → SoFar xs (Some first) → known first ≡ false → reading_of known xs ≡ Implied first
reading-open known xs first s e = rw (s.1, s.2, e) refl

pub reading-two : (known : Known) (xs ys : List Literal) (first l : Literal) → SoFar xs (Some first) → (first ≡ l → ⊥) → reading_of known (xs ++ l ∷ ys) ≡ Neither
reading-two known xs ys first l s ne =
    let other : same first l ≡ false = false_from_ne_true (same first l) (λ e. ne (same-true first l e)) in
    let apart : list_all (same first) (s.0 ++ l ∷ ys) ≡ false = list_all-append (same first) s.0 (l ∷ ys) ∙ rw other (and_right (list_all (same first) s.0) false refl) in
    rw (s.1, apart) refl

-- a filtered list, cut at an element that passes
filter-cut : (p : Literal → Bool) (xs : List Literal) (i : ℕ) (l : Literal) → i < length xs → l ≡ get_or xs i l → p l ≡ true → filter p xs ≡ filter p (take i xs) ++ l ∷ filter p (drop (suc i) xs)
filter-cut p xs i l h at e =
    let read : p (get_or xs i l) ≡ true = ap p (sym at) ∙ e in
    ap (filter p) (sym (take-append-drop i xs)) ∙ filter-append p (take i xs) (drop i xs) ∙ ap (λ t. filter p (take i xs) ++ filter p t) (drop-cons xs i l h) ∙ rw read (ap (λ t. filter p (take i xs) ++ t ∷ filter p (drop (suc i) xs)) (sym at))

filter-next : (p : Literal → Bool) (xs : List Literal) (i : ℕ) (l : Literal) → i < length xs → l ≡ get_or xs i l → filter p (take (i + 1) xs) ≡ filter p (take i xs) ++ cond (p l) (l ∷ []) []
filter-next p xs i l h at = filter_more p xs i l h ∙ ap (λ t. filter p (take i xs) ++ cond (p t) (t ∷ []) []) (sym at)

-- the candidate's variable is in the room
abbrev pub HasRoom : List ℕ → Option Literal → Type 0
HasRoom room None = Unit {0}
HasRoom room (Some first) = Contains room first.variable

pub same-not_true : (l k : Literal) (q : Bool) → q ≡ not (same l k) → q ≡ true → l ≡ k → ⊥
same-not_true l k q is is_t e = let s : same l k ≡ true = rw (← e) (same-self l) in both_ways (same l k) (not-true (same l k) (sym is ∙ is_t)) s

pub same-not_false : (l k : Literal) (q : Bool) → q ≡ not (same l k) → q ≡ false → l ≡ k
same-not_false l k q is is_f = same-true l k (not-false (same l k) (sym is ∙ is_f))

passes : (known : Known) (e n : Literal) (r : Bool) → r ≡ false → r ≡ known n → n ≡ negated e → isnt_false known e ≡ true
passes known e n r is_f is back = let f : known (negated e) ≡ false = rw (← back, ← is) is_f in rw f refl

pub read-two : (known : Known) (clause : List Literal) (i : ℕ) (l first n : Literal) (r q : Bool) → i < length clause → l ≡ get_or clause i l → SoFar (filter (isnt_false known) (take i clause)) (Some first) → r ≡ false → r ≡ known n → n ≡ negated l → q ≡ not (same first l) → q ≡ true → Neither ≡ reading known clause
read-two known clause i l first n r q h at s is_f is back other is_t =
    let cut = filter-cut (isnt_false known) clause i l h at (passes known l n r is_f is back) in
    sym (ap (reading_of known) cut ∙ reading-two known (filter (isnt_false known) (take i clause)) (filter (isnt_false known) (drop (suc i) clause)) first l s (same-not_true first l q other is_t))

pub read-first : (known : Known) (clause : List Literal) (i : ℕ) (l n : Literal) (r : Bool) → i < length clause → l ≡ get_or clause i l → SoFar (filter (isnt_false known) (take i clause)) None → r ≡ false → r ≡ known n → n ≡ negated l → SoFar (filter (isnt_false known) (take (i + 1) clause)) (Some l)
read-first known clause i l n r h at s is_f is back =
    let p = passes known l n r is_f is back in
    rw (filter-next (isnt_false known) clause i l h at, p) (SoFar-first (filter (isnt_false known) (take i clause)) l s)

pub read-again : (known : Known) (clause : List Literal) (i : ℕ) (l first n : Literal) (r q : Bool) → i < length clause → l ≡ get_or clause i l → SoFar (filter (isnt_false known) (take i clause)) (Some first) → r ≡ false → r ≡ known n → n ≡ negated l → q ≡ not (same first l) → q ≡ false → SoFar (filter (isnt_false known) (take (i + 1) clause)) (Some first)
read-again known clause i l first n r q h at s is_f is back other same_one =
    let p = passes known l n r is_f is back in
    rw (filter-next (isnt_false known) clause i l h at, p) (SoFar-again (filter (isnt_false known) (take i clause)) first l (same-not_false first l q other same_one) s)

pub read-false : (known : Known) (clause : List Literal) (i : ℕ) (l n : Literal) (candidate : Option Literal) (r : Bool) → i < length clause → l ≡ get_or clause i l → SoFar (filter (isnt_false known) (take i clause)) candidate → r ≡ true → r ≡ known n → n ≡ negated l → SoFar (filter (isnt_false known) (take (i + 1) clause)) candidate
read-false known clause i l n candidate r h at s is_t is back =
    let f : known (negated l) ≡ true = rw (← back, ← is) is_t in
    rw (filter-next (isnt_false known) clause i l h at, f, append-nil) s

-- a clause's literal is in the room
pub read-within : (room : List ℕ) (clause : List Literal) (i : ℕ) (l : Literal) → Within room clause → i < length clause → l ≡ get_or clause i l → Contains room l.variable
read-within room clause i l w h at = let P : Literal → Type 0 = λ k. Contains room k.variable in subst P (sym at) (w i l h)

pub HasRoom-some : (room : List ℕ) (candidate : Option Literal) (first : Literal) → candidate ≡ Some first → HasRoom room candidate → Contains room first.variable
HasRoom-some room candidate first e h = rw e at h

-- the whole clause was read, and one literal is left that has no value
pub read-open : (known : Known) (clause : List Literal) (i : ℕ) (candidate : Option Literal) (first : Literal) → length clause ≤ i → candidate ≡ Some first → SoFar (filter (isnt_false known) (take i clause)) candidate → known first ≡ false → Implied first ≡ reading known clause
read-open known clause i candidate first h is s f =
    let so_far : SoFar (filter (isnt_false known) clause) (Some first) = rw (is, take_all i clause h) at s in
    sym (reading-open known (filter (isnt_false known) clause) first so_far f)
