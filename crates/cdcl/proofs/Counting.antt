-- Steps of which none is within a later one are at most as many as there are ways to give each variable a sign or none.
use Rattle.std.proofs.Common.{◌≡◌, ◌≤◌, ◌⊎◌, ◌+◌, ◌*◌, ◌^◌, ◌++◌, ◌∷◌, [], ℕ, zero, suc, List, Option, Some, None, Bool, true, false, not, eqb, refl, sym, ap, ◌∙◌, inl, inr, subst, arith, length, map, get_or, Contains}
use native.Mathlib.Nat.{pow-suc}
use Rattle.std.specs.List.{slice_get, filter, list_any}
use Rattle.std.proofs.lemmas.Bool.{cases_eq, cases_Bool, both_ways, eqb-true, eq-eqb, ne_eqb, or_cases, or_left, or_right, false_from_ne_true}
use Rattle.std.specs.Option.{option_map}
use Rattle.std.proofs.lemmas.List.{length-map}
use Rattle.std.proofs.lemmas.Option.{slice_get_within, slice_get-get_or, slice_get-map, get_or_from_slice_get}
use Rattle.cnf_core.specs.Literal.{Literal, negated, same}
use Rattle.cnf_core.specs.Equality.{same-self, same-true}
use Rattle.cdcl.specs.Known.{Member}
use Rattle.proof_check.specs.Steps.{Step, clause_of}
use Rattle.proof_check.specs.Room.{variables_of}
use Rattle.cdcl.specs.Tidy.{AreApart, IsTidy, AreTidy}
use Rattle.cdcl.specs.Trails.{names}
use Rattle.cdcl.specs.Searches.{IsWithin, AreFresh}
use Rattle.cdcl.proofs.Members.{names-member, Member-tail, within-member}
use Rattle.cdcl.proofs.Readings.{slice-left, slice-last}

-- whether the clause has the literal
pub has : Literal → List Literal → Bool
has l clause = list_any (λ k. same k l) clause

-- how a clause names a variable: not at all, as it is, or negated
abbrev sign_by : Bool → Bool → ℕ
sign_by true b = 1
sign_by false true = 2
sign_by false false = 0

pub sign_of : ℕ → List Literal → ℕ
sign_of v clause = sign_by (has (record { variable = v; positive = true }) clause) (has (record { variable = v; positive = false }) clause)

-- some variable of the list tells the two clauses apart
pub record Differ (vars : List ℕ) (c d : List Literal) : Type 0 where
  pub place : ℕ
  pub variable : ℕ
  pub at : slice_get vars place ≡ Some variable
  pub differs : sign_of variable c ≡ sign_of variable d → ⊥

-- each two of them
abbrev AllDiffer : List ℕ → List (List Literal) → Type 0
AllDiffer vars [] = Unit {0}
AllDiffer vars (c ∷ more) = ((k : ℕ) (d : List Literal) → slice_get more k ≡ Some d → Differ vars c d) × AllDiffer vars more

-- those with this sign
pick : ℕ → ℕ → List (List Literal) → List (List Literal)
pick v sign clauses = filter (λ c. eqb (sign_of v c) sign) clauses

pick-one : (v sign : ℕ) (c : List Literal) (more : List (List Literal)) → eqb (sign_of v c) sign ≡ true → pick v sign (c ∷ more) ≡ c ∷ pick v sign more
unfolding pick
pick-one v sign c more on = rw on refl

pick-none : (v sign : ℕ) (c : List Literal) (more : List (List Literal)) → eqb (sign_of v c) sign ≡ false → pick v sign (c ∷ more) ≡ pick v sign more
unfolding pick
pick-none v sign c more off = rw off refl

pick-nil : (v sign : ℕ) → pick v sign [] ≡ []
unfolding pick
pick-nil v sign = refl

pick-empty : (v sign k : ℕ) (d : List Literal) → slice_get (pick v sign []) k ≡ Some d → ⊥
unfolding pick
pick-empty v sign k d at = cc

pick-member : (v sign : ℕ) (clauses : List (List Literal)) (k : ℕ) (d : List Literal) → slice_get (pick v sign clauses) k ≡ Some d → (j : ℕ) × (slice_get clauses j ≡ Some d) × (sign_of v d ≡ sign)
pick-member v sign [] k d at = absurd (pick-empty v sign k d at)
pick-member v sign (c ∷ more) k d at = elim (cases_Bool (eqb (sign_of v c) sign)) [
  | inr off ↦ let r = pick-member v sign more k d (ap (λ t. slice_get t k) (sym (pick-none v sign c more off)) ∙ at) in (suc r.0, r.1, r.2)
  | inl on ↦ here (λ j is. pick-member v sign more j d is) on k (ap (λ t. slice_get t k) (sym (pick-one v sign c more on)) ∙ at)
]
  where
    here : ((j : ℕ) → slice_get (pick v sign more) j ≡ Some d → (i : ℕ) × (slice_get more i ≡ Some d) × (sign_of v d ≡ sign)) → eqb (sign_of v c) sign ≡ true → (k : ℕ) → slice_get (c ∷ pick v sign more) k ≡ Some d → (j : ℕ) × (slice_get (c ∷ more) j ≡ Some d) × (sign_of v d ≡ sign)
    here rest on zero is = let one : c ≡ d = cc in (0, is, (let P : List Literal → Type 0 = λ t. sign_of v t ≡ sign in subst P one (eqb-true (sign_of v c) sign on)))
    here rest on (suc j) is = let r = rest j is in (suc r.0, r.1, r.2)

-- among those with one sign of a variable, another variable tells
pick-differ : (v sign : ℕ) (rest : List ℕ) (clauses : List (List Literal)) → AllDiffer (v ∷ rest) clauses → AllDiffer rest (pick v sign clauses)
pick-differ v sign rest [] all = let P : List (List Literal) → Type 0 = λ t. AllDiffer rest t in subst P (sym (pick-nil v sign)) tt
pick-differ v sign rest (c ∷ more) (now, later) = elim (cases_Bool (eqb (sign_of v c) sign)) [
  | inr off ↦ let P : List (List Literal) → Type 0 = λ t. AllDiffer rest t in subst P (sym (pick-none v sign c more off)) (pick-differ v sign rest more later)
  | inl on ↦ let P : List (List Literal) → Type 0 = λ t. AllDiffer rest t in subst P (sym (pick-one v sign c more on)) ((λ k d at. let m = pick-member v sign more k d at in below (now m.0 d m.1) (eqb-true (sign_of v c) sign on ∙ sym m.2)), pick-differ v sign rest more later)
]
  where
    below : {d : List Literal} → Differ (v ∷ rest) c d → sign_of v c ≡ sign_of v d → Differ rest c d
    below {d = d} f same = by f.place f.at
      where
        by : (k : ℕ) → slice_get (v ∷ rest) k ≡ Some f.variable → Differ rest c d
        by zero at = let one : v ≡ f.variable = cc in absurd (f.differs (ap (λ t. sign_of t c) (sym one) ∙ same ∙ ap (λ t. sign_of t d) one))
        by (suc k) at = record { place = k; variable = f.variable; at = at; differs = f.differs }

-- each clause has one of three signs
three : (v : ℕ) (c : List Literal) → (sign_of v c ≡ 0) ⊎ ((sign_of v c ≡ 1) ⊎ (sign_of v c ≡ 2))
unfolding sign_of
three v c = go (has (record { variable = v; positive = true }) c) (has (record { variable = v; positive = false }) c)
  where
    go : (a b : Bool) → (sign_by a b ≡ 0) ⊎ ((sign_by a b ≡ 1) ⊎ (sign_by a b ≡ 2))
    go true b = inr (inl refl)
    go false true = inr (inr refl)
    go false false = inl refl

pick-length : (v : ℕ) (clauses : List (List Literal)) → length clauses ≡ length (pick v 0 clauses) + length (pick v 1 clauses) + length (pick v 2 clauses)
pick-length v [] = omega (arith, ap length (pick-nil v 0), ap length (pick-nil v 1), ap length (pick-nil v 2))
pick-length v (c ∷ more) =
    let r = pick-length v more in
    elim (three v c) [
      | inl e ↦ sum 0 1 2 e r
      | inr t ↦ elim t [ inl e ↦ one e r | inr e ↦ two e r ]
    ]
  where
    on : (sign : ℕ) → sign_of v c ≡ sign → length (pick v sign (c ∷ more)) ≡ suc (length (pick v sign more))
    on sign e = ap length (pick-one v sign c more (eq-eqb (sign_of v c) sign e))

    off : (sign is : ℕ) → sign_of v c ≡ is → (is ≡ sign → ⊥) → length (pick v sign (c ∷ more)) ≡ length (pick v sign more)
    off sign is e ne = ap length (pick-none v sign c more (ne_eqb (sign_of v c) sign (λ t. ne (sym e ∙ t))))

    sum : (a b d : ℕ) → sign_of v c ≡ 0 → length more ≡ length (pick v 0 more) + length (pick v 1 more) + length (pick v 2 more) → suc (length more) ≡ length (pick v 0 (c ∷ more)) + length (pick v 1 (c ∷ more)) + length (pick v 2 (c ∷ more))
    sum a b d e r = omega (arith, r, on 0 e, off 1 0 e (λ t. omega arith), off 2 0 e (λ t. omega arith))

    one : sign_of v c ≡ 1 → length more ≡ length (pick v 0 more) + length (pick v 1 more) + length (pick v 2 more) → suc (length more) ≡ length (pick v 0 (c ∷ more)) + length (pick v 1 (c ∷ more)) + length (pick v 2 (c ∷ more))
    one e r = omega (arith, r, on 1 e, off 0 1 e (λ t. omega arith), off 2 1 e (λ t. omega arith))

    two : sign_of v c ≡ 2 → length more ≡ length (pick v 0 more) + length (pick v 1 more) + length (pick v 2 more) → suc (length more) ≡ length (pick v 0 (c ∷ more)) + length (pick v 1 (c ∷ more)) + length (pick v 2 (c ∷ more))
    two e r = omega (arith, r, on 2 e, off 0 2 e (λ t. omega arith), off 1 2 e (λ t. omega arith))

power : (n : ℕ) → 3 ^ suc n ≡ 3 * 3 ^ n
power n = omega (arith, pow-suc 3 n)

bound : (vars : List ℕ) (clauses : List (List Literal)) → AllDiffer vars clauses → length clauses ≤ 3 ^ length vars
bound [] [] all = omega arith
bound [] (c ∷ []) all = omega arith
bound [] (c ∷ d ∷ more) (now, later) = let f = now 0 d refl in let at = f.at in absurd (cc)
bound (v ∷ rest) clauses all =
    let a = bound rest (pick v 0 clauses) (pick-differ v 0 rest clauses all) in
    let b = bound rest (pick v 1 clauses) (pick-differ v 1 rest clauses all) in
    let c = bound rest (pick v 2 clauses) (pick-differ v 2 rest clauses all) in
    omega (arith, pick-length v clauses, power (length rest))

-- clauses with the same signs
has-member : (l : Literal) (clause : List Literal) → has l clause ≡ true → Member l clause
unfolding has
has-member l [] e = absurd (cc)
has-member l (k ∷ more) e = elim (or_cases (same k l) (list_any (λ k. same k l) more) e) [
  | inl h ↦ (0, ap (λ t. Some t) (same-true k l h))
  | inr h ↦ Member-tail l k more (has-member l more h)
]

member-has : (l : Literal) (clause : List Literal) → Member l clause → has l clause ≡ true
unfolding has
member-has l [] (k, at) = absurd (cc)
member-has l (x ∷ more) (zero, at) = let one : x ≡ l = cc in or_left (same x l) (list_any (λ k. same k l) more) (ap (λ t. same t l) one ∙ same-self l)
member-has l (x ∷ more) (suc k, at) = or_right (same x l) (list_any (λ k. same k l) more) (member-has l more (k, at))

-- a clause of different variables doesn't have a literal's negation beside it
apart-has : (l : Literal) (clause : List Literal) → AreApart clause → Member l clause → has (negated l) clause ≡ false
apart-has l clause apart m = false_from_ne_true (has (negated l) clause) (λ t. clash clause apart m (has-member (negated l) clause t))
  where
    clash : (clause : List Literal) → AreApart clause → Member l clause → Member (negated l) clause → ⊥
    clash [] apart (k, at) n = cc
    clash (x ∷ more) (alone, apart) (zero, at) (zero, bt) = let one : l ≡ negated l = cc in differs l.positive (ap (λ t. t.positive) one)
      where
        differs : (b : Bool) → b ≡ not b → ⊥
        differs true e = cc
        differs false e = cc
    clash (x ∷ more) (alone, apart) (zero, at) (suc j, bt) = let one : x ≡ l = cc in both_ways (names x.variable more) alone (ap (λ t. names t.variable more) one ∙ names-member (negated l) more (j, bt))
    clash (x ∷ more) (alone, apart) (suc k, at) (zero, bt) = let one : x ≡ negated l = cc in both_ways (names x.variable more) alone (ap (λ t. names t.variable more) one ∙ names-member l more (k, at))
    clash (x ∷ more) (alone, apart) (suc k, at) (suc j, bt) = clash more apart (k, at) (j, bt)

sign-positive : (v : ℕ) (c : List Literal) → has (record { variable = v; positive = true }) c ≡ true → sign_of v c ≡ 1
unfolding sign_of
sign-positive v c h = rw h refl

sign-negative : (v : ℕ) (c : List Literal) → has (record { variable = v; positive = true }) c ≡ false → has (record { variable = v; positive = false }) c ≡ true → sign_of v c ≡ 2
unfolding sign_of
sign-negative v c h g = rw (h, g) refl

of-positive : (v : ℕ) (c : List Literal) → sign_of v c ≡ 1 → has (record { variable = v; positive = true }) c ≡ true
unfolding sign_of
of-positive v c = go (has (record { variable = v; positive = true }) c) (has (record { variable = v; positive = false }) c)
  where
    go : (a b : Bool) → sign_by a b ≡ 1 → a ≡ true
    go true b e = refl
    go false true e = absurd (omega (arith, e))
    go false false e = absurd (omega (arith, e))

of-negative : (v : ℕ) (c : List Literal) → sign_of v c ≡ 2 → has (record { variable = v; positive = false }) c ≡ true
unfolding sign_of
of-negative v c = go (has (record { variable = v; positive = true }) c) (has (record { variable = v; positive = false }) c)
  where
    go : (a b : Bool) → sign_by a b ≡ 2 → b ≡ true
    go true b e = absurd (omega (arith, e))
    go false true e = refl
    go false false e = absurd (omega (arith, e))

signs-within : (c d : List Literal) → AreApart c → ((l : Literal) → Member l c → sign_of l.variable c ≡ sign_of l.variable d) → IsWithin c d
signs-within c d apart signs l m = by l m l.positive refl
  where
    by : (l : Literal) → Member l c → (b : Bool) → l.positive ≡ b → Member l d
    by l m true p =
        let e : l ≡ record { variable = l.variable; positive = true } = λ i. record { variable = l.variable; positive = p i } in
        let on = ap (λ t. has t c) (sym e) ∙ member-has l c m in
        let q = of-positive l.variable d (sym (signs l m) ∙ sign-positive l.variable c on) in
        has-member l d (ap (λ t. has t d) e ∙ q)
    by l m false p =
        let e : l ≡ record { variable = l.variable; positive = false } = λ i. record { variable = l.variable; positive = p i } in
        let n : negated l ≡ record { variable = l.variable; positive = true } = λ i. record { variable = l.variable; positive = not (p i) } in
        let on = ap (λ t. has t c) (sym e) ∙ member-has l c m in
        let off = ap (λ t. has t c) (sym n) ∙ apart-has l c apart m in
        let q = of-negative l.variable d (sym (signs l m) ∙ sign-negative l.variable c off on) in
        has-member l d (ap (λ t. has t d) e ∙ q)

-- a variable that tells, or the same signs of all
tell : (vars : List ℕ) (c d : List Literal) → Differ vars c d ⊎ ((k v : ℕ) → slice_get vars k ≡ Some v → sign_of v c ≡ sign_of v d)
tell [] c d = inr (λ k v at. absurd (cc))
tell (x ∷ rest) c d = elim (cases_eq (sign_of x c) (sign_of x d)) [
  | inr ne ↦ inl (record { place = 0; variable = x; at = refl; differs = ne })
  | inl e ↦ elim (tell rest c d) [
    | inl f ↦ inl (record { place = suc f.place; variable = f.variable; at = f.at; differs = f.differs })
    | inr all ↦ inr (by e all)
  ]
]
  where
    by : sign_of x c ≡ sign_of x d → ((k v : ℕ) → slice_get rest k ≡ Some v → sign_of v c ≡ sign_of v d) → (k v : ℕ) → slice_get (x ∷ rest) k ≡ Some v → sign_of v c ≡ sign_of v d
    by e all zero v at = let one : x ≡ v = cc in ap (λ t. sign_of t c) (sym one) ∙ e ∙ ap (λ t. sign_of t d) one
    by e all (suc k) v at = all k v at

-- no clause before the steps, and none among them, is within a later one
fresh-later : (clauses : List (List Literal)) (steps : List Step) → AreFresh clauses steps → (i : ℕ) (c : List Literal) → slice_get clauses i ≡ Some c → (k : ℕ) (d : List Literal) → slice_get (map clause_of steps) k ≡ Some d → IsWithin c d → ⊥
fresh-later clauses [] f i c at k d is = λ _. cc
fresh-later clauses (s ∷ steps) (now, f) i c at zero d is = λ within. now i c at (let one : s.clause ≡ d = cc in let P : List Literal → Type 0 = λ t. IsWithin c t in subst P (sym one) within)
fresh-later clauses (s ∷ steps) (now, f) i c at (suc k) d is = fresh-later (clauses ++ s.clause ∷ []) steps f i c (slice-left clauses s.clause c i at) k d is

-- a list of variables that has each variable of the clauses
abbrev Named : List ℕ → List Step → Type 0
Named vars steps = (k : ℕ) (d : List Literal) → slice_get (map clause_of steps) k ≡ Some d → AreApart d × ((l : Literal) → Member l d → (j : ℕ) × (slice_get vars j ≡ Some l.variable))

steps-differ : (vars : List ℕ) (clauses : List (List Literal)) (steps : List Step) → AreFresh clauses steps → Named vars steps → AllDiffer vars (map clause_of steps)
steps-differ vars clauses [] f n = tt
steps-differ vars clauses (s ∷ steps) (now, f) n = ((λ k d at. differ k d at (tell vars s.clause d)), steps-differ vars (clauses ++ s.clause ∷ []) steps f (λ k d at. n (suc k) d at))
  where
    differ : (k : ℕ) (d : List Literal) → slice_get (map clause_of steps) k ≡ Some d → Differ vars s.clause d ⊎ ((j v : ℕ) → slice_get vars j ≡ Some v → sign_of v s.clause ≡ sign_of v d) → Differ vars s.clause d
    differ k d at (inl t) = t
    differ k d at (inr all) =
        let here = n 0 s.clause refl in
        absurd (fresh-later (clauses ++ s.clause ∷ []) steps f (length clauses) s.clause (slice-last clauses s.clause) k d at
        (signs-within s.clause d here.0 (λ l m. let p = here.1 l m in all p.0 l.variable p.1)))

-- so there are at most 3^v steps over v variables
pub few-steps : (formula clauses : List (List Literal)) (vars : List ℕ) (steps : List Step) → AreTidy formula steps → AreFresh clauses steps → ((v : ℕ) → Contains (variables_of formula) v → Contains vars v) → length steps ≤ 3 ^ length vars
few-steps formula clauses vars steps tidy fresh has_all =
    let size : length (map clause_of steps) ≡ length steps = length-map steps clause_of in
    let b = bound vars (map clause_of steps) (steps-differ vars clauses steps fresh named-in) in
    omega (arith, size, b)
  where
    named-in : Named vars steps
    named-in k d at = found (slice_get steps k) refl
      where
        found : (o : Option Step) → slice_get steps k ≡ o → AreApart d × ((l : Literal) → Member l d → (j : ℕ) × (slice_get vars j ≡ Some l.variable))
        found None none = let z : option_map clause_of (slice_get steps k) ≡ Some d = sym (slice_get-map clause_of steps k) ∙ at in let y : option_map clause_of (slice_get steps k) ≡ None = ap (λ o. option_map clause_of o) none in absurd (cc)
        found (Some s) is =
            let z : option_map clause_of (slice_get steps k) ≡ Some d = sym (slice_get-map clause_of steps k) ∙ at in
            let y : option_map clause_of (slice_get steps k) ≡ Some s.clause = ap (λ o. option_map clause_of o) is in
            let one : s.clause ≡ d = cc in
            let t : IsTidy formula (get_or steps k s).clause = tidy k s (slice_get_within steps k s is) in
            let read : get_or steps k s ≡ s = get_or_from_slice_get steps k s s is in
            let P : List Literal → Type 0 = λ c. AreApart c × ((l : Literal) → Member l c → (j : ℕ) × (slice_get vars j ≡ Some l.variable)) in
            subst P (ap (λ k. k.clause) read ∙ one) (t.apart, λ l m. let w = has_all l.variable (within-member (variables_of formula) (get_or steps k s).clause l t.occurs m) in (w.0, slice_get-get_or vars w.0 l.variable w.1 ∙ ap (λ n. Some n) w.2))
