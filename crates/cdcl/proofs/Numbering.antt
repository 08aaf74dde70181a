-- Named clauses as numbered ones, and steps over more clauses.
use Rattle.std.proofs.Common.{◌≡◌, ◌<◌, ◌≤◌, ◌+◌, ◌++◌, ◌∷◌, [], ℕ, ◌-◌, zero, suc, List, Some, None, true, false, min, map, length, refl, sym, ap, ◌∙◌, arith, inl, inr, length-append, append_assoc, append-nil, take, get_or}
use Rattle.std.specs.List.{slice_get}
use Rattle.std.specs.Option.{option_map}
use Rattle.std.specs.Prelude.{nat_le}
use Rattle.std.proofs.lemmas.Bool.{false≢true, cases_lt, le-leb, leb-true, false_from_ne_true}
use Rattle.std.proofs.lemmas.Option.{slice_get_within, slice_get-map, get_or_from_slice_get}
use Rattle.std.proofs.lemmas.List.{map-append, length-map, take_more}
use Rattle.cnf_core.specs.Literal.{Literal}
use Rattle.cnf_core.specs.Truth.{clause_at}
use Rattle.proof_check.specs.Steps.{Step, clause_of}
use Rattle.proof_check.specs.Propagation.{Known, taking, reading, negations, propagated, if_found, after as after_reading}
use Rattle.proof_check.specs.declared.propagation.Reading.TheVariants.{Falsified, Implied, Neither}
use Rattle.proof_check.specs.declared.propagation.Outcome.TheVariants.{Conflict}
use Rattle.proof_check.specs.Refutations.{IsValid, AreValid, is_empty, ends_empty}
use Rattle.proof_check.proofs.ClauseLemmas.{slice_get-left, slice_get-right}
use Rattle.cdcl.specs.declared.clauses.ClauseId.{ClauseId}
use Rattle.cdcl.specs.declared.clauses.ClauseId.TheVariants.{Given, Assumed, Learnt}
use Rattle.cdcl.specs.declared.clauses.Clauses.{Clauses}
use Rattle.cdcl.specs.Sources.{Lookup, named, numbered, shifted, shifted_step}
use Rattle.cdcl.specs.Tidy.{units}
use Rattle.cdcl.specs.Trails.{follows, if_named, after}

-- named hints, numbered
pub follows-numbered : (lookup : Lookup) (clauses : List (List Literal)) (number : ClauseId → ℕ) → ((id : ClauseId) (c : List Literal) → lookup id ≡ Some c → clause_at clauses (number id) ≡ Some c) → (known : Known) (ids : List ClauseId) → follows lookup known ids ≡ true → propagated clauses known (map number ids) ≡ Conflict
follows-numbered lookup clauses number at known [] f = absurd (false≢true f)
follows-numbered lookup clauses number at known (id ∷ ids) f =
    elim (lookup id) as (λ o. lookup id ≡ o → if_named (λ c. after (λ l. follows lookup (taking l known) ids) (reading known c)) o ≡ true → propagated clauses known (number id ∷ map number ids) ≡ Conflict) [
      | None ↦ λ _ no_clause. absurd (false≢true no_clause)
      | Some c ↦ λ is good. rw (at id c is) (elim (reading known c) as (λ r. after (λ l. follows lookup (taking l known) ids) r ≡ true → after_reading r (λ l. propagated clauses (taking l known) (map number ids)) ≡ Conflict) [
        | Falsified ↦ λ t. refl
        | Implied l ↦ λ t. follows-numbered lookup clauses number at (taking l known) ids t
        | Neither ↦ λ t. absurd (false≢true t)
      ] good)
    ] refl f

-- hints over other clauses, under other numbers
pub propagated-moved : (old new : List (List Literal)) (move : ℕ → ℕ) → ((n : ℕ) (c : List Literal) → clause_at old n ≡ Some c → clause_at new (move n) ≡ Some c) → (known : Known) (hints : List ℕ) → propagated old known hints ≡ Conflict → propagated new known (map move hints) ≡ Conflict
propagated-moved old new move at known [] f = absurd (cc)
propagated-moved old new move at known (n ∷ hints) f =
    elim (clause_at old n) as (λ o. clause_at old n ≡ o → if_found o (λ c. after_reading (reading known c) (λ l. propagated old (taking l known) hints)) ≡ Conflict → propagated new known (move n ∷ map move hints) ≡ Conflict) [
      | None ↦ λ _ no_clause. absurd (cc)
      | Some c ↦ λ is good. rw (at n c is) (elim (reading known c) as (λ r. after_reading r (λ l. propagated old (taking l known) hints) ≡ Conflict → after_reading r (λ l. propagated new (taking l known) (map move hints)) ≡ Conflict) [
        | Falsified ↦ λ t. refl
        | Implied l ↦ λ t. propagated-moved old new move at (taking l known) hints t
        | Neither ↦ λ t. absurd (cc)
      ] good)
    ] refl f

number-at : (clauses : List (List Literal)) (n i : ℕ) (c : List Literal) → n ≡ i + 1 → slice_get clauses i ≡ Some c → clause_at clauses n ≡ Some c
number-at clauses zero i c e at = absurd (omega arith)
number-at clauses (suc n) i c e at = let s : n ≡ i = omega arith in rw s at

in-left : (xs ys : List (List Literal)) (i : ℕ) (c : List Literal) → slice_get xs i ≡ Some c → slice_get (xs ++ ys) i ≡ Some c
in-left xs ys i c at = slice_get-left xs ys i (slice_get_within xs i c at) ∙ at

in-right : (xs ys : List (List Literal)) (i j : ℕ) (c : List Literal) → i ≡ length xs + j → slice_get ys j ≡ Some c → slice_get (xs ++ ys) i ≡ Some c
in-right xs ys i j c e at = slice_get-right xs ys i j e ∙ at

clauses-at : (steps : List Step) (i : ℕ) → slice_get (map clause_of steps) i ≡ option_map clause_of (slice_get steps i)
clauses-at steps i = slice_get-map clause_of steps i

learnt-within : (steps : List Step) (i : ℕ) (c : List Literal) → option_map clause_of (slice_get steps i) ≡ Some c → i < length steps
learnt-within [] i c e = absurd (cc)
learnt-within (s ∷ steps) zero c e = omega arith
learnt-within (s ∷ steps) (suc i) c e = let r = learnt-within steps i c e in omega arith

-- without assumptions
pub numbered-at : (clauses : Clauses) → length clauses.given + length clauses.assumed + length clauses.learnt < 4294967296 → (id : ClauseId) (c : List Literal) → named 1 clauses id ≡ Some c → clause_at (clauses.given ++ map clause_of clauses.learnt) (numbered (length clauses.given) 0 id) ≡ Some c
numbered-at clauses few (Given i) c e =
    let inside : i < length clauses.given = slice_get_within clauses.given i c e in
    number-at (clauses.given ++ map clause_of clauses.learnt) (numbered (length clauses.given) 0 (Given i)) i c (omega arith) (in-left clauses.given (map clause_of clauses.learnt) i c e)
numbered-at clauses few (Assumed i) c e = absurd (cc)
numbered-at clauses few (Learnt i) c e =
    let inside : i < length clauses.learnt = learnt-within clauses.learnt i c e in
    number-at (clauses.given ++ map clause_of clauses.learnt) (numbered (length clauses.given) 0 (Learnt i)) (length clauses.given + i) c (omega arith)
    (in-right clauses.given (map clause_of clauses.learnt) (length clauses.given + i) i c refl (clauses-at clauses.learnt i ∙ e))

-- with the assumptions behind the clauses given
unit-at : (assumed : List Literal) (i : ℕ) (c : List Literal) → option_map (λ l. l ∷ []) (slice_get assumed i) ≡ Some c → (slice_get (units assumed) i ≡ Some c) × (i < length assumed)
unit-at [] i c e = absurd (cc)
unit-at (a ∷ more) zero c e = (e, omega arith)
unit-at (a ∷ more) (suc i) c e = let r = unit-at more i c e in (r.0, omega (arith, r.1))

pub numbered-behind : (clauses : Clauses) (learnt : List (List Literal)) → length clauses.given + length clauses.assumed + length clauses.learnt < 4294967296 → learnt ≡ map clause_of clauses.learnt → (id : ClauseId) (c : List Literal) → named 0 clauses id ≡ Some c → clause_at ((clauses.given ++ units clauses.assumed) ++ learnt) (numbered (length clauses.given) (length clauses.assumed) id) ≡ Some c
numbered-behind clauses learnt few is (Given i) c e =
    let inside : i < length clauses.given = slice_get_within clauses.given i c e in
    number-at ((clauses.given ++ units clauses.assumed) ++ learnt) (numbered (length clauses.given) (length clauses.assumed) (Given i)) i c (omega arith)
    (in-left (clauses.given ++ units clauses.assumed) learnt i c (in-left clauses.given (units clauses.assumed) i c e))
numbered-behind clauses learnt few is (Assumed i) c e =
    let u = unit-at clauses.assumed i c e in
    number-at ((clauses.given ++ units clauses.assumed) ++ learnt) (numbered (length clauses.given) (length clauses.assumed) (Assumed i)) (length clauses.given + i) c (omega (arith, u.1))
    (in-left (clauses.given ++ units clauses.assumed) learnt (length clauses.given + i) c (in-right clauses.given (units clauses.assumed) (length clauses.given + i) i c refl u.0))
numbered-behind clauses learnt few is (Learnt i) c e =
    let inside : i < length clauses.learnt = learnt-within clauses.learnt i c e in
    let size : length (clauses.given ++ units clauses.assumed) ≡ length clauses.given + length clauses.assumed = omega (arith, length-append clauses.given (units clauses.assumed), length-map clauses.assumed (λ (l : Literal). l ∷ [])) in
    number-at ((clauses.given ++ units clauses.assumed) ++ learnt) (numbered (length clauses.given) (length clauses.assumed) (Learnt i)) (length clauses.given + length clauses.assumed + i) c (omega arith)
    (in-right (clauses.given ++ units clauses.assumed) learnt (length clauses.given + length clauses.assumed + i) i c (omega arith) (ap (λ t. slice_get t i) is ∙ clauses-at clauses.learnt i ∙ e))

-- one more valid step
pub valid-push : (formula : List (List Literal)) (steps : List Step) (step : Step) → AreValid formula steps → IsValid (formula ++ map clause_of steps) step → AreValid formula (steps ++ step ∷ [])
valid-push formula [] step v w = (rw (append-nil formula) at w, tt)
valid-push formula (s ∷ steps) step v w = (v.0, valid-push (formula ++ s.clause ∷ []) steps step v.1 (rw (append_assoc formula (s.clause ∷ []) (map clause_of steps)) w))

pub ends-push : (steps : List Step) (step : Step) → ends_empty (steps ++ step ∷ []) ≡ is_empty step.clause
ends-push [] step = refl
ends-push (s ∷ []) step = refl
ends-push (s ∷ t ∷ steps) step = ends-push (t ∷ steps) step

-- steps over more clauses
shifted-past : (given more done : List (List Literal)) (listed m : ℕ) (c : List Literal) → listed ≡ length more → length given + listed + length done < 4294967296 → length given ≤ m → slice_get (given ++ done) m ≡ Some c → clause_at ((given ++ more) ++ done) (min (suc m + listed) 4294967295) ≡ Some c
shifted-past given more done listed m c is few h e =
    let inside : m < length (given ++ done) = slice_get_within (given ++ done) m c e in
    let whole = length-append given done in
    let back : slice_get done (m - length given) ≡ Some c = sym (slice_get-right given done m (m - length given) (omega arith)) ∙ e in
    let front = length-append given more in
    number-at ((given ++ more) ++ done) (min (suc m + listed) 4294967295) (m + listed) c (omega arith)
    (in-right (given ++ more) done (m + listed) (m - length given) c (omega arith) back)

shifted-at : (given more done : List (List Literal)) (listed n : ℕ) (c : List Literal) → listed ≡ length more → length given + listed + length done < 4294967296 → clause_at (given ++ done) n ≡ Some c → clause_at ((given ++ more) ++ done) (shifted (length given) listed n) ≡ Some c
shifted-at given more done listed zero c is few e = absurd (cc)
shifted-at given more done listed (suc m) c is few e = elim (cases_lt m (length given)) [
  | inl h ↦
      let t : nat_le (suc m) (length given) ≡ true = le-leb (suc m) (length given) (omega arith) in
      let at : slice_get given m ≡ Some c = sym (slice_get-left given done m h) ∙ e in
      rw t (in-left (given ++ more) done m c (in-left given more m c at))
  | inr h ↦
      let f : nat_le (suc m) (length given) ≡ false = false_from_ne_true (nat_le (suc m) (length given)) (λ t. let k = leb-true (suc m) (length given) t in absurd (omega arith)) in
      rw f (shifted-past given more done listed m c is few h e)
]

pub shifted-valid : (given more done : List (List Literal)) (listed : ℕ) (steps : List Step) → listed ≡ length more → length given + listed + length done + length steps < 4294967296 → AreValid (given ++ done) steps → AreValid ((given ++ more) ++ done) (map (shifted_step (length given) listed) steps)
shifted-valid given more done listed [] is few v = tt
shifted-valid given more done listed (s ∷ steps) is few v =
    let size : length (done ++ s.clause ∷ []) ≡ length done + 1 = length-append done (s.clause ∷ []) in
    let rest = shifted-valid given more (done ++ s.clause ∷ []) listed steps is (omega arith) (rw (append_assoc given done (s.clause ∷ [])) at v.1) in (
      propagated-moved (given ++ done) ((given ++ more) ++ done) (shifted (length given) listed) (λ n c e. shifted-at given more done listed n c is (omega arith) e) (negations s.clause) s.hints v.0,
      rw (append_assoc (given ++ more) done (s.clause ∷ [])) rest,
    )

pub shifted-clauses : (given listed : ℕ) (steps : List Step) → map clause_of (map (shifted_step given listed) steps) ≡ map clause_of steps
shifted-clauses given listed [] = refl
shifted-clauses given listed (s ∷ steps) = ap (λ t. s.clause ∷ t) (shifted-clauses given listed steps)

pub shifted-more : (given listed : ℕ) (steps : List Step) (i : ℕ) (s : Step) (hints : List ℕ) (moved next : List Step) (clause : List Literal) → slice_get steps i ≡ Some s → moved ≡ map (shifted_step given listed) (take i steps) → hints ≡ map (shifted given listed) s.hints → clause ≡ s.clause → next ≡ moved ++ record { clause = clause; hints = hints } ∷ [] → next ≡ map (shifted_step given listed) (take (i + 1) steps)
shifted-more given listed steps i s hints moved next clause at m h e n =
    let inside : i < length steps = slice_get_within steps i s at in
    let read : get_or steps i s ≡ s = get_or_from_slice_get steps i s s at in
    n ∙ rw (m, h, e) (sym (ap (map (shifted_step given listed)) (take_more steps i s inside) ∙ map-append (shifted_step given listed) (take i steps) (get_or steps i s ∷ []) ∙ ap (λ t. map (shifted_step given listed) (take i steps) ++ shifted_step given listed t ∷ []) read))
