-- The steps that a question learns, behind those kept.
use Rattle.std.proofs.Common.{◌≡◌, ◌≤◌, ◌+◌, ◌-◌, ◌++◌, ◌∷◌, [], ℕ, zero, suc, List, Some, map, length, sym, ap, ap₂, ◌∙◌, arith, take, drop, append-nil, append_assoc, length-append, get_or}
use Rattle.std.specs.List.{slice_get}
use Rattle.std.proofs.lemmas.List.{take-append-drop, length-drop, get_or-drop, take_at, drop_at, take_more}
use Rattle.std.proofs.lemmas.Option.{slice_get_within, get_or_from_slice_get}
use Rattle.cnf_core.specs.Literal.{Literal}
use Rattle.proof_check.specs.Steps.{Step, clause_of}
use Rattle.proof_check.specs.Refutations.{AreValid, IsTrail}
use Rattle.cdcl.specs.declared.clauses.Clauses.{Clauses}
use Rattle.cdcl.specs.Tidy.{AreTidy}
use Rattle.cdcl.specs.Searches.{AreLearnt, AreFresh, Appends}
use Rattle.cdcl.specs.Answers.{IsFew}
use Rattle.cdcl.specs.Stores.{KeepsMore}
use Rattle.cdcl.proofs.Counting.{few-steps}

pub between-more : (steps copy next : List Step) (start i : ℕ) (s : Step) → start ≤ i → slice_get steps i ≡ Some s → copy ≡ take (i - start) (drop start steps) → next ≡ copy ++ s ∷ [] → next ≡ take (i + 1 - start) (drop start steps)
between-more steps copy next start i s from at is n =
    let rest = drop start steps in
    let k = i - start in
    let inside = slice_get_within steps i s at in
    let size = length-drop start steps in
    let whole : start + k ≡ i = omega (arith, from) in
    let read : get_or rest k s ≡ s = get_or-drop start steps k s ∙ ap (λ m. get_or steps m s) whole ∙ get_or_from_slice_get steps i s s at in
    let more : take (k + 1) rest ≡ take k rest ++ s ∷ [] = take_more rest k s (omega (arith, from, inside, size)) ∙ ap (λ t. take k rest ++ t ∷ []) read in
    let next_size : i + 1 - start ≡ k + 1 = omega (arith, from) in
    n ∙ ap (λ t. t ++ s ∷ []) is ∙ sym more ∙ ap (λ m. take m rest) (sym next_size)

valid-left : (formula : List (List Literal)) (a b : List Step) → AreValid formula (a ++ b) → AreValid formula a
valid-left formula [] b v = tt
valid-left formula (s ∷ a) b v = (v.0, valid-left (formula ++ s.clause ∷ []) a b v.1)

valid-right : (formula : List (List Literal)) (a b : List Step) → AreValid formula (a ++ b) → AreValid (formula ++ map clause_of a) b
valid-right formula [] b v = rw (append-nil formula) v
valid-right formula (s ∷ a) b v = rw (append_assoc formula (s.clause ∷ []) (map clause_of a)) at (valid-right (formula ++ s.clause ∷ []) a b v.1)

tidy-right : (formula : List (List Literal)) (a b : List Step) → AreTidy formula (a ++ b) → AreTidy formula b
tidy-right formula [] b t = t
tidy-right formula (s ∷ a) b t = tidy-right formula a b (λ k d h. t (suc k) d (omega arith))

tidy-left : (formula : List (List Literal)) (a b : List Step) → AreTidy formula (a ++ b) → AreTidy formula a
tidy-left formula [] b t k d h = absurd (omega arith)
tidy-left formula (s ∷ a) b t zero d h = t zero d (omega arith)
tidy-left formula (s ∷ a) b t (suc k) d h = tidy-left formula a b (λ j e less. t (suc j) e (omega arith)) k d (omega arith)

-- a trail over clauses: kept steps, and so many behind them
pub record Spends (given : List (List Literal)) (kept steps : List Step) (n : ℕ) : Type 0 where
  pub trail : IsTrail given kept steps
  pub kept_tidy : AreTidy given kept
  pub steps_tidy : AreTidy given steps
  pub count : length steps ≡ n
  pub fresh : AreFresh (given ++ map clause_of kept) steps
  pub few : IsFew given n

spends : (given : List (List Literal)) (a b : List Step) (n : ℕ) → AreValid given (a ++ b) → AreTidy given (a ++ b) → AreFresh (given ++ map clause_of a) b → length b ≡ n → Spends given a b n
spends given a b n valid tidy fresh count = record {
  trail = (valid-left given a b valid, valid-right given a b valid);
  kept_tidy = tidy-left given a b tidy;
  steps_tidy = tidy-right given a b tidy;
  count = count;
  fresh = fresh;
  few = record { over = λ vars all. let f = few-steps given (given ++ map clause_of a) vars b (tidy-right given a b tidy) fresh all in omega (arith, f, count) };
}

pub spending : (old new : Clauses) (kept steps : List Step) (k n : ℕ) → Appends old new → AreLearnt new → k ≡ length old.learnt → length new.learnt ≡ k + n → kept ≡ take k new.learnt → steps ≡ drop k new.learnt → Spends old.given kept steps n
spending old new kept steps k n f l size count kept_is steps_is =
    let first : kept ≡ old.learnt = kept_is ∙ ap (take k) f.learnt ∙ take_at old.learnt f.more k (sym size) in
    let second : steps ≡ f.more = steps_is ∙ ap (drop k) f.learnt ∙ drop_at old.learnt f.more k (sym size) in
    let long = ap length f.learnt ∙ length-append old.learnt f.more in
    let valid : AreValid old.given (old.learnt ++ f.more) = rw (f.learnt, f.given) at l.valid in
    let tidy : AreTidy old.given (old.learnt ++ f.more) = rw (f.learnt, f.given) at l.tidy in
    rw (first, second) (spends old.given old.learnt f.more n valid tidy f.fresh (omega (arith, long, count, size)))

-- those kept before, and those learnt behind them
pub kept-whole : (old new : Clauses) (kept steps : List Step) (k : ℕ) → Appends old new → k ≡ length old.learnt → kept ≡ take k new.learnt → steps ≡ drop k new.learnt → (kept ≡ old.learnt) × (new.learnt ≡ kept ++ steps)
kept-whole old new kept steps k f size kept_is steps_is = (
  kept_is ∙ ap (take k) f.learnt ∙ take_at old.learnt f.more k (sym size),
  sym (take-append-drop k new.learnt) ∙ ap₂ (λ (a b : List Step). a ++ b) (sym kept_is) (sym steps_is),
)

pub keeps-more : (old middle new : Clauses) → Appends old middle → new ≡ middle → KeepsMore old.learnt new.learnt
keeps-more old middle new f same = record { more = f.more; kept = ap (λ (c : Clauses). c.learnt) same ∙ f.learnt }
