-- In which conflicts variables were counted.
use Rattle.std.proofs.Common.{◌≡◌, ◌<◌, ◌+◌, ◌||◌, ℕ, List, Some, None, Bool, true, false, cond, eqb, nat_eq, take, length, get_or, refl, sym, ap, ◌∙◌, arith}
use Rattle.std.proofs.lemmas.List.Folds.{list_any_more}
use Rattle.cnf_core.specs.Literal.{Literal}
use Rattle.cdcl.specs.declared.tally.Tally.{Tally}
use Rattle.cdcl.specs.declared.clauses.ClauseId.{ClauseId}
use Rattle.cdcl.specs.declared.clauses.Clauses.{Clauses}
use Rattle.cdcl.specs.Sources.{named}
use Rattle.cdcl.specs.Trails.{names}
use Rattle.cdcl.specs.Ranks.{mark_of}
use Rattle.cdcl.proofs.Naming.{named-lower}
use Rattle.cdcl.specs.Tallies.{has_variable, occurs, one_more, HasCounted}

-- the same variables by another test
pub counted-same : (a b : ℕ → Bool) (old : List ℕ) (c : Tally) → ((v : ℕ) → b v ≡ a v) → HasCounted a old c → HasCounted b old c
counted-same a b old c same h = record {
  counts = h.counts;
  kept = h.kept;
  current = λ v less. h.current v less ∙ sym (same v);
  marks = λ v less. h.marks v less ∙ ap (λ t. cond t (one_more (mark_of old v)) (mark_of old v)) (sym (same v));
}

or-none : (b : Bool) → (b || false) ≡ b
or-none true = refl
or-none false = refl

or-assoc : (a b c : Bool) → (a || (b || c)) ≡ ((a || b) || c)
or-assoc true b c = refl
or-assoc false b c = refl

-- the next literal of a clause
pub counted-literal : (seen : ℕ → Bool) (old : List ℕ) (c : Tally) (clause : List Literal) (i x : ℕ) (l : Literal) → i < length clause → l ≡ get_or clause i l → x ≡ l.variable → HasCounted (λ v. (seen v || names v (take i clause)) || nat_eq x v) old c → HasCounted (λ v. seen v || names v (take (i + 1) clause)) old c
counted-literal seen old c clause i x l h at e is = counted-same (λ v. (seen v || names v (take i clause)) || nat_eq x v) (λ v. seen v || names v (take (i + 1) clause)) old c next is
  where
    next : (v : ℕ) → (seen v || names v (take (i + 1) clause)) ≡ ((seen v || names v (take i clause)) || nat_eq x v)
    next v = ap (λ t. seen v || t) (list_any_more (λ k. eqb k.variable v) clause i l h ∙ ap (λ k. names v (take i clause) || eqb k.variable v) (sym at) ∙ ap (λ n. names v (take i clause) || eqb n v) (sym e)) ∙ or-assoc (seen v) (names v (take i clause)) (nat_eq x v)

-- the next clause
pub counted-clause : (old : List ℕ) (c : Tally) (clauses : Clauses) (ids : List ClauseId) (i : ℕ) (id : ClauseId) → i < length ids → HasCounted (λ v. occurs clauses (take i ids) v || has_variable (named 1 clauses (get_or ids i id)) v) old c → HasCounted (occurs clauses (take (i + 1) ids)) old c
counted-clause old c clauses ids i id h is = counted-same (λ v. occurs clauses (take i ids) v || has_variable (named 1 clauses (get_or ids i id)) v) (occurs clauses (take (i + 1) ids)) old c (λ v. list_any_more (λ k. has_variable (named 1 clauses k) v) ids i id h) is

-- a clause that has the name
pub counted-named : (seen : ℕ → Bool) (old : List ℕ) (c : Tally) (clauses : Clauses) (id : ClauseId) (clause t : List Literal) → named 0 clauses id ≡ Some clause → named 1 clauses id ≡ Some t → HasCounted (λ v. seen v || names v clause) old c → HasCounted (λ v. seen v || has_variable (named 1 clauses id) v) old c
counted-named seen old c clauses id clause t low is h =
    let wide : named 0 clauses id ≡ Some t = named-lower 1 0 clauses id t (omega arith) is in
    let one : clause ≡ t = cc in
    let e : named 1 clauses id ≡ Some clause = is ∙ ap (λ k. Some k) (sym one) in
    counted-same (λ v. seen v || names v clause) (λ v. seen v || has_variable (named 1 clauses id) v) old c (λ v. ap (λ o. seen v || has_variable o v) e) h

-- a name that no step may cite
pub counted-missing : (seen : ℕ → Bool) (old : List ℕ) (c : Tally) (clauses : Clauses) (id : ClauseId) → named 1 clauses id ≡ None → HasCounted seen old c → HasCounted (λ v. seen v || has_variable (named 1 clauses id) v) old c
counted-missing seen old c clauses id is h = counted-same seen (λ v. seen v || has_variable (named 1 clauses id) v) old c (λ v. ap (λ o. seen v || has_variable o v) is ∙ or-none (seen v)) h
