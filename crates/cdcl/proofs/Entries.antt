-- What may be taken as true next.
use Rattle.std.proofs.Common.{◌≡◌, ◌≤◌, ◌++◌, ◌∷◌, [], ℕ, List, Some, refl, sym, inl, inr, subst, arith, length}
use Rattle.cnf_core.specs.Literal.{Literal}
use Rattle.cdcl.specs.declared.clauses.ClauseId.{ClauseId}
use Rattle.cdcl.specs.declared.clauses.Clauses.{Clauses}
use Rattle.cdcl.specs.declared.assigned.Entry.{Entry}
use Rattle.cdcl.specs.declared.assigned.Assigned.{Assigned}
use Rattle.cdcl.specs.Trails.{Implies, IsSource, HaveLevels, HasDecision, IsNext}
use Rattle.cdcl.specs.Searches.{Extends}
use Rattle.cdcl.proofs.Readings.{slice-left, slice-last}
use Rattle.cdcl.proofs.Placements.{levels-push, begun-left}

pub next-reason : (clauses : Clauses) (t : Assigned) (e : Entry) → IsNext clauses t e → (id : ClauseId) → e.reason ≡ Some id → (c : List Literal) × IsSource e.level clauses id c × Implies t.entries.items (length t.entries.items) e.literal c
next-reason clauses t e next id is = elim next [
  | inl d ↦ let none = d.reason in absurd (cc)
  | inr f ↦
      let same : f.id ≡ id = let was = f.reason in cc in
      (f.clause, (let P : ClauseId → Type 0 = λ i. IsSource e.level clauses i f.clause in subst P same f.source), f.implies)
]

pub next-levels : (clauses : Clauses) (t : Assigned) (e : Entry) → HaveLevels t.level t.entries.items → IsNext clauses t e → HaveLevels e.level (t.entries.items ++ e ∷ [])
next-levels clauses t e h next = elim next [
  | inl d ↦ let l = d.level in levels-push t.entries.items e t.level h (omega arith) (λ _. omega arith) (λ _. d.above) (λ _. inl d.reason)
  | inr f ↦
      let l = f.level in
      levels-push t.entries.items e t.level h (omega arith) (λ none. let was = f.reason in absurd (cc)) (λ none. let was = f.reason in absurd (cc))
      (λ one. inr (let P : ℕ → Type 0 = λ n. HasDecision n t.entries.items in subst P (sym l) (f.begun (omega arith))))
]

pub next-begun : (clauses : Clauses) (t : Assigned) (e : Entry) → IsNext clauses t e → 2 ≤ e.level → HasDecision e.level (t.entries.items ++ e ∷ [])
next-begun clauses t e next one = elim next [
  | inl d ↦ (length t.entries.items, e, slice-last t.entries.items e, d.reason, refl)
  | inr f ↦
      let l = f.level in
      begun-left t.entries.items e e.level (let P : ℕ → Type 0 = λ n. HasDecision n t.entries.items in subst P (sym l) (f.begun (omega arith)))
]

-- nothing comes above level 0 before the assumptions' level was begun
pub next-above : (clauses : Clauses) (t : Assigned) (e : Entry) → IsNext clauses t e → 1 ≤ e.level → 1 ≤ t.level
next-above clauses t e next one = elim next [
  | inl d ↦ d.above
  | inr f ↦ let l = f.level in omega arith
]

pub extends-push : (entries : List Entry) (e : Entry) → Extends entries (entries ++ e ∷ [])
extends-push entries e i x at = slice-left entries e x i at
