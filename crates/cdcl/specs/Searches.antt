-- What a search keeps.
use Rattle.std.specs.Prelude.{◌≡◌, ◌<◌, ◌≤◌, ◌+◌, ◌^◌, ◌⊎◌, ◌++◌, ◌∷◌, [], true, ℕ, List, Some, None, map, length, slice_get, vec_len}
use Rattle.cnf_core.specs.Literal.{Literal}
use Rattle.proof_check.specs.Refutations.{AreValid}
use Rattle.cdcl.specs.declared.clauses.Clauses.{Clauses}
use Rattle.cdcl.specs.declared.clauses.ClauseId.{ClauseId}
use Rattle.cdcl.specs.declared.assigned.Entry.{Entry}
use Rattle.cdcl.specs.declared.assigned.Reading.{Reading}
use Rattle.cdcl.specs.declared.assigned.Reading.TheVariants.{Falsified, Satisfied, Implied, Undecided}
use Rattle.cdcl.specs.declared.search.Search.{Search}
use Rattle.cdcl.specs.declared.search.Event.{Event}
use Rattle.cdcl.specs.declared.search.Event.TheVariants.{Conflict, Satisfied as EventSatisfied}
use Rattle.cdcl.specs.declared.watching.Visit.{Visit}
use Rattle.cdcl.specs.declared.watching.Visit.TheVariants.{Stays, Moves, Conflict as VisitConflict}
use Rattle.cdcl.specs.Known.{Member, known, HasTrue, AllFalse, Reads, open_count}
use Rattle.cdcl.specs.Trails.{IsTrailOf, IsConflict, HasDecision}
use Rattle.cdcl.specs.declared.assigned.Assigned.{Assigned}
use Rattle.cdcl.specs.declared.clauses.ClauseId.TheVariants.{Learnt}
use Rattle.cdcl.specs.Sources.{named}
use Rattle.proof_check.specs.Steps.{Step, clause_of}
use Rattle.cdcl.specs.Tidy.{AreTidy}
use Rattle.cdcl.specs.Fits.{Fits, AllFit, AreNumbered}

-- the first assumptions stand among the entries of levels 0 and 1
abbrev pub AreHeld : ℕ → List Literal → List Entry → Type 0
AreHeld n assumed entries = (k : ℕ) (a : Literal) → slice_get assumed k ≡ Some a → k < n → (i : ℕ) × (e : Entry) × (slice_get entries i ≡ Some e) × (e.literal ≡ a) × (e.level ≤ 1)

-- all literals of the first clause are ones of the second
abbrev pub IsWithin : List Literal → List Literal → Type 0
IsWithin c clause = (l : Literal) → Member l c → Member l clause

-- no clause that a step may cite is within this one
abbrev pub ContainsNone : Clauses → List Literal → Type 0
ContainsNone clauses clause = (id : ClauseId) (c : List Literal) → named 1 clauses id ≡ Some c → IsWithin c clause → ⊥

-- neither one of the clauses nor an earlier step is within a step
abbrev pub AreFresh : List (List Literal) → List Step → Type 0
AreFresh clauses [] = Unit {0}
AreFresh clauses (step ∷ steps) = ((i : ℕ) (c : List Literal) → slice_get clauses i ≡ Some c → IsWithin c step.clause → ⊥) × AreFresh (clauses ++ step.clause ∷ []) steps

-- the clause is learnt last, behind the others
pub record OneMore (old new : Clauses) (clause : List Literal) : Type 0 where
  pub last : named 1 new (Learnt (length old.learnt)) ≡ Some clause
  pub others : (id : ClauseId) (c : List Literal) → named 1 new id ≡ Some c → (named 1 old id ≡ Some c) ⊎ ((id ≡ Learnt (length old.learnt)) × (c ≡ clause))

-- the learnt clauses are valid steps, and each clause has a number
pub record AreLearnt (clauses : Clauses) : Type 0 where
  pub valid : AreValid clauses.given clauses.learnt
  pub tidy : AreTidy clauses.given clauses.learnt
  pub few : length clauses.given + length clauses.assumed + length clauses.learnt < 2 ^ 32

-- more clauses were learnt, behind the others, none of which contains an earlier one
pub record Appends (old new : Clauses) : Type 0 where
  pub given : new.given ≡ old.given
  pub assumed : new.assumed ≡ old.assumed
  pub more : List Step
  pub learnt : new.learnt ≡ old.learnt ++ more
  pub fresh : AreFresh (old.given ++ map clause_of old.learnt) more

-- and the first assumptions hold above level 0
pub record IsSearch (held : ℕ) (s : Search) : Type 0 where
  pub learnt : AreLearnt s.clauses
  pub trail : IsTrailOf s.clauses s.trail
  pub fits : AreNumbered (vec_len s.trail.levels) s.clauses.given
  pub learnt_fit : AllFit (vec_len s.trail.levels) (map clause_of s.clauses.learnt)
  pub assumed_fit : Fits (vec_len s.trail.levels) s.clauses.assumed
  pub holds : 1 ≤ s.trail.level → AreHeld held s.clauses.assumed s.trail.entries.items
  pub begun : 2 ≤ s.trail.level → HasDecision s.trail.level s.trail.entries.items

-- all assumptions hold above level 0
abbrev pub IsReady : Search → Type 0
IsReady s = IsSearch (length s.clauses.assumed) s

-- some of them do
abbrev pub IsSearching : Search → Type 0
IsSearching s = (held : ℕ) × IsSearch held s

-- the first entries stay
abbrev pub Extends : List Entry → List Entry → Type 0
Extends old new = (i : ℕ) (e : Entry) → slice_get old i ≡ Some e → slice_get new i ≡ Some e

-- clauses implied literals of this level, over the same clauses
pub record Goes (old new : Search) : Type 0 where
  pub same : new.clauses ≡ old.clauses
  pub room : vec_len new.trail.levels ≡ vec_len old.trail.levels
  pub count : open_count new.trail.taken.items + length new.trail.entries.items ≡ open_count old.trail.taken.items + length old.trail.entries.items
  pub grows : length old.trail.entries.items ≤ length new.trail.entries.items
  pub extends : Extends old.trail.entries.items new.trail.entries.items
  pub added : (i : ℕ) (e : Entry) → slice_get new.trail.entries.items i ≡ Some e → length old.trail.entries.items ≤ i → (e.level ≡ old.trail.level) × (e.reason ≡ None → ⊥)
  pub level : new.trail.level ≡ old.trail.level
  pub followed : new.followed ≡ old.followed

-- what a clause said, where the literal that it implied is taken since
abbrev pub Says : Assigned → Assigned → List Literal → Reading → Type 0
Says old new c (Satisfied l) = (new ≡ old) × Member l c × (known new.taken.items l ≡ true)
Says old new c Falsified = (new ≡ old) × AllFalse (known new.taken.items) c
Says old new c (Implied l) = Member l c × (known new.taken.items l ≡ true)
Says old new c (Undecided l k) = (new ≡ old) × Reads (known new.taken.items) c (Undecided l k)

-- each clause given has a true literal
abbrev pub AllTrue : Search → Type 0
AllTrue s = (i : ℕ) (c : List Literal) → slice_get s.clauses.given i ≡ Some c → HasTrue (known s.trail.taken.items) c

-- the named clause is false, and above level 1 a clause may be learnt from it
pub record IsMet (s : Search) (id : ClauseId) : Type 0 where
  pub conflict : IsConflict 0 s.clauses s.trail.entries.items id
  pub ready : 2 ≤ s.trail.level → IsReady s
  pub above : 2 ≤ s.trail.level → IsConflict 1 s.clauses s.trail.entries.items id

-- each clause given has a true literal, and all assumptions hold
pub record IsModel (s : Search) : Type 0 where
  pub ready : IsReady s
  pub above : 1 ≤ s.trail.level
  pub satisfied : AllTrue s

abbrev pub IsEvent : Search → Event → Type 0
IsEvent s (Conflict id) = IsMet s id
IsEvent s EventSatisfied = IsModel s

abbrev pub IfFalsified : Type 0 → Reading → Type 0
IfFalsified P Falsified = P
IfFalsified P (Satisfied l) = Unit {0}
IfFalsified P (Implied l) = Unit {0}
IfFalsified P (Undecided l k) = Unit {0}

abbrev pub IfConflict : (ClauseId → Type 0) → Visit → Type 0
IfConflict P (Stays watch) = Unit {0}
IfConflict P Moves = Unit {0}
IfConflict P (VisitConflict id) = P id
