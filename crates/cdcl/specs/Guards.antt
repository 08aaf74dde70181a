-- What watches guard: where all entries were followed, no clause is false, and none has one literal left.
use Rattle.std.specs.Prelude.{◌≡◌, ◌<◌, ◌≤◌, ◌⊎◌, ◌+◌, ◌*◌, ℕ, List, [], ◌∷◌, true, Option, Some, None, length, slice_get, vec_len}
use Rattle.cnf_core.specs.Literal.{Literal, negated, code_of}
use Rattle.cdcl.specs.declared.clauses.ClauseId.{ClauseId}
use Rattle.cdcl.specs.declared.clauses.ClauseId.TheVariants.{Given, Assumed, Learnt}
use Rattle.cdcl.specs.declared.clauses.Clauses.{Clauses}
use Rattle.cdcl.specs.declared.assigned.Entry.{Entry}
use Rattle.cdcl.specs.declared.watching.Watch.{Watch}
use Rattle.cdcl.specs.declared.watching.Pair.{Pair}
use Rattle.cdcl.specs.declared.watching.Watches.{Watches}
use Rattle.cdcl.specs.declared.watching.Visit.{Visit}
use Rattle.cdcl.specs.declared.watching.Visit.TheVariants.{Stays, Moves, Conflict}
use Rattle.cdcl.specs.declared.assigned.Reading.{Reading}
use Rattle.cdcl.specs.declared.assigned.Reading.TheVariants.{Falsified, Satisfied, Implied, Undecided}
use Rattle.cdcl.specs.declared.search.Search.{Search}
use Rattle.cdcl.specs.Sources.{named}
use Rattle.cdcl.specs.Known.{Member, known, IsOpen}
use Rattle.cdcl.specs.Jumps.{FalseAt}
use Rattle.cdcl.specs.declared.assigned.Assigned.{Assigned}
use Rattle.cdcl.specs.Trails.{PlacedBelow}
use Rattle.cdcl.specs.Watches.{waiting, pair_of, IsIn, IsWaitingInstead}

-- some literal of the clause is true, at this level or below it
pub record HasTrueAt (level : ℕ) (entries : List Entry) (c : List Literal) : Type 0 where
  pub place : ℕ
  pub entry : Entry
  pub at : slice_get entries place ≡ Some entry
  pub member : Member entry.literal c
  pub below : entry.level ≤ level

-- where one of the first n entries made the literal false, some literal of the clause is true at its level or below it
abbrev pub IsHeeded : ℕ → List Entry → List Literal → Literal → Type 0
IsHeeded n entries c y = (i : ℕ) (e : Entry) → slice_get entries i ≡ Some e → e.literal ≡ negated y → i < n → HasTrueAt e.level entries c

-- what holds of a literal at which the clause waits, where n entries were followed
abbrev pub AtRest : ℕ → List Entry → Watches → ClauseId → List Literal → Literal → Type 0
AtRest n entries w id c y = IsIn (waiting w (code_of y)) id × IsHeeded n entries c y

-- the clause waits at two of its literals, of each of which this holds
pub record Waits (At : Literal → Type 0) (w : Watches) (id : ClauseId) (c : List Literal) : Type 0 where
  pub pair : Pair
  pub is : pair_of w id ≡ Some pair
  pub first_in : Member pair.first c
  pub second_in : Member pair.second c
  pub apart : pair.first ≡ pair.second → ⊥
  pub first : At pair.first
  pub second : At pair.second

-- two literals of the clause aren't made false by the first p entries
pub record TwoLeft (p : ℕ) (entries : List Entry) (c : List Literal) : Type 0 where
  pub one : Literal
  pub another : Literal
  pub one_in : Member one c
  pub another_in : Member another c
  pub apart : one ≡ another → ⊥
  pub one_left : PlacedBelow p entries (negated one) → ⊥
  pub another_left : PlacedBelow p entries (negated another) → ⊥

-- by the first p entries the clause is true, or it has two literals left
abbrev pub IsSettled : ℕ → List Entry → List Literal → Type 0
IsSettled p entries c = ((l : Literal) × Member l c × PlacedBelow p entries l) ⊎ TwoLeft p entries c

-- those learnt, and the first ones given
abbrev pub IsEntered : ℕ → ClauseId → Type 0
IsEntered n (Given i) = i < n
IsEntered n (Assumed i) = Unit {0}
IsEntered n (Learnt i) = Unit {0}

-- the watch is of a clause, with one of its literals as the blocking one
abbrev pub IsWatch : Clauses → Watch → Type 0
IsWatch clauses w = (c : List Literal) × (named 1 clauses w.id ≡ Some c) × Member w.blocking c

abbrev pub AreWatches : Clauses → List Watch → Type 0
AreWatches clauses list = (j : ℕ) (w : Watch) → slice_get list j ≡ Some w → IsWatch clauses w

-- places and blocking literals
pub record AreSound (s : Search) : Type 0 where
  pub lists : vec_len s.watches.lists ≡ 2 * vec_len s.trail.levels
  pub given : vec_len s.watches.given ≡ length s.clauses.given
  pub learnt : vec_len s.watches.learnt ≡ length s.clauses.learnt
  pub watches : (k : ℕ) → AreWatches s.clauses (waiting s.watches k)

-- each clause is settled where a literal was decided
abbrev pub AreSettled : Search → Type 0
AreSettled s = (p : ℕ) (d : Entry) → slice_get s.trail.entries.items p ≡ Some d → d.reason ≡ None → (id : ClauseId) (c : List Literal) → named 1 s.clauses id ≡ Some c → IsSettled p s.trail.entries.items c

-- each clause that was entered is true from level 0 on, or waits so at two literals
abbrev pub AreGuarded : (ClauseId → List Literal → Literal → Type 0) → ℕ → Search → Type 0
AreGuarded At entered s = (id : ClauseId) (c : List Literal) → IsEntered entered id → named 1 s.clauses id ≡ Some c → HasTrueAt 0 s.trail.entries.items c ⊎ Waits (At id c) s.watches id c

-- of the entries, the first n were followed since the last decision
pub record AreAhead (n : ℕ) (s : Search) : Type 0 where
  pub followed : s.followed ≤ n
  pub within : n ≤ length s.trail.entries.items
  pub ahead : (i : ℕ) (e : Entry) → s.followed ≤ i → slice_get s.trail.entries.items i ≡ Some e → e.level ≡ s.trail.level

-- what propagation keeps
pub record Guards (entered n : ℕ) (s : Search) : Type 0 where
  pub sound : AreSound s
  pub ahead : AreAhead n s
  pub guarded : AreGuarded (AtRest n s.trail.entries.items s.watches) entered s
  pub settled : AreSettled s

abbrev pub IsBelow : ℕ → List Watch → ClauseId → Type 0
IsBelow end list id = (k : ℕ) × (w : Watch) × (slice_get list k ≡ Some w) × (w.id ≡ id) × (k < end)

abbrev pub IsFrom : ℕ → List Watch → ClauseId → Type 0
IsFrom start list id = (k : ℕ) × (w : Watch) × (slice_get list k ≡ Some w) × (w.id ≡ id) × (start ≤ k)

-- the same while the list of a literal is gone through: what was kept of it, and what comes
abbrev pub AtTurn : Literal → ℕ → ℕ → ℕ → List Watch → Option ClauseId → Search → ClauseId → List Literal → Literal → Type 0
AtTurn x n kept next list found s id c y =
    ((y ≡ x → ⊥) × AtRest n s.trail.entries.items s.watches id c y)
    ⊎ ((y ≡ x) × ((IsBelow kept list id × (found ≡ None → HasTrueAt s.trail.level s.trail.entries.items c)) ⊎ IsFrom next list id))

pub record InTurn (x : Literal) (n kept next : ℕ) (list : List Watch) (found : Option ClauseId) (s : Search) : Type 0 where
  pub sound : AreSound s
  pub list_watches : AreWatches s.clauses list
  pub ahead : AreAhead n s
  pub here : waiting s.watches (code_of x) ≡ []
  pub entry : (e : Entry) × (slice_get s.trail.entries.items n ≡ Some e) × (e.literal ≡ negated x)
  pub guarded : AreGuarded (AtTurn x n kept next list found s) (length s.clauses.given) s
  pub settled : AreSettled s

-- the first literal of the clause is open, and the others are false, the second of them at the trail's level
pub record IsAsserting (t : Assigned) (clause : List Literal) : Type 0 where
  pub first : Literal
  pub rest : List Literal
  pub is : clause ≡ first ∷ rest
  pub is_open : IsOpen (known t.taken.items) first
  pub others : (l : Literal) → Member l rest → known t.taken.items (negated l) ≡ true
  pub second : ((rest ≡ []) × (t.level ≡ 0)) ⊎ ((l : Literal) × (more : List Literal) × (rest ≡ l ∷ more) × FalseAt t.entries.items 0 t.level l)

-- what propagation keeps, where the clause learnt last doesn't wait yet
pub record GuardsBut (s : Search) (clause : List Literal) : Type 0 where
  pub lists : vec_len s.watches.lists ≡ 2 * vec_len s.trail.levels
  pub given : vec_len s.watches.given ≡ length s.clauses.given
  pub learnt : length s.clauses.learnt ≡ vec_len s.watches.learnt + 1
  pub watches : (k : ℕ) → AreWatches s.clauses (waiting s.watches k)
  pub ahead : AreAhead s.followed s
  pub whole : s.followed ≡ length s.trail.entries.items
  pub guarded : (id : ClauseId) (c : List Literal) → (id ≡ Learnt (vec_len s.watches.learnt) → ⊥) → named 1 s.clauses id ≡ Some c → HasTrueAt 0 s.trail.entries.items c ⊎ Waits (AtRest s.followed s.trail.entries.items s.watches id c) s.watches id c
  pub settled : AreSettled s
  pub last : named 1 s.clauses (Learnt (vec_len s.watches.learnt)) ≡ Some clause
  pub asserts : IsAsserting s.trail clause

-- the clause has a literal that is true
abbrev pub IsTrueNow : List Entry → List Literal → Type 0
IsTrueNow entries c = (l : Literal) × Member l c × PlacedBelow (length entries) entries l

-- two literals of a clause that aren't false, or one of them twice where it is true
abbrev pub left_of : Reading → Option Pair
left_of Falsified = None
left_of (Satisfied l) = Some (record { first = l; second = l })
left_of (Implied l) = Some (record { first = l; second = l })
left_of (Undecided l k) = Some (record { first = l; second = k })

-- a clause is let wait at one of two literals
abbrev pub Moved : ClauseId → Literal → Literal → Literal → Watches → Watches → Visit → Type 0
Moved id x one another old new (Stays w) = (new ≡ old) × (w.id ≡ id) × (w.blocking ≡ one) × (one ≡ another)
Moved id x one another old new Moves = ((new ≡ old) × (pair_of old id ≡ None)) ⊎ IsWaitingInstead id x one another old new
Moved id x one another old new (Conflict other) = ⊥

-- the clause waits at another of its literals now, which isn't false
pub record MovesTo (x : Literal) (watch : Watch) (old new : Search) : Type 0 where
  pub one : Literal
  pub another : Literal
  pub waits : IsWaitingInstead watch.id x one another old.watches new.watches
  pub member : (c : List Literal) → named 1 old.clauses watch.id ≡ Some c → Member one c × Member another c
  pub one_left : PlacedBelow (length new.trail.entries.items) new.trail.entries.items (negated one) → ⊥
  pub another_left : PlacedBelow (length new.trail.entries.items) new.trail.entries.items (negated another) → ⊥

-- what became of a watch at a literal that is false
abbrev pub Visited : Literal → Watch → Search → Search → Visit → Type 0
Visited x watch old new (Stays w) = (new.watches ≡ old.watches) × (w.id ≡ watch.id) × ((c : List Literal) → named 1 old.clauses watch.id ≡ Some c → Member w.blocking c × IsTrueNow new.trail.entries.items c)
Visited x watch old new Moves = ((new.watches ≡ old.watches) × (pair_of old.watches watch.id ≡ None)) ⊎ MovesTo x watch old new
Visited x watch old new (Conflict id) = new.watches ≡ old.watches

-- after the whole list was gone through: all of it was followed, or the clause that was found is false
abbrev pub IsAtRest : ℕ → Option ClauseId → Search → Type 0
IsAtRest n None s = Guards (length s.clauses.given) (n + 1) s
IsAtRest n (Some id) s = Guards (length s.clauses.given) n s
