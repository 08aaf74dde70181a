-- Trails, and clauses that follow by unit propagation along named clauses.
use Rattle.std.specs.Prelude.{◌≡◌, ◌<◌, ◌≤◌, ◌⊎◌, ◌*◌, ◌-◌, ◌+◌, ◌^◌, ℕ, Bool, true, false, eqb, List, [], ◌∷◌, length, Option, Some, None, slice_get, slice_index_or, vec_len}
use Rattle.std.specs.List.{list_any}
use Rattle.std.specs.Option.{option_map}
use Rattle.cnf_core.specs.Literal.{Literal, negated}
use Rattle.proof_check.specs.declared.propagation.Reading.{Reading}
use Rattle.proof_check.specs.declared.propagation.Reading.TheVariants.{Falsified, Implied, Neither}
use Rattle.proof_check.specs.Propagation.{Known, taking, reading}
use Rattle.cdcl.specs.declared.clauses.ClauseId.{ClauseId}
use Rattle.cdcl.specs.declared.clauses.Clauses.{Clauses}
use Rattle.cdcl.specs.declared.assigned.Entry.{Entry}
use Rattle.cdcl.specs.declared.assigned.Assigned.{Assigned}
use Rattle.cdcl.specs.Sources.{Lookup, named}
use Rattle.cdcl.specs.Known.{known, Member, IsOpen}
use Rattle.cdcl.specs.Ranks.{IsUnset}

abbrev pub seen_at : List Bool → ℕ → Bool
seen_at seen v = slice_index_or seen v false

-- some literal of the clause has this variable
abbrev pub names : ℕ → List Literal → Bool
names v clause = list_any (λ l. eqb l.variable v) clause

-- what comes after a clause was read
abbrev pub after : (Literal → Bool) → Reading → Bool
after next Falsified = true
after next (Implied l) = next l
after next Neither = false

abbrev pub if_named : (List Literal → Bool) → Option (List Literal) → Bool
if_named next None = false
if_named next (Some clause) = next clause

-- propagation along these clauses ends in a false one
abbrev pub follows : Lookup → Known → List ClauseId → Bool
follows lookup known [] = false
follows lookup known (id ∷ ids) = if_named (λ clause. after (λ l. follows lookup (taking l known) ids) (reading known clause)) (lookup id)

abbrev pub literal_at : List Entry → ℕ → Option Literal
literal_at entries i = option_map (λ e. e.literal) (slice_get entries i)

-- the literal stands among the first i entries
abbrev pub PlacedBelow : ℕ → List Entry → Literal → Type 0
PlacedBelow i entries l = (j : ℕ) × (j < i) × (literal_at entries j ≡ Some l)

-- the clause has the literal, and all its others are false by the first i entries
pub record Implies (entries : List Entry) (i : ℕ) (p : Literal) (clause : List Literal) : Type 0 where
  pub has : Member p clause
  pub others : (l : Literal) → Member l clause → (l ≡ p) ⊎ PlacedBelow i entries (negated l)

-- each literal of the clause is false by the first i entries
abbrev pub Falsifies : List Entry → ℕ → List Literal → Type 0
Falsifies entries i clause = (l : Literal) → Member l clause → PlacedBelow i entries (negated l)

-- no variable stands twice
abbrev pub AreDistinct : List Entry → Type 0
AreDistinct entries = (i j : ℕ) (p q : Literal) → literal_at entries i ≡ Some p → literal_at entries j ≡ Some q → p.variable ≡ q.variable → i ≡ j

-- a clause by this name, which is an assumption at level 1 alone, where the assumptions stand
abbrev pub IsSource : ℕ → Clauses → ClauseId → List Literal → Type 0
IsSource level clauses id clause = (named 0 clauses id ≡ Some clause) × ((level ≡ 1) ⊎ (named 1 clauses id ≡ Some clause))

-- each reason is a clause that implies its entry
abbrev pub HaveReasons : Clauses → List Entry → Type 0
HaveReasons clauses entries = (i : ℕ) (e : Entry) (id : ClauseId) → slice_get entries i ≡ Some e → e.reason ≡ Some id → (clause : List Literal) × IsSource e.level clauses id clause × Implies entries i e.literal clause

-- each variable is below the room
abbrev pub HasRoom : ℕ → List Entry → Type 0
HasRoom room entries = (i : ℕ) (l : Literal) → literal_at entries i ≡ Some l → l.variable < room

abbrev pub level_of : Option Entry → ℕ
level_of None = 0
level_of (Some e) = e.level

-- the level of the last entry, or 0
abbrev pub top_level : List Entry → ℕ
top_level entries = level_of (slice_get entries (length entries - 1))

-- an entry without a reason is of this level
abbrev pub HasDecision : ℕ → List Entry → Type 0
HasDecision level entries = (j : ℕ) × (d : Entry) × (slice_get entries j ≡ Some d) × (d.reason ≡ None) × (d.level ≡ level)

-- levels never fall, and none is above this one; an entry without a reason stands above level 1, and is the first of its level, as each level above 1 has one
pub record HaveLevels (level : ℕ) (entries : List Entry) : Type 0 where
  pub rising : (i j : ℕ) (a b : Entry) → slice_get entries i ≡ Some a → slice_get entries j ≡ Some b → i ≤ j → a.level ≤ b.level
  pub within : (i : ℕ) (e : Entry) → slice_get entries i ≡ Some e → e.level ≤ level
  pub decided : (i : ℕ) (e : Entry) → slice_get entries i ≡ Some e → e.reason ≡ None → 2 ≤ e.level
  pub first : (i j : ℕ) (a d : Entry) → slice_get entries i ≡ Some a → slice_get entries j ≡ Some d → d.reason ≡ None → i < j → a.level < d.level
  pub begun : (i : ℕ) (e : Entry) → slice_get entries i ≡ Some e → 2 ≤ e.level → HasDecision e.level entries

-- the literals taken as true are those of the entries
pub record ArePlaced (entries : List Entry) (taken : List Bool) : Type 0 where
  pub placed : (l : Literal) → known taken l ≡ true → PlacedBelow (length entries) entries l
  pub kept : (i : ℕ) (l : Literal) → literal_at entries i ≡ Some l → known taken l ≡ true

-- of the variables below the room, those of which no literal is taken are open
pub record AreOpen (unset taken : List Bool) (room : ℕ) : Type 0 where
  pub size : length unset ≡ room
  pub none : IsUnset unset 0 → ⊥
  pub is_open : (l : Literal) → IsUnset unset l.variable → IsOpen (known taken) l
  pub has : (l : Literal) → 1 ≤ l.variable → l.variable < room → IsOpen (known taken) l → IsUnset unset l.variable

-- what holds of the literals that are taken as true, over these clauses
pub record IsTrailOf (clauses : Clauses) (t : Assigned) : Type 0 where
  pub distinct : AreDistinct t.entries.items
  pub reasons : HaveReasons clauses t.entries.items
  pub in_room : HasRoom (vec_len t.levels) t.entries.items
  pub have_levels : HaveLevels t.level t.entries.items
  pub are_placed : ArePlaced t.entries.items t.taken.items
  pub paired : vec_len t.taken ≡ 2 * vec_len t.levels
  pub are_open : AreOpen t.scores.unset t.taken.items (vec_len t.levels)
  pub small : vec_len t.levels ≤ 2 ^ 31

-- no entry is a decision
abbrev pub AllReasoned : List Entry → Type 0
AllReasoned entries = (i : ℕ) (e : Entry) → slice_get entries i ≡ Some e → e.reason ≡ None → ⊥

-- the named clause, which a step at this level may cite, is false
abbrev pub IsConflict : ℕ → Clauses → List Entry → ClauseId → Type 0
IsConflict level clauses entries id = (c : List Literal) × (named level clauses id ≡ Some c) × Falsifies entries (length entries) c

-- the first entries, with all of this level or below it, and none above it
pub record IsCut (level : ℕ) (old new : List Entry) : Type 0 where
  pub keeps : (i : ℕ) (e : Entry) → slice_get old i ≡ Some e → e.level ≤ level → slice_get new i ≡ Some e
  pub first : (i : ℕ) (e : Entry) → slice_get new i ≡ Some e → slice_get old i ≡ Some e
  pub below : (i : ℕ) (e : Entry) → slice_get new i ≡ Some e → e.level ≤ level

-- level 0 or 1, or that of an entry
abbrev pub IsLevel : ℕ → List Entry → Type 0
IsLevel level entries = (level ≤ 1) ⊎ ((i : ℕ) × (e : Entry) × (slice_get entries i ≡ Some e) × (e.level ≡ level))

-- a literal that is decided, one level up
pub record IsDecided (t : Assigned) (e : Entry) : Type 0 where
  pub reason : e.reason ≡ None
  pub level : e.level ≡ t.level + 1
  pub above : 1 ≤ t.level

-- a literal that a clause or an assumption implies
pub record IsImplied (clauses : Clauses) (t : Assigned) (e : Entry) : Type 0 where
  pub id : ClauseId
  pub clause : List Literal
  pub reason : e.reason ≡ Some id
  pub level : e.level ≡ t.level
  pub begun : 2 ≤ t.level → HasDecision t.level t.entries.items
  pub source : IsSource e.level clauses id clause
  pub implies : Implies t.entries.items (length t.entries.items) e.literal clause

-- why a literal may be taken as true
abbrev pub IsNext : Clauses → Assigned → Entry → Type 0
IsNext clauses t e = IsDecided t e ⊎ IsImplied clauses t e
