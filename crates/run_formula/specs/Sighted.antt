-- What prints see of a watched variable: the lists of numbers that they show, each with the truth that it is shown.
use Rattle.std.specs.Prelude.{◌≡◌, ◌↔◌, ◌⊎◌, ℕ, ℤ, List, [], ◌∷◌, length, Bool, true, false, cond, nat_eq, Option, Some, None, slice_get}
use Rattle.std.specs.HashMap.{HashMap, get}
use Rattle.std.specs.declared.hash.FoldHasher.{FoldHasher}
use Rattle.std.specs.declared.hash.BuildHasherDefault.{BuildHasherDefault}
use Rattle.plain_data.specs.declared.run.Event.{Event}
use Rattle.plain_data.specs.declared.run.Happening.TheVariants as happening
use Rattle.term_bank.specs.declared.sort.Sort.TheVariants.{Truth}
use Rattle.term_bank.specs.declared.sort.Node.{Node}
use Rattle.term_bank.specs.declared.shape.Shape.{Shape}
use Rattle.term_bank.specs.Shapes.{Each}
use Rattle.term_bank.specs.Terms.{IsTerm}
use Rattle.term_bank.specs.Values.{Environment, Values, Models, Grows, worth}
use Rattle.path_states.specs.declared.state.State.{State}
use Rattle.path_states.specs.States.{Held, standing}
use Rattle.run_formula.specs.Questions.{OneOf}
use Rattle.run_formula.specs.Watched.{IsAt, Shows, seen_in}
use Rattle.run_formula.specs.declared.joining.Joining.{Joining}
use Rattle.run_formula.specs.declared.joining.Joining.TheVariants.{Either, Chosen, Guarded}
use Rattle.run_formula.specs.declared.sighting.Sightings.{Sightings}
use Rattle.run_formula.specs.declared.observing.Observation.{Observation}
use Rattle.run_formula.specs.declared.seen.Seen.{Seen}
use Rattle.run_formula.specs.declared.watches.Watch.{Watch}

-- a print by the site that begins in the line, and shows exactly these numbers
abbrev pub ShowsAll : List ℕ → Watch → List ℤ → Event → Type 0
ShowsAll log w zs e = Shows log w (λ seen. seen ≡ zs) e

-- ---- lists of numbers, each with a truth

abbrev pub truths : Values → List Node → List Bool
truths v [] = []
truths v (n ∷ ns) = (v n.index).truth ∷ truths v ns

-- the numbers of nodes
abbrev pub lists_in : Values → List ℕ → List (List ℤ)
lists_in v [] = []
lists_in v (k ∷ ks) = (v k).numbers ∷ lists_in v ks

-- one whose truth holds is so
abbrev pub OneWhere : (List ℤ → Type 0) → List Bool → List (List ℤ) → Type 0
OneWhere P [] ls = ⊥
OneWhere P (b ∷ bs) [] = ⊥
OneWhere P (b ∷ bs) (l ∷ ls) = ((b ≡ true) × P l) ⊎ OneWhere P bs ls

abbrev pub AreTruths : List Shape → List Node → Type 0
AreTruths b ns = Each (IsTerm b Truth) ns

-- ---- truths made one

-- how two truths become one: either holds; the one or the other, by a condition; the first, or the second under a guard
abbrev pub joined : Joining → Values → Bool → Bool → Bool
joined Either v x y = cond x true y
joined (Chosen c) v x y = cond (v c.index).truth x y
joined (Guarded g) v x y = cond x true (cond (v g.index).truth y false)

abbrev pub IsJoining : List Shape → Joining → Type 0
IsJoining b Either = Unit {0}
IsJoining b (Chosen c) = IsTerm b Truth c
IsJoining b (Guarded g) = IsTerm b Truth g

abbrev pub pairwise : (Bool → Bool → Bool) → List Bool → List Bool → List Bool
pairwise f [] ys = []
pairwise f (x ∷ xs) [] = []
pairwise f (x ∷ xs) (y ∷ ys) = f x y ∷ pairwise f xs ys

pub record Joins (a b : List Shape) (how : Joining) (x y n : Node) : Type 0 where
  pub grows : Grows a b
  pub term : IsTerm b Truth n
  pub is : (e : Environment) (v : Values) → Models b e v
      → (v n.index).truth ≡ joined how v (v x.index).truth (v y.index).truth

-- the truths of two lists, pair by pair
pub record JoinsAll (a b : List Shape) (how : Joining) (xs ys ns : List Node) : Type 0 where
  pub grows : Grows a b
  pub len : length ns ≡ length xs
  pub terms : AreTruths b ns
  pub are : (e : Environment) (v : Values) → Models b e v → truths v ns ≡ pairwise (joined how v) (truths v xs) (truths v ys)

abbrev pub AreFalse : List Bool → Type 0
AreFalse [] = Unit {0}
AreFalse (b ∷ bs) = (b ≡ false) × AreFalse bs

-- so many truths of which none holds
pub record Nevers (a b : List Shape) (n : ℕ) (ns : List Node) : Type 0 where
  pub grows : Grows a b
  pub len : length ns ≡ n
  pub terms : AreTruths b ns
  pub are : (e : Environment) (v : Values) → Models b e v → AreFalse (truths v ns)

-- ---- nodes of events

-- Of each list of numbers, whether a print among a node's events shows it: a print by the site in the line does so
-- exactly where it is one of these lists, and its truth holds.
pub record AreSighted (b : List Shape) (log : List ℕ) (w : Watch) (ks : List ℕ) (events : ℕ) (ns : List Node) : Type 0 where
  pub len : length ns ≡ length ks
  pub terms : AreTruths b ns
  pub are : (e : Environment) (v : Values) → Models b e v → (zs : List ℤ)
      → OneOf (ShowsAll log w zs) (v events).events ↔ OneWhere (λ l. l ≡ zs) (truths v ns) (lists_in v ks)

-- the same of a shape's
pub record SightsShape (a b : List Shape) (log : List ℕ) (w : Watch) (ks : List ℕ) (shape : Shape) (ns : List Node) : Type 0 where
  pub grows : Grows a b
  pub len : length ns ≡ length ks
  pub terms : AreTruths b ns
  pub are : (e : Environment) (v : Values) → Models b e v → (zs : List ℤ)
      → OneOf (ShowsAll log w zs) (worth e v shape).events ↔ OneWhere (λ l. l ≡ zs) (truths v ns) (lists_in v ks)

-- the same with one print more, whatever its length
pub record SightsPrint (a b : List Shape) (log : List ℕ) (w : Watch) (ks : List ℕ) (before : List Node) (printed at seen : ℕ) (ns : List Node) : Type 0 where
  pub grows : Grows a b
  pub len : length ns ≡ length ks
  pub terms : AreTruths b ns
  pub are : (length : ℕ) (e : Environment) (v : Values) → Models b e v → (zs : List ℤ)
      → OneWhere (λ l. l ≡ zs) (truths v ns) (lists_in v ks) ↔ (OneWhere (λ l. l ≡ zs) (truths v before) (lists_in v ks)
      ⊎ ShowsAll log w zs (record { what = happening.Print at length (v seen).numbers; printed = printed }))

-- truths by the numbers of nodes
abbrev pub Truths : Type 0
Truths = HashMap ℕ (List Node) (BuildHasherDefault FoldHasher)

-- a node now has these
abbrev pub PutsTruths : Truths → Truths → ℕ → List Node → Type 0
PutsTruths old new number ns = (q : ℕ) → get nat_eq new q ≡ cond (nat_eq number q) (Some ns) (get nat_eq old q)

-- the truths of two nodes made one
pub record JoinsBoth (a b : List Shape) (how : Joining) (told : Truths) (one other : ℕ) (ns : List Node) : Type 0 where
  pub ones : List Node
  pub others : List Node
  pub first : get nat_eq told one ≡ Some ones
  pub second : get nat_eq told other ≡ Some others
  pub joins : JoinsAll a b how ones others ns

-- the truths before a state, and the state's own under its guard
pub record JoinsState (a b : List Shape) (told : Truths) (before : List Node) (s : State) (ns : List Node) : Type 0 where
  pub own : List Node
  pub found : get nat_eq told s.events.index ≡ Some own
  pub joins : JoinsAll a b (Guarded s.guard) before own ns

-- the same of each node that has an entry
pub record AllSighted (b : List Shape) (log : List ℕ) (w : Watch) (ks : List ℕ) (told : Truths) : Type 0 where
  pub tell : (n : ℕ) (ns : List Node) → get nat_eq told n ≡ Some ns → AreSighted b log w ks n ns

pub record SightsAll (a b : List Shape) (log : List ℕ) (w : Watch) (ks : List ℕ) (told : Truths) : Type 0 where
  pub grows : Grows a b
  pub all : AllSighted b log w ks told

-- ---- states

-- what a run that stands so shows
abbrev pub ShownIn : List ℕ → Watch → List ℤ → Held → Type 0
ShownIn log w zs h = OneOf (ShowsAll log w zs) h.done.events

-- the same of the state that stands
pub record StatesSighted (a b : List Shape) (log : List ℕ) (w : Watch) (ks : List ℕ) (ss : List State) (ns : List Node) : Type 0 where
  pub grows : Grows a b
  pub len : length ns ≡ length ks
  pub terms : AreTruths b ns
  pub are : (e : Environment) (v : Values) → Models b e v → (zs : List ℤ)
      → OneOf (ShownIn log w zs) (standing v ss) ↔ OneWhere (λ l. l ≡ zs) (truths v ns) (lists_in v ks)

-- lists of numbers with their truths, of the state that stands
abbrev pub AreSightings : List Shape → List Shape → List ℕ → Watch → List State → Sightings → Type 0
AreSightings a b log w ss s = StatesSighted a b log w s.lists ss s.truths

-- ---- what is seen in a place

-- no list that is shown has this number in the place
abbrev pub LacksAt : ℕ → ℤ → List ℤ → Type 0
LacksAt place x zs = slice_get zs place ≡ Some x → ⊥

-- a truth that holds where some list that is shown lacks the number in the place
pub record ShowsOther (a b : List Shape) (ks : List ℕ) (ns : List Node) (place : ℕ) (x : ℤ) (n : Node) : Type 0 where
  pub grows : Grows a b
  pub term : IsTerm b Truth n
  pub is : (e : Environment) (v : Values) → Models b e v
      → ((v n.index).truth ≡ true) ↔ OneWhere (LacksAt place x) (truths v ns) (lists_in v ks)

-- the first truth, or that a list is shown that lacks the number in the place
pub record OrOther (a b : List Shape) (before : Node) (k : ℕ) (shown : Node) (place : ℕ) (x : ℤ) (n : Node) : Type 0 where
  pub grows : Grows a b
  pub term : IsTerm b Truth n
  pub is : (e : Environment) (v : Values) → Models b e v
      → ((v n.index).truth ≡ true) ↔ (((v before.index).truth ≡ true) ⊎ (((v shown.index).truth ≡ true) × LacksAt place x (v k).numbers))

-- the number that is observed, none where there is none in the place
abbrev pub observed_in : Values → Option Seen → Option ℤ
observed_in v None = None
observed_in v (Some x) = Some (seen_in v x)

-- of each list the number in the place, with its truth
abbrev pub AreObserved : List Shape → ℕ → List ℕ → List Node → List Observation → Type 0
AreObserved b place [] [] [] = Unit {0}
AreObserved b place (k ∷ ks) (n ∷ ns) (o ∷ os) = (o.happens ≡ n) × (IsAt b k place o.seen × AreObserved b place ks ns os)
AreObserved b place _ _ _ = ⊥
