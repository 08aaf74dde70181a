-- What prints see of the variables that are watched.
use Rattle.std.specs.Prelude.{◌≡◌, ◌↔◌, ◌+◌, ◌++◌, ℕ, zero, suc, ℤ, List, [], ◌∷◌, true, cond, nat_eq, Option, Some, None, slice_get, Any}
use Rattle.plain_data.specs.declared.fact.Fact.{Fact}
use Rattle.plain_data.specs.declared.fact.Fact.TheVariants as fact
use Rattle.plain_data.specs.declared.fact.Watched.{Watched}
use Rattle.plain_data.specs.declared.run.Event.{Event}
use Rattle.plain_data.specs.declared.run.Happening.{Happening}
use Rattle.plain_data.specs.declared.run.Happening.TheVariants as happening
use Rattle.plain_data.specs.declared.run.Run.{Run}
use Rattle.log_text.specs.Shown.{BeginsIn, IsPrint, Saw}
use Rattle.term_bank.specs.declared.sort.Sort.TheVariants.{Truth, Word}
use Rattle.term_bank.specs.declared.sort.Node.{Node}
use Rattle.term_bank.specs.declared.shape.Shape.{Shape}
use Rattle.term_bank.specs.Shapes.{sort_at}
use Rattle.term_bank.specs.Terms.{IsTerm}
use Rattle.term_bank.specs.Values.{Environment, Values, Models, Grows, number}
use Rattle.run_formula.specs.declared.watches.Watch.{Watch}
use Rattle.run_formula.specs.declared.seen.Seen.{Seen}

-- ---- which variables are watched

-- the fact of a number, from 1 on
abbrev pub fact_of : List Fact → ℕ → Option Fact
fact_of fs zero = None
fact_of fs (suc n) = slice_get fs n

-- a place in what the prints of a fact's site see; of a fact that is no print there is none
abbrev pub watch_at : Option Fact → ℕ → Watch
watch_at (Some (fact.Print at line)) place = record { at = at; line = line; place = place }
watch_at _ place = record { at = 0; line = 0; place = place }

-- The variables of one fact stand together, in the order in which its prints see them: each has the place behind that of
-- the one before it, and the first has the place 0.
abbrev pub watches_behind : List Fact → ℕ → ℕ → List Watched → List Watch
watches_behind fs last next [] = []
watches_behind fs last next (w ∷ ws) =
    watch_at (fact_of fs w.fact) (cond (nat_eq w.fact last) next 0)
    ∷ watches_behind fs w.fact (cond (nat_eq w.fact last) next 0 + 1) ws

-- of each watched variable, in order
abbrev pub watches : List Fact → List Watched → List Watch
watches fs ws = watches_behind fs 0 0 ws

-- ---- what a print saw

-- a print by the site that begins in the line, and saw another value than this in the place
abbrev pub SeesOther : List ℕ → Watch → ℤ → Event → Type 0
SeesOther log w x e = IsPrint w.at e.what × (BeginsIn log w.line e × (Saw w.place x e.what → ⊥))

-- some print by the site that begins in the line saw another value than this
abbrev pub SawOther : List ℕ → Run → Watch → ℤ → Type 0
SawOther log run w x = Any (SeesOther log w x) run.events

-- it is a print, and what it shows is so
abbrev pub OfPrint : (List ℤ → Type 0) → Happening → Type 0
OfPrint P (happening.Print at count seen) = P seen
OfPrint P _ = ⊥

-- a print by the site that begins in the line, and shows what is so
abbrev pub Shows : List ℕ → Watch → (List ℤ → Type 0) → Event → Type 0
Shows log w P e = IsPrint w.at e.what × (BeginsIn log w.line e × OfPrint P e.what)

-- some print by the site that begins in the line shows this in the place, or no number there
abbrev pub SawThis : List ℕ → Run → Watch → Option ℤ → Type 0
SawThis log run w x = Any (Shows log w (λ seen. slice_get seen w.place ≡ x)) run.events

-- ---- numbers of nodes

-- the number that is seen
abbrev pub seen_in : Values → Seen → ℤ
seen_in v x = number x.is_signed x.width (v x.word).word

-- those of a list in which the last one comes first
abbrev pub seen_all : Values → List Seen → List ℤ
seen_all v [] = []
seen_all v (x ∷ xs) = seen_all v xs ++ seen_in v x ∷ []

-- the word stands in the bank
pub record IsSeen (b : List Shape) (x : Seen) : Type 0 where
  pub stands : sort_at b x.word ≡ Some (Word x.width)

abbrev pub AllSeen : List Shape → List Seen → Type 0
AllSeen b [] = Unit {0}
AllSeen b (x ∷ xs) = IsSeen b x × AllSeen b xs

-- the numbers of a node
pub record AreSeen (b : List Shape) (n : ℕ) (xs : List Seen) : Type 0 where
  pub all : AllSeen b xs
  pub are : (e : Environment) (v : Values) → Models b e v → (v n).numbers ≡ seen_all v xs

-- the number at a place among those of a node, or there is none
abbrev pub IsAt : List Shape → ℕ → ℕ → Option Seen → Type 0
IsAt b n place None = (e : Environment) (v : Values) → Models b e v → slice_get (v n).numbers place ≡ None
IsAt b n place (Some x) =
    IsSeen b x × ((e : Environment) (v : Values) → Models b e v → slice_get (v n).numbers place ≡ Some (seen_in v x))

-- a truth that says so in each environment
pub record SaysSo (a b : List Shape) (P : Values → Type 0) (n : Node) : Type 0 where
  pub grows : Grows a b
  pub term : IsTerm b Truth n
  pub is : (e : Environment) (v : Values) → Models b e v → ((v n.index).truth ≡ true) ↔ P v
