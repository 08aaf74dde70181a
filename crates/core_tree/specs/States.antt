-- States of a run, and how they follow one another, for any way of taking what a run prints: a run that prints it, and
-- one along a log, which goes on only where what is printed stands there.
use Rattle.std.specs.Prelude.{ℕ, zero, suc, ◌+◌, ℤ, Bool, true, false, cond, nat_eq, List, [], ◌∷◌, ◌++◌, length, drop}
use Rattle.std.specs.Prelude.{Option, Some, None, Result, Ok, Err}
use Rattle.std.specs.List.{starts_with}
use Rattle.plain_data.specs.declared.run.Event.{Event}
use Rattle.plain_data.specs.declared.run.Finish.{Finish}
use Rattle.plain_data.specs.declared.run.Finish.TheVariants as finish
use Rattle.plain_data.specs.declared.run.Happening.{Happening}
use Rattle.plain_data.specs.declared.run.Happening.TheVariants as happening
use Rattle.plain_data.specs.declared.run.Side.TheVariants as side
use Rattle.plain_data.specs.declared.run.Undefined.{Undefined}
use Rattle.c_language.specs.Integers.{is_zero}
use Rattle.c_language.specs.Operators.{Answer}
use Rattle.c_store.specs.declared.object.ObjectKind.TheVariants.{Automatic}
use Rattle.c_store.specs.Store.{Store, make, end}
use Rattle.c_means.specs.declared.kind.Kind.{Kind}
use Rattle.c_means.specs.declared.kind.Kind.TheVariants as k
use Rattle.c_means.specs.Parts.{Env, World, Limits}
use Rattle.c_means.specs.Items.{Made}

-- ---- ways of taking what is printed

-- How a text is printed, where it may be; how many bytes were printed before, in the whole run; that a place of the
-- world is met; and what a function begins with where it is called, and leaves to its caller.
pub record Taking (O : Type 0) : Type 0 where
  pub take_text : List ℕ → O → Option O
  pub count : O → ℕ
  pub meet : ℕ → O → O
  pub enter : O → O
  pub resume : O → O → O

-- What a run leaves outside: how many bytes were printed in the whole run, and what the function that runs has printed
-- since it was called, with the places that it met.
pub record Output : Type 0 where
  pub count : ℕ
  pub printed : List ℕ
  pub met : List ℕ

abbrev pub printing : List ℕ → Output → Output
printing text o = record o { count = o.count + length text; printed = o.printed ++ text }

-- each text is printed
abbrev pub plain : Taking Output
plain = record {
  take_text = λ text o. Some (printing text o);
  count = λ o. o.count;
  meet = λ place o. record o { met = o.met ++ place ∷ [] };
  enter = λ o. record { count = o.count; printed = []; met = [] };
  resume = λ o r. record { count = r.count; printed = o.printed ++ r.printed; met = o.met ++ r.met };
}

-- whether a text stands in a log from a position on
abbrev pub follows : List ℕ → ℕ → List ℕ → Bool
follows log from text = starts_with nat_eq (drop from log) text

-- each text must stand in the log, behind those before it
abbrev pub along : List ℕ → Taking ℕ
along log = record {
  take_text = λ text from. cond (follows log from text) (Some (from + length text)) None;
  count = λ from. from;
  meet = λ place from. from;
  enter = λ from. from;
  resume = λ from end. end;
}

-- ---- states

-- Where a run stands, the value that a `return` gave, the store, what the function that runs has noted since it was
-- called, and what the run leaves outside.
pub record Done (O : Type 0) : Type 0 where
  pub kind : Kind
  pub value : Option ℤ
  pub store : Store
  pub events : List Event
  pub out : O

-- where a function begins
abbrev pub entered : {O : Type 0} → Taking O → Store → O → Done O
entered t s o = record { kind = k.Running; value = None; store = s; events = []; out = t.enter o }

-- an event, by how many bytes were printed before it
abbrev pub note : {O : Type 0} → Taking O → Happening → Done O → Done O
note t h d = record d { events = d.events ++ record { what = h; printed = t.count d.out } ∷ [] }

abbrev pub meet : {O : Type 0} → Taking O → ℕ → Done O → Done O
meet t place d = record d { out = t.meet place d.out }

-- so many places from one on
abbrev pub meets : {O : Type 0} → Taking O → ℕ → ℕ → Done O → Done O
meets t place zero d = d
meets t place (suc n) d = meets t (suc place) n (meet t place d)

abbrev pub with_store : {O : Type 0} → Store → Done O → Done O
with_store s d = record d { store = s }

abbrev pub become : {O : Type 0} → Kind → Done O → Done O
become kind d = record d { kind = kind }

abbrev pub finished : {O : Type 0} → Finish → Done O → Done O
finished f d = become (k.Ended f) d

-- ---- outcomes of expressions: what was found, with the state behind it, or the state in which the run ended; none
-- where what was printed isn't taken

abbrev pub Outcome : Type 0 → Type 0 → Type 0
Outcome O A = Option (Result (A × Done O) (Done O))

infixl 10 ◌>>=◌
abbrev pub ◌>>=◌ : {O A B : Type 0} → Outcome O A → (A × Done O → Outcome O B) → Outcome O B
None >>= f = None
(Some (Ok x)) >>= f = f x
(Some (Err d)) >>= f = Some (Err d)

abbrev pub found : {O A : Type 0} → A → Done O → Outcome O A
found x d = Some (Ok (x, d))

abbrev pub ended : {O A : Type 0} → Finish → Done O → Outcome O A
ended f d = Some (Err (finished f d))

-- a step whose behaviour is undefined is the end, at its token
abbrev pub stop : {O A : Type 0} → ℕ → Undefined → Done O → Outcome O A
stop at u d = ended (finish.Stopped u at) d

abbrev pub or_stop : {O : Type 0} → ℕ → Answer → Done O → Outcome O ℤ
or_stop at (Ok z) d = found z d
or_stop at (Err u) d = stop at u d

-- ---- arrows: from a state to the one behind; none where what was printed isn't taken

abbrev pub Arrow : Type 0 → Type 0
Arrow O = Done O → Option (Done O)

abbrev pub onward : {O : Type 0} → Option (Done O) → Arrow O → Option (Done O)
onward None f = None
onward (Some d) f = f d

abbrev pub stay : {O : Type 0} → Arrow O
stay d = Some d

abbrev pub where_running : {A : Type 0} → Kind → A → A → A
where_running k.Running a b = a
where_running _ a b = b

-- a step of a run that is running; every other state passes
abbrev pub running : {O : Type 0} → Arrow O → Arrow O
running f d = where_running d.kind (f d) (Some d)

-- where the run arrives at a point, it may be what it was looking for
abbrev pub arrive : {O : Type 0} → (Kind → Kind) → Done O → Done O
arrive f d = become (f d.kind) d

-- with the value that was found, unless the run ended
abbrev pub with_value : {O : Type 0} → Outcome O ℤ → (ℤ → Arrow O) → Option (Done O)
with_value None f = None
with_value (Some (Ok x)) f = f x.0 x.1
with_value (Some (Err d)) f = Some d

-- a value is taken as a condition, and the branch is noted
abbrev pub on_branch : {O A : Type 0} → Taking O → ℕ → ℤ → (Bool → Done O → A) → Done O → A
on_branch t at z f d =
    cond (is_zero z) (f false (note t (happening.Branch at side.No) d))
    (f true (note t (happening.Branch at side.Yes) d))

abbrev pub one_of : {A : Type 0} → Bool → A → A → A
one_of true a b = a
one_of false a b = b

-- ---- objects of a block (C99 6.2.4p5): alive from its entry to its exit

abbrev pub born : {O : Type 0} → Taking O → List Made → Done O → Done O
born t [] d = d
born t (m ∷ ms) d =
    born t ms (meet t m.place (with_store (make m.place (record { kind = Automatic; size = m.size }) d.store) d))

abbrev pub dead : {O : Type 0} → List Made → Done O → Done O
dead [] d = d
dead (m ∷ ms) d = dead ms (with_store (end m.place d.store) d)

-- ---- calls

-- What a function does: by its number, the values of its arguments, the first place that is given to it, the store,
-- and what was left outside before. It begins as `entered` says; its state is running where it comes back, and its
-- value is none where `}` was reached without one.
abbrev pub Calls : Type 0 → Type 0
Calls O = ℕ → List ℤ → ℕ → Store → O → Option (Done O)

-- the caller goes on behind what was called, with what that left outside and noted behind its own
abbrev pub resumed : {O : Type 0} → Taking O → Done O → Done O → Done O
resumed t d r = record d { store = r.store; events = d.events ++ r.events; out = t.resume d.out r.out }

abbrev pub returned_in : {O : Type 0} → Taking O → Done O → Done O → Kind → Outcome O (Option ℤ)
returned_in t d r (k.Ended f) = ended f (resumed t d r)
returned_in t d r _ = found r.value (resumed t d r)

-- the value that a call gave, where it gave one, or the end that it met
abbrev pub returned : {O : Type 0} → Taking O → Done O → Option (Done O) → Outcome O (Option ℤ)
returned t d None = None
returned t d (Some r) = returned_in t d r r.kind

-- ---- what code runs in

-- The turns that a loop takes, and how many nodes and places each function takes that is called, by its number.
pub record Measures : Type 0 where
  pub turns : ℕ
  pub size : ℕ → ℕ
  pub room : ℕ → ℕ

-- What a function runs in; `call` is none where no level of depth is left for a call.
pub record Level (O : Type 0) : Type 0 where
  pub measures : Measures
  pub taking : Taking O
  pub world : World
  pub limits : Limits
  pub call : Option (Calls O)

-- what is done with objects, from the first place that is given to it, in a state
abbrev pub Run : Type 0 → Type 0 → Type 0
Run O A = Env → ℕ → Done O → Outcome O A

abbrev pub Acts : Type 0 → Type 0
Acts O = Level O → Env → ℕ → Arrow O

-- how many nodes a part unrolls to, and how many places it takes
pub record Needs : Type 0 where
  pub size : Measures → ℕ
  pub room : Measures → ℕ
