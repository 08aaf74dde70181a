-- What parts of a program are worth: states and how they follow one another, `Level`, in which a function runs, and
-- `Part`, what an expression says, where its places lie, and what it does.
use Rattle.std.specs.Prelude.{ℕ, ◌+◌, ℤ, pos, Bool, List, [], ◌∷◌, ◌++◌, length, Option, None, Result, Ok, Err}
use Rattle.plain_data.specs.declared.run.Undefined.{Undefined}
use Rattle.plain_data.specs.declared.run.Happening.{Happening}
use Rattle.plain_data.specs.declared.run.Event.{Event}
use Rattle.plain_data.specs.declared.run.Finish.{Finish}
use Rattle.plain_data.specs.declared.run.Finish.TheVariants as finish
use Rattle.c_language.specs.declared.ctype.CType.{CType}
use Rattle.c_language.specs.Operators.{Answer}
use Rattle.c_store.specs.Store.{Store}
use Rattle.c_language.specs.declared.scope.Entry.{Entry}
use Rattle.c_language.specs.Scopes.{Name, Scope}
use Rattle.c_language.specs.Typing.{Typed}
use Rattle.c_means.specs.declared.kind.Kind.{Kind}
use Rattle.c_means.specs.declared.kind.Kind.TheVariants as kind
use Rattle.c_means.specs.Marks.{Mark}

-- ---- states

-- Where a run stands, the value that a `return` gave, the store, how many bytes were printed in the whole run, and
-- what the function that runs has printed, noted and met since it was called: bytes, events, and places of the world.
pub record State : Type 0 where
  pub kind : Kind
  pub value : Option ℤ
  pub store : Store
  pub count : ℕ
  pub printed : List ℕ
  pub events : List Event
  pub met : List ℕ

-- where a function begins: nothing is printed, noted or met by it yet
abbrev pub entered : Store → ℕ → State
entered s count = record {
  kind = kind.Running;
  value = None;
  store = s;
  count = count;
  printed = [];
  events = [];
  met = [];
}

-- an event, by how many bytes were printed before it
abbrev pub note : Happening → State → State
note h d = record d { events = d.events ++ record { what = h; printed = d.count } ∷ [] }

abbrev pub print : List ℕ → State → State
print bytes d = record d { count = d.count + length bytes; printed = d.printed ++ bytes }

-- a place whose word is asked for, or whose object is made
abbrev pub meet : ℕ → State → State
meet place d = record d { met = d.met ++ place ∷ [] }

abbrev pub with_store : Store → State → State
with_store s d = record d { store = s }

-- ---- outcomes: what was found, with the state behind it, or the state in which the run ended

abbrev pub Outcome : Type 0 → Type 0
Outcome A = Result (A × State) State

infixl 10 ◌>>=◌
abbrev pub ◌>>=◌ : {A B : Type 0} → Outcome A → (A × State → Outcome B) → Outcome B
(Ok x) >>= f = f x
(Err d) >>= f = Err d

abbrev pub ended : {A : Type 0} → Finish → State → Outcome A
ended f d = Err (record d { kind = kind.Ended f })

-- a step whose behaviour is undefined is the end, at its token
abbrev pub stop : {A : Type 0} → ℕ → Undefined → State → Outcome A
stop at u d = ended (finish.Stopped u at) d

abbrev pub or_stop : ℕ → Answer → State → Outcome ℤ
or_stop at (Ok z) d = Ok (z, d)
or_stop at (Err u) d = stop at u d

-- What breaks a rule isn't run: no accepted program has it. That the meaning is a function of every tree, it is given
-- the value 0.
abbrev pub refused : State → Outcome ℤ
refused d = Ok (pos 0, d)

-- ---- where objects are

-- the number of the automatic object or parameter that a declaration in force made, by the declaration's offset
abbrev pub Env : Type 0
Env = ℕ → ℕ

-- what is done with objects, from the first place that is given to it, in a state
abbrev pub Run : Type 0 → Type 0
Run A = Env → ℕ → State → Outcome A

-- ---- worlds and bounds

-- what the outside gives: a word for each place, and an initial byte for each address
pub record World : Type 0 where
  pub word : ℕ → ℕ
  pub byte : ℕ → ℕ

-- The bounds besides the depth: the turns of a loop, the bytes of a heap object, those of a string from outside (less
-- its last, 0), the turns of a loop in a function of the prelude, and how many arguments a program has at most.
pub record Limits : Type 0 where
  pub turns : ℕ
  pub heap : ℕ
  pub outside : ℕ
  pub texts : ℕ
  pub arguments : ℕ

-- ---- calls

-- A call as it stands in the source: the offset of the callee's name, the declaration that the name has, the type of
-- the call, the types of its arguments as they are converted, the texts of those that are string literals, and the
-- names in force behind them.
pub record Site : Type 0 where
  pub at : ℕ
  pub callee : Entry
  pub ctype : Option CType
  pub types : List (Option CType)
  pub texts : List (Option (List ℕ))
  pub scope : Scope

-- What a call does: a function of the call, the objects in force there, the arguments' values, the first place that is
-- given to it, the store and the count of bytes printed before. It begins as `entered` says; its state is running
-- where the call comes back, and its value is none where `}` was reached without one. What the body of a function does
-- depends on the callee, the values, the place, the store and the count alone.
abbrev pub Calls : Type 0
Calls = Site → Env → List ℤ → ℕ → Store → ℕ → State

-- What a function runs in. `turns` is how many turns a loop of this function takes: in a function of the prelude the
-- limit of texts. `static` is the number of a function, of an object that lives throughout the run, of a string
-- literal and of `__func__`, each by its offset (that of the first declaration). `identity` tells which argument is
-- answered by a function that hands on its argument. `size` and `room` are how many nodes and places a call adds to
-- those of its arguments, and `call` is what it does, each with one level of depth fewer. `marks` is what stands at the
-- callee's name by the rule that the call follows.
pub record Level : Type 0 where
  pub world : World
  pub limits : Limits
  pub turns : ℕ
  pub static : ℕ → ℕ
  pub identity : Name → Option ℕ
  pub size : Site → ℕ
  pub room : Site → ℕ
  pub marks : Site → List Mark
  pub call : Calls

-- the caller goes on behind what was called, with what that printed, noted and met behind its own
abbrev pub resumed : State → State → State
resumed d r = record d {
  store = r.store;
  count = r.count;
  printed = d.printed ++ r.printed;
  events = d.events ++ r.events;
  met = d.met ++ r.met;
}

abbrev pub returned_in : State → State → Kind → Outcome (Option ℤ)
returned_in d r (kind.Ended f) = ended f (resumed d r)
returned_in d r _ = Ok (r.value, resumed d r)

-- the value that a call gave, where it gave one, or the end that it met
abbrev pub returned : State → State → Outcome (Option ℤ)
returned d r = returned_in d r r.kind

-- ---- expressions

-- What an expression says to the types, whether its form gives it an address (as an lvalue or a function has), whether
-- the root of the lvalue that it is is a name, its bytes where it is a string literal (through parentheses, and calls
-- of identity functions), how many nodes it unrolls to, those of called bodies too, and how many places it takes.
-- `reach` is the address of an lvalue or function, `run` its value, and `effect` what it does where its value isn't
-- used; what stands at its tokens where it is evaluated, used or not, is `marks`, and where its address is found
-- `place_marks`.
pub record Part : Type 0 where
  pub typed : Typed
  pub is_place : Bool
  pub rooted : Bool
  pub text : Level → Option (List ℕ)
  pub size : Level → ℕ
  pub room : Level → ℕ
  pub place_marks : Level → List Mark
  pub marks : Level → List Mark
  pub reach : Level → Run ℕ
  pub run : Level → Run ℤ
  pub effect : Level → Run ℤ
