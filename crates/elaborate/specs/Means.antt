-- What it is to be the core of a part of a program: in all levels, environments, places and states it does what the
-- part does, takes as many places, and counts as many nodes. The states are the same, but that the core keeps apart
-- what a run leaves outside.
use Rattle.std.specs.Prelude.{◌≡◌, ℕ, ℤ, pos, true, List, [], ◌∷◌, Option, Some, Ok, Err}
use Rattle.c_language.specs.declared.class.Class.{Class}
use Rattle.c_language.specs.declared.tables.Tables.{Tables}
use Rattle.c_store.specs.Store.{Store, read}
use Rattle.c_language.specs.Typing.{Typed, type_of}
use Rattle.c_means.specs.Values as values
use Rattle.c_means.specs.Objects as objects
use Rattle.c_means.specs.Parts.{State, Env, Part}
use Rattle.c_means.specs.Parts as c
use Rattle.c_means.specs.Marks.{Mark, Enters}
use Rattle.c_means.specs.Items.{Made}
use Rattle.c_means.specs.Items as runs
use Rattle.c_language.specs.declared.scope.Entry.{Entry}
use Rattle.c_language.specs.Scopes.{Scope, Name}
use Rattle.c_means.specs.Programs.{Function}
use Rattle.c_means.specs.Runs as whole
use Rattle.core_tree.specs.declared.program.Parameter.{Parameter}
use Rattle.core_tree.specs.Memory.{stored}
use Rattle.core_tree.specs.Programs.{Body, Machine, turns_in}
use Rattle.c_means.specs.Rules.{Rules, BodyCall, PreludeCall, identity_index}
use Rattle.core_tree.specs.declared.code.Code.{Code}
use Rattle.c_means.specs.Expressions.{Passed, nowhere}
use Rattle.core_tree.specs.declared.expr.Callee.{Callee}
use Rattle.core_tree.specs.Callees.{callee_size, callee_room, called, body_call}
use Rattle.core_tree.specs.declared.expr.Expr.{Expr}
use Rattle.core_tree.specs.declared.types.ValueType.{ValueType}
use Rattle.core_tree.specs.Numbers.{size_of, value_of_bytes, bytes_of_value, converted_to}
use Rattle.core_tree.specs.States.{Output, plain, Done, Outcome, Level}
use Rattle.core_tree.specs.Values.{Value, value}
use Rattle.core_tree.specs.Codes.{Item, code}
use Rattle.core_marks.specs.declared.mark.Mark.{Mark as CoreMark}
use Rattle.core_marks.specs.Marks.{callee_marks}
use Rattle.elaborate.specs.Tokens.{all_told}

-- ---- states

abbrev pub as_done : State → Done Output
as_done d = record {
  kind = d.kind;
  value = d.value;
  store = d.store;
  events = d.events;
  out = record { count = d.count; printed = d.printed; met = d.met };
}

abbrev pub as_found : {A : Type 0} → c.Outcome A → Outcome Output A
as_found (Ok x) = Some (Ok (x.0, as_done x.1))
as_found (Err d) = Some (Err (as_done d))

-- an address as a value
abbrev pub as_value : c.Outcome ℕ → c.Outcome ℤ
as_value (Ok x) = Ok (pos x.0, x.1)
as_value (Err d) = Err d

-- ---- levels

-- What a call by rule does, in a world and bounds, from the objects in force, the values of its arguments, its first
-- place and the state in which it begins; how many places it takes, and what stands at the callee's name.
pub record Ruling : Type 0 where
  pub room : ℕ
  pub marks : List Mark
  pub acts : c.World → c.Limits → Env → List ℤ → ℕ → State → State

-- What a function's calls are: the places of what lives throughout the run, by offset; which argument a function of a
-- name hands on, where it does nothing else; the number of the function whose body a call runs; and what a call by rule
-- does.
pub record Numbering : Type 0 where
  pub place : ℕ → ℕ
  pub identity : Name → Option ℕ
  pub body : c.Site → Option ℕ
  pub rule : c.Site → Option Ruling

-- a call of the site does what the rule says
pub record Follows (l : c.Level) (g : c.Site) (r : Ruling) : Type 0 where
  pub size : 0 ≡ l.size g
  pub room : r.room ≡ l.room g
  pub marks : r.marks ≡ l.marks g
  pub runs : (env : Env) (vs : List ℤ) (base : ℕ) (s : Store) (n : ℕ)
      → r.acts l.world l.limits env vs base (c.entered s n) ≡ l.call g env vs base s n

-- a call of a function by its number does what a call of the site does
pub record Calls (l : c.Level) (k : Level Output) (g : c.Site) (f : ℕ) : Type 0 where
  pub size : k.measures.size f ≡ l.size g
  pub room : k.measures.room f ≡ l.room g
  pub runs : (env : Env) (vs : List ℤ) (base : ℕ) (s : Store) (o : Output)
      → body_call k.call k.taking g.at f vs base s o ≡ Some (as_done (l.call g env vs base s o.count))

-- the level of a function and the one of its core tell the same
pub record Like (numbering : Numbering) (l : c.Level) (k : Level Output) : Type 0 where
  pub taking : k.taking ≡ plain
  pub world : k.world ≡ l.world
  pub limits : k.limits ≡ l.limits
  pub turns : k.measures.turns ≡ l.turns
  pub static_places : l.static ≡ numbering.place
  pub identity : l.identity ≡ numbering.identity
  pub bodies : (g : c.Site) (f : ℕ) → numbering.body g ≡ Some f → Calls l k g f
  pub rules : (g : c.Site) (r : Ruling) → numbering.rule g ≡ Some r → Follows l g r

-- ---- what stands at tokens

-- the functions whose bodies are called have these names, by their numbers
abbrev pub AreNamed : Numbering → (ℕ → Name) → c.Level → Type 0
AreNamed numbering name l =
    (g : c.Site) (f : ℕ) → numbering.body g ≡ Some f → Enters g.at (name f) ∷ [] ≡ l.marks g

-- these marks of the core are those in each level
pub record SameMarks (numbering : Numbering) (ms : List CoreMark) (marks : c.Level → List Mark) : Type 0 where
  pub are : (name : ℕ → Name) (l : c.Level) (k : Level Output) → Like numbering l k → AreNamed numbering name l
      → all_told name ms ≡ marks l

-- ---- expressions

pub record Does (numbering : Numbering) (x : Value Output) (nodes places : c.Level → ℕ) (run : c.Level → c.Run ℤ) :
    Type 0
  where
    pub size : (l : c.Level) (k : Level Output) → Like numbering l k → x.needs.size k.measures ≡ nodes l
    pub room : (l : c.Level) (k : Level Output) → Like numbering l k → x.needs.room k.measures ≡ places l
    pub runs : (l : c.Level) (k : Level Output) → Like numbering l k → (env : Env) (base : ℕ) (d : State)
        → x.run k env base (as_done d) ≡ as_found (run l env base d)

-- the core of the part's value, of its address, and of what it does where its value isn't used
abbrev pub IsValueOf : Numbering → Expr → Part → Type 0
IsValueOf numbering e p = Does numbering (value e) p.size p.room p.run

abbrev pub IsAddressOf : Numbering → Expr → Part → Type 0
IsAddressOf numbering e p = Does numbering (value e) p.size p.room (λ l env base d. as_value (p.reach l env base d))

abbrev pub IsEffectOf : Numbering → Expr → Part → Type 0
IsEffectOf numbering e p = Does numbering (value e) p.size p.room p.effect

-- where a part has no address, it is evaluated, and 0 stands for one
pub record HasNoAddress (p : Part) : Type 0 where
  pub reaches : (l : c.Level) (env : Env) (base : ℕ) (d : State) → p.reach l env base d ≡ nowhere p.run l env base d

-- ---- statements

pub record Acts (numbering : Numbering) (x : Item Output) (i : runs.Item) : Type 0 where
  pub size : (l : c.Level) (k : Level Output) → Like numbering l k → x.needs.size k.measures ≡ i.size l
  pub room : (l : c.Level) (k : Level Output) → Like numbering l k → x.needs.room k.measures ≡ i.room l
  pub objects : (l : c.Level) (k : Level Output) → Like numbering l k → (base : ℕ) → x.objects k.measures base ≡
      i.objects l base
  pub runs : (l : c.Level) (k : Level Output) → Like numbering l k → (env : Env) (base : ℕ) (d : State)
      → x.run k env base (as_done d) ≡ Some (as_done (i.run l env base d))

-- the core of a statement or declaration, as an item of its block
abbrev pub IsCodeOf : Numbering → Code → runs.Item → Type 0
IsCodeOf numbering x i = Acts numbering (code x) i

-- ---- types

-- values of a class, in n bytes, are those of a type of the core
pub record SameType (c : Class) (n : ℕ) (t : ValueType) : Type 0 where
  pub size : size_of t ≡ n
  pub is_read : objects.is_read c ≡ true
  pub value : (s : Store) (a : ℕ) → value_of_bytes t (read n s a) ≡ objects.value_at c n s a
  pub bytes : (z : ℤ) → bytes_of_value t z ≡ values.bytes_of_value c z
  pub converted : (z : ℤ) → converted_to t z ≡ values.converted_to c z

-- they are stored as those of a type of the core
pub record StoresAs (c : Class) (n : ℕ) (t : ValueType) : Type 0 where
  pub size : size_of t ≡ n
  pub bytes : (z : ℤ) → bytes_of_value t z ≡ values.bytes_of_value c z
  pub converted : (z : ℤ) → converted_to t z ≡ values.converted_to c z

-- what an expression's type says to the tables is a type of the core
pub record OfType (tables : Tables) (x : Typed) (t : ValueType) : Type 0 where
  pub class : Class
  pub bytes : ℕ
  pub is_class : values.class_in (type_of x) ≡ class
  pub has_bytes : values.bytes_of tables (type_of x) ≡ bytes
  pub same : SameType class bytes t

-- and as one it is stored
pub record StoredAs (tables : Tables) (x : Typed) (t : ValueType) : Type 0 where
  pub class : Class
  pub bytes : ℕ
  pub is_class : values.class_in (type_of x) ≡ class
  pub has_bytes : values.bytes_of tables (type_of x) ≡ bytes
  pub same : StoresAs class bytes t

-- ---- calls

-- what a callee of the core does is what a call of this site does
pub record IsCallOf (numbering : Numbering) (callee : Callee) (at : ℕ) (t : ValueType) (site : c.Level → c.Site) :
    Type 0 where
  pub size : (l : c.Level) (k : Level Output) → Like numbering l k → callee_size callee k.measures ≡ l.size (site l)
  pub room : (l : c.Level) (k : Level Output) → Like numbering l k → callee_room callee k.measures ≡ l.room (site l)
  pub marks : SameMarks numbering (callee_marks at callee) (λ l. l.marks (site l))
  pub runs : (l : c.Level) (k : Level Output) → Like numbering l k → (env : Env) (vs : List ℤ) (base : ℕ) (s : Store)
      (o : Output)
      → called k callee at t env vs base s o ≡ Some (as_done (l.call (site l) env vs base s o.count))

-- an argument, as it is converted to its parameter's type
abbrev pub IsArgument : Numbering → Expr → Passed → Type 0
IsArgument numbering e q =
    Does numbering (value e) q.part.size q.part.room
    (λ l env base d. c.◌>>=◌ (q.part.run l env base d) (λ v. Ok (
      values.converted_to (values.class_in q.ctype) v.0,
      v.1,
    )))

abbrev pub AreArguments : Numbering → List Expr → List Passed → Type 0
AreArguments numbering [] [] = Unit {0}
AreArguments numbering (e ∷ es) (q ∷ qs) = IsArgument numbering e q × AreArguments numbering es qs
AreArguments numbering _ _ = ⊥

-- ---- functions

-- a parameter, whose object takes its argument as a value of its type
pub record IsParameter (s : Scope) (p : Parameter) (e : Entry) : Type 0 where
  pub at : p.at ≡ e.at
  pub size : size_of p.stored ≡ whole.parameter_size s e
  pub stores : (a : ℕ) (z : ℤ) (d : State) → stored p.stored a z (as_done d) ≡ as_done
      (whole.passes_as s.tables e.means a z d)

abbrev pub AreParameters : Scope → List Parameter → List Entry → Type 0
AreParameters s [] [] = Unit {0}
AreParameters s (p ∷ ps) (e ∷ es) = IsParameter s p e × AreParameters s ps es
AreParameters s _ _ = ⊥

-- the core of a function, whose block holds items that do what those of its body do
pub record IsBodyOf (numbering : Numbering) (x : Body Output) (f : Function) (i : runs.Item) : Type 0 where
  pub parameters : AreParameters f.inside x.function.parameters f.parameters
  pub items : Acts numbering x.item i
  pub body : f.body ≡ runs.node i

-- ---- programs

-- a rule by which the body of this function runs, whose loops take so many turns
abbrev pub BodyRule : c.Limits → Rules Function → Function → ℕ → Type 0
BodyRule limits (BodyCall g) f turns = (g ≡ f) × (limits.turns ≡ turns)
BodyRule limits (PreludeCall g) f turns = (g ≡ f) × (limits.texts ≡ turns)
BodyRule limits _ f turns = ⊥

-- the core of the function whose body a call runs; each function has its own numbering
pub record Numbered (numbering : Function → Numbering) (m : whole.Machine) (k : Machine Output) (g : c.Site) (n : ℕ) :
    Type 0 where
  pub function : Function
  pub turns : ℕ
  pub rule : BodyRule m.limits (whole.rule_of m g) function turns
  pub body : Body Output
  pub found : k.body n ≡ Some body
  pub item : runs.Item
  pub is_body : IsBodyOf (numbering function) body function item
  pub has_turns : turns_in k.limits body.function ≡ turns

-- the rule that a call of the site follows in a function is this one
pub record HasRule (m : whole.Machine) (f : Function) (g : c.Site) (r : Ruling) : Type 0 where
  pub size : (below : whole.Below) → 0 ≡ whole.size_by m below (whole.rule_of m g)
  pub room : (below : whole.Below) → r.room ≡ whole.room_by m below g (whole.rule_of m g)
  pub marks : r.marks ≡ whole.marks_by m f g (whole.rule_of m g)
  pub runs : (turns : ℕ) (below : whole.Below) (env : Env) (vs : List ℤ) (base : ℕ) (s : Store) (n : ℕ)
      → r.acts m.world m.limits env vs base (c.entered s n) ≡ whole.call_by m f turns below (whole.rule_of m g) g env
      vs base s n

-- the core of a program's functions, with the same world and bounds
pub record IsMachineOf (numbering : Function → Numbering) (m : whole.Machine) (k : Machine Output) : Type 0 where
  pub taking : k.taking ≡ plain
  pub world : k.world ≡ m.world
  pub limits : k.limits ≡ m.limits
  pub places : (f : Function) → whole.places_of m.program ≡ (numbering f).place
  pub identity : (f : Function) → identity_index m.profile ≡ (numbering f).identity
  pub bodies : (f : Function) (g : c.Site) (n : ℕ) → (numbering f).body g ≡ Some n → Numbered numbering m k g n
  pub rules : (f : Function) (g : c.Site) (r : Ruling) → (numbering f).rule g ≡ Some r → HasRule m f g r
