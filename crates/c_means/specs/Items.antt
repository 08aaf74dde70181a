-- What statements and declarations are worth, and how they follow one another: `Item`. All control is composition of
-- arrows of states: a step acts where the run is running, a label and a case also where the run looks for them, and
-- every other state passes.
use Rattle.std.specs.Prelude.{ℕ, ◌+◌, ℤ, ◌-ℤ◌, Bool, cond, List, [], ◌∷◌, ◌++◌, Option, Some, None, Ok, Err}
use Rattle.std.specs.Str.{bytes_eq}
use Rattle.c_language.specs.declared.ctype.CType.{CType}
use Rattle.c_language.specs.declared.ctype.IntegerKind.{IntegerKind}
use Rattle.c_language.specs.Integers.{is_zero}
use Rattle.c_store.specs.declared.object.ObjectKind.TheVariants.{Automatic}
use Rattle.c_store.specs.Store.{set_at, make, end}
use Rattle.c_language.specs.declared.scope.Entry.{Entry}
use Rattle.c_language.specs.declared.scope.Fault.{Fault}
use Rattle.c_language.specs.Scopes.{Name, Scope, enter, leave}
use Rattle.c_means.specs.declared.kind.Kind.{Kind}
use Rattle.c_means.specs.declared.kind.Kind.TheVariants as k
use Rattle.c_means.specs.Marks.{Mark}
use Rattle.c_means.specs.Parts.{State, Env, Outcome, Level, Site, meet, with_store}
use Rattle.c_means.specs.declared.breach.Breach.{Breach}
use Rattle.c_means.specs.declared.breach.BrokenRule.{BrokenRule}
use Rattle.c_means.specs.declared.breach.BrokenRule.TheVariants as broken

-- ---- rules that are broken

abbrev pub breach : ℕ → BrokenRule → List Breach
breach at r = record { at = at; rule = r } ∷ []

abbrev pub breach_if : Bool → ℕ → BrokenRule → List Breach
breach_if b at r = cond b (breach at r) []

-- those on types, names and constants
abbrev pub typing : List Fault → List Breach
typing [] = []
typing (f ∷ fs) = record { at = f.at; rule = broken.Typing f.rule } ∷ typing fs

-- ---- arrows

abbrev pub Arrow : Type 0
Arrow = State → State

-- what is done with objects, from the first place that is given to it
abbrev pub Acts : Type 0
Acts = Level → Env → ℕ → Arrow

abbrev pub where_running : Kind → State → State → State
where_running k.Running a b = a
where_running _ a b = b

-- a step of a run that is running
abbrev pub running : Arrow → Arrow
running f d = where_running d.kind (f d) d

abbrev pub become : Kind → Arrow
become kind d = record d { kind = kind }

-- where the run arrives at a point, it may be what it was looking for
abbrev pub arrive : (Kind → Kind) → Arrow
arrive f d = record d { kind = f d.kind }

abbrev pub passes : Acts
passes l env base d = d

-- with the value that was found, unless the run ended
abbrev pub with_value : Outcome ℤ → (ℤ → Arrow) → State
with_value (Ok x) f = f x.0 x.1
with_value (Err d) f = d

-- ---- objects of a block (C99 6.2.4p5): alive from its entry to its exit

-- the offset of its declaration, its number, and how many bytes it has
pub record Made : Type 0 where
  pub at : ℕ
  pub place : ℕ
  pub size : ℕ

abbrev pub born : List Made → Arrow
born [] d = d
born (m ∷ ms) d =
    born ms (meet m.place (with_store (make m.place (record { kind = Automatic; size = m.size }) d.store) d))

abbrev pub dead : List Made → Arrow
dead [] d = d
dead (m ∷ ms) d = dead ms (record d { store = end m.place d.store })

abbrev pub known : List Made → Env → Env
known [] env = env
known (m ∷ ms) env = known ms (set_at m.at m.place env)

-- ---- items

-- A `case` of a value, or `default`, by its offset.
pub record Case : Type 0 where
  pub at : ℕ
  pub value : Option ℤ

-- An object that lives throughout the run, as a declaration in a block or the file declares it: the declaration's
-- own offset, how many bytes it has, whether it is defined there, so that its bytes are 0 (C99 6.7.8p10), and what
-- its initializer does.
pub record Lasting : Type 0 where
  pub at : ℕ
  pub entry : Entry
  pub size : ℕ
  pub is_defined : Bool
  pub set : Level → Arrow

-- What a statement or declaration is worth as an item of a block: the rules that it breaks; the scope behind it; the
-- cases that it gives to the `switch` whose block it is in; the calls in it, the functions that it calls; the
-- objects that live throughout the run; how many nodes it is in the measure, and how many places it takes; the
-- objects that it gives to its block; what stands at its tokens; and what it does. `links` are the names of the objects
-- and functions with linkage that it declares.
pub record Item : Type 0 where
  pub breaches : List Breach
  pub after : Scope
  pub cases : List Case
  pub calls : List (Level → Site)
  pub called : List Name
  pub lasting : List Lasting
  pub links : List Name
  pub size : Level → ℕ
  pub room : Level → ℕ
  pub objects : Level → ℕ → List Made
  pub marks : Level → List Mark
  pub run : Acts

abbrev pub nothing : Scope → Item
nothing s = record {
  breaches = [];
  after = s;
  cases = [];
  calls = [];
  called = [];
  lasting = [];
  links = [];
  size = λ l. 0;
  room = λ l. 0;
  objects = λ l base. [];
  marks = λ l. [];
  run = passes;
}

-- one behind the other; the places of the second stand behind those of the first
abbrev pub followed : Item → Item → Item
followed x y = record {
  breaches = x.breaches ++ y.breaches;
  after = y.after;
  cases = x.cases ++ y.cases;
  calls = x.calls ++ y.calls;
  called = x.called ++ y.called;
  lasting = x.lasting ++ y.lasting;
  links = x.links ++ y.links;
  size = λ l. x.size l + y.size l;
  room = λ l. x.room l + y.room l;
  objects = λ l base. x.objects l base ++ y.objects l (base + x.room l);
  marks = λ l. x.marks l ++ y.marks l;
  run = λ l env base d. y.run l env (base + x.room l) (x.run l env base d);
}

abbrev pub with_breaches : List Breach → Item → Item
with_breaches bs x = record x { breaches = bs ++ x.breaches }

-- with what stands at its own token
abbrev pub marked : List Mark → Item → Item
marked own x = record x { marks = λ l. own ++ x.marks l }

-- one node more in the measure
abbrev pub node : Item → Item
node x = record x { size = λ l. 1 + x.size l }

-- it acts where the run is running
abbrev pub guarded : Item → Item
guarded x = record x { run = λ l env base. running (x.run l env base) }

-- the objects of these items live while they run
abbrev pub lived : Item → Acts
lived x l env base d =
    let ms = x.objects l base in
    dead ms (x.run l (known ms env) base (born ms d))

-- these items as a block: their names and objects end with it
abbrev pub closed : Item → Item
closed x = record x { after = leave x.after; objects = λ l base. []; run = lived x }

-- what isn't the block of a `switch` gives it no case
abbrev pub without_cases : Item → Item
without_cases x = record x { cases = [] }

-- ---- statements

pub record Label : Type 0 where
  pub at : ℕ
  pub name : Name

-- What a statement stands in: the names and labels in force, all labels of the function, whether `break` and
-- `continue` may stand here, the type in which the `switch` compares whose block this is, and the type that the
-- function returns.
pub record Context : Type 0 where
  pub scope : Scope
  pub labels : List Label
  pub every : List Label
  pub breaks : Bool
  pub continues : Bool
  pub chooses : Option IntegerKind
  pub result : Option CType

-- A statement: the labels that it gives to the block that it is in, those of the block that it is where it stands as
-- one, and all in it; whether it stands in braces; what it is worth as an item of a block; and what stands in the block
-- that it is.
pub record Code : Type 0 where
  pub labels : List Label
  pub own : List Label
  pub every : List Label
  pub is_block : Bool
  pub here : Context → Item
  pub content : Context → Item

abbrev pub in_scope : Scope → Context → Context
in_scope s c = record c { scope = s }

-- a block in which these labels are in force
abbrev pub opened : List Label → Context → Context
opened labels c = record c { scope = enter c.scope; labels = c.labels ++ labels }

-- the block that a statement is (C99 6.8.2, 6.8.4p3, 6.8.5p5), entered by a run in any state
abbrev pub block_of : Code → Context → Item
block_of x c = closed (x.content (opened x.own c))

-- no `switch` chooses in a block within its own
abbrev pub unchosen : Context → Context
unchosen c = record c { chooses = None }

-- a substatement is a block, into which nothing jumps
abbrev pub sub : Code → Context → Item
sub x c = without_cases (guarded (block_of x (unchosen c)))

abbrev pub in_turn : List Code → Context → Item
in_turn [] c = nothing c.scope
in_turn (x ∷ xs) c = let i = x.here c in followed i (in_turn xs (in_scope i.after c))

abbrev pub labels_of : List Code → List Label
labels_of [] = []
labels_of (x ∷ xs) = x.labels ++ labels_of xs

abbrev pub every_of : List Code → List Label
every_of [] = []
every_of (x ∷ xs) = x.every ++ every_of xs

-- ---- where a run on its way goes on

-- C99 6.8.6.3p2
abbrev pub past_break : Kind → Kind
past_break k.Breaking = k.Running
past_break kind = kind

-- C99 6.8.6.2p2
abbrev pub past_continue : Kind → Kind
past_continue k.Continuing = k.Running
past_continue kind = kind

-- where there is no `default`, no part of a `switch` runs (C99 6.8.4.2p5)
abbrev pub past_switch : Kind → Kind
past_switch k.Breaking = k.Running
past_switch k.Defaulting = k.Running
past_switch kind = kind

-- C99 6.8.6.1p2
abbrev pub at_label : Name → Kind → Kind
at_label label (k.Going wanted) = cond (bytes_eq wanted label) k.Running (k.Going wanted)
at_label label kind = kind

abbrev pub same : ℤ → ℤ → Bool
same x y = is_zero (x -ℤ y)

abbrev pub at_case : Option ℤ → Kind → Kind
at_case (Some value) (k.Choosing wanted) = cond (same wanted value) k.Running (k.Choosing wanted)
at_case value kind = kind

abbrev pub at_default : Kind → Kind
at_default k.Defaulting = k.Running
at_default kind = kind
