-- The run of a program (C99 5.1.2.2, 6.5.2.2, 6.9.1): calls by body, by the depth that is left; the places of what
-- lives throughout the run; the objects that are made before `main` is called; `run_of`, `room_of` and
-- `unrolled_size`.
use Rattle.std.specs.Prelude.{ℕ, zero, suc, ◌+◌, ◌-◌, ◌*◌, ◌%◌, ℤ, pos, Bool, true, false, cond, nat_eq, nat_lt}
use Rattle.std.specs.Prelude.{List, [], ◌∷◌, ◌++◌, length, Option, Some, None}
use Rattle.plain_data.specs.declared.run.Finish.{Finish}
use Rattle.plain_data.specs.declared.run.Finish.TheVariants as finish
use Rattle.plain_data.specs.declared.run.Run.{Run}
use Rattle.c_language.specs.declared.ctype.CType.{CType}
use Rattle.c_language.specs.declared.tables.Tables.{Tables}
use Rattle.c_store.specs.declared.object.ObjectKind.{ObjectKind}
use Rattle.c_store.specs.declared.object.ObjectKind.TheVariants as object
use Rattle.c_store.specs.Store.{Store, initial, start, make, zero_range, lay, write}
use Rattle.c_language.specs.declared.scope.Entry.{Entry}
use Rattle.c_language.specs.declared.scope.Linked.{Linked}
use Rattle.c_language.specs.declared.scope.Means.{Means}
use Rattle.c_language.specs.declared.scope.Means.TheVariants as means
use Rattle.c_language.specs.Scopes.{Name, Scope, entry_in, linked_as}
use Rattle.c_language.specs.Declarations.{tentative_type, object_type}
use Rattle.c_means.specs.declared.kind.Kind.{Kind}
use Rattle.c_means.specs.declared.kind.Kind.TheVariants as k
use Rattle.c_means.specs.Parts.{State, World, Limits, Level, Site, Calls, entered, meet}
use Rattle.c_means.specs.Values.{bytes_of}
use Rattle.c_means.specs.declared.profile.Profile.{Profile}
use Rattle.c_means.specs.Items.{Arrow, Made, Lasting, born, dead, known, running, lived}
use Rattle.c_means.specs.Initials.{stores_as, text_byte}
use Rattle.c_means.specs.Statements.{no_env}
use Rattle.c_means.specs.Names.{Literal}
use Rattle.c_means.specs.Rules.{Taking, Rules, LogCall, IdentityCall, BodyCall, LibraryCall, PreludeCall, OutsideCall}
use Rattle.c_means.specs.Rules.{rule_by, log_of, identity_index, fill_of, library_of, callee_taking, declared_taking}
use Rattle.c_means.specs.Rules.{same_taking, is_among}
use Rattle.c_means.specs.Calls.{asked, finished, meets, log_call, log_pieces, pointers_in, identity_call}
use Rattle.c_means.specs.Calls.{library_call, outside_call, log_marks, library_marks, fill_marks}
use Rattle.c_means.specs.Marks.{Mark, Enters}
use Rattle.c_means.specs.Programs.{Function, Outer, Program, functions_of, function_named, main', Needs, Text}
use Rattle.c_means.specs.Programs.{needs_of, watched_lasting}

-- ---- what a run is of

-- A program, with the functions of the prelude, what is known of functions besides, what the outside gives, and the
-- bounds: `depth` is how many levels of calls there may be, of which `main` is the first.
pub record Machine : Type 0 where
  pub program : Program
  pub prelude : List Function
  pub profile : Profile
  pub world : World
  pub limits : Limits
  pub depth : ℕ

-- ---- the places of what lives throughout the run: by offset, from 1, each function and object with linkage at its
-- first declaration, each
-- static object of a block, each string literal and `__func__`, needed or not

abbrev pub with_offset : ℕ → List ℕ → List ℕ
with_offset at [] = at ∷ []
with_offset at (x ∷ xs) = cond (nat_lt at x) (at ∷ x ∷ xs) (cond (nat_eq at x) (x ∷ xs) (x ∷ with_offset at xs))

abbrev pub linked_offsets : List Linked → List ℕ → List ℕ
linked_offsets [] ats = ats
linked_offsets (x ∷ xs) ats = with_offset x.at (linked_offsets xs ats)

abbrev pub lasting_offsets : List Lasting → List ℕ → List ℕ
lasting_offsets [] ats = ats
lasting_offsets (x ∷ xs) ats = with_offset x.entry.at (lasting_offsets xs ats)

abbrev pub literal_offsets : List Literal → List ℕ → List ℕ
literal_offsets [] ats = ats
literal_offsets (x ∷ xs) ats = with_offset x.at (literal_offsets xs ats)

abbrev pub function_offsets : Option Function → List ℕ → List ℕ
function_offsets None ats = ats
function_offsets (Some f) ats = lasting_offsets f.body.lasting (literal_offsets f.names.literals ats)

abbrev pub outer_offsets : List Outer → List ℕ → List ℕ
outer_offsets [] ats = ats
outer_offsets (x ∷ xs) ats =
    lasting_offsets x.item.lasting (literal_offsets x.names.literals
    (function_offsets x.function (outer_offsets xs ats)))

abbrev pub offsets_of : Program → List ℕ
offsets_of p = outer_offsets p.outers (linked_offsets p.scope.linked [])

-- how many stand before an offset, and one
abbrev pub place_in : List ℕ → ℕ → ℕ
place_in [] at = 1
place_in (x ∷ xs) at = cond (nat_lt x at) (suc (place_in xs at)) 1

abbrev pub places_of : Program → ℕ → ℕ
places_of p = place_in (offsets_of p)

-- the first place behind them
abbrev pub entry_place : Program → ℕ
entry_place p = suc (length (offsets_of p))

-- ---- calls by body (C99 6.5.2.2p4, 6.9.1p10)

-- the parameters' objects have the first places of the room
abbrev pub parameter_size : Scope → Entry → ℕ
parameter_size s e = bytes_of s.tables (object_type e.means)

abbrev pub frame : Scope → ℕ → List Entry → List Made
frame s base [] = []
frame s base (e ∷ es) = record { at = e.at; place = base; size = parameter_size s e } ∷ frame s (suc base) es

abbrev pub passes_as : Tables → Means → ℕ → ℤ → Arrow
passes_as tables means a v d = stores_as tables (object_type means) a v d

-- each argument is converted to the type of its parameter
abbrev pub passes : Tables → ℕ → List Entry → List ℤ → Arrow
passes tables base [] vs d = d
passes tables base (e ∷ es) [] d = d
passes tables base (e ∷ es) (v ∷ vs) d = passes tables (suc base) es vs (passes_as tables e.means (start base) v d)

-- behind `return`, or at the `}`, the call comes back; what ended stays so
abbrev pub comes_back : Kind → Kind
comes_back (k.Ended f) = k.Ended f
comes_back _ = k.Running

abbrev pub back : State → State
back d = record d { kind = comes_back d.kind }

abbrev pub by_body : Level → Function → List ℤ → ℕ → Store → ℕ → State
by_body l f vs base s count =
    let ms = frame f.inside base f.parameters in
    back (dead ms (lived f.body l (known ms no_env) (base + length f.parameters)
    (passes f.inside.tables base f.parameters vs (born ms (entered s count)))))

abbrev pub body_room : Function → Level → ℕ
body_room f l = length f.parameters + f.body.room l

-- ---- the rule of a call

abbrev pub if_same : Option Taking → Tables → Function → Option Function
if_same t tables f = cond (same_taking t (declared_taking tables f.means)) (Some f) None

abbrev pub prelude_if : Option Taking → Option Function → Option Function
prelude_if t None = None
prelude_if t (Some f) = if_same t f.inside.tables f

-- its declared type is that of the prelude
abbrev pub prelude_of : Machine → Option Taking → Name → Option Function
prelude_of m t name = prelude_if t (function_named m.prelude name)

abbrev pub rule_of : Machine → Site → Rules Function
rule_of m g =
    let name = g.callee.name in
    rule_by (log_of m.profile name) (identity_index m.profile name) (function_named (functions_of m.program) name)
    (library_of g)
    (prelude_of m (callee_taking g) name)

-- ---- levels

-- what runs where no call does: before `main`, and in the calls by rule; a call there is one level too many
abbrev pub bare : Machine → ℕ → Level
bare m turns = record {
  world = m.world;
  limits = m.limits;
  turns = turns;
  static = places_of m.program;
  identity = identity_index m.profile;
  size = λ g. 0;
  room = λ g. 0;
  marks = λ g. [];
  call = λ g env vs base s count. finished (finish.Left g.at) (entered s count);
}

-- the levels of the functions that a function calls; none where its own was the last
abbrev pub Below : Type 0
Below = Option (Function → ℕ → Level)

abbrev pub size_below : Below → Function → ℕ → ℕ
size_below None f turns = 0
size_below (Some level) f turns = f.body.size (level f turns)

abbrev pub room_below : Below → Function → ℕ → ℕ
room_below None f turns = 0
room_below (Some level) f turns = body_room f (level f turns)

-- one level too many leaves the bounds at the call
abbrev pub call_below : Below → Function → ℕ → Site → List ℤ → ℕ → Store → ℕ → State
call_below None f turns g vs base s count = finished (finish.Left g.at) (entered s count)
call_below (Some level) f turns g vs base s count = by_body (level f turns) f vs base s count

-- a call by rule has four places, and one for each `%p`
abbrev pub room_by : Machine → Below → Site → Rules Function → ℕ
room_by m below g (LogCall text) = 4 + pointers_in (log_pieces text g)
room_by m below g (IdentityCall i) = 4
room_by m below g (BodyCall f) = room_below below f m.limits.turns
room_by m below g (LibraryCall f) = 4
room_by m below g (PreludeCall f) = room_below below f m.limits.texts
room_by m below g OutsideCall = 4

-- a call by rule adds no node
abbrev pub size_by : Machine → Below → Rules Function → ℕ
size_by m below (LogCall text) = 0
size_by m below (IdentityCall i) = 0
size_by m below (BodyCall f) = size_below below f m.limits.turns
size_by m below (LibraryCall f) = 0
size_by m below (PreludeCall f) = size_below below f m.limits.texts
size_by m below OutsideCall = 0

-- what stands at the callee's name, in a function that calls
abbrev pub marks_by : Machine → Function → Site → Rules Function → List Mark
marks_by m caller g (LogCall text) = log_marks (watched_lasting m.program.scope caller) text g
marks_by m caller g (IdentityCall i) = []
marks_by m caller g (BodyCall f) = Enters g.at f.name ∷ []
marks_by m caller g (LibraryCall f) = library_marks f g
marks_by m caller g (PreludeCall f) = Enters g.at f.name ∷ []
marks_by m caller g OutsideCall = fill_marks (fill_of m.profile g.callee.name) g

abbrev pub is_never_null : Machine → Site → Bool
is_never_null m g = is_among g.callee.name m.profile.never_null

abbrev pub call_by : Machine → Function → ℕ → Below → Rules Function → Calls
call_by m caller turns below (LogCall text) g env vs base s count =
    log_call (bare m turns) (watched_lasting m.program.scope caller) text g env vs base (entered s count)
call_by m caller turns below (IdentityCall i) g env vs base s count = identity_call i g vs (entered s count)
call_by m caller turns below (BodyCall f) g env vs base s count = call_below below f m.limits.turns g vs base s count
call_by m caller turns below (LibraryCall f) g env vs base s count =
    library_call (bare m turns) f g vs base (entered s count)
call_by m caller turns below (PreludeCall f) g env vs base s count =
    call_below below f m.limits.texts g vs base s count
call_by m caller turns below OutsideCall g env vs base s count =
    outside_call (bare m turns) (fill_of m.profile g.callee.name) (is_never_null m g) g vs base (entered s count)

-- the level of a function that runs
abbrev pub level : Machine → Below → Function → ℕ → Level
level m below f turns = record (bare m turns) {
  size = λ g. size_by m below (rule_of m g);
  room = λ g. room_by m below g (rule_of m g);
  marks = λ g. marks_by m f g (rule_of m g);
  call = λ g. call_by m f turns below (rule_of m g) g;
}

-- with so many levels of calls left below it
unfoldable pub level_of : Machine → ℕ → Function → ℕ → Level
level_of m zero f turns = level m None f turns
level_of m (suc n) f turns = level m (Some (level_of m n)) f turns

-- ---- what stands at the tokens of a function, whatever calls it

abbrev pub function_marks : Machine → Function → List Mark
function_marks m f = f.body.marks (level_of m 0 f m.limits.turns)

-- ---- objects that live throughout the run (C99 6.2.4p3)

-- a definition without length has one element (C99 6.9.2p5); what is only declared may have no size
abbrev pub size_with : Bool → Tables → CType → ℕ
size_with true tables t = bytes_of tables (Some (tentative_type t))
size_with false tables t = bytes_of tables (Some t)

abbrev pub size_of_means : Bool → Tables → Means → ℕ → ℕ
size_of_means defined tables (means.Object t dur l) n = size_with defined tables t
size_of_means defined tables (means.Function t l) n = n
size_of_means defined tables (means.Typedef t) n = n
size_of_means defined tables (means.Constant z) n = n
size_of_means defined tables means.Faulty n = n

-- the type of an object of the file is the one that is in force at the file's end
abbrev pub final_size : Program → Lasting → Option Entry → ℕ
final_size p x None = x.size
final_size p x (Some e) =
    cond (nat_eq e.at x.entry.at) (size_of_means x.is_defined p.scope.tables e.means x.size) x.size

abbrev pub object_at : ObjectKind → ℕ → ℕ → Arrow
object_at kind place n d = record d { store = make place (record { kind = kind; size = n }) d.store }

abbrev pub zeroed_if : Bool → ℕ → ℕ → Arrow
zeroed_if true place n d = record d { store = zero_range (start place) n d.store }
zeroed_if false place n d = d

-- an object without definition has the bytes that the world gives (C99 6.7.8p10 for the others)
abbrev pub makes_object : Machine → Lasting → Arrow
makes_object m x d =
    let n = final_size m.program x (entry_in m.program.scope.file x.entry.name) in
    let place = places_of m.program x.entry.at in
    zeroed_if x.is_defined place n (object_at object.Static place n d)

-- the definitions, or the other declarations
abbrev pub makes_objects : Machine → Bool → List Lasting → Arrow
makes_objects m true [] d = d
makes_objects m false [] d = d
makes_objects m true (x ∷ xs) d = makes_objects m true xs (cond x.is_defined (makes_object m x d) d)
makes_objects m false (x ∷ xs) d = makes_objects m false xs (cond x.is_defined d (makes_object m x d))

-- a function is an object of size 0
abbrev pub makes_link : Machine → Option Linked → Arrow
makes_link m None d = d
makes_link m (Some x) d = object_at object.Static (places_of m.program x.at) 0 d

abbrev pub makes_links : Machine → List Name → Arrow
makes_links m [] d = d
makes_links m (name ∷ names) d = makes_links m names (makes_link m (linked_as m.program.scope name) d)

-- the array of a string literal has its bytes, and 0 behind them (C99 6.4.5p5)
abbrev pub makes_text : Machine → Text → Arrow
makes_text m x d =
    let place = places_of m.program x.at in
    let n = suc (length x.bytes) in
    let made = object_at object.Literal place n d in
    record made { store = lay (start place) n (text_byte x.bytes) made.store }

abbrev pub makes_texts : Machine → List Text → Arrow
makes_texts m [] d = d
makes_texts m (x ∷ xs) d = makes_texts m xs (makes_text m x d)

-- an object that is defined and declared too is as it is defined
abbrev pub makes : Machine → Needs → Arrow
makes m x d =
    makes_objects m true x.lasting (makes_objects m false x.lasting (makes_texts m x.texts (makes_links m x.links d)))

-- their initializers, in order, when all of them are there
abbrev pub sets : Machine → List Lasting → Arrow
sets m [] d = d
sets m (x ∷ xs) d = running (sets m xs) (x.set (bare m m.limits.turns) d)

-- the places of what is made, each once
abbrev pub linked_offset : Option Linked → List ℕ → List ℕ
linked_offset None ats = ats
linked_offset (Some x) ats = with_offset x.at ats

abbrev pub name_offsets : Scope → List Name → List ℕ → List ℕ
name_offsets s [] ats = ats
name_offsets s (name ∷ names) ats = linked_offset (linked_as s name) (name_offsets s names ats)

abbrev pub text_offsets : List Text → List ℕ → List ℕ
text_offsets [] ats = ats
text_offsets (x ∷ xs) ats = with_offset x.at (text_offsets xs ats)

abbrev pub meets_offsets : Machine → List ℕ → Arrow
meets_offsets m [] d = d
meets_offsets m (at ∷ ats) d = meets_offsets m ats (meet (places_of m.program at) d)

abbrev pub meets_needs : Machine → Needs → Arrow
meets_needs m x d =
    meets_offsets m (name_offsets m.program.scope x.links (lasting_offsets x.lasting (text_offsets x.texts []))) d

-- before `main` is called
abbrev pub prepared : Machine → Arrow
prepared m d = let x = needs_of m.profile m.program in running (sets m x.lasting) (makes m x (meets_needs m x d))

-- ---- `main` (C99 5.1.2.2.1)

-- how many places come before the room of `main`: with two parameters the count, the array, and its strings
abbrev pub entry_room : Machine → List Entry → ℕ
entry_room m (e ∷ f ∷ []) = 2 + m.limits.arguments
entry_room m _ = 0

abbrev pub argument_count : Machine → ℕ → ℕ
argument_count m p = suc (asked (bare m m.limits.turns) p % m.limits.arguments)

-- each string of the arguments ends with 0
abbrev pub makes_strings : Machine → ℕ → ℕ → Arrow
makes_strings m place zero d = d
makes_strings m place (suc n) d =
    let made = object_at object.Outside place (suc m.limits.outside) d in
    makes_strings m (suc place) n (record made { store = zero_range (start place + m.limits.outside) 1 made.store })

-- the array's first pointers are to the strings, and the others are null
abbrev pub points_to : ℕ → ℕ → ℕ → Arrow
points_to a place zero d = d
points_to a place (suc n) d = points_to (a + 8) (suc place) n (record d { store = write 8 a (start place) d.store })

abbrev pub makes_arguments : Machine → ℕ → Arrow
makes_arguments m p d =
    let n = 8 * suc m.limits.arguments in
    points_to (start (suc p)) (suc (suc p)) (argument_count m p)
    (zeroed_if true (suc p) n (object_at object.Outside (suc p) n
    (makes_strings m (suc (suc p)) m.limits.arguments d)))

abbrev pub main_state : Machine → List Entry → ℕ → Arrow
main_state m (e ∷ f ∷ []) p d = makes_arguments m p (meets p (2 + m.limits.arguments) d)
main_state m _ p d = d

abbrev pub main_arguments : Machine → List Entry → ℕ → List ℤ
main_arguments m (e ∷ f ∷ []) p = pos (argument_count m p) ∷ pos (start (suc p)) ∷ []
main_arguments m _ p = []

-- the value of the first call of `main`, or 0 where its `}` was reached (C99 5.1.2.2.3)
abbrev pub finish_of : Kind → Option ℤ → Finish
finish_of (k.Ended f) v = f
finish_of _ (Some v) = finish.Return v
finish_of _ None = finish.Return (pos 0)

abbrev pub ran : State → Run
ran d = record { printed = d.printed; events = d.events; finish = finish_of d.kind d.value }

-- what was met before `main` is called comes first
abbrev pub behind : State → State → State
behind d r = record r { met = d.met ++ r.met }

abbrev pub called_main : Machine → Function → Arrow
called_main m f d =
    let p = entry_place m.program in
    let e = main_state m f.parameters p d in
    behind e (by_body (level_of m (m.depth - 1) f m.limits.turns) f (main_arguments m f.parameters p)
    (p + entry_room m f.parameters) e.store e.count)

abbrev pub main_run : Machine → Option Function → State → State
main_run m None d = d
main_run m (Some f) d = running (called_main m f) d

abbrev pub main_of : Machine → Option Function
main_of m = function_named (functions_of m.program) main'

abbrev pub end_of : Machine → State
end_of m = main_run m (main_of m) (prepared m (entered (initial m.world.byte) 0))

-- the run of a machine
abbrev pub run_of : Machine → Run
run_of m = ran (end_of m)

-- the places that its run met, in order: those whose words were asked for, and those of the objects that were made
abbrev pub met_of : Machine → List ℕ
met_of m = (end_of m).met

-- ---- the places that a run may take, from 1

abbrev pub main_room : Machine → Option Function → ℕ
main_room m None = 0
main_room m (Some f) = entry_room m f.parameters + body_room f (level_of m (m.depth - 1) f m.limits.turns)

abbrev pub room_of : Machine → ℕ
room_of m = length (offsets_of m.program) + main_room m (main_of m)

-- ---- the measure: how many nodes `main` is, with those of the bodies that it calls, and of each turn

abbrev pub main_size : Machine → Option Function → ℕ
main_size m None = 0
main_size m (Some f) = f.body.size (level_of m (m.depth - 1) f m.limits.turns)

abbrev pub unrolled_size : Machine → ℕ
unrolled_size m = main_size m (main_of m)
