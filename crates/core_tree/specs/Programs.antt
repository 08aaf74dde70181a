-- The run of a program of the core: calls by body, by the depth that is left; the objects that are made before `main`
-- is called; and the run, for any way of taking what it prints.
use Rattle.std.specs.Prelude.{ℕ, zero, suc, ◌+◌, ◌-◌, ◌*◌, ◌%◌, ℤ, pos, Bool, true, false, cond, List, []}
use Rattle.std.specs.Prelude.{◌∷◌, length, map, ◌^◌}
use Rattle.std.specs.Prelude.{Option, Some, None, slice_get}
use Rattle.plain_data.specs.declared.run.Run.{Run}
use Rattle.c_store.specs.declared.object.ObjectKind.TheVariants as object
use Rattle.c_store.specs.Store.{Store, initial, start, make, zero_range, lay, write}
use Rattle.c_means.specs.Parts.{World, Limits}
use Rattle.c_means.specs.Initials.{text_byte}
use Rattle.c_means.specs.Items.{Made, known}
use Rattle.c_means.specs.Runs.{comes_back, finish_of}
use Rattle.c_means.specs.Statements.{no_env}
use Rattle.core_tree.specs.declared.program.Contents.{Contents}
use Rattle.core_tree.specs.declared.program.Contents.TheVariants as contents
use Rattle.core_tree.specs.declared.program.Core.{Core}
use Rattle.core_tree.specs.declared.program.Function.{Function}
use Rattle.core_tree.specs.declared.program.LastingObject.{LastingObject}
use Rattle.core_tree.specs.declared.program.LastingSetting.{LastingSetting}
use Rattle.core_tree.specs.declared.program.Parameter.{Parameter}
use Rattle.core_tree.specs.Numbers.{size_of}
use Rattle.core_tree.specs.Memory.{stored}
use Rattle.core_tree.specs.States.{Taking, Output, plain, Done, Arrow, Calls, Level, Measures, entered, meet, meets}
use Rattle.core_tree.specs.States.{arrive, onward, running, with_store, born, dead}
use Rattle.core_tree.specs.Codes.{Item, code, in_turn, lived}
use Rattle.core_tree.specs.Codes as codes

-- ---- functions (C99 6.9.1)

-- A function, with what stands in the block of its body.
pub record Body (O : Type 0) : Type 0 where
  pub function : Function
  pub item : Item O

abbrev pub body_of : {O : Type 0} → Function → Body O
body_of f = record { function = f; item = in_turn (map code f.items) }

abbrev pub body_size : {O : Type 0} → Body O → Measures → ℕ
body_size f m = 1 + f.item.needs.size m

-- the parameters' objects have the first places of the room
abbrev pub body_room : {O : Type 0} → Body O → Measures → ℕ
body_room f m = length f.function.parameters + f.item.needs.room m

abbrev pub frame : ℕ → List Parameter → List Made
frame base [] = []
frame base (p ∷ ps) = record { at = p.at; place = base; size = size_of p.stored } ∷ frame (suc base) ps

-- each argument is converted to the type of its parameter
abbrev pub passed : {O : Type 0} → ℕ → List Parameter → List ℤ → Done O → Done O
passed base [] vs d = d
passed base (p ∷ ps) [] d = d
passed base (p ∷ ps) (v ∷ vs) d = passed (suc base) ps vs (stored p.stored (start base) v d)

-- behind `return`, or at the `}`, the call comes back; what ended stays so
abbrev pub back : {O : Type 0} → Done O → Done O
back d = arrive comes_back d

abbrev pub by_body : {O : Type 0} → Level O → Body O → List ℤ → ℕ → Store → O → Option (Done O)
by_body l f vs base s o =
    let ps = f.function.parameters in
    let ms = frame base ps in
    onward (lived f.item l (known ms no_env) (base + length ps)
    (passed base ps vs (born l.taking ms (entered l.taking s o))))
    (λ r. Some (back (dead ms r)))

-- ---- what runs

-- A program, its functions by number, how what it prints is taken, the world, and the bounds: `depth` is how many
-- levels of calls there may be, of which `main` is the first.
pub record Machine (O : Type 0) : Type 0 where
  pub core : Core
  pub body : ℕ → Option (Body O)
  pub taking : Taking O
  pub world : World
  pub limits : Limits
  pub depth : ℕ

abbrev pub maybe_body : {O : Type 0} → Option Function → Option (Body O)
maybe_body None = None
maybe_body (Some f) = Some (body_of f)

abbrev pub machine : {O : Type 0} → Taking O → Core → World → Limits → ℕ → Machine O
machine t p world limits depth = record {
  core = p;
  body = λ f. maybe_body (slice_get p.functions f);
  taking = t;
  world = world;
  limits = limits;
  depth = depth;
}

-- ---- calls by the depth that is left

-- in a function of the prelude the limit of texts
abbrev pub turns_in : Limits → Function → ℕ
turns_in limits f = cond f.is_prelude limits.texts limits.turns

abbrev pub size_by : {O : Type 0} → (Function → Measures) → Option (Body O) → ℕ
size_by below None = 0
size_by below (Some f) = body_size f (below f.function)

abbrev pub room_by : {O : Type 0} → (Function → Measures) → Option (Body O) → ℕ
room_by below None = 0
room_by below (Some f) = body_room f (below f.function)

-- with so many levels of calls left below it
unfoldable pub measures_of : {O : Type 0} → Machine O → ℕ → Function → Measures
measures_of m zero f = record { turns = turns_in m.limits f; size = λ g. 0; room = λ g. 0 }
measures_of m (suc n) f = record {
  turns = turns_in m.limits f;
  size = λ g. size_by (measures_of m n) (m.body g);
  room = λ g. room_by (measures_of m n) (m.body g);
}

abbrev pub level_with : {O : Type 0} → Machine O → ℕ → Option (Calls O) → Function → Level O
level_with m n calls f = record {
  measures = measures_of m n f;
  taking = m.taking;
  world = m.world;
  limits = m.limits;
  call = calls;
}

-- a call of a function that isn't there has no outcome: no program has one
abbrev pub called_at : {O : Type 0} → (Function → Level O) → Option (Body O) → List ℤ → ℕ → Store → O → Option (Done O)
called_at level None vs base s o = None
called_at level (Some f) vs base s o = by_body (level f.function) f vs base s o

-- what calls do with so many levels left, of which the function that is called is the first
unfoldable pub calls_of : {O : Type 0} → Machine O → ℕ → Option (Calls O)
calls_of m zero = None
calls_of m (suc n) = Some (λ f. called_at (level_with m n (calls_of m n)) (m.body f))

-- the level of a function with so many levels of calls left below it
abbrev pub level_of : {O : Type 0} → Machine O → ℕ → Function → Level O
level_of m n f = level_with m n (calls_of m n) f

-- ---- objects that live throughout the run (C99 6.2.4p3)

abbrev pub filled_with : Contents → ℕ → ℕ → Store → Store
filled_with contents.World a n s = s
filled_with contents.Zero a n s = zero_range a n s
filled_with (contents.Text bytes) a n s = lay a n (text_byte bytes) s

abbrev pub makes : {O : Type 0} → LastingObject → Done O → Done O
makes x d =
    with_store (filled_with x.contents (start x.place) x.size (make x.place (record {
      kind = x.kind;
      size = x.size;
    }) d.store)) d

abbrev pub makes_all : {O : Type 0} → List LastingObject → Done O → Done O
makes_all [] d = d
makes_all (x ∷ xs) d = makes_all xs (makes x d)

abbrev pub meets_all : {O : Type 0} → Taking O → List ℕ → Done O → Done O
meets_all t [] d = d
meets_all t (p ∷ ps) d = meets_all t ps (meet t p d)

-- what runs where no function does
abbrev pub bare : {O : Type 0} → Machine O → Level O
bare m = record {
  measures = record { turns = m.limits.turns; size = λ g. 0; room = λ g. 0 };
  taking = m.taking;
  world = m.world;
  limits = m.limits;
  call = None;
}

-- initializers, in order
abbrev pub sets_all : {O : Type 0} → List LastingSetting → Level O → Arrow O
sets_all [] l d = Some d
sets_all (x ∷ xs) l d = onward (codes.sets x.setting (start x.place) l no_env 0 d) (running (sets_all xs l))

-- before `main` is called
abbrev pub prepared : {O : Type 0} → Machine O → Arrow O
prepared m d =
    running (sets_all m.core.settings (bare m)) (makes_all m.core.objects (meets_all m.taking m.core.met d))

-- ---- `main` (C99 5.1.2.2.1): with two parameters the count, the array, and its strings come first

abbrev pub entry_room : Core → Limits → ℕ
entry_room p limits = cond p.has_arguments (2 + limits.arguments) 0

abbrev pub argument_count : World → Limits → ℕ → ℕ
argument_count world limits p = suc ((world.word p % 2 ^ 64) % limits.arguments)

abbrev pub outside_object : {O : Type 0} → ℕ → ℕ → Done O → Done O
outside_object place n d = with_store (make place (record { kind = object.Outside; size = n }) d.store) d

abbrev pub zeroes : {O : Type 0} → ℕ → ℕ → Done O → Done O
zeroes a n d = with_store (zero_range a n d.store) d

-- each string of the arguments ends with 0
abbrev pub makes_strings : {O : Type 0} → Limits → ℕ → ℕ → Done O → Done O
makes_strings limits place zero d = d
makes_strings limits place (suc n) d =
    makes_strings limits (suc place) n
    (zeroes (start place + limits.outside) 1 (outside_object place (suc limits.outside) d))

-- the array's first pointers are to the strings, and the others are null
abbrev pub points_to : {O : Type 0} → ℕ → ℕ → ℕ → Done O → Done O
points_to a place zero d = d
points_to a place (suc n) d = points_to (a + 8) (suc place) n (with_store (write 8 a (start place) d.store) d)

abbrev pub makes_arguments : {O : Type 0} → World → Limits → ℕ → Done O → Done O
makes_arguments world limits p d =
    let n = 8 * suc limits.arguments in
    points_to (start (suc p)) (suc (suc p)) (argument_count world limits p)
    (zeroes (start (suc p)) n (outside_object (suc p) n (makes_strings limits (suc (suc p)) limits.arguments d)))

abbrev pub given_arguments : {O : Type 0} → Bool → Machine O → ℕ → Done O → Done O
given_arguments true m p d = makes_arguments m.world m.limits p (meets m.taking p (2 + m.limits.arguments) d)
given_arguments false m p d = d

abbrev pub main_arguments : Bool → World → Limits → ℕ → List ℤ
main_arguments true world limits p = pos (argument_count world limits p) ∷ pos (start (suc p)) ∷ []
main_arguments false world limits p = []

-- what `main` leaves, behind what was left before
abbrev pub behind : {O : Type 0} → Taking O → Done O → Done O → Done O
behind t d r = record r { out = t.resume d.out r.out }

abbrev pub main_call : {O : Type 0} → Machine O → ℕ → Arrow O
main_call m p d =
    onward (called_at (level_of m (m.depth - 1)) (m.body m.core.main)
    (main_arguments m.core.has_arguments m.world m.limits p) (p + entry_room m.core m.limits) d.store d.out)
    (λ r. Some (behind m.taking d r))

-- its own places stand behind those of what lives throughout the run
abbrev pub called_main : {O : Type 0} → Machine O → Arrow O
called_main m d =
    let p = suc m.core.places in
    main_call m p (given_arguments m.core.has_arguments m p d)

-- the end of a run, from what is left outside before
abbrev pub end_of : {O : Type 0} → Machine O → O → Option (Done O)
end_of m o =
    onward (prepared m (entered m.taking (initial m.world.byte) o)) (running (called_main m))

-- ---- the run that prints

abbrev pub nothing_left : Output
nothing_left = record { count = 0; printed = []; met = [] }

abbrev pub ran : Done Output → Run
ran d = record { printed = d.out.printed; events = d.events; finish = finish_of d.kind d.value }

abbrev pub maybe_ran : Option (Done Output) → Option Run
maybe_ran None = None
maybe_ran (Some d) = Some (ran d)

-- the run of a program
abbrev pub run_of : Core → World → Limits → ℕ → Option Run
run_of p world limits depth = maybe_ran (end_of (machine plain p world limits depth) nothing_left)

-- ---- the places that a run may take, and the measure

abbrev pub main_needs : {O : Type 0} → (Body O → Measures → ℕ) → Machine O → Option (Body O) → ℕ
main_needs f m None = 0
main_needs f m (Some x) = f x (measures_of m (m.depth - 1) x.function)

abbrev pub room_of : {O : Type 0} → Machine O → ℕ
room_of m = m.core.places + (entry_room m.core m.limits + main_needs body_room m (m.body m.core.main))

abbrev pub unrolled_size : {O : Type 0} → Machine O → ℕ
unrolled_size m = main_needs body_size m (m.body m.core.main)
