-- A whole run meets each of its places once at most.
use Rattle.std.proofs.Common.{◌≡◌, ◌≤◌, ℕ, zero, suc, ◌+◌, ◌-◌, ◌*◌, Bool, true, false, cond, List, [], ◌∷◌}
use Rattle.std.proofs.Common.{Option, Some, None, refl, ◌∙◌, arith, map, le_refl}
use Rattle.c_store.specs.Store.{initial, start, zero_range, write}
use Rattle.c_store.specs.declared.object.ObjectKind.TheVariants as object
use Rattle.c_language.specs.declared.scope.Entry.{Entry}
use Rattle.c_language.specs.declared.scope.Linked.{Linked}
use Rattle.c_language.specs.Scopes.{Name, linked_as, entry_in}
use Rattle.c_means.specs.Parts.{State, entered, meet}
use Rattle.c_means.specs.Items.{Lasting}
use Rattle.c_means.specs.Calls.{meets}
use Rattle.c_means.specs.Programs.{Function, Text, Needs, needs_of, functions_of}
use Rattle.c_means.specs.Programs.{main'}
use Rattle.c_means.specs.Runs.{Machine, bare, level_of, by_body, body_room, offsets_of, places_of, entry_place}
use Rattle.c_means.specs.Runs.{object_at, zeroed_if, makes_object, makes_objects, makes_link, makes_links, makes_text}
use Rattle.c_means.specs.Runs.{makes_texts, makes, sets, lasting_offsets, text_offsets, name_offsets, meets_offsets}
use Rattle.c_means.specs.Runs.{meets_needs, prepared, entry_room, argument_count, makes_strings, points_to}
use Rattle.c_means.specs.Runs.{makes_arguments}
use Rattle.c_means.specs.Runs.{main_state, main_arguments, called_main, main_run, main_of, met_of}
use Rattle.c_means.specs.Runs.{main_room, room_of, final_size}
use Rattle.c_places.specs.Places.{times}
use Rattle.c_places.proofs.Counts.{met, times-append}
use Rattle.c_places.proofs.Parts.{Calling}
use Rattle.c_places.proofs.Items.{LastingKeep, runs}
use Rattle.c_places.proofs.Calls.{Counts, met_one, meets_within}
use Rattle.c_places.proofs.Levels.{MaybeFunction, FunctionKeeps, MachineKeeps, named_keeps, body_within, level_of_keeps}
use Rattle.c_places.proofs.Offsets.{places_once}
use Rattle.c_places.proofs.Needs.{EachOuter, offsets_ascend, needs_in, texts_ordered, lasting_ordered}
use Rattle.c_places.proofs.Needs.{names_ordered, linked_of_program, needs_lasting}

-- ---- what is made before `main` meets nothing more than its places

same_either : (p n : ℕ) (b : Bool) (x y : State) → met p x ≡ n → met p y ≡ n → met p (cond b x y) ≡ n
same_either p n true x y hx hy = hx
same_either p n false x y hx hy = hy

zeroed_met : (p : ℕ) (b : Bool) (place n : ℕ) (d : State) → met p (zeroed_if b place n d) ≡ met p d
zeroed_met p true place n d = refl
zeroed_met p false place n d = refl

object_met : (p : ℕ) (m : Machine) (x : Lasting) (d : State) → met p (makes_object m x d) ≡ met p d
object_met p m x d =
    let n = final_size m.program x (entry_in m.program.scope.file x.entry.name) in
    let place = places_of m.program x.entry.at in
    zeroed_met p x.is_defined place n (object_at object.Static place n d)

objects_met : (p : ℕ) (m : Machine) (b : Bool) (xs : List Lasting) (d : State) →
    met p (makes_objects m b xs d) ≡ met p d
objects_met p m true [] d = refl
objects_met p m false [] d = refl
objects_met p m true (x ∷ xs) d =
    objects_met p m true xs (cond x.is_defined (makes_object m x d) d)
    ∙ same_either p (met p d) x.is_defined (makes_object m x d) d (object_met p m x d) refl
objects_met p m false (x ∷ xs) d =
    objects_met p m false xs (cond x.is_defined d (makes_object m x d))
    ∙ same_either p (met p d) x.is_defined d (makes_object m x d) refl (object_met p m x d)

link_met : (p : ℕ) (m : Machine) (x : Option Linked) (d : State) → met p (makes_link m x d) ≡ met p d
link_met p m None d = refl
link_met p m (Some x) d = refl

links_met : (p : ℕ) (m : Machine) (names : List Name) (d : State) → met p (makes_links m names d) ≡ met p d
links_met p m [] d = refl
links_met p m (name ∷ names) d =
    let x = linked_as m.program.scope name in
    links_met p m names (makes_link m x d) ∙ link_met p m x d

texts_met : (p : ℕ) (m : Machine) (xs : List Text) (d : State) → met p (makes_texts m xs d) ≡ met p d
texts_met p m [] d = refl
texts_met p m (x ∷ xs) d = texts_met p m xs (makes_text m x d)

makes_met : (p : ℕ) (m : Machine) (x : Needs) (d : State) → met p (makes m x d) ≡ met p d
makes_met p m x d =
    let d1 = makes_links m x.links d in
    let d2 = makes_texts m x.texts d1 in
    let d3 = makes_objects m false x.lasting d2 in
    objects_met p m true x.lasting d3 ∙ objects_met p m false x.lasting d2 ∙ texts_met p m x.texts d1
    ∙ links_met p m x.links d

offsets_met : (p : ℕ) (m : Machine) (ats : List ℕ) (d : State) →
    met p (meets_offsets m ats d) ≡ met p d + times p (map (places_of m.program) ats)
offsets_met p m [] d = omega arith
offsets_met p m (at ∷ ats) d =
    let place = places_of m.program at in
    omega (arith, offsets_met p m ats (meet place d), met_one p place d)

-- no call of an initializer of such an object meets a place
bare_calls : (p : ℕ) (m : Machine) (turns : ℕ) → Calling (λ q. 0) p (bare m turns)
bare_calls p m turns = record {
  rises = record { more = λ a b h. le_refl _ };
  call = λ g env vs base s count. le_refl _;
}

sets_met : (p : ℕ) (m : Machine) (xs : List Lasting) → LastingKeep xs → (d : State) → met p (sets m xs d) ≤ met p d
sets_met p m [] h d = le_refl _
sets_met p m (x ∷ xs) h d =
    let l = bare m m.limits.turns in
    let d' = x.set l d in
    omega (
      arith,
      h.0 p l (bare_calls p m m.limits.turns) d,
      runs p 0 0 (sets m xs) d' (omega (arith, sets_met p m xs h.1 d')) (le_refl _),
    )

prepared_within : (w : ℕ → ℕ) (p : ℕ) → Counts w p → (m : Machine) → EachOuter m.program.outers → (d : State) →
    met p (prepared m d) + w 1 ≤ met p d + w (entry_place m.program)
prepared_within w p c m h d =
    let x = needs_of m.profile m.program in
    let xs = offsets_of m.program in
    let kept = needs_in m.profile m.program in
    let texts = text_offsets x.texts [] in
    let objects = lasting_offsets x.lasting texts in
    let ats = name_offsets m.program.scope x.links objects in
    let ordered = names_ordered xs m.program.scope x.links objects (linked_of_program m.program)
    (lasting_ordered xs x.lasting texts kept.lasting (texts_ordered xs x.texts kept.texts)) in
    let d1 = meets_needs m x d in
    let d2 = makes m x d1 in
    omega (
      arith,
      offsets_met p m ats d,
      places_once w p c xs ats (offsets_ascend m.program) ordered.ascends ordered.inside,
      makes_met p m x d1,
      runs p 0 0 (sets m x.lasting) d2
          (omega (arith, sets_met p m x.lasting (needs_lasting m.profile m.program h) d2)) (le_refl _),
    )

-- ---- `main`

strings_met : (p : ℕ) (m : Machine) (place n : ℕ) (d : State) → met p (makes_strings m place n d) ≡ met p d
strings_met p m place zero d = refl
strings_met p m place (suc n) d =
    let made = object_at object.Outside place (suc m.limits.outside) d in
    strings_met p m (suc place) n (record made {
      store = zero_range (start place + m.limits.outside) 1 made.store;
    })

points_met : (p a place n : ℕ) (d : State) → met p (points_to a place n d) ≡ met p d
points_met p a place zero d = refl
points_met p a place (suc n) d =
    points_met p (a + 8) (suc place) n (record d { store = write 8 a (start place) d.store })

arguments_met : (p : ℕ) (m : Machine) (q : ℕ) (d : State) → met p (makes_arguments m q d) ≡ met p d
arguments_met p m q d =
    let n = 8 * suc m.limits.arguments in
    let d1 = makes_strings m (suc (suc q)) m.limits.arguments d in
    let d2 = zeroed_if true (suc q) n (object_at object.Outside (suc q) n d1) in
    points_met p (start (suc q)) (suc (suc q)) (argument_count m q) d2
    ∙ strings_met p m (suc (suc q)) m.limits.arguments d

state_within : (w : ℕ → ℕ) (p : ℕ) → Counts w p → (m : Machine) (es : List Entry) (q : ℕ) (d : State) →
    met p (main_state m es q d) + w q ≤ met p d + w (q + entry_room m es)
state_within w p c m [] q d = omega (arith, c.rises.more q (q + 0) (omega arith))
state_within w p c m (e ∷ []) q d = omega (arith, c.rises.more q (q + 0) (omega arith))
state_within w p c m (e ∷ f ∷ []) q d =
    let n = 2 + m.limits.arguments in
    omega (arith, arguments_met p m q (meets q n d), meets_within w p c q n d)
state_within w p c m (e ∷ f ∷ g ∷ es) q d = omega (arith, c.rises.more q (q + 0) (omega arith))

main_within : (w : ℕ → ℕ) (p : ℕ) → Counts w p → (m : Machine) → MachineKeeps m → (f : Function) → FunctionKeeps f →
    (d : State) →
    met p (called_main m f d) + w (entry_place m.program)
    ≤ met p d + w (entry_place m.program + main_room m (Some f))
main_within w p c m hm f hf d =
    let q = entry_place m.program in
    let e = main_state m f.parameters q d in
    let l = level_of m (m.depth - 1) f m.limits.turns in
    let first = q + entry_room m f.parameters in
    let room = body_room f l in
    let r = by_body l f (main_arguments m f.parameters q) first e.store e.count in
    omega (
      arith,
      times-append p e.met r.met,
      state_within w p c m f.parameters q d,
      body_within w p l (level_of_keeps w p c m hm (m.depth - 1) f m.limits.turns) f hf
          (main_arguments m f.parameters q) first e.store e.count,
      c.rises.more (first + room) (q + (entry_room m f.parameters + room)) (omega arith),
    )

run_within : (w : ℕ → ℕ) (p : ℕ) → Counts w p → (m : Machine) → MachineKeeps m → (f : Option Function) →
    MaybeFunction f → (d : State) →
    met p (main_run m f d) + w (entry_place m.program) ≤ met p d + w (entry_place m.program + main_room m f)
run_within w p c m hm None hf d =
    omega (arith, c.rises.more (entry_place m.program) (entry_place m.program + 0) (omega arith))
run_within w p c m hm (Some f) hf d =
    let q = entry_place m.program in
    let end = q + main_room m (Some f) in
    runs p (w q) (w end) (called_main m f) d (main_within w p c m hm f hf d) (c.rises.more q end (omega arith))

-- ---- the whole run

-- a place's count among those met is no more than the weight rises from place 1 to the end of the room
pub whole_within : (w : ℕ → ℕ) (p : ℕ) → Counts w p → (m : Machine) → EachOuter m.program.outers → MachineKeeps m →
    times p (met_of m) + w 1 ≤ w (suc (room_of m))
whole_within w p c m h hm =
    let first = entered (initial m.world.byte) 0 in
    let d = prepared m first in
    let f = main_of m in
    omega (
      arith,
      prepared_within w p c m h first,
      run_within w p c m hm f (named_keeps (functions_of m.program) main' hm.functions) d,
      c.rises.more (entry_place m.program + main_room m f) (suc (room_of m)) (omega arith),
    )
