-- The core of a program has its run, its room and its size.
use Rattle.std.proofs.Common.{◌≡◌, ◌-◌, ◌*◌, ℕ, zero, suc, ◌+◌, Bool, true, false, cond, List, [], ◌∷◌, ◌++◌, length}
use Rattle.std.proofs.Common.{Some, refl, sym, ap, ap₂, ◌∙◌}
use Rattle.c_store.specs.declared.object.ObjectKind.TheVariants as object
use Rattle.c_store.specs.Store.{initial, start, zero_range, write}
use Rattle.c_language.specs.declared.scope.Entry.{Entry}
use Rattle.c_means.specs.Parts.{State}
use Rattle.c_means.specs.Parts as c
use Rattle.c_means.specs.Calls.{meets}
use Rattle.c_means.specs.Programs.{Function}
use Rattle.c_means.specs.Runs as whole
use Rattle.core_tree.specs.declared.program.Core.{Core}
use Rattle.core_tree.specs.States.{Output, plain, Done, Arrow, onward, running}
use Rattle.core_tree.specs.States as states
use Rattle.core_tree.specs.Programs.{Body, Machine, nothing_left, called_at, level_of, measures_of, by_body, maybe_ran}
use Rattle.core_tree.specs.Programs as core
use Rattle.elaborate.specs.Means.{as_done, Numbering, Like}
use Rattle.elaborate.proofs.Bodies.{body_same, room_same, size_same}
use Rattle.elaborate.proofs.Codes.{running_same}
use Rattle.elaborate.proofs.Levels.{levels_like}
use Rattle.core_programs.specs.Programs.{HasArguments, IsCoreOf, machine_for}
use Rattle.core_programs.proofs.Starts.{prepared_same, prepared_quiet}

-- ---- the arguments of `main`

meets_same : (place n : ℕ) (d : State) → states.meets plain place n (as_done d) ≡ as_done (meets place n d)
meets_same place zero d = refl
meets_same place (suc n) d = meets_same (suc place) n (c.meet place d)

meets_quiet : (place n : ℕ) (d : State) → (meets place n d).printed ≡ d.printed
meets_quiet place zero d = refl
meets_quiet place (suc n) d = meets_quiet (suc place) n (c.meet place d)

module _ (m : whole.Machine) where
  outside : ℕ → ℕ → State → State
  outside place n d = whole.object_at object.Outside place n d

  -- a string, whose last byte is 0
  a_string : ℕ → State → State
  a_string place d =
      let made = whole.object_at object.Outside place (suc m.limits.outside) d in
      record made { store = zero_range (start place + m.limits.outside) 1 made.store }

  strings_same : (place n : ℕ) (d : State) → core.makes_strings m.limits place n (as_done d) ≡ as_done
      (whole.makes_strings m place n d)
  unfolding a_string
  strings_same place zero d = refl
  strings_same place (suc n) d = strings_same (suc place) n (a_string place d)

  strings_quiet : (place n : ℕ) (d : State) → (whole.makes_strings m place n d).printed ≡ d.printed
  unfolding a_string
  strings_quiet place zero d = refl
  strings_quiet place (suc n) d = strings_quiet (suc place) n (a_string place d)

  points_same : (a place n : ℕ) (d : State) → core.points_to a place n (as_done d) ≡ as_done (whole.points_to a place n d)
  points_same a place zero d = refl
  points_same a place (suc n) d = points_same (a + 8) (suc place) n (record d { store = write 8 a (start place) d.store })

  points_quiet : (a place n : ℕ) (d : State) → (whole.points_to a place n d).printed ≡ d.printed
  points_quiet a place zero d = refl
  points_quiet a place (suc n) d =
      points_quiet (a + 8) (suc place) n (record d { store = write 8 a (start place) d.store })

  -- the array, before its pointers are set
  an_array : ℕ → State → State
  an_array p d =
      let n = 8 * suc m.limits.arguments in
      whole.zeroed_if true (suc p) n (whole.object_at object.Outside (suc p) n
      (whole.makes_strings m (suc (suc p)) m.limits.arguments d))

  arguments_same : (p : ℕ) (d : State) → core.makes_arguments m.world m.limits p (as_done d) ≡ as_done
      (whole.makes_arguments m p d)
  unfolding an_array
  arguments_same p d =
      let n = 8 * suc m.limits.arguments in
      ap (λ r. core.points_to (start (suc p)) (suc (suc p)) (core.argument_count m.world m.limits p)
      (core.zeroes (start (suc p)) n (core.outside_object (suc p) n r)))
      (strings_same (suc (suc p)) m.limits.arguments d)
      ∙ points_same (start (suc p)) (suc (suc p)) (whole.argument_count m p) (an_array p d)

  arguments_quiet : (p : ℕ) (d : State) → (whole.makes_arguments m p d).printed ≡ d.printed
  unfolding an_array
  arguments_quiet p d =
      points_quiet (start (suc p)) (suc (suc p)) (whole.argument_count m p) (an_array p d)
      ∙ strings_quiet (suc (suc p)) m.limits.arguments d

  given_same : (b : Bool) (es : List Entry) → HasArguments b es → (p : Core) (at : ℕ) (d : State)
      → core.given_arguments b (machine_for m p) at (as_done d) ≡ as_done (whole.main_state m es at d)
  given_same true (e ∷ f ∷ []) h p at d =
      ap (core.makes_arguments m.world m.limits at) (meets_same at (2 + m.limits.arguments) d)
      ∙ arguments_same at (meets at (2 + m.limits.arguments) d)
  given_same true [] h p at d = absurd h
  given_same true (e ∷ []) h p at d = absurd h
  given_same true (e ∷ f ∷ g ∷ gs) h p at d = absurd h
  given_same false (e ∷ f ∷ []) h p at d = absurd h
  given_same false [] h p at d = refl
  given_same false (e ∷ []) h p at d = refl
  given_same false (e ∷ f ∷ g ∷ gs) h p at d = refl

  state_quiet : (es : List Entry) (at : ℕ) (d : State) → (whole.main_state m es at d).printed ≡ d.printed
  state_quiet (e ∷ f ∷ []) at d =
      arguments_quiet at (meets at (2 + m.limits.arguments) d) ∙ meets_quiet at (2 + m.limits.arguments) d
  state_quiet [] at d = refl
  state_quiet (e ∷ []) at d = refl
  state_quiet (e ∷ f ∷ g ∷ gs) at d = refl

  values_same : (b : Bool) (es : List Entry) → HasArguments b es → (at : ℕ)
      → core.main_arguments b m.world m.limits at ≡ whole.main_arguments m es at
  values_same true (e ∷ f ∷ []) h at = refl
  values_same true [] h at = absurd h
  values_same true (e ∷ []) h at = absurd h
  values_same true (e ∷ f ∷ g ∷ gs) h at = absurd h
  values_same false (e ∷ f ∷ []) h at = absurd h
  values_same false [] h at = refl
  values_same false (e ∷ []) h at = refl
  values_same false (e ∷ f ∷ g ∷ gs) h at = refl

  entry_same : (b : Bool) (es : List Entry) → HasArguments b es → cond b (2 + m.limits.arguments) 0 ≡ whole.entry_room m es
  entry_same true (e ∷ f ∷ []) h = refl
  entry_same true [] h = absurd h
  entry_same true (e ∷ []) h = absurd h
  entry_same true (e ∷ f ∷ g ∷ gs) h = absurd h
  entry_same false (e ∷ f ∷ []) h = absurd h
  entry_same false [] h = refl
  entry_same false (e ∷ []) h = refl
  entry_same false (e ∷ f ∷ g ∷ gs) h = refl

-- ---- the run

module _ (numbering : Function → Numbering) (m : whole.Machine) (p : Core) (h : IsCoreOf numbering m p) where
  abbrev k : Machine Output
  k = machine_for m p

  main_like : Like (numbering h.main.function) (whole.level_of m (m.depth - 1) h.main.function m.limits.turns)
      (level_of k (m.depth - 1) h.main.body.function)
  main_like = levels_like numbering m k h.functions (m.depth - 1) h.main.function m.limits.turns h.main.body.function
      h.main.turns

  -- what `main` does, from the state that was prepared
  main_same : (d : State) → d.printed ≡ []
      → core.called_main k (as_done d) ≡ Some (as_done (whole.called_main m h.main.function d))
  main_same d quiet =
      let f = h.main.function in
      let at = suc (length (whole.offsets_of m.program)) in
      let e = whole.main_state m f.parameters at d in
      let base = at + whole.entry_room m f.parameters in
      let level = level_of k (m.depth - 1) in
      let below = whole.level_of m (m.depth - 1) f m.limits.turns in
      let vs = whole.main_arguments m f.parameters at in
      let r = whole.by_body below f vs base e.store e.count in
      ap (λ n. core.main_call k (suc n) (core.given_arguments p.has_arguments k (suc n) (as_done d))) h.places
      ∙ ap (core.main_call k at) (given_same m p.has_arguments f.parameters h.main.arguments p at d)
      ∙ ap (λ x. onward (called_at level x (core.main_arguments p.has_arguments m.world m.limits at)
      (at + core.entry_room p m.limits) e.store (as_done e).out) (λ r. Some (core.behind plain (as_done e) r)))
      h.main.found
      ∙ ap₂ (λ vs n. onward (by_body (level h.main.body.function) h.main.body vs (at + n) e.store (as_done e).out)
      (λ r. Some (core.behind plain (as_done e) r)))
      (values_same m p.has_arguments f.parameters h.main.arguments at)
      (entry_same m p.has_arguments f.parameters h.main.arguments)
      ∙ ap (λ o. onward o (λ r. Some (core.behind plain (as_done e) r)))
      (body_same (numbering f) h.main.body f h.main.item h.main.is_body below (level h.main.body.function) main_like vs
      base e.store (as_done e).out)
      ∙ ap (λ text. Some (record (as_done r) { out = record { count = r.count; printed = text ++ r.printed; met = e.met ++ r.met } }))
      (state_quiet m f.parameters at d ∙ quiet)

  pub end_same : core.end_of k nothing_left ≡ Some (as_done (whole.end_of m))
  end_same =
      let begun = c.entered (initial m.world.byte) 0 in
      let d = whole.prepared m begun in
      ap (λ o. onward o (running (core.called_main k))) (prepared_same m p h.start begun)
      ∙ running_same (core.called_main k) (whole.called_main m h.main.function) d
      (main_same d (prepared_quiet m p h.start begun))
      ∙ ap (λ f. Some (as_done (whole.main_run m f d))) (sym h.main.is_main)

  -- the program's run
  pub run_same : core.run_of p m.world m.limits m.depth ≡ Some (whole.run_of m)
  run_same = ap maybe_ran end_same

  -- the places that it may take
  pub room_is : core.room_of k ≡ whole.room_of m
  room_is =
      let f = h.main.function in
      ap₂ (λ n x. n + (core.entry_room p m.limits + core.main_needs core.body_room k x)) h.places h.main.found
      ∙ ap₂ (λ n r. length (whole.offsets_of m.program) + (n + r))
      (entry_same m p.has_arguments f.parameters h.main.arguments)
      (room_same (numbering f) h.main.body f h.main.item h.main.is_body
      (whole.level_of m (m.depth - 1) f m.limits.turns) (level_of k (m.depth - 1) h.main.body.function) main_like)
      ∙ ap (λ f. length (whole.offsets_of m.program) + whole.main_room m f) (sym h.main.is_main)

  -- how many nodes it unrolls to
  pub size_is : core.unrolled_size k ≡ whole.unrolled_size m
  size_is =
      let f = h.main.function in
      ap (λ x. core.main_needs core.body_size k x) h.main.found
      ∙ size_same (numbering f) h.main.body f h.main.item h.main.is_body
      (whole.level_of m (m.depth - 1) f m.limits.turns) (level_of k (m.depth - 1) h.main.body.function) main_like
      ∙ ap (λ f. whole.main_size m f) (sym h.main.is_main)
