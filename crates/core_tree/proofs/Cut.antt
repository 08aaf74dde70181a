-- The run along a log is the run that prints, cut where it leaves the log: whole programs. So a run fits a log exactly
-- where the run along it reaches its end.
use Rattle.std.proofs.Common.{◌≡◌, ℕ, zero, suc, ◌+◌, ◌-◌, ◌*◌, ℤ, List, [], ◌∷◌, map, length, Bool, true, false, cond}
use Rattle.std.proofs.Common.{Option, Some, None, refl, sym, ap, ap₂, ◌∙◌, subst, arith, length-append, nat_eq, ◌&&◌}
use Rattle.std.proofs.Math.Path.{fun_ext}
use Rattle.std.specs.Prelude.{slice_get}
use Rattle.c_store.specs.Store.{Store, initial, start, write}
use Rattle.c_means.specs.Parts.{World, Limits}
use Rattle.c_means.specs.Items.{known}
use Rattle.c_means.specs.Statements.{no_env}
use Rattle.core_tree.specs.declared.code.Code.{Code}
use Rattle.core_tree.specs.declared.program.Core.{Core}
use Rattle.core_tree.specs.declared.program.Function.{Function}
use Rattle.core_tree.specs.declared.program.LastingObject.{LastingObject}
use Rattle.core_tree.specs.declared.program.LastingSetting.{LastingSetting}
use Rattle.core_tree.specs.declared.program.Parameter.{Parameter}
use Rattle.core_tree.specs.Memory.{stored}
use Rattle.core_tree.specs.States.{Output, plain, along, follows, Done, Measures, Needs, onward}
use Rattle.core_tree.specs.States.{running, born, dead, meet, meets, with_store}
use Rattle.core_tree.specs.Codes.{code, in_turn, lived}
use Rattle.core_tree.specs.Programs.{body_of, frame, passed, back, by_body, Machine, maybe_body}
use Rattle.core_tree.specs.Programs.{machine, size_by, room_by, measures_of, called_at, calls_of, level_of, makes}
use Rattle.core_tree.specs.Programs.{
  makes_all,
  meets_all,
  bare,
  sets_all,
  prepared,
  zeroes,
  outside_object,
  makes_strings,
}
use Rattle.core_tree.specs.Programs.{
  points_to,
  makes_arguments,
  given_arguments,
  main_arguments,
  argument_count,
  entry_room,
}
use Rattle.core_tree.specs.Programs.{behind, main_call, called_main, end_of, nothing_left, turns_in}
use Rattle.core_tree.specs.Fits.{is_within, same_bytes, has_printed, has_reached, run_along, fits}
use Rattle.core_tree.proofs.Induction.{Each}
use Rattle.core_tree.proofs.CutStates.{
  prefix,
  starts_prefix,
  follows_joined,
  seen_as,
  Counted,
  where_on,
  CutsState,
  Goes,
}
use Rattle.core_tree.proofs.CutStates.{goes_onward, goes_running, goes_stay}
use Rattle.core_tree.proofs.CutCalls.{Frames, plain_in, along_in, BothCut, Quiet, quiet_meets}
use Rattle.core_tree.proofs.CutCalls.{entered_cut, quiet_behind}
use Rattle.core_tree.proofs.CutCodes.{SameItem, SameCode, code_same, codes_same, in_turn_same, lived_same}
use Rattle.core_tree.proofs.CutCodes.{born_quiet, dead_quiet, goes_after, goes_before, sets_goes}

module _ (log : List ℕ) where
  -- ---- functions

  each_same : (cs : List Code) → Each (SameCode log) cs
  each_same [] = tt
  each_same (c ∷ cs) = (code_same log c, each_same cs)

  body_same : (f : Function) → SameItem log (in_turn (map code f.items)) (in_turn (map code f.items))
  body_same f = in_turn_same log _ _ (codes_same log f.items (each_same f.items))

  passed_quiet : (base : ℕ) (ps : List Parameter) (vs : List ℤ) (d : Done Output) → Quiet log d (passed base ps vs d)
      (passed base ps vs (seen_as log d))
  passed_quiet base [] vs d = record { count = refl; printed = refl; seen = refl }
  passed_quiet base (p ∷ ps) [] d = record { count = refl; printed = refl; seen = refl }
  passed_quiet base (p ∷ ps) (v ∷ vs) d =
      let q = passed_quiet (suc base) ps vs (stored p.stored (start base) v d) in record
      { count = q.count; printed = q.printed; seen = q.seen }

  body_goes : (p : Frames log) (f : Function) (vs : List ℤ) (base : ℕ) (s : Store) (o : Output)
      → CutsState log o.count (by_body (plain_in log p) (body_of f) vs base s o)
      (by_body (along_in log p) (body_of f) vs base s o.count)
  body_goes p f vs base s o =
      let ps = f.parameters in
      let ms = frame base ps in
      entered_cut log
      (λ d. onward (lived (in_turn (map code f.items)) (plain_in log p) (known ms no_env) (base + length ps)
      (passed base ps vs (born plain ms d))) (λ r. Some (back (dead ms r))))
      (λ d. onward (lived (in_turn (map code f.items)) (along_in log p) (known ms no_env) (base + length ps)
      (passed base ps vs (born (along log) ms d))) (λ r. Some (back (dead ms r)))) s o
      (goes_before log _ _ _ (λ r. back (dead ms r))
      (goes_after log (born plain ms) (born (along log) ms) _ _ (born_quiet log ms)
      (goes_after log (passed base ps vs) (passed base ps vs) _ _ (passed_quiet base ps vs)
      (lived_same log _ _ (body_same f) p (known ms no_env) (base + length ps) (base + length ps) refl)))
      (λ d. let q = dead_quiet log ms d in record { count = q.count; printed = q.printed; seen = ap back q.seen }))

  -- ---- levels

  module _ (p : Core) (world : World) (limits : Limits) (depth : ℕ) where
    abbrev prints : Machine Output
    prints = machine plain p world limits depth

    abbrev follows_log : Machine ℕ
    follows_log = machine (along log) p world limits depth

    size_same : (below below' : Function → Measures) (o : Option Function) → ((f : Function) → below f ≡ below' f)
        → size_by {O = Output} below (maybe_body o) ≡ size_by {O = ℕ} below' (maybe_body o)
    size_same below below' None h = refl
    size_same below below' (Some f) h = ap₂ (λ (n : Needs) m. 1 + n.size m) (body_same f).needs (h f)

    room_same : (below below' : Function → Measures) (o : Option Function) → ((f : Function) → below f ≡ below' f)
        → room_by {O = Output} below (maybe_body o) ≡ room_by {O = ℕ} below' (maybe_body o)
    room_same below below' None h = refl
    room_same below below' (Some f) h = ap₂ (λ (n : Needs) m. length f.parameters + n.room m) (body_same f).needs (h f)

    abbrev measured : ℕ → (ℕ → ℕ) → (ℕ → ℕ) → Measures
    measured turns size room = record { turns = turns; size = size; room = room }

    pub measures_same : (n : ℕ) (f : Function) → measures_of prints n f ≡ measures_of follows_log n f
    unfolding measures_of
    measures_same zero f = refl
    measures_same (suc n) f = ap₂ (measured (turns_in limits f))
        (fun_ext (λ g. size_same (measures_of prints n) (measures_of follows_log n) (slice_get p.functions g)
        (measures_same n)))
        (fun_ext (λ g. room_same (measures_of prints n) (measures_of follows_log n) (slice_get p.functions g)
        (measures_same n)))

    abbrev frames : (n : ℕ) → BothCut log (calls_of prints n) (calls_of follows_log n) → Function → Frames log
    frames n h f = record {
      measures = measures_of prints n f;
      world = world;
      limits = limits;
      call = calls_of prints n;
      call_along = calls_of follows_log n;
      both = h;
    }

    called_same : (n : ℕ) → BothCut log (calls_of prints n) (calls_of follows_log n) → (f : Option Function)
        (vs : List ℤ) (base : ℕ) (s : Store) (o : Output)
        → CutsState log o.count (called_at (level_of prints n) (maybe_body f) vs base s o)
        (called_at (level_of follows_log n) (maybe_body f) vs base s o.count)
    called_same n h None vs base s o = refl
    called_same n h (Some f) vs base s o =
        subst (λ (m : Measures). CutsState log o.count (by_body (level_of prints n f) (body_of f) vs base s o)
        (by_body (record (level_of follows_log n f) { measures = m }) (body_of f) vs base s o.count))
        (measures_same n f) (body_goes (frames n h f) f vs base s o)

    pub calls_same : (n : ℕ) → BothCut log (calls_of prints n) (calls_of follows_log n)
    unfolding calls_of
    calls_same zero = tt
    calls_same (suc n) = λ f vs base s o. called_same n (calls_same n) (slice_get p.functions f) vs base s o

    -- ---- before `main` is called

    makes_quiet : (xs : List LastingObject) (d : Done Output) → Quiet log d (makes_all xs d)
        (makes_all xs (seen_as log d))
    makes_quiet [] d = record { count = refl; printed = refl; seen = refl }
    makes_quiet (x ∷ xs) d = let q = makes_quiet xs (makes x d) in record
        { count = q.count; printed = q.printed; seen = q.seen }

    meets_quiet : (ps : List ℕ) (d : Done Output) → Quiet log d (meets_all plain ps d)
        (meets_all (along log) ps (seen_as log d))
    meets_quiet [] d = record { count = refl; printed = refl; seen = refl }
    meets_quiet (q ∷ qs) d = let r = meets_quiet qs (meet plain q d) in record
        { count = r.count; printed = r.printed; seen = r.seen }

    abbrev bare_frames : Frames log
    bare_frames = record {
      measures = record { turns = limits.turns; size = λ g. 0; room = λ g. 0 };
      world = world;
      limits = limits;
      call = None;
      call_along = None;
      both = tt;
    }

    settings_go : (xs : List LastingSetting) → Goes log (sets_all xs (bare prints)) (sets_all xs (bare follows_log))
    settings_go [] = goes_stay log
    settings_go (x ∷ xs) = goes_onward log (sets_goes log x.setting (start x.place) bare_frames no_env 0 0 refl)
        (goes_running log (sets_all xs (bare prints)) (sets_all xs (bare follows_log)) (settings_go xs))

    prepared_goes : Goes log (prepared prints) (prepared follows_log)
    prepared_goes = goes_after log (meets_all plain p.met) (meets_all (along log) p.met)
        (λ d. running (sets_all p.settings (bare prints)) (makes_all p.objects d))
        (λ d. running (sets_all p.settings (bare follows_log)) (makes_all p.objects d))
        (meets_quiet p.met)
        (goes_after log (makes_all p.objects) (makes_all p.objects) (running (sets_all p.settings (bare prints)))
        (running (sets_all p.settings (bare follows_log)))
        (makes_quiet p.objects) (goes_running log _ _ (settings_go p.settings)))

    -- ---- `main`

    strings_quiet : (place n : ℕ) (d : Done Output) → Quiet log d (makes_strings limits place n d)
        (makes_strings limits place n (seen_as log d))
    strings_quiet place zero d = record { count = refl; printed = refl; seen = refl }
    strings_quiet place (suc n) d =
        let q = strings_quiet (suc place) n (zeroes (start place + limits.outside) 1
        (outside_object place (suc limits.outside) d)) in
        record { count = q.count; printed = q.printed; seen = q.seen }

    points_quiet : (a place n : ℕ) (d : Done Output) → Quiet log d (points_to a place n d)
        (points_to a place n (seen_as log d))
    points_quiet a place zero d = record { count = refl; printed = refl; seen = refl }
    points_quiet a place (suc n) d =
        let q = points_quiet (a + 8) (suc place) n (with_store (write 8 a (start place) d.store) d) in
        record { count = q.count; printed = q.printed; seen = q.seen }

    arguments_quiet : (place : ℕ) (d : Done Output) → Quiet log d (makes_arguments world limits place d)
        (makes_arguments world limits place (seen_as log d))
    arguments_quiet place d =
        let n = 8 * suc limits.arguments in
        let e = makes_strings limits (suc (suc place)) limits.arguments d in
        let f = zeroes (start (suc place)) n (outside_object (suc place) n e) in
        let q = strings_quiet (suc (suc place)) limits.arguments d in
        let r = points_quiet (start (suc place)) (suc (suc place)) (argument_count world limits place) f in
        record {
          count = r.count ∙ q.count;
          printed = r.printed ∙ q.printed;
          seen = ap (λ s. points_to (start (suc place)) (suc (suc place)) (argument_count world limits place)
              (zeroes (start (suc place)) n (outside_object (suc place) n s))) q.seen ∙ r.seen;
        }

    given_quiet : (b : Bool) (place : ℕ) (d : Done Output) → Quiet log d (given_arguments b prints place d)
        (given_arguments b follows_log place (seen_as log d))
    given_quiet true place d = quiet_behind log d (meets plain place (2 + limits.arguments) d) _
        (meets (along log) place (2 + limits.arguments) (seen_as log d))
        (makes_arguments world limits place) (quiet_meets log place (2 + limits.arguments) d)
        (arguments_quiet place (meets plain place (2 + limits.arguments) d))
    given_quiet false place d = record { count = refl; printed = refl; seen = refl }

    behind_where : (b e : Bool) (d r : Done ℕ) → cond b (onward (cond e (Some r) None)
        (λ x. Some (behind (along log) d x))) None ≡ cond (cond b e false) (Some (behind (along log) d r)) None
    behind_where true true d r = refl
    behind_where true false d r = refl
    behind_where false e d r = refl

    where_none : {A : Type 0} (b : Bool) (x : Option A) → x ≡ None → cond b x None ≡ None
    where_none true x e = e
    where_none false x e = refl

    behind_cut : (j : ℕ) (d : Done Output) (o : Option (Done Output)) (r : Option (Done ℕ)) → Counted log j d.out →
        CutsState log d.out.count o r
        → CutsState log j (onward o (λ x. Some (behind plain d x)))
        (where_on log j d.out (onward r (λ x. Some (behind (along log) (seen_as log d) x))))
    behind_cut j d None r c e = where_none (follows log j d.out.printed)
        (onward r (λ x. Some (behind (along log) (seen_as log d) x)))
        (ap (λ q. onward q (λ x. Some (behind (along log) (seen_as log d) x))) e)
    behind_cut j d (Some x) r c h = (
      omega (arith, c, h.0, length-append d.out.printed x.out.printed),
      ap (λ q. where_on log j d.out (onward q (λ x. Some (behind (along log) (seen_as log d) x)))) h.1
          ∙ behind_where (follows log j d.out.printed) (follows log d.out.count x.out.printed) (seen_as log d)
          (seen_as log x)
          ∙ ap (λ n. cond (cond (follows log j d.out.printed) (follows log n x.out.printed) false)
          (Some (behind (along log) (seen_as log d) (seen_as log x))) None) c
          ∙ ap (λ b. cond b (Some (behind (along log) (seen_as log d) (seen_as log x))) None)
          (sym (follows_joined log j d.out.printed x.out.printed)),
    )

    main_goes : (place : ℕ) → Goes log (main_call prints place) (main_call follows_log place)
    main_goes place = record {
      cuts = λ j d c. behind_cut j d _ _ c (called_same (depth - 1) (calls_same (depth - 1))
          (slice_get p.functions p.main)
          (main_arguments p.has_arguments world limits place) (place + entry_room p limits) d.store d.out);
    }

    called_main_goes : Goes log (called_main prints) (called_main follows_log)
    called_main_goes = goes_after log (given_arguments p.has_arguments prints (suc p.places))
        (given_arguments p.has_arguments follows_log (suc p.places))
        (main_call prints (suc p.places)) (main_call follows_log (suc p.places))
        (given_quiet p.has_arguments (suc p.places)) (main_goes (suc p.places))

    -- the end of the run that prints, cut at the log, is the end of the run along it
    pub end_cut : CutsState log 0 (end_of prints nothing_left) (end_of follows_log 0)
    end_cut = entered_cut log (λ d. onward (prepared prints d) (running (called_main prints)))
        (λ d. onward (prepared follows_log d) (running (called_main follows_log)))
        (initial world.byte) nothing_left (goes_onward log prepared_goes (goes_running log _ _ called_main_goes))

    -- ---- the log's end

    whole_prefix : (out log : List ℕ) → same_bytes out log ≡ cond (prefix out log) (nat_eq (length out) (length log))
        false
    unfolding prefix
    whole_prefix [] [] = grind arith
    whole_prefix [] (y ∷ ys) = grind arith
    whole_prefix (x ∷ xs) [] = refl
    whole_prefix (x ∷ xs) (y ∷ ys) = elim (nat_eq x y) as (λ b. (b && same_bytes xs ys) ≡ cond (b && prefix xs ys)
        (nat_eq (suc (length xs)) (suc (length ys))) false) [
          | true ↦ whole_prefix xs ys ∙ ap (λ b. cond (prefix xs ys) b false) (next (length xs) (length ys))
          | false ↦ refl
        ] where
          next : (n m : ℕ) → nat_eq n m ≡ nat_eq (suc n) (suc m)
          next n m = grind arith

    reached_where : (b : Bool) (d : Done ℕ) → has_reached log (cond b (Some d) None) ≡ is_within d.kind && cond b
        (nat_eq d.out (length log)) false
    reached_where true d = refl
    reached_where false d = and_false (is_within d.kind) where
      and_false : (b : Bool) → false ≡ (b && false)
      and_false true = refl
      and_false false = refl

    fits_cut : (o : Option (Done Output)) (r : Option (Done ℕ)) → CutsState log 0 o r → has_printed log o ≡
        has_reached log r
    fits_cut None r e = ap (has_reached log) (sym e)
    fits_cut (Some d) r h =
        ap (λ b. is_within d.kind && b) (whole_prefix d.out.printed log
        ∙ ap (λ b. cond b (nat_eq (length d.out.printed) (length log)) false) (sym (starts_prefix log d.out.printed))
        ∙ ap (λ n. cond (follows log 0 d.out.printed) (nat_eq n (length log)) false) (counted h.0))
        ∙ sym (reached_where (follows log 0 d.out.printed) (seen_as log d)) ∙ ap (has_reached log) (sym h.1)
      where
        counted : d.out.count ≡ 0 + length d.out.printed → length d.out.printed ≡ d.out.count
        counted e = omega (arith, e)

    -- a run fits the log exactly where the run along it reaches its end
    pub fits_same : fits log p world limits depth ≡ has_reached log (run_along log p world limits depth)
    fits_same = fits_cut (end_of prints nothing_left) (end_of follows_log 0) end_cut
