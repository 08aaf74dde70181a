-- What functions do in a level of a tour is what they do in the core.
use Rattle.std.proofs.Common.{◌≡◌, ℕ, zero, suc, ℤ, List, length, Option, Some, None, refl, sym, ap, ap₂, ◌∙◌}
use Rattle.std.specs.Prelude.{slice_get, map, ◌+◌}
use Rattle.std.proofs.Math.Path.{fun_ext}
use Rattle.c_means.specs.Parts.{World}
use Rattle.c_store.specs.Store.{Store}
use Rattle.c_means.specs.Units.{silent}
use Rattle.core_tree.specs.declared.program.Function.{Function}
use Rattle.core_tree.specs.Programs.{body_of, body_size, body_room, maybe_body, size_by, room_by, by_body, frame, back, measures_of, turns_in, calls_of, called_at, level_with}
use Rattle.c_means.specs.Items as items
use Rattle.c_means.specs.Statements.{no_env}
use Rattle.core_tree.specs.Codes.{lived, in_turn, code}
use Rattle.core_tree.specs.States.{Calls, Done, Measures, Level, along, born, dead, entered, onward}
use Rattle.log_expr.specs.declared.table.Ends.{Ends}
use Rattle.log_expr.specs.Sound.{IsSound, run_at, but_for}
use Rattle.log_expr.specs.Tables.{ends_at}
use Rattle.term_bank.specs.Values.{Environment}
use Rattle.path_forms.specs.Around.{level_at}
use Rattle.summary_compose.specs.Summaries.{world_in, given}
use Rattle.log_expr.specs.Tours.{Tour}
use Rattle.path_summaries.specs.Tours.{machine_in, measures_in, does, known, around_in, types_of}
use Rattle.path_summaries.proofs.Passing.{passed_given}

-- ---- measures ask for no world

size_same : (below below' : Function → Measures) (o : Option Function) → ((f : Function) → below f ≡ below' f)
    → size_by {O = ℕ} below (maybe_body o) ≡ size_by {O = ℕ} below' (maybe_body o)
size_same below below' None h = refl
size_same below below' (Some f) h = ap (body_size {O = ℕ} (body_of f)) (h f)

room_same : (below below' : Function → Measures) (o : Option Function) → ((f : Function) → below f ≡ below' f)
    → room_by {O = ℕ} below (maybe_body o) ≡ room_by {O = ℕ} below' (maybe_body o)
room_same below below' None h = refl
room_same below below' (Some f) h = ap (body_room {O = ℕ} (body_of f)) (h f)

abbrev measured : ℕ → (ℕ → ℕ) → (ℕ → ℕ) → Measures
measured turns size room = record { turns = turns; size = size; room = room }

pub measures_alike : (t : Tour) (n : ℕ) (f : Function) (w : World) → measures_in t n f ≡ measures_of (machine_in t w) n f
unfolding measures_of
measures_alike t zero f w = refl
measures_alike t (suc n) f w = ap₂ (measured (turns_in t.limits f))
    (fun_ext (λ g. size_same (measures_of (machine_in t silent) n) (measures_of (machine_in t w) n) (slice_get t.core.functions g)
    (λ h. measures_alike t n h w)))
    (fun_ext (λ g. room_same (measures_of (machine_in t silent) n) (measures_of (machine_in t w) n) (slice_get t.core.functions g)
    (λ h. measures_alike t n h w)))

abbrev level_by : Tour → World → Option (Calls ℕ) → Measures → Level ℕ
level_by t w calls m = record { measures = m; taking = along t.log; world = w; limits = t.limits; call = calls }

pub level_alike : (t : Tour) (n : ℕ) (f : Function) (e : Environment)
    → level_at (around_in t n f) e ≡ level_with (machine_in t (world_in e)) n (known t n (world_in e)) f
level_alike t n f e = ap (level_by t (world_in e) (known t n (world_in e))) (measures_alike t n f (world_in e))

-- ---- calls

abbrev nowhere : Calls ℕ
nowhere f vs base s o = None

known_alike : (t : Tour) (n : ℕ) (w : World)
    → known t n w ≡ but_for (λ g o. ends_at t.ends g n o) nowhere (calls_of (machine_in t w) n)
unfolding calls_of
known_alike t zero w = refl
known_alike t (suc n) w = refl

-- ---- bodies

there_is : (o : Option Function) (f : Function) (l : Function → Level ℕ) (vs : List ℤ) (base : ℕ) (s : Store) (start : ℕ) → o ≡ Some f
    → by_body (l f) (body_of f) vs base s start ≡ called_at l (maybe_body o) vs base s start
there_is o f l vs base s start h = rw h refl

-- a body in a level, from a position of a key, does what the function does
pub body_does : (t : Tour) (n f : ℕ) (fn : Function) (e : Environment) (vs : List ℤ) (base : ℕ) (s : Store) (start : ℕ) (ends : Ends)
    → IsSound t.core t.log t.limits t.depth t.ends → slice_get t.core.functions f ≡ Some fn → ends_at t.ends f (suc n) start ≡ Some ends
    → by_body (level_at (around_in t n fn) e) (body_of fn) vs base s start ≡ does t n (world_in e) f vs base s start
body_does t n f fn e vs base s start ends sound is key =
    ap (λ l. by_body l (body_of fn) vs base s start) (level_alike t n fn e)
    ∙ there_is (slice_get t.core.functions f) fn (level_with (machine_in t (world_in e)) n (known t n (world_in e))) vs base s start is
    ∙ ap (λ c. run_at (machine_in t (world_in e)) n c f vs base s start) (known_alike t n (world_in e))
    ∙ sound.calls (world_in e) f n start ends key nowhere vs base s

-- a function does the same with its values converted
pub does_given : (t : Tour) (n f : ℕ) (fn : Function) (w : World) (vs : List ℤ) (base : ℕ) (s : Store) (o : ℕ)
    → slice_get t.core.functions f ≡ Some fn
    → does t n w f (given (types_of fn.parameters) vs) base s o ≡ does t n w f vs base s o
does_given t n f fn w vs base s o is =
    let l : Function → Level ℕ = level_with (machine_in t w) n (calls_of (machine_in t w) n) in
    sym (there_is (slice_get t.core.functions f) fn l (given (types_of fn.parameters) vs) base s o is)
    ∙ ap (λ d. by_passed l fn base d) (passed_given base fn.parameters vs (begun l fn base s o))
    ∙ there_is (slice_get t.core.functions f) fn l vs base s o is where
      begun : (Function → Level ℕ) → Function → ℕ → Store → ℕ → Done ℕ
      begun l fn base s o = born (l fn).taking (frame base fn.parameters) (entered (l fn).taking s o)

      by_passed : (Function → Level ℕ) → Function → ℕ → Done ℕ → Option (Done ℕ)
      by_passed l fn base d =
          onward (lived (in_turn (map code fn.items)) (l fn) (items.known (frame base fn.parameters) no_env) (base + length fn.parameters) d)
          (λ r. Some (back (dead (frame base fn.parameters) r)))
