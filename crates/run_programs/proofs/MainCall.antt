-- `main`: its places, what it is given, and what it leaves.
use Rattle.std.proofs.Common.{◌≡◌, ◌+◌, ◌-◌, ◌*◌, ℕ, zero, suc, ℤ, true, false, List, [], Option, Some, refl, sym, ap, ap₂, ◌∙◌, arith}
use Rattle.std.specs.Prelude.{slice_get}
use Rattle.plain_data.specs.declared.bounds.Bounds.{Bounds}
use Rattle.plain_data.specs.declared.run.Run.{Run}
use Rattle.plain_data.specs.Worlds.{WorldTables}
use Rattle.c_means.specs.Parts.{World}
use Rattle.c_means.specs.Units.{world_of, limits_of}
use Rattle.c_store.specs.Store.{start}
use Rattle.core_tree.specs.declared.program.Core.{Core}
use Rattle.core_tree.specs.declared.program.Function.{Function}
use Rattle.core_tree.specs.Programs.{Machine, by_body, body_of, behind, maybe_body, maybe_ran, called_at, level_of, called_main, room_of, main_needs, body_room}
use Rattle.core_tree.specs.Programs.{makes_strings, makes_arguments, given_arguments, main_arguments, entry_room, zeroes, outside_object, points_to, argument_count}
use Rattle.core_tree.specs.States.{Output, Done, plain, meet, meets, onward}
use Rattle.core_running.specs.Settings.{level}
use Rattle.run_core.specs.Scenes.{machine_of, setting_at, room_over}
use Rattle.run_programs.specs.Places.{silent_machine}
use Rattle.run_starts.specs.Bounds.{limits_in}

pub met_none : (p n : ℕ) (d : Done Output) → n ≡ 0 → d ≡ meets plain p n d
met_none p n d is = sym (ap (λ i. meets plain p i d) is)

pub met_more : (p n : ℕ) (d e f : Done Output) → (n ≡ 0 → ⊥) → e ≡ meet plain p d
    → f ≡ meets plain (p + 1) (n - 1) e → f ≡ meets plain p n d
met_more p zero d e f some is more = absurd (some refl)
met_more p (suc n) d e f some is more =
    let one : suc n - 1 ≡ n = omega arith in
    let next : p + 1 ≡ suc p = omega arith in
    more ∙ ap (λ k. meets plain (p + 1) k e) one ∙ ap (λ q. meets plain q n e) next ∙ ap (meets plain (suc p) n) is

strings : (b : Bounds) (p n : ℕ) (d : Done Output)
    → makes_strings (limits_in b.outside b.arguments) p n d ≡ makes_strings (limits_of b) p n d
strings b p zero d = refl
strings b p (suc n) d =
    strings b (suc p) n (zeroes (start p + b.outside) 1 (outside_object p (suc b.outside) d))

arguments : (world : World) (b : Bounds) (p : ℕ) (d : Done Output)
    → makes_arguments world (limits_in b.outside b.arguments) p d ≡ makes_arguments world (limits_of b) p d
arguments world b p d =
    let n : ℕ = 8 * suc b.arguments in
    ap (λ e. points_to (start (suc p)) (suc (suc p)) (argument_count world (limits_of b) p)
    (zeroes (start (suc p)) n (outside_object (suc p) n e))) (strings b (suc (suc p)) b.arguments d)

pub given_none : (p : Core) (w : WorldTables) (b : Bounds) (place : ℕ) (d : Done Output) → p.has_arguments ≡ false
    → d ≡ given_arguments p.has_arguments (machine_of p w b) place d
given_none p w b place d is = sym (ap (λ h. given_arguments h (machine_of p w b) place d) is)

pub given : (p : Core) (w v : WorldTables) (b : Bounds) (place n : ℕ) (d e f : Done Output) → p.has_arguments ≡ true
    → world_of w ≡ world_of v → n ≡ 2 + b.arguments → e ≡ meets plain place n d
    → f ≡ makes_arguments (world_of v) (limits_in b.outside b.arguments) place e
    → f ≡ given_arguments p.has_arguments (machine_of p w b) place d
given p w v b place n d e f is same many met made =
    made ∙ arguments (world_of v) b place e
    ∙ ap (λ world. makes_arguments world (limits_of b) place e) (sym same)
    ∙ ap (makes_arguments (world_of w) (limits_of b) place) (met ∙ ap (λ i. meets plain place i d) many)
    ∙ sym (ap (λ h. given_arguments h (machine_of p w b) place d) is)

abbrev whole : (p : Core) (w : WorldTables) (b : Bounds) → Option Function → ℕ → List ℤ → ℕ → Done Output → Option Run
whole p w b y n vs base e =
    maybe_ran (onward (called_at (level_of (machine_of p w b) n) (maybe_body y) vs base e.store e.out)
    (λ r. Some (behind plain e r)))

pub main_is : (p : Core) (w : WorldTables) (b : Bounds) (x : Function) (n place base : ℕ) (vs : List ℤ)
    (d e : Done Output) (r : Run) → slice_get p.functions p.main ≡ Some x → n ≡ b.depth - 1 → place ≡ p.places + 1
    → base ≡ place + entry_room p (limits_of b) → vs ≡ main_arguments p.has_arguments (world_of w) (limits_of b) place
    → e ≡ given_arguments p.has_arguments (machine_of p w b) place d
    → maybe_ran (onward (by_body (level (setting_at (machine_of p w b) n x)) (body_of x) vs base e.store e.out)
    (λ r. Some (behind plain e r))) ≡ Some r
    → maybe_ran (called_main (machine_of p w b) d) ≡ Some r
main_is p w b x n place base vs d e r there levels first behind_them values gives runs =
    let m : Machine Output = machine_of p w b in
    let q : ℕ = suc p.places in
    let at : place ≡ q = omega (arith, first) in
    let arguments : ℕ → List ℤ = λ i. main_arguments p.has_arguments (world_of w) (limits_of b) i in
    let given : ℕ → Done Output = λ i. given_arguments p.has_arguments m i d in
    ap (λ i. whole p w b (slice_get p.functions p.main) (b.depth - 1) (arguments i) (i + entry_room p (limits_of b)) (given i))
    (sym at)
    ∙ ap (λ y. whole p w b y (b.depth - 1) (arguments place) (place + entry_room p (limits_of b)) (given place)) there
    ∙ ap (λ i. whole p w b (Some x) i (arguments place) (place + entry_room p (limits_of b)) (given place)) (sym levels)
    ∙ ap (λ us. whole p w b (Some x) n us (place + entry_room p (limits_of b)) (given place)) (sym values)
    ∙ ap (λ i. whole p w b (Some x) n vs i (given place)) (sym behind_them)
    ∙ ap (whole p w b (Some x) n vs base) (sym gives) ∙ runs

-- ---- rooms

in_silence : (p : Core) (w : WorldTables) (b : Bounds) → w ≡ record { words = []; bytes = [] }
    → machine_of p w b ≡ silent_machine p b
in_silence p w b is = ap (λ w. machine_of p w b) is

empty : (w : WorldTables) → w.words ≡ [] → w.bytes ≡ [] → w ≡ record { words = []; bytes = [] }
empty w words bytes = ap₂ (λ x y. record { words = x; bytes = y }) words bytes

grouped : (x y z : ℕ) → (x + y) + z ≡ x + (y + z)
grouped x y z = omega arith

pub whole_room : (p : Core) (w : WorldTables) (b : Bounds) (x : Function) (n own inside r : ℕ) → w.words ≡ []
    → w.bytes ≡ [] → own ≡ p.places + entry_room p (limits_of b) → slice_get p.functions p.main ≡ Some x
    → n ≡ b.depth - 1 → inside ≡ room_over (machine_of p w b) n x → r ≡ own + inside
    → r ≡ room_of (silent_machine p b)
whole_room p w b x n own inside r words bytes has there levels is sum =
    sum ∙ ap₂ (λ a c. a + c) has
    (is ∙ ap₂ (λ m i. room_over m i x) (in_silence p w b (empty w words bytes)) levels
    ∙ sym (ap (λ o. main_needs body_room (silent_machine p b) (maybe_body o)) there))
    ∙ grouped p.places (entry_room p (limits_of b)) (main_needs body_room (silent_machine p b)
    (maybe_body (slice_get p.functions p.main)))
