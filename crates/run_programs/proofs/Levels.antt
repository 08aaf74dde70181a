-- Calls by how many levels are left.
use Rattle.std.proofs.Common.{◌≡◌, ◌≤◌, ◌+◌, ℕ, suc, ℤ, List, Some, None, sym, ap, ◌∙◌, subst, arith}
use Rattle.std.specs.Prelude.{slice_get}
use Rattle.plain_data.specs.declared.bounds.Bounds.{Bounds}
use Rattle.plain_data.specs.declared.run.Finish.TheVariants as finish
use Rattle.plain_data.specs.Worlds.{WorldTables}
use Rattle.c_store.specs.Store.{Store}
use Rattle.core_tree.specs.declared.program.Core.{Core}
use Rattle.core_tree.specs.declared.program.Function.{Function}
use Rattle.core_tree.specs.Callees.{body_call}
use Rattle.core_tree.specs.Programs.{Machine, measures_of, calls_of, called_at, level_with, by_body, body_of, body_room, maybe_body, room_by}
use Rattle.core_tree.specs.States.{Output, Done, plain, entered, finished}
use Rattle.core_running.specs.Running.{Low}
use Rattle.core_running.specs.Settings.{Setting, level}
use Rattle.run_core.specs.Scenes.{machine_of, setting_at, HoldsRooms}

pub fewer : (m : Machine Output) (n k : ℕ) (table : List (List ℕ)) → HoldsRooms m n table → k ≤ n → HoldsRooms m k table
fewer m n k table holds low = λ j less g. holds j (omega (arith, less, low)) g

no_calls : (m : Machine Output) (n : ℕ) → n ≡ 0 → calls_of m n ≡ None
unfolding calls_of
no_calls m n is = ap (calls_of m) is

-- no level is left
pub leaves : (p : Core) (w : WorldTables) (b : Bounds) (n at f : ℕ) (vs : List ℤ) (base : ℕ) (s : Store) (o : Output)
    (d : Done Output) → n ≡ 0 → d ≡ finished (finish.Left at) (entered plain s o)
    → body_call (calls_of (machine_of p w b) n) plain at f vs base s o ≡ Some d
leaves p w b n at f vs base s o d is ends =
    ap (λ c. body_call c plain at f vs base s o) (no_calls (machine_of p w b) n is) ∙ ap Some (sym ends)

-- one level less is left in the body of what is called
pub goes : (p : Core) (w : WorldTables) (b : Bounds) (n k at f : ℕ) (vs : List ℤ) (base : ℕ) (s : Store) (o : Output)
    (x : Function) (d : Done Output) (r : Setting) → k + 1 ≡ n → slice_get p.functions f ≡ Some x
    → r ≡ setting_at (machine_of p w b) k x → by_body (level r) (body_of x) vs base s o ≡ Some d → body_call (calls_of (machine_of p w b) n) plain at f vs base s o ≡ Some d
unfolding calls_of
goes p w b n k at f vs base s o x d r is there where_it_is runs =
    let m : Machine Output = machine_of p w b in
    let same : n ≡ suc k = omega (arith, is) in
    ap (λ i. body_call (calls_of m i) plain at f vs base s o) same
    ∙ ap (λ y. called_at (level_with m k (calls_of m k)) (maybe_body y) vs base s o) there
    ∙ ap (λ t. by_body (level t) (body_of x) vs base s o) (sym where_it_is) ∙ runs

pub low_below : (p : Core) (w : WorldTables) (b : Bounds) (n k f base : ℕ) (x g : Function) (r : Setting) → k + 1 ≡ n
    → slice_get p.functions f ≡ Some x → r ≡ setting_at (machine_of p w b) k x → Low base ((setting_at (machine_of p w b) n g).measures.room f)
    → Low base (body_room {O = Output} (body_of x) r.measures)
unfolding measures_of
low_below p w b n k f base x g r is there where_it_is low =
    let m : Machine Output = machine_of p w b in
    let same : n ≡ suc k = omega (arith, is) in
    subst (λ r. Low base r) (ap (λ i. (measures_of m i g).room f) same
    ∙ ap (λ y. room_by {O = Output} (measures_of m k) (maybe_body y)) there
    ∙ ap (λ t. body_room {O = Output} (body_of x) t.measures) (sym where_it_is)) low
