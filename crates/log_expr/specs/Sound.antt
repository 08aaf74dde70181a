-- Sound end tables. A key is a function, how many levels of calls are left with it, and the position of the log at
-- which it is called.
use Rattle.std.specs.Prelude.{◌≡◌, ℕ, suc, ℤ, List, Option, Some, None, IsSome}
use Rattle.c_means.specs.Parts.{World, Limits}
use Rattle.c_store.specs.Store.{Store}
use Rattle.core_tree.specs.declared.program.Core.{Core}
use Rattle.core_tree.specs.Programs.{Machine, machine, calls_of, called_at, level_with}
use Rattle.core_tree.specs.States.{along, Done, Calls}
use Rattle.log_expr.specs.declared.table.Ends.{Ends}
use Rattle.log_expr.specs.declared.table.Entry.{Entry}
use Rattle.log_expr.specs.Covers.{IsAmong}
use Rattle.log_expr.specs.Tables.{ends_at}

-- the one where there is an entry, else the other
abbrev pub where_known : {A : Type 0} → Option Ends → A → A → A
where_known None a b = b
where_known (Some e) a b = a

-- calls, but those without an entry do something else
abbrev pub but_for : (ℕ → ℕ → Option Ends) → Calls ℕ → Option (Calls ℕ) → Option (Calls ℕ)
but_for t other None = None
but_for t other (Some calls) = Some (λ f vs base s o. where_known (t f o) (calls f vs base s o) (other f vs base s o))

-- what a call of a function does with so many levels left, that of the function among them
abbrev pub run_at : Machine ℕ → ℕ → Option (Calls ℕ) → ℕ → List ℤ → ℕ → Store → ℕ → Option (Done ℕ)
run_at m n calls f vs base s start = called_at (level_with m n calls) (m.body f) vs base s start

-- A table is sound where it has an entry for the call of `main`; each run along the log of a key's body has its end in
-- the key's entry, however it ends; and each call that such a run makes has an entry, so that it is of no account what
-- calls without one do. Calls where no level is left have none.
pub record IsSound (p : Core) (log : List ℕ) (limits : Limits) (depth : ℕ) (rows : List (List Entry)) : Type 0 where
  pub begins : IsSome (ends_at rows p.main depth 0)
  pub ends : (world : World) (f n start : ℕ) (e : Ends) → ends_at rows f (suc n) start ≡ Some e
      → (vs : List ℤ) (base : ℕ) (s : Store)
      → let m = machine (along log) p world limits depth in
      IsAmong e.back e.ended (run_at m n (calls_of m n) f vs base s start)
  pub calls : (world : World) (f n start : ℕ) (e : Ends) → ends_at rows f (suc n) start ≡ Some e
      → (other : Calls ℕ) (vs : List ℤ) (base : ℕ) (s : Store)
      → let m = machine (along log) p world limits depth in
      run_at m n (but_for (λ g o. ends_at rows g n o) other (calls_of m n)) f vs base s start
      ≡ run_at m n (calls_of m n) f vs base s start
