-- The ends of functions.
use Rattle.std.specs.Prelude.{◌≡◌, ◌⊎◌, ℕ, suc, cond, List, Some, IfSome, slice_get}
use Rattle.plain_data.specs.declared.bounds.Bounds.{Bounds}
use Rattle.c_means.specs.declared.kind.Kind.{Kind}
use Rattle.c_means.specs.Units.{limits_of}
use Rattle.core_tree.specs.declared.program.Core.{Core}
use Rattle.core_tree.specs.declared.program.Function.{Function}
use Rattle.core_tree.specs.Programs.{turns_in}
use Rattle.log_expr.specs.declared.flow.Flow.{Flow}
use Rattle.log_expr.specs.declared.place.Place.{Place}
use Rattle.log_expr.specs.declared.table.Ends.{Ends}
use Rattle.log_expr.specs.declared.table.Entry.{Entry}
use Rattle.log_expr.specs.Below.{Site, Extends}
use Rattle.log_expr.specs.Covers.{Whole, CoversBody}
use Rattle.log_expr.specs.Flows.{Wider, place, is_ended}
use Rattle.log_expr.specs.Tables.{ends_at, known_at, Grows}

-- behind a body: what ended stays so, and every other run comes back
pub record IsEndOf (s : Flow) (e : Ends) : Type 0 where
  pub holds : (kind : Kind) → Wider (place s kind) (cond (is_ended kind) e.ended e.back)

-- a function's body was walked, from where it is called
pub record WalksBody (x : Site) (rows rows' : List (List Entry)) (fn : Function) (start : ℕ) (e : Ends) : Type 0 where
  pub extends_ : Extends x.whole rows rows'
  pub covers : x.turns ≡ turns_in x.whole.limits fn → CoversBody x.whole (known_at rows' x.left) fn start e

-- a function that is called there was walked, one level below
pub record WalksCall (x : Site) (rows rows' : List (List Entry)) (f start : ℕ) (e : Ends) : Type 0 where
  pub extends_ : Extends x.whole rows rows'
  pub covers : (n : ℕ) → x.left ≡ suc n
      → IfSome (slice_get x.whole.core.functions f) (λ fn. CoversBody x.whole (known_at rows' n) fn start e)

-- ---- where a function runs

abbrev pub whole_of : Core → List ℕ → Bounds → Whole
whole_of p log b = record { core = p; log = log; limits = limits_of b }

abbrev pub site_of : Place → Site
site_of p = record { whole = whole_of p.core.now p.log.now p.bounds.now; turns = p.turns; left = p.left }

-- a key's ends were put in, or were there
pub record PutsOnce (f d start : ℕ) (ends : Ends) (old now : List (List Entry)) (e : Ends) : Type 0 where
  pub grows : Grows old now
  pub there : ends_at now f d start ≡ Some e
  pub others : (g c i : ℕ) (h : Ends) → ends_at now g c i ≡ Some h
      → (ends_at old g c i ≡ Some h) ⊎ ((g ≡ f) × (c ≡ d) × (i ≡ start) × (h ≡ ends))
