-- What may be asked of a query.
use Rattle.std.specs.Prelude.{◌≡◌, ◌≤◌, ℕ, List, length}
use Rattle.plain_data.specs.declared.fact.Fact.{Fact}
use Rattle.run_formula.specs.declared.watches.Watch.{Watch}
use Rattle.query_core.specs.declared.query.Query.{Query}
use Rattle.query_core.specs.declared.target.Target.TheVariants.{Having, Lacking}
use Rattle.query_core.specs.Claims.{IsAbout, IsWhole}

-- a query of these facts and watched variables
pub record IsAsked (fs : List Fact) (ws : List Watch) (q : Query) : Type 0 where
  pub whole : IsWhole q
  pub facts : (k : ℕ) → 1 ≤ k → k ≤ length fs → IsAbout q (Having k) × IsAbout q (Lacking k)
  pub watches : q.formula.watches ≡ ws

-- a query that is whole stays so, with its watched variables
pub record IsKept (old new : Query) : Type 0 where
  pub whole : IsWhole old → IsWhole new
  pub watches : new.formula.watches ≡ old.formula.watches
