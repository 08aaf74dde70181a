-- Levels at which no call is left to be made, and initializers that print nothing there.
use Rattle.std.specs.Prelude.{◌≡◌, ℕ, ℤ, List, None}
use Rattle.plain_data.specs.declared.run.Finish.TheVariants as finish
use Rattle.c_store.specs.Store.{Store}
use Rattle.c_means.specs.Parts.{State, Env}
use Rattle.c_means.specs.Parts as c
use Rattle.c_means.specs.Calls.{finished}
use Rattle.c_means.specs.Initials.{Initial}
use Rattle.core_tree.specs.States.{Output, Level}

-- A level and one of the core at which every call is one too many, as where no function runs: it takes no place, adds
-- no node, and leaves the bounds.
pub record IsLast (l : c.Level) (k : Level Output) : Type 0 where
  pub size : (g : c.Site) → l.size g ≡ 0
  pub room : (g : c.Site) → l.room g ≡ 0
  pub leaves : (g : c.Site) (env : Env) (vs : List ℤ) (base : ℕ) (s : Store) (n : ℕ)
      → l.call g env vs base s n ≡ finished (finish.Left g.at) (c.entered s n)
  pub function_size : (f : ℕ) → k.measures.size f ≡ 0
  pub function_room : (f : ℕ) → k.measures.room f ≡ 0
  pub none_left : k.call ≡ None

-- there it takes no place, and what was printed stays as it was
pub record IsQuiet (x : Initial) : Type 0 where
  pub room : (l : c.Level) (k : Level Output) → IsLast l k → x.room l ≡ 0
  pub prints : (l : c.Level) (k : Level Output) → IsLast l k → (a : ℕ) (env : Env) (base : ℕ) (d : State)
      → (x.run a l env base d).printed ≡ d.printed
