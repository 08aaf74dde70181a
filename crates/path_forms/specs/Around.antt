-- What a walk runs in, in each environment, and where the objects are that have names.
use Rattle.std.specs.Prelude.{◌≡◌, ℕ, ◌+◌, ◌<◌, List, [], ◌∷◌, Option, Some, None}
use Rattle.c_store.specs.Store.{set_at}
use Rattle.c_means.specs.Parts.{Env, Limits}
use Rattle.c_means.specs.Statements.{no_env}
use Rattle.core_tree.specs.States.{Calls, Level, Measures, along}
use Rattle.term_bank.specs.Values.{Environment}
use Rattle.path_forms.specs.declared.frame.Placed.{Placed}

-- How many nodes and places things take, the log, the bounds, and what calls do in an environment; none where no level
-- of depth is left.
pub record Around : Type 0 where
  pub measures : Measures
  pub log : List ℕ
  pub limits : Limits
  pub calls : Environment → Option (Calls ℕ)

-- the core's level along the log, in the world of an environment
abbrev pub level_at : Around → Environment → Level ℕ
level_at x e = record {
  measures = x.measures;
  taking = along x.log;
  world = record { word = e.words; byte = e.bytes };
  limits = x.limits;
  call = x.calls e;
}

-- the objects that are known, those that were bound later behind the others
abbrev pub bound : ℕ → List Placed → Env → Env
bound base [] env = env
bound base (p ∷ ps) env = bound base ps (set_at p.at (base + p.offset) env)

abbrev pub env_at : List Placed → Environment → Env
env_at ps e = bound e.base ps no_env

-- the object that is declared here is so many places behind the base, within the room
pub record IsPlace (ps : List Placed) (room at offset : ℕ) : Type 0 where
  pub within : offset < room
  pub is : (e : Environment) → env_at ps e at ≡ e.base + offset

-- what was found last under a declaration's offset, if anything was
abbrev pub FoundIn : List Placed → ℕ → Option ℕ → Type 0
FoundIn ps at None = Unit {0}
FoundIn ps at (Some offset) = (e : Environment) → env_at ps e at ≡ e.base + offset
