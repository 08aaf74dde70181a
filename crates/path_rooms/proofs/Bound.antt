-- Objects that have names, with those of a block behind them.
use Rattle.std.proofs.Common.{◌≡◌, ℕ, ◌+◌, List, [], ◌∷◌, ◌++◌, refl, ◌∙◌}
use Rattle.c_store.specs.Store.{set_at}
use Rattle.c_means.specs.Parts.{Env}
use Rattle.c_means.specs.Items.{known}
use Rattle.c_means.specs.Statements.{no_env}
use Rattle.term_bank.specs.Values.{Environment}
use Rattle.path_arrows.specs.declared.objects.Object.{Object}
use Rattle.path_arrows.specs.Objects.{made_at}
use Rattle.path_forms.specs.declared.frame.Placed.{Placed}
use Rattle.path_forms.specs.Around.{bound, env_at}
use Rattle.path_rooms.specs.Births.{placed_all}

bound_behind : (base : ℕ) (ps qs : List Placed) (env : Env) → bound base (ps ++ qs) env ≡ bound base qs (bound base ps env)
bound_behind base [] qs env = refl
bound_behind base (p ∷ ps) qs env = bound_behind base ps qs (set_at p.at (base + p.offset) env)

bound_known : (base : ℕ) (xs : List Object) (env : Env) → bound base (placed_all xs) env ≡ known (made_at base xs) env
bound_known base [] env = refl
bound_known base (x ∷ xs) env = bound_known base xs (set_at x.at (base + x.offset) env)

-- the objects of a block are known in it
pub env_within : (frame : List Placed) (xs : List Object) (e : Environment)
    → env_at (frame ++ placed_all xs) e ≡ known (made_at e.base xs) (env_at frame e)
env_within frame xs e = bound_behind e.base frame (placed_all xs) no_env ∙ bound_known e.base xs (env_at frame e)
