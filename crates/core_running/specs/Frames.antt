-- The objects in force, as the definition has them.
use Rattle.std.specs.Prelude.{ℕ, unwrap_or}
use Rattle.std.specs.BTreeMap.{get}
use Rattle.std.specs.Ordering.{nat_cmp}
use Rattle.c_means.specs.Parts.{Env}
use Rattle.core_running.specs.declared.frame.Frame.{Frame}

abbrev pub env_of : Frame → Env
env_of f at = unwrap_or (get nat_cmp f.numbers at) 0
