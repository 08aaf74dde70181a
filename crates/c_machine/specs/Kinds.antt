-- Whether a run is running, by where it stands.
use Rattle.std.specs.Prelude.{Bool, true, false}
use Rattle.c_means.specs.declared.kind.Kind.{Kind}
use Rattle.c_means.specs.declared.kind.Kind.TheVariants as kind

abbrev pub is_running : Kind → Bool
is_running kind.Running = true
is_running kind.Breaking = false
is_running kind.Continuing = false
is_running kind.Returning = false
is_running (kind.Going label) = false
is_running (kind.Choosing value) = false
is_running kind.Defaulting = false
is_running (kind.Ended finish) = false
