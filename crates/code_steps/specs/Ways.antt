-- Where a run on its way arrives: whether it is at the label or case that it looks for.
use Rattle.std.specs.Prelude.{ℕ, ℤ, Bool, false, List}
use Rattle.std.specs.Str.{bytes_eq}
use Rattle.c_means.specs.declared.kind.Kind.{Kind}
use Rattle.c_means.specs.declared.kind.Kind.TheVariants as k
use Rattle.c_means.specs.Items.{same}

abbrev pub goes_to : List ℕ → Kind → Bool
goes_to name (k.Going label) = bytes_eq label name
goes_to name k.Running = false
goes_to name k.Breaking = false
goes_to name k.Continuing = false
goes_to name k.Returning = false
goes_to name (k.Choosing value) = false
goes_to name k.Defaulting = false
goes_to name (k.Ended finish) = false

abbrev pub chooses : ℤ → Kind → Bool
chooses value (k.Choosing wanted) = same wanted value
chooses value k.Running = false
chooses value k.Breaking = false
chooses value k.Continuing = false
chooses value k.Returning = false
chooses value (k.Going label) = false
chooses value k.Defaulting = false
chooses value (k.Ended finish) = false
