-- The bounds that the arguments of `main` ask for.
use Rattle.std.specs.Prelude.{ℕ}
use Rattle.c_means.specs.Parts.{Limits}

abbrev pub limits_in : ℕ → ℕ → Limits
limits_in outside most = record { turns = 0; heap = 0; outside = outside; texts = 0; arguments = most }
