use Rattle.std.proofs.Common.{◌≡◌, drop}
use Rattle.c_means.specs.Programs.{declares_some}
use Rattle.c_names.proofs.needs.is_needed.Given as goal

abbrev pub invariant-loop-binding : goal.invariant-loop-binding
invariant-loop-binding l =
    declares_some (drop l.binding-index l.names.declares) l.words ≡ declares_some l.names.declares l.words
