use Rattle.std.proofs.Common.{◌≡◌, ◌++◌, drop}
use Rattle.assumptions.specs.Noted.{undefined_in}
use Rattle.assumptions.proofs.objects.undefined_in.Given as goal

abbrev pub invariant-notes : goal.invariant-notes
invariant-notes l =
    l.names ++ undefined_in l.notes (drop l.note-index l.notes) ≡ undefined_in l.notes l.notes
