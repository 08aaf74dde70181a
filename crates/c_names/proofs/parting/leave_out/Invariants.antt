use Rattle.std.proofs.Common.{◌≡◌, [], drop}
use Rattle.c_names.specs.Parting.{left_by}
use Rattle.c_names.proofs.parting.leave_out.Given as goal

abbrev pub invariant-loop-word : goal.invariant-loop-word
invariant-loop-word l = left_by l.bindings (drop l.word-index l.words) l.kept ≡ left_by l.bindings l.words []
