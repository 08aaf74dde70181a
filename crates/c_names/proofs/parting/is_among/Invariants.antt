use Rattle.std.proofs.Common.{◌≡◌, drop}
use Rattle.c_means.specs.Names.{is_among}
use Rattle.c_names.proofs.parting.is_among.Given as goal

abbrev pub invariant-loop-binding : goal.invariant-loop-binding
invariant-loop-binding l = is_among l.word (drop l.binding-index l.bindings) ≡ is_among l.word l.bindings
