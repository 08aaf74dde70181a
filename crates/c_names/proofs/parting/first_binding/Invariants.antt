use Rattle.std.proofs.Common.{◌≡◌, drop}
use Rattle.c_names.specs.Parting.{first_binding}
use Rattle.c_names.proofs.parting.first_binding.Given as goal

abbrev pub invariant-loop-binding : goal.invariant-loop-binding
invariant-loop-binding l = first_binding l.word (drop l.binding-index l.bindings) ≡ first_binding l.word l.bindings
