use Rattle.std.proofs.Common.{◌≡◌, drop}
use Rattle.c_means.specs.Programs.{declares_word}
use Rattle.c_names.proofs.needs.declares_word.Given as goal

abbrev pub invariant-loop-binding : goal.invariant-loop-binding
invariant-loop-binding l = declares_word l.word (drop l.binding-index l.bindings) ≡ declares_word l.word l.bindings
