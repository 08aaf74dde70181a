use Rattle.std.proofs.Common.{map, drop}
use Rattle.core_tree.specs.Codes.{code}
use Rattle.log_language.proofs.OnCodes.{CodesLead}
use Rattle.log_language.proofs.codes.+codes.Given as goal

abbrev pub invariant-tell_codes-loop-c : goal.invariant-tell_codes-loop-c
invariant-tell_codes-loop-c l = CodesLead (map code l.cs) (map code (drop l.c-index l.cs)) l.fn.told l.told
