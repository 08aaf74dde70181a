use Rattle.std.proofs.Common.{take}
use Rattle.summary_compose.specs.Composing.{Resumes}
use Rattle.summary_compose.proofs.composing.resume.Given as goal

abbrev pub invariant-loop-end : goal.invariant-loop-end
invariant-loop-end l = Resumes l.initial.bank l.bank l.site l.caller (take l.end-index l.ends) l.walked
