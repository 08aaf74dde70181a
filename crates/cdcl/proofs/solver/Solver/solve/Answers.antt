use Rattle.std.proofs.Common.{length, sym, ap, ◌∙◌}
use Rattle.cdcl.proofs.Resting.{rests-kept}
use Rattle.cdcl.proofs.solver.Solver.solve.Goals as goal

pub returns-in-Ok-clause-are_kept : goal.returns-in-Ok-clause-are_kept
returns-in-Ok-clause-are_kept g c = rests-kept c.reply.new.self c.len-self-inside.result c.in-Ok.ensures.resting (c.len-self-inside.ensures ∙ ap length (sym c.reply.ensures.given))
