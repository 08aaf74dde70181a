use Rattle.std.proofs.Common.{[], ap}
use Rattle.gates.specs.declared.bit.Bit.TheVariants.{Known}
use Rattle.query_core.specs.Claims.{claimed}
use Rattle.query_core.proofs.ReplyLemmas.{keeps-all, seeks-sought, seeks-false}
use Rattle.query_core.proofs.seeking.seek_known.Goals as goal

pub returns-then-known-clause-reply : goal.returns-then-known-clause-reply
returns-then-known-clause-reply c = λ b same.
    seeks-sought c.args.solver.now b (Known c.args.known) [] c.args.conflicts c.in_ok-reply.reply (ap (λ x. claimed (Known x)) c.if-known.true)
    (c.in_ok-reply.ensures.reply b same)

pub returns-clause-kept : goal.returns-clause-kept
returns-clause-kept c = keeps-all c.args.solver.now.kept

pub returns-clause-reply : goal.returns-clause-reply
returns-clause-reply c = λ b same.
    seeks-false c.args.solver.now b (Known c.args.known) c.args.conflicts c.args.number c.in_ok-refutation.refutation
    (ap (λ x. Known x) c.if-known.false) c.requires.number c.in_ok-refutation.ensures
