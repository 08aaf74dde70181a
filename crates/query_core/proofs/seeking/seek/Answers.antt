use Rattle.std.proofs.Common.{[], ◌∷◌, ap, sym, subst}
use Rattle.query_core.specs.Claims.{claimed}
use Rattle.query_core.specs.Replies.{Seeks}
use Rattle.query_core.proofs.ReplyLemmas.{seeks-sought}
use Rattle.query_core.proofs.seeking.seek.Goals as goal

pub returns-in_ok-reply-in-Known-clause-reply : goal.returns-in_ok-reply-in-Known-clause-reply
returns-in_ok-reply-in-Known-clause-reply c = λ b same.
    subst (λ x. Seeks c.args.solver.now b x c.args.conflicts c.in_ok-reply-in-Known.reply) (sym c.in-Known.is)
    (c.in_ok-reply-in-Known.ensures.reply b same)

pub returns-in_ok-reply-in-Unknown-clause-reply : goal.returns-in_ok-reply-in-Unknown-clause-reply
returns-in_ok-reply-in-Unknown-clause-reply c = λ b same.
    seeks-sought c.args.solver.now b c.args.bit.now (c.in-Unknown.literal ∷ []) c.args.conflicts c.in_ok-reply-in-Unknown.reply
    (ap (λ x. claimed x) c.in-Unknown.is) (c.in_ok-reply-in-Unknown.ensures.reply b same)
