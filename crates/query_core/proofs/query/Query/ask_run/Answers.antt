use Rattle.std.proofs.Common.{ap, refl, ◌∙◌}
use Rattle.cdcl.specs.Stores.{Store}
use Rattle.query_core.specs.declared.query.Query.{Query}
use Rattle.query_core.proofs.KeepLemmas.{goes-on}
use Rattle.query_core.proofs.ReplyLemmas.{run-replies}
use Rattle.query_core.proofs.query.Query.ask_run.Goals as goal

pub returns-clause-reply : goal.returns-clause-reply
returns-clause-reply c =
    run-replies c.args.self.now c.args.target c.bit_of_target-bit.result c.args.conflicts c.in_ok-reply.reply c.requires.run c.requires.target
    c.bit_of_target-bit.ensures (c.in_ok-reply.ensures.reply c.args.self.now.blasted refl)

-- with this solver
abbrev over : Query → Store → Query
over q s = record { blasted = q.blasted; solver = s; last = q.last; formula = q.formula; bank = q.bank; others = q.others }

pub returns-clause-goes : goal.returns-clause-goes
returns-clause-goes c =
    let s = c.seek.new.solver in
    goes-on c.args.self.now (over c.args.self.now s)
    (ap (λ clauses. over c.args.self.now (record { clauses = clauses; kept = s.kept })) c.seek.ensures.clauses)

pub returns-in_err-reply-clause-goes : goal.returns-in_err-reply-clause-goes
returns-in_err-reply-clause-goes c =
    let s = c.seek.new.solver in
    goes-on c.args.self.now (over c.args.self.now s)
    (ap (λ clauses. over c.args.self.now (record { clauses = clauses; kept = s.kept })) c.seek.ensures.clauses)
