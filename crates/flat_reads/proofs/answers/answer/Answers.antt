use Rattle.std.proofs.Common.{◌∙◌, sym, subst}
use Rattle.term_bank.proofs.BankLemmas.{grows_on}
use Rattle.flat_reads.specs.Answers.{Settled}
use Rattle.flat_reads.proofs.answers.answer.Goals as goal

pub tasks-preserved : goal.tasks-preserved
tasks-preserved c =
    let h = c.tasks.invariant in
    let goes = c.in_ok-perform.ensures.goes in
    record {
      bank = c.in_ok-perform.ensures.bank;
      grows = grows_on h.grows c.in_ok-perform.ensures.grows;
      ready = goes.ready;
      settled = goes.settled c.args.question (subst (λ ts. Settled c.tasks.answers ts c.args.question) c.in-Some.ensures h.settled);
    }

pub returns-in_err-perform-clause-grows : goal.returns-in_err-perform-clause-grows
returns-in_err-perform-clause-grows c = grows_on c.tasks.invariant.grows c.in_err-perform.ensures.grows

pub returns-in-Some-known_answer-clause-node : goal.returns-in-Some-known_answer-clause-node
returns-in-Some-known_answer-clause-node c = c.tasks.invariant.ready.answers_are.are c.args.question c.in-Some-known_answer.node (sym c.known_answer.ensures ∙ c.in-Some-known_answer.is)
