use Rattle.term_bank.specs.Values.{Grows}
use Rattle.term_bank.specs.Banks.{IsBank}
use Rattle.flat_reads.specs.Answers.{IsReady, Settled, weights}
use Rattle.flat_reads.proofs.answers.answer.Given as goal

abbrev pub invariant-tasks : goal.invariant-tasks
invariant-tasks l = record {
  bank : IsBank l.bank;
  grows : Grows l.fn.bank l.bank;
  ready : IsReady l.bank l.answers l.tasks;
  settled : Settled l.answers l.tasks l.question;
}

abbrev pub decreases-tasks : goal.decreases-tasks
decreases-tasks l = weights l.tasks
