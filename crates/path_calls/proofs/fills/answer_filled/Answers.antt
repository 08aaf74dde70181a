use Rattle.term_bank.proofs.BankLemmas.{grows_on}
use Rattle.term_bank.proofs.TermLemmas.{term_grown}
use Rattle.path_calls.proofs.FillLemmas.{replies_filled}
use Rattle.path_calls.proofs.fills.answer_filled.Goals as goal

pub not-requires-2 : goal.not-requires-2
not-requires-2 c = term_grown _ _ _ c.in_ok-filling.filling.writable c.in_ok-no_access.ensures.grows c.in_ok-filling.ensures.writable_term

pub answer_outside-requires : goal.answer_outside-requires
answer_outside-requires c =
    term_grown _ _ _ c.in_ok-filling.filling.memory (grows_on c.in_ok-no_access.ensures.grows c.in_ok-no_write.ensures.grows)
    c.in_ok-filling.ensures.memory_term

pub returns : goal.returns
returns c =
    replies_filled c.args.bounds.now c.args.fill c.args.answers c.args.place c.args.bank.now c.fill_buffer.new.bank c.not.new.self c.not-2.new.self
    c.answer_outside.new.bank c.args.arguments.now c.args.memory c.in_ok-no_access.no_access c.in_ok-no_write.no_write c.in_ok-filling.filling
    c.in_ok-reply.reply c.requires.counts c.in_ok-filling.ensures c.in_ok-no_access.ensures c.in_ok-no_write.ensures c.in_ok-reply.ensures
