use Rattle.term_bank.proofs.BankLemmas.{node_grown}
use Rattle.std.proofs.Common.{subst}
use Rattle.plain_data.specs.declared.width.Width.TheVariants.{W64}
use Rattle.term_bank.specs.Shapes.{word, memory as memory_node}
use Rattle.flat_reads.specs.Choices.{Asks}
use Rattle.flat_reads.proofs.AnswerLemmas.{answers_grown}
use Rattle.flat_reads.proofs.WordLemmas.{byte_gives}
use Rattle.flat_reads.proofs.words.byte_at.Goals as goal

pub answer-requires-clause-answers : goal.answer-requires-clause-answers
answer-requires-clause-answers c = answers_grown c.args.bank.now c.place_at.new.bank c.args.answers.now c.in_ok-place.ensures.grows c.requires.answers

pub returns-in-Asked-clause-byte : goal.returns-in-Asked-clause-byte
returns-in-Asked-clause-byte c =
    let e = c.in_ok-place.ensures in
    let place = c.in_ok-place.place in
    let mid = c.place_at.new.bank in
    byte_gives c.args.bank.now mid c.answer.new.bank c.args.memory c.args.address c.args.far place c.in-Asked.question c.answer.result e.grows c.answer.ensures.grows e.bank c.answer.ensures.bank e.node e.value e.flat
    (subst (Asks mid c.args.memory (word W64 place.index)) c.in-Asked.is c.asked.ensures) c.answer.ensures.node

pub asked-requires-clause-memory : goal.asked-requires-clause-memory
asked-requires-clause-memory c = node_grown c.args.bank.now c.place_at.new.bank (memory_node c.args.memory) c.in_ok-place.ensures.grows c.requires.memory
