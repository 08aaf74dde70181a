use Rattle.std.proofs.Common.{ap}
use Rattle.plain_data.specs.declared.width.Width.TheVariants.{W64}
use Rattle.c_store.specs.Access.{is_live}
use Rattle.term_bank.specs.declared.sort.Sort.TheVariants.{Word, Memory}
use Rattle.term_bank.specs.declared.shape.Shape.TheVariants.{IsLive}
use Rattle.term_bank.specs.Values.{of_truth}
use Rattle.term_bank.proofs.TermLemmas.{term_grown}
use Rattle.mem_terms.proofs.TruthLemmas.{gives_last, word_at}
use Rattle.mem_terms.proofs.access.in_object.Goals as goal

pub returns : goal.returns
returns c =
    let a = c.args.address.index in
    let m = c.args.memory.index in
    let nothing = c.in_ok-nothing.nothing in
    let before = c.in_ok-nothing.ensures in
    gives_last c.args.bank.now c.word.new.self c.is_live.new.bank (IsLive m a nothing.index) c.is_live.result (λ v. of_truth (is_live (v m).store (v a).word 0)) before.grows c.is_live.ensures
    (λ e v model. ap (λ n. of_truth (is_live (v m).store (v a).word n)) (word_at c.word.new.self c.is_live.new.bank 0 nothing before.value c.is_live.ensures.grows e v model))

pub is_live-requires-clause-address : goal.is_live-requires-clause-address
is_live-requires-clause-address c = term_grown c.args.bank.now c.word.new.self (Word W64) c.args.address c.in_ok-nothing.ensures.grows c.requires.address

pub is_live-requires-clause-memory : goal.is_live-requires-clause-memory
is_live-requires-clause-memory c = term_grown c.args.bank.now c.word.new.self Memory c.args.memory c.in_ok-nothing.ensures.grows c.requires.memory
