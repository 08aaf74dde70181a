use Rattle.c_means.specs.Initials.{text_byte}
use Rattle.term_bank.proofs.TermLemmas.{term_grown}
use Rattle.path_codes.proofs.Laid.{lays_one}
use Rattle.path_codes.proofs.texts.lay_one.Goals as goal

pub lay_text-requires-clause-memory : goal.lay_text-requires-clause-memory
lay_text-requires-clause-memory c = term_grown _ _ _ _ c.in_ok-from.ensures.grows c.in_ok-operand.ensures.state.memory

pub lay_text-requires-clause-from : goal.lay_text-requires-clause-from
lay_text-requires-clause-from c = c.in_ok-from.ensures.term

pub returns : goal.returns
returns c =
    rw c.new.ensures
    (lays_one c.args.bank.now _ _ _ c.args.state c.pop.new.state c.in_ok-operand.operand c.in_ok-from.from c.in_ok-memory.memory c.args.size
    (text_byte c.args.text.now) c.in_ok-operand.ensures c.in_ok-from.ensures c.in_ok-memory.ensures)
