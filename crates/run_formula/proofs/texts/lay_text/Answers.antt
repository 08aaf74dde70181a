use Rattle.std.proofs.Common.{rules}
use Rattle.c_means.specs.Initials.{text_byte}
use Rattle.term_bank.proofs.TermLemmas.{term_grown}
use Rattle.run_formula.proofs.Started.{laid}
use Rattle.run_formula.proofs.texts.lay_text.Goals as goal

pub lay_text-requires-clause-memory : goal.lay_text-requires-clause-memory
lay_text-requires-clause-memory c = term_grown _ _ _ c.args.memory c.in_ok-from.ensures.grows c.requires.memory

pub lay_text-requires-clause-from : goal.lay_text-requires-clause-from
lay_text-requires-clause-from c = c.in_ok-from.ensures.node

pub returns : goal.returns
returns c =
    laid _ _ _ c.args.memory c.in_ok-from.from c.in_ok-node.node c.args.place c.args.size (text_byte c.args.text.now) c.requires.place
    (search rules) (rw c.start_of.ensures at c.in_ok-from.ensures) c.in_ok-node.ensures
