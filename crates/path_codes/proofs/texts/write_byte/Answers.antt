use Rattle.term_bank.proofs.BankLemmas.{grows_on}
use Rattle.term_bank.proofs.TermLemmas.{term_grown}
use Rattle.path_codes.proofs.Laid.{byte_written}
use Rattle.path_codes.proofs.texts.write_byte.Goals as goal

pub binary-requires-clause-left : goal.binary-requires-clause-left
binary-requires-clause-left c = term_grown _ _ _ c.args.from c.in_ok-more.ensures.grows c.requires.from

pub write-requires-clause-memory : goal.write-requires-clause-memory
write-requires-clause-memory c =
    term_grown _ _ _ c.args.memory (grows_on c.in_ok-more.ensures.grows (grows_on c.in_ok-to.ensures.grows c.in_ok-value.ensures.grows))
    c.requires.memory

pub write-requires-clause-address : goal.write-requires-clause-address
write-requires-clause-address c = term_grown _ _ _ c.in_ok-to.to c.in_ok-value.ensures.grows c.in_ok-to.ensures.node

pub returns : goal.returns
returns c =
    byte_written _ _ _ _ _ c.args.memory c.args.from c.in_ok-more.more c.in_ok-to.to c.in_ok-value.value c.in_ok-node.node c.args.at c.args.byte
    c.in_ok-more.ensures c.in_ok-to.ensures c.in_ok-value.ensures c.in_ok-node.ensures
