use Rattle.term_bank.proofs.BankLemmas.{grows_on}
use Rattle.term_bank.proofs.TermLemmas.{term_grown}
use Rattle.path_calls.proofs.PlaceLemmas.{changes_made}
use Rattle.path_calls.proofs.outside_pointers.new_object.Goals as goal

pub made-requires-clause-memory : goal.made-requires-clause-memory
made-requires-clause-memory c =
    term_grown _ _ _ c.args.memory (grows_on c.in_ok-number.ensures.grows c.in_ok-length.ensures.grows) c.requires

pub made-requires-clause-object : goal.made-requires-clause-object
made-requires-clause-object c = term_grown _ _ _ c.in_ok-number.number c.in_ok-length.ensures.grows c.in_ok-number.ensures.term

pub returns : goal.returns
returns c =
    changes_made c.args.place c.args.size c.args.bank.now c.place_number.new.bank c.word.new.self c.made.new.bank c.args.memory c.in_ok-number.number
    c.in_ok-length.length c.in_ok-node.node c.in_ok-number.ensures c.in_ok-length.ensures c.in_ok-node.ensures
