use Rattle.term_bank.proofs.BankLemmas.{grows_on}
use Rattle.term_bank.proofs.TermLemmas.{term_grown}
use Rattle.path_calls.proofs.ReplyLemmas.{replies_null}
use Rattle.path_calls.proofs.outside_pointers.or_null.Goals as goal

pub choose-requires-clause-condition : goal.choose-requires-clause-condition
choose-requires-clause-condition c = term_grown _ _ _ c.in_ok-given.given c.in_ok-null.ensures.grows c.in_ok-given.ensures.term

pub choose-requires-clause-yes : goal.choose-requires-clause-yes
choose-requires-clause-yes c =
    term_grown _ _ _ c.in_ok-first.first
    (grows_on c.in_ok-word.ensures.grows (grows_on c.in_ok-given.ensures.grows c.in_ok-null.ensures.grows)) c.in_ok-first.ensures.term

pub choose-requires-2-clause-condition : goal.choose-requires-2-clause-condition
choose-requires-2-clause-condition c =
    term_grown _ _ _ c.in_ok-given.given (grows_on c.in_ok-null.ensures.grows c.in_ok-node.ensures.grows) c.in_ok-given.ensures.term

pub choose-requires-2-clause-yes : goal.choose-requires-2-clause-yes
choose-requires-2-clause-yes c =
    term_grown _ _ _ c.in_ok-made.made
    (grows_on c.in_ok-first.ensures.grows (grows_on c.in_ok-word.ensures.grows (grows_on c.in_ok-given.ensures.grows
    (grows_on c.in_ok-null.ensures.grows c.in_ok-node.ensures.grows)))) c.in_ok-made.ensures.changes.term

pub choose-requires-2-clause-no : goal.choose-requires-2-clause-no
choose-requires-2-clause-no c =
    term_grown _ _ _ c.args.memory
    (grows_on c.in_ok-made.ensures.changes.grows (grows_on c.in_ok-first.ensures.grows (grows_on c.in_ok-word.ensures.grows
    (grows_on c.in_ok-given.ensures.grows (grows_on c.in_ok-null.ensures.grows c.in_ok-node.ensures.grows))))) c.requires

pub returns : goal.returns
returns c =
    replies_null c.args.bank.now c.object.new.bank c.first_address.new.bank c.outside_word.new.bank c.truth.new.bank c.word.new.self c.choose.new.self
    c.choose-2.new.self c.args.bounds.now.outside c.args.place c.args.pointee c.args.memory c.in_ok-made.made c.in_ok-first.first c.in_ok-null.null
    c.in_ok-node.node c.in_ok-memory.memory c.in_ok-given.given c.in_ok-word.word c.in_ok-made.ensures c.in_ok-first.ensures c.in_ok-word.ensures
    c.in_ok-given.ensures c.in_ok-null.ensures c.in_ok-node.ensures c.in_ok-memory.ensures
