use Rattle.term_bank.proofs.BankLemmas.{grows_on}
use Rattle.term_bank.proofs.TermLemmas.{term_grown}
use Rattle.path_calls.proofs.HeapLemmas.{allotted}
use Rattle.path_calls.proofs.heap.allot.Goals as goal

pub new_object-requires-clause-memory : goal.new_object-requires-clause-memory
new_object-requires-clause-memory c =
    term_grown _ _ _ c.args.memory
    (grows_on c.in_ok-number.ensures.grows (grows_on c.in_ok-word.ensures.grows c.in_ok-null.ensures.grows)) c.requires.memory

pub new_object-requires-clause-size : goal.new_object-requires-clause-size
new_object-requires-clause-size c =
    term_grown _ _ _ c.args.size
    (grows_on c.in_ok-number.ensures.grows (grows_on c.in_ok-word.ensures.grows c.in_ok-null.ensures.grows)) c.requires.size

pub choose-requires-clause-condition : goal.choose-requires-clause-condition
choose-requires-clause-condition c =
    term_grown _ _ _ c.in_ok-null.null
    (grows_on c.in_ok-object.ensures.grows (grows_on c.in_ok-zero.ensures.grows c.in_ok-first.ensures.grows)) c.in_ok-null.ensures.term

pub choose-requires-clause-yes : goal.choose-requires-clause-yes
choose-requires-clause-yes c = term_grown _ _ _ c.in_ok-zero.zero c.in_ok-first.ensures.grows c.in_ok-zero.ensures.node

pub choose-requires-2-clause-condition : goal.choose-requires-2-clause-condition
choose-requires-2-clause-condition c =
    term_grown _ _ _ c.in_ok-null.null
    (grows_on c.in_ok-object.ensures.grows (grows_on c.in_ok-zero.ensures.grows (grows_on c.in_ok-first.ensures.grows c.in_ok-node.ensures.grows)))
    c.in_ok-null.ensures.term

pub choose-requires-2-clause-yes : goal.choose-requires-2-clause-yes
choose-requires-2-clause-yes c =
    term_grown _ _ _ c.args.memory
    (grows_on c.in_ok-number.ensures.grows (grows_on c.in_ok-word.ensures.grows (grows_on c.in_ok-null.ensures.grows
    (grows_on c.in_ok-object.ensures.grows
    (grows_on c.in_ok-zero.ensures.grows (grows_on c.in_ok-first.ensures.grows c.in_ok-node.ensures.grows)))))) c.requires.memory

pub choose-requires-2-clause-no : goal.choose-requires-2-clause-no
choose-requires-2-clause-no c =
    term_grown _ _ _ c.in_ok-object.object
    (grows_on c.in_ok-zero.ensures.grows (grows_on c.in_ok-first.ensures.grows c.in_ok-node.ensures.grows)) c.in_ok-object.ensures.term

pub returns : goal.returns
returns c =
    allotted c.args.place c.args.bank.now c.place_number.new.bank c.world_word.new.self c.is_zero.new.bank c.new_object.new.bank c.word.new.self
    c.first_address.new.bank c.choose.new.self c.choose-2.new.self c.args.memory c.args.size c.in_ok-number.number c.in_ok-word.word c.in_ok-null.null
    c.in_ok-object.object c.in_ok-zero.zero c.in_ok-first.first c.in_ok-node.node c.in_ok-behind.behind c.args.zeroes c.in_ok-number.ensures
    c.in_ok-word.ensures c.in_ok-null.ensures c.in_ok-object.ensures c.in_ok-zero.ensures c.in_ok-first.ensures c.in_ok-node.ensures
    c.in_ok-behind.ensures
