use Rattle.term_bank.proofs.BankLemmas.{grows_on}
use Rattle.term_bank.proofs.TermLemmas.{term_grown}
use Rattle.path_calls.proofs.HeapLemmas.{freed_memory}
use Rattle.path_calls.proofs.heap.without_object.Goals as goal

pub object_number-requires : goal.object_number-requires
object_number-requires c = term_grown _ _ _ c.args.at c.in_ok-null.ensures.grows c.requires.at

pub ended-requires-clause-memory : goal.ended-requires-clause-memory
ended-requires-clause-memory c =
    term_grown _ _ _ c.args.memory (grows_on c.in_ok-null.ensures.grows c.in_ok-object.ensures.grows) c.requires.memory

pub choose-requires-clause-condition : goal.choose-requires-clause-condition
choose-requires-clause-condition c =
    term_grown _ _ _ c.in_ok-null.null (grows_on c.in_ok-object.ensures.grows c.in_ok-behind.ensures.grows) c.in_ok-null.ensures.term

pub choose-requires-clause-yes : goal.choose-requires-clause-yes
choose-requires-clause-yes c =
    term_grown _ _ _ c.args.memory
    (grows_on c.in_ok-null.ensures.grows (grows_on c.in_ok-object.ensures.grows c.in_ok-behind.ensures.grows)) c.requires.memory

pub returns : goal.returns
returns c =
    freed_memory c.args.bank.now c.is_zero.new.bank c.object_number.new.bank c.ended.new.bank c.choose.new.self c.args.memory c.args.at
    c.in_ok-null.null c.in_ok-object.object c.in_ok-behind.behind c.in_ok-node.node c.in_ok-null.ensures c.in_ok-object.ensures
    c.in_ok-behind.ensures c.in_ok-node.ensures
