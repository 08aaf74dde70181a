use Rattle.term_bank.proofs.BankLemmas.{grows_on}
use Rattle.term_bank.proofs.TermLemmas.{term_grown}
use Rattle.path_states.proofs.Growth.{number_grown}
use Rattle.path_steps.proofs.PointerTerms.{moves}
use Rattle.path_steps.proofs.operators.moved.Goals as goal

pub target-requires-clause-from : goal.target-requires-clause-from
target-requires-clause-from c = number_grown c.in_ok-start.ensures.grows c.args.from c.requires.from

pub target-requires-clause-count : goal.target-requires-clause-count
target-requires-clause-count c = number_grown c.in_ok-start.ensures.grows c.args.count c.requires.count

pub in_one_object-requires-clause-memory : goal.in_one_object-requires-clause-memory
in_one_object-requires-clause-memory c =
    term_grown _ _ _ c.args.memory (grows_on c.in_ok-start.ensures.grows c.in_ok-end.ensures.grows) c.requires.memory

pub in_one_object-requires-clause-left : goal.in_one_object-requires-clause-left
in_one_object-requires-clause-left c = term_grown _ _ _ c.in_ok-start.start c.in_ok-end.ensures.grows c.in_ok-start.ensures.term

pub is_near-requires : goal.is_near-requires
is_near-requires c =
    number_grown (grows_on c.in_ok-start.ensures.grows (grows_on c.in_ok-end.ensures.grows c.in_ok-inside.ensures.grows)) c.args.count
    c.requires.count

pub connect-requires-clause-right : goal.connect-requires-clause-right
connect-requires-clause-right c = term_grown _ _ _ c.in_ok-inside.inside c.in_ok-near.ensures.grows c.in_ok-inside.ensures.node

pub where_so-requires-clause-number : goal.where_so-requires-clause-number
where_so-requires-clause-number c = record {
  term = term_grown _ _ _ c.in_ok-end.end
      (grows_on c.in_ok-inside.ensures.grows (grows_on c.in_ok-near.ensures.grows c.in_ok-allowed.ensures.grows)) c.in_ok-end.ensures.term;
}

pub returns : goal.returns
returns c =
    moves c.args.bank.now c.address.new.bank c.target.new.bank c.in_one_object.new.bank c.is_near.new.bank c.connect.new.self c.where_so.new.bank
    c.args.memory c.in_ok-start.start c.in_ok-end.end c.in_ok-inside.inside c.in_ok-near.near c.in_ok-allowed.allowed c.args.at c.args.size
    c.args.from c.args.count c.args.back c.in_ok-operated.operated c.in_ok-start.ensures c.in_ok-end.ensures c.in_ok-inside.ensures
    c.in_ok-near.ensures c.in_ok-allowed.ensures (c.in_ok-operated.ensures (λ v. (v c.args.memory.index).store))
