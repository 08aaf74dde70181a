use Rattle.term_bank.proofs.BankLemmas.{grows_on}
use Rattle.term_bank.proofs.TermLemmas.{term_grown}
use Rattle.run_formula.proofs.ArgumentTerms.{pointer_chosen}
use Rattle.run_formula.proofs.arguments.pointer_of.Goals as goal

pub test-requires-clause-right : goal.test-requires-clause-right
test-requires-clause-right c = term_grown _ _ _ c.args.count c.in_ok-number.ensures.grows c.requires.count

pub choose-requires-clause-condition : goal.choose-requires-clause-condition
choose-requires-clause-condition c =
    term_grown _ _ _ c.in_ok-is_given.is_given (grows_on c.in_ok-string.ensures.grows c.in_ok-null.ensures.grows) c.in_ok-is_given.ensures.node

pub choose-requires-clause-yes : goal.choose-requires-clause-yes
choose-requires-clause-yes c = term_grown _ _ _ c.in_ok-string.string c.in_ok-null.ensures.grows c.in_ok-string.ensures.node

pub returns : goal.returns
returns c =
    let string = rw c.start_of.ensures at c.in_ok-string.ensures in
    pointer_chosen _ _ _ _ _ _ c.args.count c.in_ok-number.number c.in_ok-is_given.is_given c.in_ok-string.string c.in_ok-null.null
    c.in_ok-pointer.pointer c.args.index _ c.in_ok-number.ensures c.in_ok-is_given.ensures string c.in_ok-null.ensures c.in_ok-pointer.ensures
