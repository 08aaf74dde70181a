use Rattle.std.proofs.Common.{arith, suc}
use Rattle.c_store.specs.Store.{start}
use Rattle.term_bank.proofs.BankLemmas.{grows_on}
use Rattle.term_bank.proofs.TermLemmas.{term_grown}
use Rattle.run_formula.proofs.ArgumentTerms.{pointed}
use Rattle.run_formula.proofs.arguments.point.Goals as goal

pub write-requires-clause-memory : goal.write-requires-clause-memory
write-requires-clause-memory c =
    term_grown _ _ _ c.args.memory (grows_on c.in_ok-pointer.ensures.grows c.in_ok-to.ensures.grows) c.requires.memory

pub write-requires-clause-value : goal.write-requires-clause-value
write-requires-clause-value c = term_grown _ _ _ c.in_ok-pointer.pointer c.in_ok-to.ensures.grows c.in_ok-pointer.ensures.term

pub returns : goal.returns
returns c =
    let to = rw c.start_of.ensures at c.in_ok-to.ensures in
    pointed _ _ _ _ c.args.memory c.args.count c.in_ok-pointer.pointer c.in_ok-to.to c.in_ok-node.node (start c.args.array) (suc c.args.array)
    c.args.index _ (omega (arith, c.requires.array, c.requires.index)) (omega arith) c.in_ok-pointer.ensures to c.in_ok-node.ensures
