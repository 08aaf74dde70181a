use Rattle.plain_data.specs.declared.width.Width.TheVariants.{W64}
use Rattle.c_store.specs.Store.{object_of}
use Rattle.term_bank.specs.declared.sort.Sort.TheVariants.{Word}
use Rattle.term_bank.proofs.BankLemmas.{grows_on, stays}
use Rattle.term_bank.proofs.TermLemmas.{term_grown}
use Rattle.mem_terms.proofs.TruthLemmas.{numbers_tested}
use Rattle.mem_terms.proofs.access.of_one_number.Goals as goal

pub returns : goal.returns
returns c =
    let one = c.in_ok-one.ensures in
    let other = c.in_ok-other.ensures in
    numbers_tested c.args.bank.now c.object_number-2.new.bank c.test.new.self (λ v. object_of (v c.args.left.index).word) (λ v. object_of (v c.args.right.index).word) c.in_ok-one.one c.in_ok-other.other c.object_number.new.bank c.object_number-2.new.bank c.test.result
    (grows_on one.grows other.grows) one.value other.grows other.value stays c.test.ensures

pub test-requires-clause-left : goal.test-requires-clause-left
test-requires-clause-left c = term_grown c.object_number.new.bank c.object_number-2.new.bank (Word W64) c.in_ok-one.one c.in_ok-other.ensures.grows c.in_ok-one.ensures.node

pub object_number-requires-2 : goal.object_number-requires-2
object_number-requires-2 c =
    term_grown c.args.bank.now c.object_number.new.bank (Word W64) c.args.right c.in_ok-one.ensures.grows c.requires.right
