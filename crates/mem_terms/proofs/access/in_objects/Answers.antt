use Rattle.plain_data.specs.declared.width.Width.TheVariants.{W64}
use Rattle.c_store.specs.Access.{is_live}
use Rattle.term_bank.specs.declared.sort.Sort.TheVariants.{Truth, Word, Memory}
use Rattle.term_bank.proofs.BankLemmas.{grows_on, stays}
use Rattle.term_bank.proofs.TermLemmas.{term_grown}
use Rattle.mem_terms.proofs.TruthLemmas.{truths_and}
use Rattle.mem_terms.proofs.access.in_objects.Goals as goal

pub returns : goal.returns
returns c =
    let m = c.args.memory.index in
    let one = c.in_ok-one.ensures in
    let other = c.in_ok-other.ensures in
    truths_and c.args.bank.now c.in_object-2.new.bank c.connect.new.self (λ v. is_live (v m).store (v c.args.left.index).word 0) (λ v. is_live (v m).store (v c.args.right.index).word 0) c.in_ok-one.one c.in_ok-other.other c.in_object.new.bank c.in_object-2.new.bank c.connect.result
    (grows_on one.grows other.grows) one.value other.grows other.value stays c.connect.ensures

pub in_object-requires-2-clause-memory : goal.in_object-requires-2-clause-memory
in_object-requires-2-clause-memory c = term_grown c.args.bank.now c.in_object.new.bank Memory c.args.memory c.in_ok-one.ensures.grows c.requires.memory

pub in_object-requires-2-clause-address : goal.in_object-requires-2-clause-address
in_object-requires-2-clause-address c = term_grown c.args.bank.now c.in_object.new.bank (Word W64) c.args.right c.in_ok-one.ensures.grows c.requires.right

pub connect-requires-clause-left : goal.connect-requires-clause-left
connect-requires-clause-left c = term_grown c.in_object.new.bank c.in_object-2.new.bank Truth c.in_ok-one.one c.in_ok-other.ensures.grows c.in_ok-one.ensures.node
