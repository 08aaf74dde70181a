use Rattle.std.proofs.Common.{nat_eq}
use Rattle.std.specs.Prelude.{not}
use Rattle.plain_data.specs.declared.width.Width.TheVariants.{W64}
use Rattle.c_store.specs.Store.{object_of}
use Rattle.c_store.specs.Access.{is_literal}
use Rattle.term_bank.specs.declared.sort.Sort.TheVariants.{Truth, Word, Memory}
use Rattle.term_bank.proofs.BankLemmas.{grows_on, stays}
use Rattle.term_bank.proofs.TermLemmas.{term_grown}
use Rattle.mem_terms.proofs.TruthLemmas.{truths_or}
use Rattle.mem_terms.proofs.access.can_write.Goals as goal

pub returns : goal.returns
returns c =
    let m = c.args.memory.index in
    let a = c.args.address.index in
    let n = c.args.length.index in
    let one = c.in_ok-nothing.ensures in
    let other = c.in_ok-other.ensures in
    truths_or c.args.bank.now c.no_literal.new.bank c.connect.new.self (λ v. nat_eq (v n).word 0) (λ v. not (is_literal ((v m).store.objects (object_of (v a).word)))) c.in_ok-nothing.nothing c.in_ok-other.other c.is_zero.new.bank c.no_literal.new.bank c.connect.result
    (grows_on one.grows other.grows) one.value other.grows other.value stays c.connect.ensures

pub no_literal-requires-clause-memory : goal.no_literal-requires-clause-memory
no_literal-requires-clause-memory c = term_grown c.args.bank.now c.is_zero.new.bank Memory c.args.memory c.in_ok-nothing.ensures.grows c.requires.memory

pub no_literal-requires-clause-address : goal.no_literal-requires-clause-address
no_literal-requires-clause-address c = term_grown c.args.bank.now c.is_zero.new.bank (Word W64) c.args.address c.in_ok-nothing.ensures.grows c.requires.address

pub connect-requires-clause-left : goal.connect-requires-clause-left
connect-requires-clause-left c = term_grown c.is_zero.new.bank c.no_literal.new.bank Truth c.in_ok-nothing.nothing c.in_ok-other.ensures.grows c.in_ok-nothing.ensures.node
