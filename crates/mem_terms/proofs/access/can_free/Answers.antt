use Rattle.std.proofs.Common.{nat_eq}
use Rattle.std.specs.Prelude.{◌&&◌}
use Rattle.plain_data.specs.declared.width.Width.TheVariants.{W64}
use Rattle.c_store.specs.Store.{object_of, offset_of}
use Rattle.c_store.specs.Access.{is_heap}
use Rattle.term_bank.specs.declared.sort.Sort.TheVariants.{Truth, Word, Memory}
use Rattle.term_bank.proofs.BankLemmas.{grows_on, stays}
use Rattle.term_bank.proofs.TermLemmas.{term_grown}
use Rattle.mem_terms.proofs.TruthLemmas.{truths_or}
use Rattle.mem_terms.proofs.access.can_free.Goals as goal

pub returns : goal.returns
returns c =
    let m = c.args.memory.index in
    let a = c.args.address.index in
    let one = c.in_ok-null.ensures in
    let other = c.in_ok-allocated.ensures in
    truths_or c.args.bank.now c.is_allocated.new.bank c.connect.new.self (λ v. nat_eq (v a).word 0) (λ v. is_heap ((v m).store.objects (object_of (v a).word)) && nat_eq (offset_of (v a).word) 0) c.in_ok-null.null c.in_ok-allocated.allocated c.is_zero.new.bank c.is_allocated.new.bank c.connect.result
    (grows_on one.grows other.grows) one.value other.grows other.value stays c.connect.ensures

pub is_allocated-requires-clause-address : goal.is_allocated-requires-clause-address
is_allocated-requires-clause-address c = term_grown c.args.bank.now c.is_zero.new.bank (Word W64) c.args.address c.in_ok-null.ensures.grows c.requires.address

pub connect-requires-clause-left : goal.connect-requires-clause-left
connect-requires-clause-left c = term_grown c.is_zero.new.bank c.is_allocated.new.bank Truth c.in_ok-null.null c.in_ok-allocated.ensures.grows c.in_ok-null.ensures.node

pub is_allocated-requires-clause-memory : goal.is_allocated-requires-clause-memory
is_allocated-requires-clause-memory c =
    term_grown c.args.bank.now c.is_zero.new.bank Memory c.args.memory c.in_ok-null.ensures.grows c.requires.memory
