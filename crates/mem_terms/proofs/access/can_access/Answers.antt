use Rattle.std.proofs.Common.{nat_eq}
use Rattle.plain_data.specs.declared.width.Width.TheVariants.{W64}
use Rattle.c_store.specs.Access.{is_live}
use Rattle.term_bank.specs.declared.sort.Sort.TheVariants.{Truth, Word, Memory}
use Rattle.term_bank.proofs.BankLemmas.{grows_on, stays}
use Rattle.term_bank.proofs.TermLemmas.{term_grown}
use Rattle.mem_terms.proofs.TruthLemmas.{truths_or, live_is}
use Rattle.mem_terms.proofs.access.can_access.Goals as goal

pub returns : goal.returns
returns c =
    let m = c.args.memory.index in
    let a = c.args.address.index in
    let n = c.args.length.index in
    let one = c.in_ok-nothing.ensures in
    let other = c.in_ok-live.ensures in
    truths_or c.args.bank.now c.is_live.new.bank c.connect.new.self (λ v. nat_eq (v n).word 0) (λ v. is_live (v m).store (v a).word (v n).word) c.in_ok-nothing.nothing c.in_ok-live.live c.is_zero.new.bank c.is_live.new.bank c.connect.result
    (grows_on one.grows other.grows) one.value other.grows (live_is c.is_live.new.bank m a n c.in_ok-live.live other.value) stays c.connect.ensures

pub is_live-requires-clause-memory : goal.is_live-requires-clause-memory
is_live-requires-clause-memory c = term_grown c.args.bank.now c.is_zero.new.bank Memory c.args.memory c.in_ok-nothing.ensures.grows c.requires.memory

pub is_live-requires-clause-address : goal.is_live-requires-clause-address
is_live-requires-clause-address c = term_grown c.args.bank.now c.is_zero.new.bank (Word W64) c.args.address c.in_ok-nothing.ensures.grows c.requires.address

pub is_live-requires-clause-length : goal.is_live-requires-clause-length
is_live-requires-clause-length c = term_grown c.args.bank.now c.is_zero.new.bank (Word W64) c.args.length c.in_ok-nothing.ensures.grows c.requires.length

pub connect-requires-clause-left : goal.connect-requires-clause-left
connect-requires-clause-left c = term_grown c.is_zero.new.bank c.is_live.new.bank Truth c.in_ok-nothing.nothing c.in_ok-live.ensures.grows c.in_ok-nothing.ensures.node
