use Rattle.std.proofs.Common.{nat_eq, ap}
use Rattle.c_store.specs.Store.{offset_of}
use Rattle.term_bank.specs.declared.sort.Sort.TheVariants.{Truth}
use Rattle.term_bank.specs.Values.{of_truth}
use Rattle.mem_terms.proofs.TruthLemmas.{gives_on, number_at}
use Rattle.mem_terms.proofs.access.is_start.Goals as goal

pub returns : goal.returns
returns c =
    let a = c.args.address.index in
    let behind = c.in_ok-behind.behind in
    let before = c.in_ok-behind.ensures in
    let last = c.is_zero.ensures in
    gives_on c.args.bank.now c.offset.new.bank c.is_zero.new.bank Truth c.is_zero.result (λ v. of_truth (nat_eq (v behind.index).word 0)) (λ v. of_truth (nat_eq (offset_of (v a).word) 0)) before.grows last
    (λ e v m. ap (λ n. of_truth (nat_eq n 0)) (number_at c.offset.new.bank c.is_zero.new.bank (λ v. offset_of (v a).word) behind before.value last.grows e v m))
