use Rattle.std.proofs.Common.{Bool, nat_eq, ap}
use Rattle.std.specs.Prelude.{◌&&◌}
use Rattle.plain_data.specs.declared.width.Width.TheVariants.{W64}
use Rattle.c_store.specs.declared.object.ObjectKind.TheVariants as kind
use Rattle.c_store.specs.Store.{object_of, offset_of}
use Rattle.c_store.specs.Access.{is_heap}
use Rattle.term_bank.specs.declared.sort.Sort.TheVariants.{Truth, Word}
use Rattle.term_bank.specs.Memories.{has_kind}
use Rattle.term_bank.specs.Values.{Values, of_truth}
use Rattle.term_bank.proofs.BankLemmas.{grows_on, stays}
use Rattle.term_bank.proofs.TermLemmas.{term_grown}
use Rattle.mem_terms.proofs.TruthLemmas.{gives_same, truths_and, heap_kind}
use Rattle.mem_terms.proofs.access.is_allocated.Goals as goal

pub returns : goal.returns
returns c =
    let m = c.args.memory.index in
    let a = c.args.address.index in
    let heap = c.in_ok-heap.ensures in
    let first = c.in_ok-first.ensures in
    let x : Values → Bool = λ v. has_kind kind.Heap ((v m).store.objects (object_of (v a).word)) in
    let y : Values → Bool = λ v. nat_eq (offset_of (v a).word) 0 in
    gives_same c.args.bank.now c.connect.new.self Truth c.connect.result (λ v. of_truth (x v && y v)) (λ v. of_truth (is_heap ((v m).store.objects (object_of (v a).word)) && y v))
    (truths_and c.args.bank.now c.is_start.new.bank c.connect.new.self x y c.in_ok-heap.heap c.in_ok-first.first c.kind_at.new.bank c.is_start.new.bank c.connect.result (grows_on heap.grows first.grows) heap.value first.grows first.value stays c.connect.ensures)
    (λ v. ap (λ b. of_truth (b && y v)) (heap_kind ((v m).store.objects (object_of (v a).word))))

pub is_start-requires : goal.is_start-requires
is_start-requires c = term_grown c.args.bank.now c.kind_at.new.bank (Word W64) c.args.address c.in_ok-heap.ensures.grows c.requires.address

pub connect-requires-clause-left : goal.connect-requires-clause-left
connect-requires-clause-left c = term_grown c.kind_at.new.bank c.is_start.new.bank Truth c.in_ok-heap.heap c.in_ok-first.ensures.grows c.in_ok-heap.ensures.node
