use Rattle.std.proofs.Common.{ap}
use Rattle.c_store.specs.Store.{object_of}
use Rattle.term_bank.specs.declared.shape.Shape.TheVariants.{HasKind}
use Rattle.term_bank.specs.Memories.{has_kind}
use Rattle.term_bank.specs.Values.{of_truth}
use Rattle.mem_terms.proofs.TruthLemmas.{gives_last, number_at}
use Rattle.term_bank.specs.declared.sort.Sort.TheVariants.{Memory}
use Rattle.term_bank.proofs.TermLemmas.{term_grown}
use Rattle.mem_terms.proofs.access.kind_at.Goals as goal

pub returns : goal.returns
returns c =
    let a = c.args.address.index in
    let m = c.args.memory.index in
    let k = c.args.kind in
    let object = c.in_ok-object.object in
    let before = c.in_ok-object.ensures in
    gives_last c.args.bank.now c.object_number.new.bank c.has_kind.new.bank (HasKind k m object.index) c.has_kind.result (λ v. of_truth (has_kind k ((v m).store.objects (object_of (v a).word)))) before.grows c.has_kind.ensures
    (λ e v model. ap (λ n. of_truth (has_kind k ((v m).store.objects n))) (number_at c.object_number.new.bank c.has_kind.new.bank (λ v. object_of (v a).word) object before.value c.has_kind.ensures.grows e v model))

pub has_kind-requires-clause-memory : goal.has_kind-requires-clause-memory
has_kind-requires-clause-memory c =
    term_grown c.args.bank.now c.object_number.new.bank Memory c.args.memory c.in_ok-object.ensures.grows c.requires.memory
