use Rattle.std.proofs.Common.{Bool, ap}
use Rattle.std.specs.Prelude.{not}
use Rattle.c_store.specs.declared.object.ObjectKind.TheVariants as kind
use Rattle.c_store.specs.Store.{object_of}
use Rattle.c_store.specs.Access.{is_literal}
use Rattle.term_bank.specs.declared.sort.Sort.TheVariants.{Truth}
use Rattle.term_bank.specs.Memories.{has_kind}
use Rattle.term_bank.specs.Values.{Values, of_truth}
use Rattle.mem_terms.proofs.TruthLemmas.{gives_same, truth_not, literal_kind}
use Rattle.mem_terms.proofs.access.no_literal.Goals as goal

pub returns : goal.returns
returns c =
    let m = c.args.memory.index in
    let a = c.args.address.index in
    let before = c.in_ok-literal.ensures in
    let x : Values → Bool = λ v. has_kind kind.Literal ((v m).store.objects (object_of (v a).word)) in
    gives_same c.args.bank.now c.not.new.self Truth c.not.result (λ v. of_truth (not (x v))) (λ v. of_truth (not (is_literal ((v m).store.objects (object_of (v a).word)))))
    (truth_not c.args.bank.now c.kind_at.new.bank c.not.new.self x c.in_ok-literal.literal c.not.result before.grows before.value c.not.ensures)
    (λ v. ap (λ b. of_truth (not b)) (literal_kind ((v m).store.objects (object_of (v a).word))))
