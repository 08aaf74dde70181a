use Rattle.std.proofs.Common.{Bool, nat_eq, ap}
use Rattle.std.specs.Prelude.{◌&&◌}
use Rattle.plain_data.specs.declared.width.Width.TheVariants.{W64}
use Rattle.c_store.specs.Store.{object_of}
use Rattle.c_store.specs.Access.{is_live}
use Rattle.term_bank.specs.declared.sort.Sort.TheVariants.{Truth, Word}
use Rattle.term_bank.specs.Values.{Values, of_truth}
use Rattle.term_bank.proofs.BankLemmas.{grows_on, stays}
use Rattle.term_bank.proofs.TermLemmas.{term_grown}
use Rattle.mem_terms.proofs.TruthLemmas.{gives_same, truths_and, and_grouped}
use Rattle.mem_terms.proofs.access.in_one_object.Goals as goal

pub returns : goal.returns
returns c =
    let m = c.args.memory.index in
    let a = c.args.left.index in
    let b = c.args.right.index in
    let both = c.in_ok-both.ensures in
    let same = c.in_ok-same.ensures in
    let x : Values → Bool = λ v. is_live (v m).store (v a).word 0 && is_live (v m).store (v b).word 0 in
    let y : Values → Bool = λ v. nat_eq (object_of (v a).word) (object_of (v b).word) in
    gives_same c.args.bank.now c.connect.new.self Truth c.connect.result (λ v. of_truth (x v && y v)) _
    (truths_and c.args.bank.now c.of_one_number.new.bank c.connect.new.self x y c.in_ok-both.both c.in_ok-same.same c.in_objects.new.bank c.of_one_number.new.bank c.connect.result (grows_on both.grows same.grows) both.value same.grows same.value stays c.connect.ensures)
    (λ v. ap of_truth (and_grouped (is_live (v m).store (v a).word 0) (is_live (v m).store (v b).word 0) (y v)))

pub of_one_number-requires-clause-left : goal.of_one_number-requires-clause-left
of_one_number-requires-clause-left c = term_grown c.args.bank.now c.in_objects.new.bank (Word W64) c.args.left c.in_ok-both.ensures.grows c.requires.left

pub of_one_number-requires-clause-right : goal.of_one_number-requires-clause-right
of_one_number-requires-clause-right c = term_grown c.args.bank.now c.in_objects.new.bank (Word W64) c.args.right c.in_ok-both.ensures.grows c.requires.right

pub connect-requires-clause-left : goal.connect-requires-clause-left
connect-requires-clause-left c = term_grown c.in_objects.new.bank c.of_one_number.new.bank Truth c.in_ok-both.both c.in_ok-same.ensures.grows c.in_ok-both.ensures.node
