use Rattle.std.proofs.Common.{◌∷◌, [], ap, refl, ◌∙◌}
use Rattle.std.specs.Prelude.{not, ◌||◌}
use Rattle.term_bank.specs.declared.shape.Connective.TheVariants as connective
use Rattle.term_bank.specs.declared.shape.Shape.TheVariants.{Connect, Not}
use Rattle.term_bank.specs.Shapes.{truth}
use Rattle.term_bank.specs.Values.{Worth, of_truth}
use Rattle.term_bank.proofs.BankLemmas.{weaken}
use Rattle.flat_reads.proofs.FlatLemmas.{flat_first, flat_second, flat_grown, flat_over, gives_added}
use Rattle.flat_reads.proofs.ToldLemmas.{either_is}
use Rattle.flat_reads.proofs.objects.neither.Goals as goal

pub returns : goal.returns
returns c =
    let left = c.args.left in
    let right = c.args.right in
    let s1 = c.add.new.self in
    let s2 = c.add-2.new.self in
    let either = c.in_ok-either.either in
    let e1 = c.in_ok-either.ensures in
    let e2 = c.add-2.ensures in
    let ps = truth left ∷ (truth right ∷ []) in
    let flat = flat_over s1 ps (Connect connective.Or left right) either e1.over (record { plain = λ q. refl }) (flat_first s1 (truth left) (truth right ∷ []), (flat_second s1 (truth left) (truth right) [], tt)) in
    gives_added c.args.bank.now s1 s2 ps (Not either.index) (λ v. of_truth (not ((v left).truth || (v right).truth))) c.add-2.result e1.grows e2.grows e2.bank e2.node e2.sort e2.value e2.over (record { plain = λ q. refl })
    (flat_grown s1 s2 ps either.index e2.grows flat, tt)
    (λ e v honest m. ap (λ b. of_truth (not b)) (ap (λ (y : Worth). y.truth) (e1.value.is e v (weaken e2.grows m)) ∙ either_is (v left).truth (v right).truth))
