use Rattle.std.proofs.Common.{◌∷◌, ap, refl}
use Rattle.std.specs.Prelude.{nat_eq}
use Rattle.plain_data.specs.declared.width.Width.TheVariants.{W64}
use Rattle.term_bank.specs.declared.shape.Shape.TheVariants.{Test}
use Rattle.term_bank.specs.declared.shape.WordTest.TheVariants as test
use Rattle.term_bank.specs.Shapes.{word}
use Rattle.term_bank.specs.Values.{of_truth}
use Rattle.flat_reads.specs.Objects.{object_in, operands}
use Rattle.flat_reads.proofs.FlatLemmas.{flat_first, flat_grown, flat_through, gives_added, rest_flat, word_at}
use Rattle.flat_reads.proofs.ToldLemmas.{equal_tested}
use Rattle.term_bank.specs.declared.sort.Sort.TheVariants.{Word}
use Rattle.term_bank.proofs.BankLemmas.{node_grown}
use Rattle.term_bank.proofs.TermLemmas.{part_of}
use Rattle.flat_reads.proofs.objects.asks_for.Goals as goal

pub returns : goal.returns
returns c =
    let q = c.args.question in
    let p = c.args.object in
    let s1 = c.number.new.bank in
    let s2 = c.add.new.self in
    let number = c.in_ok-number.number in
    let e1 = c.in_ok-number.ensures in
    let e2 = c.add.ensures in
    let ps = word W64 p ∷ operands q in
    let f1 = flat_through s1 ps (operands q) number.index e1.flat (rest_flat s1 (word W64 p) (operands q)) in
    gives_added c.args.bank.now s1 s2 ps (Test test.Equal W64 number.index p) (λ v. of_truth (nat_eq (object_in v q) (v p).word)) c.add.result e1.grows e2.grows e2.bank e2.node e2.sort e2.value e2.over (record { plain = λ q. refl })
    (flat_grown s1 s2 ps number.index e2.grows f1, (flat_first s2 (word W64 p) (operands q), tt))
    (λ e v honest m. ap of_truth (equal_tested (v number.index).word (v p).word (object_in v q) (word_at s1 s2 (λ v. object_in v q) number e1.value e2.grows e v honest m)))

pub add-requires : goal.add-requires
add-requires c = record { parts_stand = (part_of c.number.new.bank (Word W64) c.in_ok-number.number c.in_ok-number.ensures.node, (node_grown c.args.bank.now c.number.new.bank (word W64 c.args.object) c.in_ok-number.ensures.grows c.requires.object, tt)); in_width = tt }
