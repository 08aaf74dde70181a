use Rattle.std.proofs.Common.{◌∷◌, [], ap, ◌∙◌}
use Rattle.plain_data.specs.declared.width.Width.TheVariants.{W64}
use Rattle.c_store.specs.Store.{offset_of}
use Rattle.term_bank.specs.declared.shape.WordOperator.TheVariants as operator
use Rattle.term_bank.specs.declared.sort.Sort.TheVariants.{Word}
use Rattle.term_bank.specs.Shapes.{word}
use Rattle.term_bank.specs.Values.{of_word, result_of}
use Rattle.flat_reads.proofs.FlatLemmas.{flat_first, flat_through, gives_through, word_at}
use Rattle.flat_reads.proofs.ToldLemmas.{offset_masked}
use Rattle.flat_reads.proofs.objects.offset.Goals as goal

pub returns : goal.returns
returns c =
    let a = c.args.address in
    let s1 = c.constant.new.bank in
    let s2 = c.binary.new.bank in
    let mask = c.in_ok-mask.mask in
    let e1 = c.in_ok-mask.ensures in
    let ps = word W64 a ∷ [] in
    gives_through c.args.bank.now s1 s2 ps (word W64 a ∷ (word W64 mask.index ∷ [])) (Word W64) (λ v. of_word (result_of operator.And W64 (v a).word (v mask.index).word)) (λ v. of_word (offset_of (v a).word)) c.binary.result e1.grows c.binary.ensures
    (flat_first s1 (word W64 a) [], (flat_through s1 ps [] mask.index e1.flat tt, tt))
    (λ e v honest m. ap (λ n. of_word (result_of operator.And W64 (v a).word n)) (word_at s1 s2 (λ _. 4294967295) mask e1.value c.binary.ensures.grows e v honest m) ∙ ap of_word (offset_masked (v a).word))
