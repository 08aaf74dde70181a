use Rattle.std.proofs.Common.{◌∷◌, [], ap, ◌+◌}
use Rattle.std.specs.Prelude.{nat_le}
use Rattle.plain_data.specs.declared.width.Width.TheVariants.{W64}
use Rattle.c_store.specs.Store.{offset_of}
use Rattle.term_bank.specs.declared.sort.Sort.TheVariants.{Truth}
use Rattle.term_bank.specs.Shapes.{word}
use Rattle.term_bank.specs.Values.{of_truth}
use Rattle.flat_reads.proofs.FlatLemmas.{flat_first, flat_second, flat_through, gives_through, word_at}
use Rattle.term_bank.proofs.BankLemmas.{node_grown}
use Rattle.flat_reads.proofs.objects.reached.Goals as goal

pub returns : goal.returns
returns c =
    let a = c.args.address in
    let n = c.args.length in
    let z = c.args.size in
    let s1 = c.offset.new.bank in
    let s2 = c.fits.new.bank in
    let offset = c.in_ok-offset.offset in
    let e1 = c.in_ok-offset.ensures in
    let ps = word W64 a ∷ (word W64 n ∷ (word W64 z ∷ [])) in
    let f1 = flat_through s1 ps (word W64 a ∷ []) offset.index e1.flat (flat_first s1 (word W64 a) (word W64 n ∷ (word W64 z ∷ [])), tt) in
    gives_through c.args.bank.now s1 s2 ps (word W64 offset.index ∷ (word W64 n ∷ (word W64 z ∷ []))) Truth (λ v. of_truth (nat_le ((v offset.index).word + (v n).word) (v z).word)) (λ v. of_truth (nat_le (offset_of (v a).word + (v n).word) (v z).word)) c.fits.result e1.grows c.fits.ensures
    (f1, (flat_second s1 (word W64 a) (word W64 n) (word W64 z ∷ []), (record { flat = λ b g q x. x.1.1.0 }, tt)))
    (λ e v honest m. ap (λ o. of_truth (nat_le (o + (v n).word) (v z).word)) (word_at s1 s2 (λ v. offset_of (v a).word) offset e1.value c.fits.ensures.grows e v honest m))

pub fits-requires-clause-length : goal.fits-requires-clause-length
fits-requires-clause-length c = node_grown c.args.bank.now c.offset.new.bank (word W64 c.args.length) c.in_ok-offset.ensures.grows c.requires.length

pub fits-requires-clause-size : goal.fits-requires-clause-size
fits-requires-clause-size c = node_grown c.args.bank.now c.offset.new.bank (word W64 c.args.size) c.in_ok-offset.ensures.grows c.requires.size
