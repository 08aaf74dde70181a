use Rattle.std.proofs.Common.{◌∷◌, [], ◌+◌}
use Rattle.std.specs.Prelude.{not, nat_le, nat_lt, ◌||◌}
use Rattle.plain_data.specs.declared.width.Width.TheVariants.{W64}
use Rattle.term_bank.specs.declared.sort.Sort.TheVariants.{Truth}
use Rattle.term_bank.specs.Memories.{distance}
use Rattle.term_bank.specs.Shapes.{truth, word}
use Rattle.term_bank.specs.Values.{of_truth}
use Rattle.term_bank.proofs.BankLemmas.{grows_on, node_grown}
use Rattle.term_bank.proofs.BindingLemmas.{node_sorted}
use Rattle.flat_reads.proofs.FlatLemmas.{flat_first, flat_second, flat_grown, flat_through, gives_through, truth_at, word_at}
use Rattle.flat_reads.proofs.ToldLemmas.{fits_is}
use Rattle.term_bank.proofs.TermLemmas.{part_of, term_grown}
use Rattle.flat_reads.proofs.objects.fits.Goals as goal

pub returns : goal.returns
returns c =
    let o = c.args.offset in
    let n = c.args.length in
    let z = c.args.size in
    let s0 = c.args.bank.now in
    let s1 = c.inside.new.bank in
    let s2 = c.distance.new.bank in
    let s3 = c.inside-2.new.bank in
    let s4 = c.neither.new.bank in
    let outside = c.in_ok-outside.outside in
    let room = c.in_ok-room.room in
    let short = c.in_ok-short.short in
    let e1 = c.in_ok-outside.ensures in
    let e2 = c.in_ok-room.ensures in
    let e3 = c.in_ok-short.ensures in
    let g4 = c.neither.ensures.grows in
    let ps = word W64 o ∷ (word W64 n ∷ (word W64 z ∷ [])) in
    let f1 = flat_through s1 ps (word W64 z ∷ (word W64 o ∷ [])) outside.index e1.flat (record { flat = λ b g q x. x.1.1.0 }, (flat_first s1 (word W64 o) (word W64 n ∷ (word W64 z ∷ [])), tt)) in
    let f2 = flat_through s2 ps (word W64 o ∷ (word W64 z ∷ [])) room.index e2.flat (flat_first s2 (word W64 o) (word W64 n ∷ (word W64 z ∷ [])), (record { flat = λ b g q x. x.1.1.0 }, tt)) in
    let f3 = flat_through s3 ps (word W64 room.index ∷ (word W64 n ∷ [])) short.index e3.flat (flat_grown s2 s3 ps room.index e3.grows f2, (flat_second s3 (word W64 o) (word W64 n) (word W64 z ∷ []), tt)) in
    let grown = grows_on e1.grows (grows_on e2.grows e3.grows) in
    gives_through s0 s3 s4 ps (truth outside.index ∷ (truth short.index ∷ [])) Truth (λ v. of_truth (not ((v outside.index).truth || (v short.index).truth))) (λ v. of_truth (nat_le ((v o).word + (v n).word) (v z).word)) c.neither.result grown c.neither.ensures
    (flat_grown s1 s3 ps outside.index (grows_on e2.grows e3.grows) f1, (f3, tt))
    (λ e v honest m. fits_is (v o).word (v n).word (v z).word (v room.index).word (v outside.index).truth (v short.index).truth
    ((node_sorted s4 e v (word W64 z) c.neither.ensures.bank (node_grown s0 s4 (word W64 z) (grows_on grown g4) c.requires.size) m).1)
    (truth_at s1 s4 (λ v. nat_lt (v z).word (v o).word) outside e1.value (grows_on e2.grows (grows_on e3.grows g4)) e v honest m)
    (word_at s2 s4 (λ v. distance (v o).word (v z).word) room e2.value (grows_on e3.grows g4) e v honest m)
    (truth_at s3 s4 (λ v. nat_lt (v room.index).word (v n).word) short e3.value g4 e v honest m))

pub distance-requires-clause-from : goal.distance-requires-clause-from
distance-requires-clause-from c = node_grown c.args.bank.now c.inside.new.bank (word W64 c.args.offset) c.in_ok-outside.ensures.grows c.requires.offset

pub distance-requires-clause-address : goal.distance-requires-clause-address
distance-requires-clause-address c = node_grown c.args.bank.now c.inside.new.bank (word W64 c.args.size) c.in_ok-outside.ensures.grows c.requires.size

pub inside-requires-2-clause-length : goal.inside-requires-2-clause-length
inside-requires-2-clause-length c = node_grown c.args.bank.now c.distance.new.bank (word W64 c.args.length) (grows_on c.in_ok-outside.ensures.grows c.in_ok-room.ensures.grows) c.requires.length

pub neither-requires-clause-left : goal.neither-requires-clause-left
neither-requires-clause-left c = part_of c.inside-2.new.bank Truth c.in_ok-outside.outside (term_grown c.inside.new.bank c.inside-2.new.bank Truth c.in_ok-outside.outside (grows_on c.in_ok-room.ensures.grows c.in_ok-short.ensures.grows) c.in_ok-outside.ensures.node)
