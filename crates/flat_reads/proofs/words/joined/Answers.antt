use Rattle.std.proofs.Common.{◌∷◌, []}
use Rattle.plain_data.specs.declared.width.Width.TheVariants.{W8}
use Rattle.term_bank.specs.declared.shape.WordOperator.TheVariants as operator
use Rattle.term_bank.specs.declared.sort.Sort.TheVariants.{Word}
use Rattle.term_bank.specs.Shapes.{word}
use Rattle.term_bank.specs.Values.{of_word, result_of}
use Rattle.term_bank.proofs.BankLemmas.{grows_on, node_grown}
use Rattle.term_bank.proofs.TermLemmas.{part_of, term_grown}
use Rattle.flat_reads.specs.Parts.{joined_of}
use Rattle.flat_reads.proofs.FlatLemmas.{gives_through, flat_first, flat_second, flat_grown, flat_through, word_at}
use Rattle.flat_reads.proofs.WordLemmas.{joined_steps}
use Rattle.flat_reads.proofs.words.joined.Goals as goal

pub binary-requires-clause-left : goal.binary-requires-clause-left
binary-requires-clause-left c = node_grown c.args.bank.now c.constant.new.bank (word c.args.width c.args.high.index) c.in_ok-eight.ensures.grows (part_of c.args.bank.now (Word c.args.width) c.args.high c.requires.high)

pub widened-requires-clause-byte : goal.widened-requires-clause-byte
widened-requires-clause-byte c = term_grown c.args.bank.now c.binary.new.bank (Word W8) c.args.byte (grows_on c.in_ok-eight.ensures.grows c.in_ok-up.ensures.grows) c.requires.byte

pub binary-requires-2-clause-left : goal.binary-requires-2-clause-left
binary-requires-2-clause-left c = node_grown c.binary.new.bank c.widened.new.bank (word c.args.width c.in_ok-up.up.index) c.in_ok-low.ensures.grows (part_of c.binary.new.bank (Word c.args.width) c.in_ok-up.up c.in_ok-up.ensures.node)

pub returns : goal.returns
returns c =
    let w = c.args.width in
    let x = c.args.high.index in
    let b = c.args.byte.index in
    let s1 = c.constant.new.bank in
    let s2 = c.binary.new.bank in
    let s3 = c.widened.new.bank in
    let s4 = c.binary-2.new.bank in
    let eight = c.in_ok-eight.eight in
    let up = c.in_ok-up.up in
    let low = c.in_ok-low.low in
    let e1 = c.in_ok-eight.ensures in
    let e2 = c.in_ok-up.ensures in
    let e3 = c.in_ok-low.ensures in
    let g4 = c.binary-2.ensures.grows in
    let ps = word w x ∷ (word W8 b ∷ []) in
    let f1 = flat_through s1 ps [] eight.index e1.flat tt in
    let f2 = flat_through s2 ps (word w x ∷ (word w eight.index ∷ [])) up.index e2.flat (flat_first s2 (word w x) (word W8 b ∷ []), (flat_grown s1 s2 ps eight.index e2.grows f1, tt)) in
    let f3 = flat_through s3 ps (word W8 b ∷ []) low.index e3.flat (flat_second s3 (word w x) (word W8 b) [], tt) in
    gives_through c.args.bank.now s3 s4 ps (word w up.index ∷ (word w low.index ∷ [])) (Word w) (λ v. of_word (result_of operator.Or w (v up.index).word (v low.index).word)) (λ v. of_word (joined_of w (v x).word (v b).word)) c.binary-2.result
    (grows_on e1.grows (grows_on e2.grows e3.grows)) c.binary-2.ensures (flat_grown s2 s3 ps up.index e3.grows f2, (f3, tt))
    (λ e v honest m. joined_steps w (v x).word (v b).word (v eight.index).word (v up.index).word (v low.index).word
    (word_at s1 s4 (λ _. 8) eight e1.value (grows_on e2.grows (grows_on e3.grows g4)) e v honest m)
    (word_at s2 s4 (λ v. result_of operator.Shl w (v x).word (v eight.index).word) up e2.value (grows_on e3.grows g4) e v honest m)
    (word_at s3 s4 (λ v. (v b).word) low e3.value g4 e v honest m))
