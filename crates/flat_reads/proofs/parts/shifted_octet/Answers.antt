use Rattle.flat_reads.proofs.WordLemmas.{gives_failed}
use Rattle.std.proofs.lemmas.Result.{err_from_is_err_and}
use Rattle.std.proofs.Common.{◌∷◌, []}
use Rattle.plain_data.specs.declared.width.Width.TheVariants.{W8, W64}
use Rattle.term_bank.specs.declared.shape.WordOperator.TheVariants as operator
use Rattle.term_bank.specs.declared.shape.Extension.TheVariants as extension
use Rattle.term_bank.specs.declared.sort.Sort.TheVariants.{Word}
use Rattle.term_bank.specs.Shapes.{word}
use Rattle.term_bank.specs.Values.{of_word, result_of, converted}
use Rattle.term_bank.proofs.BankLemmas.{grows_on, node_grown}
use Rattle.term_bank.proofs.TermLemmas.{part_of}
use Rattle.flat_reads.specs.Parts.{moved}
use Rattle.flat_reads.proofs.FlatLemmas.{gives_through, flat_first, flat_second, flat_grown, flat_through, word_at}
use Rattle.flat_reads.proofs.PartLemmas.{moved_steps}
use Rattle.flat_reads.proofs.parts.shifted_octet.Goals as goal

pub returns : goal.returns
returns c =
    let w = c.args.width in
    let x = c.args.value in
    let d = c.args.far.index in
    let s1 = c.constant.new.bank in
    let s2 = c.binary.new.bank in
    let s3 = c.converted_to.new.bank in
    let s4 = c.binary-2.new.bank in
    let s5 = c.converted_to-2.new.bank in
    let three = c.in_ok-three.three in
    let shift = c.in_ok-shift.shift in
    let by = c.in_ok-by.by in
    let low = c.in_ok-low.low in
    let e1 = c.in_ok-three.ensures in
    let e2 = c.in_ok-shift.ensures in
    let e3 = c.in_ok-by.ensures in
    let e4 = c.in_ok-low.ensures in
    let g5 = c.converted_to-2.ensures.grows in
    let ps = word w x ∷ (word W64 d ∷ []) in
    let f1 = flat_through s1 ps [] three.index e1.flat tt in
    let f2 = flat_through s2 ps (word W64 d ∷ (word W64 three.index ∷ [])) shift.index e2.flat (flat_second s2 (word w x) (word W64 d) [], (flat_grown s1 s2 ps three.index e2.grows f1, tt)) in
    let f3 = flat_through s3 ps (word W64 shift.index ∷ []) by.index e3.flat (flat_grown s2 s3 ps shift.index e3.grows f2, tt) in
    let f4 = flat_through s4 ps (word w x ∷ (word w by.index ∷ [])) low.index e4.flat (flat_first s4 (word w x) (word W64 d ∷ []), (flat_grown s3 s4 ps by.index e4.grows f3, tt)) in
    gives_through c.args.bank.now s4 s5 ps (word w low.index ∷ []) (Word W8) (λ v. of_word (converted extension.Zero w W8 (v low.index).word)) (λ v. of_word (moved w (v x).word (v d).word)) c.converted_to-2.result
    (grows_on e1.grows (grows_on e2.grows (grows_on e3.grows e4.grows))) c.converted_to-2.ensures (f4, tt)
    (λ e v honest m. moved_steps w (v x).word (v d).word (v three.index).word (v shift.index).word (v by.index).word (v low.index).word
    (word_at s1 s5 (λ _. 3) three e1.value (grows_on e2.grows (grows_on e3.grows (grows_on e4.grows g5))) e v honest m)
    (word_at s2 s5 (λ v. result_of operator.Shl W64 (v d).word (v three.index).word) shift e2.value (grows_on e3.grows (grows_on e4.grows g5)) e v honest m)
    (word_at s3 s5 (λ v. converted extension.Zero W64 w (v shift.index).word) by e3.value (grows_on e4.grows g5) e v honest m)
    (word_at s4 s5 (λ v. result_of operator.Lshr w (v x).word (v by.index).word) low e4.value g5 e v honest m))

pub binary-requires-clause-left : goal.binary-requires-clause-left
binary-requires-clause-left c = node_grown c.args.bank.now c.constant.new.bank (word W64 c.args.far.index) c.in_ok-three.ensures.grows (part_of c.args.bank.now (Word W64) c.args.far c.requires.far)

pub binary-requires-2-clause-left : goal.binary-requires-2-clause-left
binary-requires-2-clause-left c = node_grown c.args.bank.now c.converted_to.new.bank (word c.args.width c.args.value) (grows_on c.in_ok-three.ensures.grows (grows_on c.in_ok-shift.ensures.grows c.in_ok-by.ensures.grows)) c.requires.value

pub returns-in_err-low : goal.returns-in_err-low
returns-in_err-low c =
    let p = err_from_is_err_and c.from_residual-in_err-low.result c.from_residual-in_err-low.ensures.1 in
    let failed = c.in_err-low.ensures in
    gives_failed _ _ _ _ _ _ p.0 p.1
    (grows_on c.in_ok-three.ensures.grows (grows_on c.in_ok-shift.ensures.grows (grows_on c.in_ok-by.ensures.grows failed.grows))) failed.bank
