use Rattle.std.proofs.Common.{◌∷◌, [], refl}
use Rattle.plain_data.specs.declared.width.Width.TheVariants.{W64}
use Rattle.term_bank.specs.declared.sort.Sort.TheVariants.{Truth}
use Rattle.term_bank.specs.declared.shape.Shape.TheVariants.{ZeroRange}
use Rattle.term_bank.specs.Memories.{distance}
use Rattle.term_bank.specs.Shapes.{memory, word}
use Rattle.term_bank.proofs.BankLemmas.{weaken, grows_on, node_grown}
use Rattle.term_bank.proofs.TermLemmas.{term_grown}
use Rattle.flat_reads.specs.declared.choices.Found.TheVariants.{Known}
use Rattle.flat_reads.proofs.FlatLemmas.{flat_second, flat_grown, flat_through, word_at}
use Rattle.flat_reads.proofs.ChoiceLemmas.{choice_laid, laid_zero, asks_found, asks_worth, parts_flat, inside_is}
use Rattle.flat_reads.proofs.choices.zeroed.Goals as goal

pub distance-requires-clause-from : goal.distance-requires-clause-from
distance-requires-clause-from c = (c.requires.bank.well c.args.memory (ZeroRange c.args.old c.args.from c.args.length) c.requires.memory).each_part.1.0.stands

pub inside-requires-clause-length : goal.inside-requires-clause-length
inside-requires-clause-length c = node_grown c.args.bank.now c.distance.new.bank (word W64 c.args.length) c.in_ok-far.ensures.grows ((c.requires.bank.well c.args.memory (ZeroRange c.args.old c.args.from c.args.length) c.requires.memory).each_part.1.1.0.stands)

pub asked-no-requires-clause-memory : goal.asked-no-requires-clause-memory
asked-no-requires-clause-memory c = node_grown c.args.bank.now c.constant.new.bank (memory c.args.old) (grows_on c.in_ok-far.ensures.grows (grows_on c.in_ok-condition.ensures.grows c.in_ok-byte.ensures.grows)) ((c.requires.bank.well c.args.memory (ZeroRange c.args.old c.args.from c.args.length) c.requires.memory).each_part.0.stands)

pub asked-no-requires-clause-address : goal.asked-no-requires-clause-address
asked-no-requires-clause-address c = node_grown c.args.bank.now c.constant.new.bank (word W64 c.args.address) (grows_on c.in_ok-far.ensures.grows (grows_on c.in_ok-condition.ensures.grows c.in_ok-byte.ensures.grows)) c.requires.address

pub returns-clause-grows : goal.returns-clause-grows
returns-clause-grows c = (grows_on c.in_ok-far.ensures.grows (grows_on c.in_ok-condition.ensures.grows c.in_ok-byte.ensures.grows))

pub returns-clause-choice : goal.returns-clause-choice
returns-clause-choice c =
    let m = c.args.memory in
    let a = c.args.address in
    let to = c.args.from in
    let old = c.args.old in
    let n = c.args.length in
    let shape = ZeroRange c.args.old c.args.from c.args.length in
    let s1 = c.distance.new.bank in
    let s2 = c.inside.new.bank in
    let s3 = c.constant.new.bank in
    let far = c.in_ok-far.far in
    let condition = c.in_ok-condition.condition in
    let last = c.in_ok-byte.byte in
    let e1 = c.in_ok-far.ensures in
    let e2 = c.in_ok-condition.ensures in
    let e3 = c.in_ok-byte.ensures in
    let grown = returns-clause-grows c in
    let is = grown.kept m shape c.requires.memory in
    let ps = memory m ∷ (word W64 a ∷ []) in
    let below = (c.requires.bank.well m shape c.requires.memory).each_part in
    let parts1 = parts_flat s1 m a shape (e1.grows.kept m shape c.requires.memory) in
    let parts2 = parts_flat s2 m a shape ((grows_on e1.grows e2.grows).kept m shape c.requires.memory) in
    let parts3 = parts_flat s3 m a shape is in
    let here = node_grown c.args.bank.now s3 (word W64 a) grown c.requires.address in
    let f1 = flat_through s1 ps (word W64 to ∷ (word W64 a ∷ [])) far.index e1.flat (parts1.1.0, (flat_second s1 (memory m) (word W64 a) [], tt)) in
    let f2 = flat_through s2 ps (word W64 far.index ∷ (word W64 n ∷ [])) condition.index e2.flat (flat_grown s1 s2 ps far.index e2.grows f1, (parts2.1.1.0, tt)) in
    let far_is = word_at s1 s3 (λ v. distance (v to).word (v a).word) far e1.value (grows_on e2.grows e3.grows) in
    let f3 = flat_through s3 ps [] last.index e3.flat tt in
    choice_laid s3 m a to old (λ v. (v n).word) (λ v _. 0) (record { condition = condition; yes = Known last; no = c.asked-no.result }) e3.bank here (laid_zero s3 m old to n is)
    (term_grown s2 s3 Truth condition e3.grows e2.node)
    (record { is = λ e v honest k. inside_is s3 (v far.index).word (distance (v to).word (v a).word) (v n).word (v n).word (v condition.index) (e2.value.is e v honest (weaken e3.grows k)) (far_is e v honest k) refl })
    (flat_grown s2 s3 ps condition.index e3.grows f2)
    (record { term = e3.node; flat = f3 })
    (asks_found s3 old (word W64 a) c.asked-no.result m ps c.asked-no.ensures here below.0.before parts3.0 (flat_second s3 (memory m) (word W64 a) []))
    (λ e v honest k lt. e3.value.is e v honest k)
    (λ e v k. asks_worth s3 old (word W64 a) c.asked-no.result c.asked-no.ensures e v k)
