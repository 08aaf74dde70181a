use Rattle.std.proofs.Common.{◌∷◌, [], ◌∙◌}
use Rattle.plain_data.specs.declared.width.Width.TheVariants.{W64}
use Rattle.c_store.specs.Store.{byte_of}
use Rattle.term_bank.specs.declared.sort.Sort.TheVariants.{Truth, Word}
use Rattle.term_bank.specs.declared.shape.Shape.TheVariants.{Write}
use Rattle.term_bank.specs.Memories.{octets, distance}
use Rattle.term_bank.specs.Shapes.{memory, word}
use Rattle.term_bank.proofs.BankLemmas.{weaken, grows_on, node_grown}
use Rattle.term_bank.proofs.BindingLemmas.{node_sorted}
use Rattle.term_bank.proofs.TermLemmas.{part_of, term_grown}
use Rattle.flat_reads.specs.declared.choices.Found.TheVariants.{Known}
use Rattle.flat_reads.proofs.FlatLemmas.{flat_second, flat_grown, flat_through, word_at}
use Rattle.flat_reads.proofs.ChoiceLemmas.{choice_laid, laid_write, asks_found, asks_worth, parts_flat, inside_is, octet_worth}
use Rattle.flat_reads.proofs.choices.written.Goals as goal

pub distance-requires-clause-from : goal.distance-requires-clause-from
distance-requires-clause-from c = (c.requires.bank.well c.args.memory (Write c.args.width c.args.old c.args.to c.args.value) c.requires.memory).each_part.1.0.stands

pub inside-requires-clause-far : goal.inside-requires-clause-far
inside-requires-clause-far c = part_of c.constant.new.bank (Word W64) c.in_ok-far.far (term_grown c.distance.new.bank c.constant.new.bank (Word W64) c.in_ok-far.far c.in_ok-length.ensures.grows c.in_ok-far.ensures.node)

pub octet-requires-clause-value : goal.octet-requires-clause-value
octet-requires-clause-value c = node_grown c.args.bank.now c.inside.new.bank (word c.args.width c.args.value) (grows_on c.in_ok-far.ensures.grows (grows_on c.in_ok-length.ensures.grows c.in_ok-condition.ensures.grows)) ((c.requires.bank.well c.args.memory (Write c.args.width c.args.old c.args.to c.args.value) c.requires.memory).each_part.1.1.0.stands)

pub octet-requires-clause-far : goal.octet-requires-clause-far
octet-requires-clause-far c = term_grown c.distance.new.bank c.inside.new.bank (Word W64) c.in_ok-far.far (grows_on c.in_ok-length.ensures.grows c.in_ok-condition.ensures.grows) c.in_ok-far.ensures.node

pub returns-in_err-byte-clause-grows : goal.returns-in_err-byte-clause-grows
returns-in_err-byte-clause-grows c = grows_on c.in_ok-far.ensures.grows (grows_on c.in_ok-length.ensures.grows (grows_on c.in_ok-condition.ensures.grows c.octet.ensures.grows))

pub asked-no-requires-clause-memory : goal.asked-no-requires-clause-memory
asked-no-requires-clause-memory c = node_grown c.args.bank.now c.octet.new.bank (memory c.args.old) (grows_on c.in_ok-far.ensures.grows (grows_on c.in_ok-length.ensures.grows (grows_on c.in_ok-condition.ensures.grows c.in_ok-byte.ensures.grows))) ((c.requires.bank.well c.args.memory (Write c.args.width c.args.old c.args.to c.args.value) c.requires.memory).each_part.0.stands)

pub asked-no-requires-clause-address : goal.asked-no-requires-clause-address
asked-no-requires-clause-address c = node_grown c.args.bank.now c.octet.new.bank (word W64 c.args.address) (grows_on c.in_ok-far.ensures.grows (grows_on c.in_ok-length.ensures.grows (grows_on c.in_ok-condition.ensures.grows c.in_ok-byte.ensures.grows))) c.requires.address

pub returns-clause-grows : goal.returns-clause-grows
returns-clause-grows c = grows_on c.in_ok-far.ensures.grows (grows_on c.in_ok-length.ensures.grows (grows_on c.in_ok-condition.ensures.grows c.in_ok-byte.ensures.grows))

pub returns-clause-choice : goal.returns-clause-choice
returns-clause-choice c =
    let w = c.args.width in
    let m = c.args.memory in
    let a = c.args.address in
    let to = c.args.to in
    let old = c.args.old in
    let x = c.args.value in
    let shape = Write w old to x in
    let s1 = c.distance.new.bank in
    let s2 = c.constant.new.bank in
    let s3 = c.inside.new.bank in
    let s4 = c.octet.new.bank in
    let far = c.in_ok-far.far in
    let length = c.in_ok-length.length in
    let condition = c.in_ok-condition.condition in
    let byte = c.in_ok-byte.byte in
    let e1 = c.in_ok-far.ensures in
    let e2 = c.in_ok-length.ensures in
    let e3 = c.in_ok-condition.ensures in
    let e4 = c.in_ok-byte.ensures in
    let grown = returns-clause-grows c in
    let is = grown.kept m shape c.requires.memory in
    let ps = memory m ∷ (word W64 a ∷ []) in
    let below = (c.requires.bank.well m shape c.requires.memory).each_part in
    let parts1 = parts_flat s1 m a shape (e1.grows.kept m shape c.requires.memory) in
    let parts4 = parts_flat s4 m a shape is in
    let here = node_grown c.args.bank.now s4 (word W64 a) grown c.requires.address in
    let f1 = flat_through s1 ps (word W64 to ∷ (word W64 a ∷ [])) far.index e1.flat (parts1.1.0, (flat_second s1 (memory m) (word W64 a) [], tt)) in
    let f2 = flat_through s2 ps [] length.index e2.flat tt in
    let f3 = flat_through s3 ps (word W64 far.index ∷ (word W64 length.index ∷ [])) condition.index e3.flat (flat_grown s1 s3 ps far.index (grows_on e2.grows e3.grows) f1, (flat_grown s2 s3 ps length.index e3.grows f2, tt)) in
    let f4 = flat_through s4 ps (word w x ∷ (word W64 far.index ∷ [])) byte.index e4.flat (parts4.1.1.0, (flat_grown s1 s4 ps far.index (grows_on e2.grows (grows_on e3.grows e4.grows)) f1, tt)) in
    let far_is = word_at s1 s4 (λ v. distance (v to).word (v a).word) far e1.value (grows_on e2.grows (grows_on e3.grows e4.grows)) in
    choice_laid s4 m a to old (λ v. octets w) (λ v. byte_of (v x).word) (record { condition = condition; yes = Known byte; no = c.asked-no.result }) e4.bank here (laid_write s4 m w old to x is)
    (term_grown s3 s4 Truth condition e4.grows e3.node)
    (record { is = λ e v honest k. inside_is s4 (v far.index).word (distance (v to).word (v a).word) (v length.index).word (octets w) (v condition.index) (e3.value.is e v honest (weaken e4.grows k)) (far_is e v honest k) (word_at s2 s4 (λ v. c.octets.result) length e2.value (grows_on e3.grows e4.grows) e v honest k ∙ c.octets.ensures) })
    (flat_grown s3 s4 ps condition.index e4.grows f3)
    (record { term = e4.node; flat = f4 })
    (asks_found s4 old (word W64 a) c.asked-no.result m ps c.asked-no.ensures here below.0.before parts4.0 (flat_second s4 (memory m) (word W64 a) []))
    (λ e v honest k lt. octet_worth w (v x).word (distance (v to).word (v a).word) (v far.index).word (v byte.index) (e4.value.is e v honest k) (far_is e v honest k) lt ((node_sorted s4 e v (word w x) e4.bank (node_grown c.args.bank.now s4 (word w x) grown below.1.1.0.stands) k).1))
    (λ e v k. asks_worth s4 old (word W64 a) c.asked-no.result c.asked-no.ensures e v k)
