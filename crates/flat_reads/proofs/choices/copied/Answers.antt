use Rattle.std.proofs.Common.{◌∷◌, [], refl, ap, ◌∙◌}
use Rattle.plain_data.specs.declared.width.Width.TheVariants.{W64}
use Rattle.term_bank.specs.declared.sort.Sort.TheVariants.{Truth, Word}
use Rattle.term_bank.specs.declared.shape.Shape.TheVariants.{CopyRange}
use Rattle.term_bank.specs.Memories.{behind, distance}
use Rattle.term_bank.specs.Shapes.{memory, word}
use Rattle.term_bank.specs.Values.{Worth}
use Rattle.term_bank.proofs.BankLemmas.{weaken, grows_on, node_grown}
use Rattle.term_bank.proofs.BindingLemmas.{node_sorted}
use Rattle.term_bank.proofs.TermLemmas.{part_of, term_grown}
use Rattle.flat_reads.proofs.FlatLemmas.{flat_second, flat_grown, flat_through, word_at}
use Rattle.flat_reads.proofs.ChoiceLemmas.{choice_laid, laid_copy, asks_found, asks_worth, parts_flat, inside_is, copied_worth}
use Rattle.flat_reads.proofs.choices.copied.Goals as goal

pub distance-requires-clause-from : goal.distance-requires-clause-from
distance-requires-clause-from c = (c.requires.bank.well c.args.memory (CopyRange c.args.old c.args.to c.args.source c.args.from c.args.length) c.requires.memory).each_part.1.0.stands

pub inside-requires-clause-length : goal.inside-requires-clause-length
inside-requires-clause-length c = node_grown c.args.bank.now c.distance.new.bank (word W64 c.args.length) c.in_ok-far.ensures.grows ((c.requires.bank.well c.args.memory (CopyRange c.args.old c.args.to c.args.source c.args.from c.args.length) c.requires.memory).each_part.1.1.1.1.0.stands)

pub behind-requires-clause-from : goal.behind-requires-clause-from
behind-requires-clause-from c = node_grown c.args.bank.now c.inside.new.bank (word W64 c.args.from) (grows_on c.in_ok-far.ensures.grows c.in_ok-condition.ensures.grows) ((c.requires.bank.well c.args.memory (CopyRange c.args.old c.args.to c.args.source c.args.from c.args.length) c.requires.memory).each_part.1.1.1.0.stands)

pub behind-requires-clause-far : goal.behind-requires-clause-far
behind-requires-clause-far c = part_of c.inside.new.bank (Word W64) c.in_ok-far.far (term_grown c.distance.new.bank c.inside.new.bank (Word W64) c.in_ok-far.far c.in_ok-condition.ensures.grows c.in_ok-far.ensures.node)

pub asked-yes-requires-clause-memory : goal.asked-yes-requires-clause-memory
asked-yes-requires-clause-memory c = node_grown c.args.bank.now c.behind.new.bank (memory c.args.source) (grows_on c.in_ok-far.ensures.grows (grows_on c.in_ok-condition.ensures.grows c.in_ok-place.ensures.grows)) ((c.requires.bank.well c.args.memory (CopyRange c.args.old c.args.to c.args.source c.args.from c.args.length) c.requires.memory).each_part.1.1.0.stands)

pub asked-no-requires-clause-memory : goal.asked-no-requires-clause-memory
asked-no-requires-clause-memory c = node_grown c.args.bank.now c.behind.new.bank (memory c.args.old) (grows_on c.in_ok-far.ensures.grows (grows_on c.in_ok-condition.ensures.grows c.in_ok-place.ensures.grows)) ((c.requires.bank.well c.args.memory (CopyRange c.args.old c.args.to c.args.source c.args.from c.args.length) c.requires.memory).each_part.0.stands)

pub asked-no-requires-clause-address : goal.asked-no-requires-clause-address
asked-no-requires-clause-address c = node_grown c.args.bank.now c.behind.new.bank (word W64 c.args.address) (grows_on c.in_ok-far.ensures.grows (grows_on c.in_ok-condition.ensures.grows c.in_ok-place.ensures.grows)) c.requires.address

pub returns-clause-grows : goal.returns-clause-grows
returns-clause-grows c = (grows_on c.in_ok-far.ensures.grows (grows_on c.in_ok-condition.ensures.grows c.in_ok-place.ensures.grows))

pub returns-clause-choice : goal.returns-clause-choice
returns-clause-choice c =
    let m = c.args.memory in
    let a = c.args.address in
    let to = c.args.to in
    let old = c.args.old in
    let n = c.args.length in
    let shape = CopyRange c.args.old c.args.to c.args.source c.args.from c.args.length in
    let s1 = c.distance.new.bank in
    let s2 = c.inside.new.bank in
    let s3 = c.behind.new.bank in
    let far = c.in_ok-far.far in
    let condition = c.in_ok-condition.condition in
    let last = c.in_ok-place.place in
    let e1 = c.in_ok-far.ensures in
    let e2 = c.in_ok-condition.ensures in
    let e3 = c.in_ok-place.ensures in
    let grown = returns-clause-grows c in
    let is = grown.kept m shape c.requires.memory in
    let ps = memory m ∷ (word W64 a ∷ []) in
    let below = (c.requires.bank.well m shape c.requires.memory).each_part in
    let parts1 = parts_flat s1 m a shape (e1.grows.kept m shape c.requires.memory) in
    let parts2 = parts_flat s2 m a shape ((grows_on e1.grows e2.grows).kept m shape c.requires.memory) in
    let parts3 = parts_flat s3 m a shape is in
    let here = node_grown c.args.bank.now s3 (word W64 a) grown c.requires.address in
    let f1 = flat_through s1 ps (word W64 to ∷ (word W64 a ∷ [])) far.index e1.flat (parts1.1.0, (flat_second s1 (memory m) (word W64 a) [], tt)) in
    let f2 = flat_through s2 ps (word W64 far.index ∷ (word W64 n ∷ [])) condition.index e2.flat (flat_grown s1 s2 ps far.index e2.grows f1, (parts2.1.1.1.1.0, tt)) in
    let far_is = word_at s1 s3 (λ v. distance (v to).word (v a).word) far e1.value (grows_on e2.grows e3.grows) in
    let from = c.args.from in
    let source = c.args.source in
    let f3 = flat_through s3 ps (word W64 from ∷ (word W64 far.index ∷ [])) last.index e3.flat (parts3.1.1.1.0, (flat_grown s1 s3 ps far.index (grows_on e2.grows e3.grows) f1, tt)) in
    choice_laid s3 m a to old (λ v. (v n).word) (λ v i. (v source).store.bytes (behind (v from).word i)) (record { condition = condition; yes = c.asked-yes.result; no = c.asked-no.result }) e3.bank here (laid_copy s3 m old to source from n is)
    (term_grown s2 s3 Truth condition e3.grows e2.node)
    (record { is = λ e v honest k. inside_is s3 (v far.index).word (distance (v to).word (v a).word) (v n).word (v n).word (v condition.index) (e2.value.is e v honest (weaken e3.grows k)) (far_is e v honest k) refl })
    (flat_grown s2 s3 ps condition.index e3.grows f2)
    (asks_found s3 source (word W64 last.index) c.asked-yes.result m ps c.asked-yes.ensures (part_of s3 (Word W64) last e3.node) below.1.1.0.before parts3.1.1.0 f3)
    (asks_found s3 old (word W64 a) c.asked-no.result m ps c.asked-no.ensures here below.0.before parts3.0 (flat_second s3 (memory m) (word W64 a) []))
    (λ e v honest k lt. asks_worth s3 source (word W64 last.index) c.asked-yes.result c.asked-yes.ensures e v k ∙ copied_worth (v source).store (v from).word (v far.index).word (distance (v to).word (v a).word) (v last.index).word (ap (λ (y : Worth). y.word) (e3.value.is e v honest k)) (far_is e v honest k) ((node_sorted s3 e v (word W64 last.index) e3.bank (part_of s3 (Word W64) last e3.node) k).1))
    (λ e v k. asks_worth s3 old (word W64 a) c.asked-no.result c.asked-no.ensures e v k)
