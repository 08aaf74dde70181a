use Rattle.std.proofs.Common.{◌≡◌, ◌∷◌, [], arith, ap}
use Rattle.std.proofs.lemmas.Bool.Decides.{nat_tests}
use Rattle.plain_data.specs.declared.width.Width.TheVariants.{W64}
use Rattle.term_bank.specs.declared.sort.Sort.TheVariants.{Word}
use Rattle.term_bank.specs.Memories.{behind}
use Rattle.term_bank.specs.Shapes.{word}
use Rattle.term_bank.specs.Values.{of_word}
use Rattle.flat_reads.proofs.FlatLemmas.{gives_through, flat_first, flat_through, word_at}
use Rattle.flat_reads.proofs.WordLemmas.{place_none}
use Rattle.flat_reads.proofs.words.place_at.Goals as goal

pub returns-then-far-eq0 : goal.returns-then-far-eq0
returns-then-far-eq0 c =
    let none : c.args.far ≡ 0 = grind (arith, nat_tests, c.if-far-eq0.true) in
    place_none c.args.bank.now c.args.address c.args.far c.requires.bank none c.requires.address

pub returns : goal.returns
returns c =
    let a = c.args.address in
    let s1 = c.constant.new.bank in
    let new = c.behind.new.bank in
    let by = c.in_ok-by.by in
    let e1 = c.in_ok-by.ensures in
    let ps = word W64 a ∷ [] in
    gives_through c.args.bank.now s1 new ps (word W64 a ∷ (word W64 by.index ∷ [])) (Word W64) (λ v. of_word (behind (v a).word (v by.index).word)) (λ v. of_word (behind (v a).word c.args.far)) c.behind.result e1.grows c.behind.ensures
    (flat_first s1 (word W64 a) [], (flat_through s1 ps [] by.index e1.flat tt, tt))
    (λ e v honest m. ap (λ x. of_word (behind (v a).word x)) (word_at s1 new (λ _. c.args.far) by e1.value c.behind.ensures.grows e v honest m))
