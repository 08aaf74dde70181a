use Rattle.std.proofs.Common.{◌≡◌, ◌∙◌, sym, subst, arith}
use Rattle.std.proofs.lemmas.Bool.Decides.{nat_tests}
use Rattle.term_bank.proofs.BankLemmas.{stays}
use Rattle.term_bank.specs.declared.shape.Shape.TheVariants.{Choose}
use Rattle.term_bank.specs.Shapes.{IsWell, sort_of, parts}
use Rattle.term_bank.specs.Values.{IsWorth}
use Rattle.term_bank.specs.Under.{IsOver}
use Rattle.flat_reads.specs.Choices.{rank}
use Rattle.flat_reads.proofs.AnswerLemmas.{found_stands, made_well, made_answer, made_more, same_answer}
use Rattle.flat_reads.proofs.answers.make.Goals as goal

pub add-requires : goal.add-requires
add-requires c =
    let a = c.args.bank.now in
    let q = c.args.question in
    let h = c.requires.choice in
    let yes_node = c.in-Some.yes in
    let no_node = c.in-Some-found_node.no in
    subst (λ s. IsWell a (Choose s c.args.choice.condition.index yes_node.index no_node.index)) (sym c.sort.ensures) (made_well a q c.args.choice yes_node no_node h
    (found_stands a c.args.answers.now (rank q) (sort_of q) (parts q) c.args.choice.yes yes_node c.requires.answers h.yes (sym c.found_node.ensures ∙ c.in-Some.is))
    (found_stands a c.args.answers.now (rank q) (sort_of q) (parts q) c.args.choice.no no_node c.requires.answers h.no (sym c.found_node-2.ensures ∙ c.in-Some-found_node.is)))

pub returns-clause-made : goal.returns-clause-made
returns-clause-made c =
    let a = c.args.bank.now in
    let b = c.add.new.self in
    let q = c.args.question in
    let h = c.requires.choice in
    let condition = c.args.choice.condition.index in
    let yes_node = c.in-Some.yes in
    let no_node = c.in-Some-found_node.no in
    let node = c.in_ok-node.node in
    let e = c.in_ok-node.ensures in
    made_more a b c.args.answers.now c.set_answer-2.new.answers q node e.grows c.requires.answers c.in_ok-set_answer-2.ensures
    (made_answer a b q c.args.choice yes_node no_node node e.grows h
    (found_stands a c.args.answers.now (rank q) (sort_of q) (parts q) c.args.choice.yes yes_node c.requires.answers h.yes (sym c.found_node.ensures ∙ c.in-Some.is))
    (found_stands a c.args.answers.now (rank q) (sort_of q) (parts q) c.args.choice.no no_node c.requires.answers h.no (sym c.found_node-2.ensures ∙ c.in-Some-found_node.is))
    e.node (e.sort ∙ c.sort.ensures)
    (subst (λ s. IsWorth b (Choose s condition yes_node.index no_node.index) node) c.sort.ensures e.value)
    (subst (λ s. IsOver b (Choose s condition yes_node.index no_node.index) node) c.sort.ensures e.over))

pub returns-then-yes-no-clause-made : goal.returns-then-yes-no-clause-made
returns-then-yes-no-clause-made c =
    let a = c.args.bank.now in
    let q = c.args.question in
    let h = c.requires.choice in
    let one = c.in-Some.yes in
    let other = c.in-Some-found_node.no in
    let same : one.index ≡ other.index = grind (arith, nat_tests, c.if-yes-no.true) in
    made_more a a c.args.answers.now c.set_answer.new.answers q one stays c.requires.answers c.in_ok-set_answer.ensures
    (same_answer a q c.args.choice one other h
    (found_stands a c.args.answers.now (rank q) (sort_of q) (parts q) c.args.choice.yes one c.requires.answers h.yes (sym c.found_node.ensures ∙ c.in-Some.is))
    (found_stands a c.args.answers.now (rank q) (sort_of q) (parts q) c.args.choice.no other c.requires.answers h.no (sym c.found_node-2.ensures ∙ c.in-Some-found_node.is))
    same)
