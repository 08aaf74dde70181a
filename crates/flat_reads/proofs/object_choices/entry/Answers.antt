use Rattle.std.proofs.Common.{subst, sym, ap, ◌∙◌}
use Rattle.term_bank.specs.Shapes.{IsWell, sort_of}
use Rattle.term_bank.specs.Values.{IsWorth}
use Rattle.term_bank.specs.Under.{IsOver}
use Rattle.term_bank.proofs.BankLemmas.{grows_on}
use Rattle.flat_reads.specs.Objects.{asked_of}
use Rattle.flat_reads.proofs.ObjectLemmas.{leads_left, well_of}
use Rattle.flat_reads.proofs.object_choices.entry.Goals as goal

pub add-requires : goal.add-requires
add-requires c = subst (IsWell c.args.bank.now) (sym c.of.ensures) (well_of c.args.bank.now c.args.memory c.args.question c.requires.stands c.requires.operands)

pub returns-clause-choice : goal.returns-clause-choice
returns-clause-choice c =
    let new = c.add.new.self in
    let e = c.in_ok-node.ensures in
    let node = c.in_ok-node.node in
    let m = c.args.memory in
    let q = c.args.question in
    c.certain.ensures.choice (asked_of m q)
    (leads_left c.args.bank.now new m q node e.grows c.requires.memory e.node (e.sort ∙ ap sort_of c.of.ensures) (subst (λ s. IsWorth new s node) c.of.ensures e.value) (subst (λ s. IsOver new s node) c.of.ensures e.over))

pub returns-clause-grows : goal.returns-clause-grows
returns-clause-grows c = grows_on c.in_ok-node.ensures.grows c.certain.ensures.grows
