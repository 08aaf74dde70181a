use Rattle.plain_data.specs.declared.width.Width.TheVariants.{W8}
use Rattle.term_bank.specs.declared.shape.Shape.TheVariants.{Read}
use Rattle.flat_reads.proofs.ChoiceLemmas.{leads_initial}
use Rattle.flat_reads.proofs.choices.initial.Goals as goal

pub returns-clause-choice : goal.returns-clause-choice
returns-clause-choice c =
    let e = c.in_ok-byte.ensures in
    c.certain.ensures.choice (Read W8 c.args.memory c.args.address) (leads_initial c.args.bank.now c.initial_byte.new.bank c.args.memory c.args.address c.in_ok-byte.byte e.grows c.requires.bank c.requires.memory c.requires.address e.node e.flat e.value)
