use Rattle.plain_data.specs.declared.width.Width.TheVariants.{W8}
use Rattle.term_bank.specs.declared.shape.Shape.TheVariants.{Read}
use Rattle.flat_reads.proofs.ChoiceLemmas.{leads_entry}
use Rattle.flat_reads.proofs.choices.entry.Goals as goal

pub returns-clause-choice : goal.returns-clause-choice
returns-clause-choice c =
    let e = c.in_ok-byte.ensures in
    c.certain.ensures.choice (Read W8 c.args.memory c.args.address) (leads_entry c.args.bank.now c.add.new.self c.args.memory c.args.address c.in_ok-byte.byte e.grows c.requires.memory e.node e.sort e.value e.over)
