use Rattle.std.proofs.Common.{◌∙◌, sym, ap, Some}
use Rattle.plain_data.specs.declared.width.Width.TheVariants.{W8}
use Rattle.term_bank.specs.declared.shape.Shape.TheVariants.{Choose, Made, Ended, Read}
use Rattle.flat_reads.proofs.ChoiceLemmas.{arms, choice_chosen, leads_made, leads_ended, sort_memory}
use Rattle.flat_reads.proofs.choices.byte_choice.Goals as goal

pub asked-requires-clause-memory : goal.asked-requires-clause-memory
asked-requires-clause-memory c =
    let w = c.in-Some-Choose in
    (arms c.args.bank.now c.args.memory w.field-0-0 w.condition w.yes w.no c.requires.bank c.requires.well.parts_stand.0 (sym w.ensures.shape ∙ ap (λ t. Some t) w.field-0-is)).0

pub asked-requires-in-Some-Choose-clause-memory : goal.asked-requires-in-Some-Choose-clause-memory
asked-requires-in-Some-Choose-clause-memory c =
    let w = c.in-Some-Choose in
    (arms c.args.bank.now c.args.memory w.field-0-0 w.condition w.yes w.no c.requires.bank c.requires.well.parts_stand.0 (sym w.ensures.shape ∙ ap (λ t. Some t) w.field-0-is)).1

pub asked-found-requires-clause-memory : goal.asked-found-requires-clause-memory
asked-found-requires-clause-memory c =
    let w = c.in-Some-Made in
    (c.requires.bank.well c.args.memory (Made w.field-0-0 w.old w.field-0-2 w.field-0-3) (sym w.ensures.shape ∙ ap (λ t. Some t) w.field-0-is)).each_part.0.stands

pub asked-found-requires-in-Some-Ended-clause-memory : goal.asked-found-requires-in-Some-Ended-clause-memory
asked-found-requires-in-Some-Ended-clause-memory c =
    let w = c.in-Some-Ended in
    (c.requires.bank.well c.args.memory (Ended w.old w.field-0-1) (sym w.ensures.shape ∙ ap (λ t. Some t) w.field-0-is)).each_part.0.stands

pub returns-in-Some-Choose-clause-choice : goal.returns-in-Some-Choose-clause-choice
returns-in-Some-Choose-clause-choice c =
    let w = c.in-Some-Choose in
    let is = sym w.ensures.shape ∙ ap (λ t. Some t) w.field-0-is in
    choice_chosen c.args.bank.now c.args.memory c.args.address w.field-0-0 w.condition w.yes w.no c.asked.result c.asked-in-Some-Choose.result c.requires.bank is
    (sort_memory c.args.bank.now c.args.memory (Choose w.field-0-0 w.condition w.yes w.no) c.requires.well.parts_stand.0 is) c.requires.well.parts_stand.1.0 c.asked.ensures c.asked-in-Some-Choose.ensures

pub returns-in-Some-Made-clause-choice : goal.returns-in-Some-Made-clause-choice
returns-in-Some-Made-clause-choice c =
    let w = c.in-Some-Made in
    c.certain.ensures.choice (Read W8 c.args.memory c.args.address)
    (leads_made c.args.bank.now c.args.memory c.args.address w.field-0-0 w.old w.field-0-2 w.field-0-3 c.asked-found.result c.requires.bank (sym w.ensures.shape ∙ ap (λ t. Some t) w.field-0-is) c.requires.well.parts_stand.1.0 c.asked-found.ensures)

pub returns-in-Some-Ended-clause-choice : goal.returns-in-Some-Ended-clause-choice
returns-in-Some-Ended-clause-choice c =
    let w = c.in-Some-Ended in
    c.certain-in-Some-Ended.ensures.choice (Read W8 c.args.memory c.args.address)
    (leads_ended c.args.bank.now c.args.memory c.args.address w.old w.field-0-1 c.asked-found-in-Some-Ended.result c.requires.bank (sym w.ensures.shape ∙ ap (λ t. Some t) w.field-0-is) c.requires.well.parts_stand.1.0 c.asked-found-in-Some-Ended.ensures)
