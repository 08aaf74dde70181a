use Rattle.std.proofs.Common.{Some, ap, sym, ◌∙◌}
use Rattle.flat_reads.proofs.ChoiceLemmas.{arms}
use Rattle.flat_reads.proofs.ObjectLemmas.{earlier_write, earlier_zero, earlier_copy, object_chosen}
use Rattle.flat_reads.proofs.object_choices.object_choice.Goals as goal

pub asked_object-requires-clause-memory : goal.asked_object-requires-clause-memory
asked_object-requires-clause-memory c =
    let w = c.in-Some-Choose in
    (arms c.args.bank.now c.args.memory w.field-0-0 w.condition w.yes w.no c.requires.bank c.requires.memory (sym w.ensures.shape ∙ ap (λ t. Some t) w.field-0-is)).0

pub asked_object-requires-in-Some-Choose-clause-memory : goal.asked_object-requires-in-Some-Choose-clause-memory
asked_object-requires-in-Some-Choose-clause-memory c =
    let w = c.in-Some-Choose in
    (arms c.args.bank.now c.args.memory w.field-0-0 w.condition w.yes w.no c.requires.bank c.requires.memory (sym w.ensures.shape ∙ ap (λ t. Some t) w.field-0-is)).1

pub returns-in-Some-Choose-clause-choice : goal.returns-in-Some-Choose-clause-choice
returns-in-Some-Choose-clause-choice c =
    let w = c.in-Some-Choose in
    object_chosen c.args.bank.now c.args.memory c.args.question w.field-0-0 w.condition w.yes w.no c.asked_object.result c.asked_object-in-Some-Choose.result c.requires.bank (sym w.ensures.shape ∙ ap (λ t. Some t) w.field-0-is) c.requires.operands c.asked_object.ensures c.asked_object-in-Some-Choose.ensures

pub kept-requires-clause-old : goal.kept-requires-clause-old
kept-requires-clause-old c =
    let w = c.in-Some-Write in
    earlier_write c.args.bank.now c.args.question c.args.memory w.field-0-0 w.old w.field-0-2 w.field-0-3 c.requires.bank (sym w.ensures.shape ∙ ap (λ t. Some t) w.field-0-is)

pub kept-requires-in-Some-ZeroRange-clause-old : goal.kept-requires-in-Some-ZeroRange-clause-old
kept-requires-in-Some-ZeroRange-clause-old c =
    let w = c.in-Some-ZeroRange in
    earlier_zero c.args.bank.now c.args.question c.args.memory w.old w.field-0-1 w.field-0-2 c.requires.bank (sym w.ensures.shape ∙ ap (λ t. Some t) w.field-0-is)

pub kept-requires-in-Some-CopyRange-clause-old : goal.kept-requires-in-Some-CopyRange-clause-old
kept-requires-in-Some-CopyRange-clause-old c =
    let w = c.in-Some-CopyRange in
    earlier_copy c.args.bank.now c.args.question c.args.memory w.old w.field-0-1 w.field-0-2 w.field-0-3 w.field-0-4 c.requires.bank (sym w.ensures.shape ∙ ap (λ t. Some t) w.field-0-is)
