use Rattle.std.proofs.Common.{Some, ap, sym, ◌∙◌}
use Rattle.term_bank.specs.declared.shape.Shape.TheVariants.{Made, Ended}
use Rattle.flat_reads.proofs.ObjectLemmas.{earlier_write, earlier_zero, earlier_copy, earlier_made, earlier_ended}
use Rattle.flat_reads.proofs.earlier.before.Goals as goal

pub asks_other-requires-clause-object : goal.asks_other-requires-clause-object
asks_other-requires-clause-object c =
    let w = c.in-Some-Made in
    (w.ensures.bank.well c.args.memory (Made w.field-0-0 w.old w.object w.field-0-3) (sym w.ensures.shape ∙ ap (λ t. Some t) w.field-0-is)).each_part.1.0.stands

pub asks_other-requires-in-Ended-1-clause-object : goal.asks_other-requires-in-Ended-1-clause-object
asks_other-requires-in-Ended-1-clause-object c =
    let w = c.in-Some-Ended in
    (w.ensures.bank.well c.args.memory (Ended w.old w.object) (sym w.ensures.shape ∙ ap (λ t. Some t) w.field-0-is)).each_part.1.0.stands

pub returns-in-Some-Write : goal.returns-in-Some-Write
returns-in-Some-Write c =
    let w = c.in-Some-Write in
    earlier_write c.args.bank.now c.args.question c.args.memory w.field-0-0 w.old w.field-0-2 w.field-0-3 w.ensures.bank (sym w.ensures.shape ∙ ap (λ t. Some t) w.field-0-is)

pub returns-in-Some-ZeroRange : goal.returns-in-Some-ZeroRange
returns-in-Some-ZeroRange c =
    let w = c.in-Some-ZeroRange in
    earlier_zero c.args.bank.now c.args.question c.args.memory w.old w.field-0-1 w.field-0-2 w.ensures.bank (sym w.ensures.shape ∙ ap (λ t. Some t) w.field-0-is)

pub returns-in-Some-CopyRange : goal.returns-in-Some-CopyRange
returns-in-Some-CopyRange c =
    let w = c.in-Some-CopyRange in
    earlier_copy c.args.bank.now c.args.question c.args.memory w.old w.field-0-1 w.field-0-2 w.field-0-3 w.field-0-4 w.ensures.bank (sym w.ensures.shape ∙ ap (λ t. Some t) w.field-0-is)

pub returns-in-Some-Made : goal.returns-in-Some-Made
returns-in-Some-Made c =
    let w = c.in-Some-Made in
    earlier_made c.args.bank.now c.args.question c.args.memory w.field-0-0 w.old w.object w.field-0-3 w.ensures.bank (sym w.ensures.shape ∙ ap (λ t. Some t) w.field-0-is) (c.asks_other.ensures c.if-asks_other.true)

pub returns-in-Some-Ended : goal.returns-in-Some-Ended
returns-in-Some-Ended c =
    let w = c.in-Some-Ended in
    earlier_ended c.args.bank.now c.args.question c.args.memory w.old w.object w.ensures.bank (sym w.ensures.shape ∙ ap (λ t. Some t) w.field-0-is) (c.asks_other-in-Ended-1.ensures c.if-asks_other-2.true)
