use Rattle.std.proofs.Common.{refl, ap, ◌∙◌}
use Rattle.c_memory.proofs.Cells.{on_ok}
use Rattle.code_steps.specs.Blocks.{objects_of}
use Rattle.code_steps.proofs.Giving.{add_none, add_one, add_part}
use Rattle.code_steps.proofs.Giving.{return_gives}
use Rattle.code_steps.proofs.Items as items
use Rattle.code_steps.proofs.objects.+add_object.Goals as goal

pub returns-in-Declare : goal.returns-in-Declare
returns-in-Declare t c = λ s.
    on_ok c.push.result
    (λ pushed. add_one _ _ _ _ pushed (ap (λ x. objects_of s x c.args.base) (items.is-Declare c.args.code.now _ _ _ _ _ c.in-Declare.is refl)))
    c.push.ensures.ok

pub returns-in-Label : goal.returns-in-Label
returns-in-Label t c = λ s.
    on_ok c.add_object.result
    (λ added. add_part c.args.all.now _ _ _ added (ap (λ x. objects_of s x c.args.base) (items.is-Label c.args.code.now _ _ _ _ c.in-Label.is refl c.get.ensures)))
    (c.add_object.ensures s)

pub returns-in-Case : goal.returns-in-Case
returns-in-Case t c = λ s.
    on_ok c.add_object-in-Case.result
    (λ added. add_part c.args.all.now _ _ _ added (ap (λ x. objects_of s x c.args.base) (items.is-Case c.args.code.now _ _ _ _ c.in-Case.is c.get-in-Case.ensures)))
    (c.add_object-in-Case.ensures s)

pub returns-in-Default : goal.returns-in-Default
returns-in-Default t c = λ s.
    on_ok c.add_object-in-Default.result
    (λ added. add_part c.args.all.now _ _ _ added (ap (λ x. objects_of s x c.args.base) (items.is-Default c.args.code.now _ _ c.in-Default.is c.get-in-Default.ensures)))
    (c.add_object-in-Default.ensures s)

pub returns-in-Nothing : goal.returns-in-Nothing
returns-in-Nothing t c = λ s. add_none c.args.all.now _ (ap (λ x. objects_of s x c.args.base) (items.is-Nothing c.args.code.now _ c.in-Nothing.is))

pub returns-in-Value : goal.returns-in-Value
returns-in-Value t c = λ s. add_none c.args.all.now _ (ap (λ x. objects_of s x c.args.base) (items.is-Value c.args.code.now _ _ _ c.in-Value.is refl))

pub returns-in-Static : goal.returns-in-Static
returns-in-Static t c = λ s. add_none c.args.all.now _ (ap (λ x. objects_of s x c.args.base) (items.is-Static c.args.code.now _ _ c.in-Static.is))

pub returns-in-Block : goal.returns-in-Block
returns-in-Block t c = λ s. add_none c.args.all.now _ (ap (λ x. objects_of s x c.args.base) (items.is-Block c.args.code.now _ _ _ c.in-Block.is refl))

pub returns-in-If : goal.returns-in-If
returns-in-If t c = λ s. add_none c.args.all.now _ (ap (λ x. objects_of s x c.args.base) (items.is-If c.args.code.now _ _ _ _ _ _ _ c.in-If.is refl refl refl))

pub returns-in-Switch : goal.returns-in-Switch
returns-in-Switch t c = λ s. add_none c.args.all.now _ (ap (λ x. objects_of s x c.args.base) (items.is-Switch c.args.code.now _ _ _ _ _ _ _ _ _ c.in-Switch.is refl refl refl))

pub returns-in-Loop : goal.returns-in-Loop
returns-in-Loop t c = λ s. add_none c.args.all.now _ (ap (λ x. objects_of s x c.args.base) (items.is-Loop c.args.code.now _ _ _ _ _ c.in-Loop.is refl))

pub returns-in-Repeat : goal.returns-in-Repeat
returns-in-Repeat t c = λ s. add_none c.args.all.now _ (ap (λ x. objects_of s x c.args.base) (items.is-Repeat c.args.code.now _ _ _ _ _ c.in-Repeat.is refl refl))

pub returns-in-Goto : goal.returns-in-Goto
returns-in-Goto t c = λ s. add_none c.args.all.now _ (ap (λ x. objects_of s x c.args.base) (items.is-Goto c.args.code.now _ c.in-Goto.is))

pub returns-in-Continue : goal.returns-in-Continue
returns-in-Continue t c = λ s. add_none c.args.all.now _ (ap (λ x. objects_of s x c.args.base) (items.is-Continue c.args.code.now c.in-Continue.is))

pub returns-in-Break : goal.returns-in-Break
returns-in-Break t c = λ s. add_none c.args.all.now _ (ap (λ x. objects_of s x c.args.base) (items.is-Break c.args.code.now c.in-Break.is))

pub returns-in-Return : goal.returns-in-Return
returns-in-Return t c = λ s. add_none c.args.all.now _ (ap (λ x. objects_of s x c.args.base) (items.is-Return c.args.code.now _ c.in-Return.is) ∙ return_gives s _ c.args.base)
