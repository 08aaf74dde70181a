use Rattle.std.proofs.Common.{refl, ◌∙◌}
use Rattle.path_rooms.proofs.Giving.{on_ok, given_by, gives_none, gives_one, gives_part, return_gives}
use Rattle.core_tree.specs.Codes.{code}
use Rattle.path_rooms.proofs.CodeForms as kinds
use Rattle.path_rooms.proofs.births.+add_object.Goals as goal

pub returns-in-Declare : goal.returns-in-Declare
returns-in-Declare t c =
    on_ok c.push.result
    (λ pushed m. gives_one m (code c.args.code.now) c.args.place c.args.all.now _ _ _ pushed
    (λ base. given_by m _ _ base (kinds.is-Declare c.args.code.now _ _ _ _ _ c.in-Declare.is refl)))
    c.push.ensures.ok

pub returns-in-Label : goal.returns-in-Label
returns-in-Label t c =
    on_ok c.add_object.result
    (λ added m. gives_part m (code c.args.code.now) c.args.place c.args.all.now _ _
    (λ base. given_by m _ _ base (kinds.is-Label c.args.code.now _ _ _ _ c.in-Label.is refl c.get.ensures)) (added m))
    c.add_object.ensures

pub returns-in-Case : goal.returns-in-Case
returns-in-Case t c =
    on_ok c.add_object-in-Case.result
    (λ added m. gives_part m (code c.args.code.now) c.args.place c.args.all.now _ _
    (λ base. given_by m _ _ base (kinds.is-Case c.args.code.now _ _ _ _ c.in-Case.is c.get-in-Case.ensures)) (added m))
    c.add_object-in-Case.ensures

pub returns-in-Default : goal.returns-in-Default
returns-in-Default t c =
    on_ok c.add_object-in-Default.result
    (λ added m. gives_part m (code c.args.code.now) c.args.place c.args.all.now _ _
    (λ base. given_by m _ _ base (kinds.is-Default c.args.code.now _ _ c.in-Default.is c.get-in-Default.ensures)) (added m))
    c.add_object-in-Default.ensures

pub returns-in-Nothing : goal.returns-in-Nothing
returns-in-Nothing t c =
    λ m. gives_none m (code c.args.code.now) c.args.place c.args.all.now
    (λ base. given_by m _ _ base (kinds.is-Nothing c.args.code.now _ c.in-Nothing.is))

pub returns-in-Value : goal.returns-in-Value
returns-in-Value t c =
    λ m. gives_none m (code c.args.code.now) c.args.place c.args.all.now
    (λ base. given_by m _ _ base (kinds.is-Value c.args.code.now _ _ _ c.in-Value.is refl))

pub returns-in-Static : goal.returns-in-Static
returns-in-Static t c =
    λ m. gives_none m (code c.args.code.now) c.args.place c.args.all.now
    (λ base. given_by m _ _ base (kinds.is-Static c.args.code.now _ _ c.in-Static.is))

pub returns-in-Block : goal.returns-in-Block
returns-in-Block t c =
    λ m. gives_none m (code c.args.code.now) c.args.place c.args.all.now
    (λ base. given_by m _ _ base (kinds.is-Block c.args.code.now _ _ _ c.in-Block.is refl))

pub returns-in-If : goal.returns-in-If
returns-in-If t c =
    λ m. gives_none m (code c.args.code.now) c.args.place c.args.all.now
    (λ base. given_by m _ _ base (kinds.is-If c.args.code.now _ _ _ _ _ _ _ c.in-If.is refl refl refl))

pub returns-in-Switch : goal.returns-in-Switch
returns-in-Switch t c =
    λ m. gives_none m (code c.args.code.now) c.args.place c.args.all.now
    (λ base. given_by m _ _ base (kinds.is-Switch c.args.code.now _ _ _ _ _ _ _ _ _ c.in-Switch.is refl refl refl))

pub returns-in-Loop : goal.returns-in-Loop
returns-in-Loop t c =
    λ m. gives_none m (code c.args.code.now) c.args.place c.args.all.now
    (λ base. given_by m _ _ base (kinds.is-Loop c.args.code.now _ _ _ _ _ c.in-Loop.is refl))

pub returns-in-Repeat : goal.returns-in-Repeat
returns-in-Repeat t c =
    λ m. gives_none m (code c.args.code.now) c.args.place c.args.all.now
    (λ base. given_by m _ _ base (kinds.is-Repeat c.args.code.now _ _ _ _ _ c.in-Repeat.is refl refl))

pub returns-in-Goto : goal.returns-in-Goto
returns-in-Goto t c =
    λ m. gives_none m (code c.args.code.now) c.args.place c.args.all.now
    (λ base. given_by m _ _ base (kinds.is-Goto c.args.code.now _ c.in-Goto.is))

pub returns-in-Continue : goal.returns-in-Continue
returns-in-Continue t c =
    λ m. gives_none m (code c.args.code.now) c.args.place c.args.all.now
    (λ base. given_by m _ _ base (kinds.is-Continue c.args.code.now c.in-Continue.is))

pub returns-in-Break : goal.returns-in-Break
returns-in-Break t c =
    λ m. gives_none m (code c.args.code.now) c.args.place c.args.all.now
    (λ base. given_by m _ _ base (kinds.is-Break c.args.code.now c.in-Break.is))

pub returns-in-Return : goal.returns-in-Return
returns-in-Return t c =
    λ m. gives_none m (code c.args.code.now) c.args.place c.args.all.now
    (λ base. given_by m _ _ base (kinds.is-Return c.args.code.now _ c.in-Return.is) ∙ return_gives m _ base)
