use Rattle.std.proofs.Common.{sym, ap, ◌∙◌}
use Rattle.std.proofs.lemmas.Result.{IfOk-weaker}
use Rattle.c_language.specs.Declares.{DeclaratorSays, Formed}
use Rattle.c_means.specs.Statements.{declaring}
use Rattle.c_item_notes.specs.Levels.{judged}
use Rattle.c_item_notes.specs.ItemTellings.{item_as, summed}
use Rattle.c_item_notes.proofs.Declaring.{declarator_is}
use Rattle.c_item_notes.proofs.DeclaredItems.{one_more}
use Rattle.c_item_notes.proofs.declarations.and_declarator.Goals as goal

pub returns : goal.returns
returns c =
    let j = judged c.args.source.now in
    let s = c.args.scope.now in
    let y = declaring c.args.item.now in
    IfOk-weaker c.both.result _ _ (λ n h. one_more j c.args.before c.in_ok-notes.notes n s c.declarator_notes.new.scope
    (item_as c.args.storage c.args.specified.now (y.declarator s) y.initial) h
    (c.in_ok-notes.ensures ∙ ap (λ (f : Formed). summed j (item_as c.args.storage c.args.specified.now f y.initial))
    (c.in_ok-formed.ensures ∙ ap (λ (g : DeclaratorSays). g s) (sym (declarator_is c.args.item.now.declarator)))))
    c.both.ensures
