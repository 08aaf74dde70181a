use Rattle.std.proofs.Common.{◌≡◌, [], IfOk, Option, map, ap, subst, ◌∙◌}
use Rattle.c_language.specs.declared.ctype.CType.{CType}
use Rattle.c_language.specs.Declares.{said_by}
use Rattle.c_language.specs.Trees.{specifier_says}
use Rattle.c_means.specs.Items.{typing}
use Rattle.c_means.specs.Statements.{declaration, declaring, is_alone}
use Rattle.c_checks.specs.Refusals.{least_of}
use Rattle.c_item_notes.specs.declared.items.ItemNotes.{ItemNotes}
use Rattle.c_item_notes.specs.Levels.{judged}
use Rattle.c_item_notes.specs.ItemTellings.{Summed, breaking, items_from, nothing_noted, summed, summed_in}
use Rattle.c_item_notes.proofs.DeclaredItems.{whole_item}
use Rattle.c_item_notes.proofs.declarations.declaration_notes.Goals as goal

pub returns : goal.returns
returns c =
    let j = judged c.args.source.now in
    let x = c.args.declaration.now in
    let said = c.in_ok-said.said in
    let t = c.specifiers.new.scope in
    let e : items_from j said.storage c.in_ok-specified.specified (summed_in c.behind_specifiers-before.result t)
    (map declaring c.as_slice-items.result.now) ≡ summed j (declaration x c.args.scope.now) =
    ap (λ items. items_from j said.storage c.in_ok-specified.specified (summed_in c.behind_specifiers-before.result t)
    (map declaring items)) c.as_slice-items.ensures
    ∙ ap (λ (n : ItemNotes). items_from j said.storage c.in_ok-specified.specified (summed_in n t) (map declaring x.declarators))
    c.behind_specifiers-before.ensures
    ∙ ap (λ (u : Option CType). items_from j said.storage u (summed_in (breaking (least_of (typing said.faults)) nothing_noted) t) (map declaring x.declarators)) c.in_ok-specified.ensures
    ∙ whole_item j x c.args.scope.now t said c.is_alone.result
    (c.in_ok-said.ensures ∙ ap (λ ss. said_by (map specifier_says ss) c.is_alone.result [] c.args.scope.now) c.as_slice.ensures)
    (c.is_alone.ensures ∙ ap (λ items. is_alone (map declaring items)) c.as_slice-items.ensures)
    in
    subst (λ (q : Summed). IfOk c.each_declarator.result (λ y. summed_in y c.each_declarator.new.scope ≡ q)) e
    c.each_declarator.ensures
