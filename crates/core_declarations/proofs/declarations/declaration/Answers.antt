use Rattle.std.proofs.Common.{[], Option, map, ap, subst, ◌∙◌}
use Rattle.std.proofs.lemmas.Result.{IfOk-weaker}
use Rattle.c_language.specs.declared.ctype.CType.{CType}
use Rattle.c_language.specs.Declares.{said_by}
use Rattle.c_language.specs.Trees.{specifier_says}
use Rattle.c_means.specs.Items.{Item}
use Rattle.c_means.specs.Statements.{declaring, is_alone}
use Rattle.core_objects.specs.Begun.{IsBegun}
use Rattle.core_declarations.specs.Items.{items_by}
use Rattle.core_declarations.proofs.Declarators.{whole_begun}
use Rattle.core_declarations.proofs.declarations.declaration.Goals as goal

pub returns : goal.returns
returns g c =
    let n = g.C.Places.numbering c.args.callees.now in
    let x = c.args.declaration.now in
    let s = c.args.scope.now in
    let said = c.in_ok-said.said in
    let t = c.specifiers.new.scope in
    let u = c.each_declarator.new.scope in
    IfOk-weaker c.each_declarator.result _ _ (λ y h.
    whole_begun n x s t said c.is_alone.result y u
    (c.in_ok-said.ensures ∙ ap (λ ss. said_by (map specifier_says ss) c.is_alone.result [] s) c.as_slice.ensures)
    (c.is_alone.ensures ∙ ap (λ items. is_alone (map declaring items)) c.as_slice-items.ensures)
    (subst (λ (i : Item). IsBegun n y i u)
    (ap (λ items. items_by said.storage c.in_ok-specified.specified (map declaring items) t) c.as_slice-items.ensures
    ∙ ap (λ (o : Option CType). items_by said.storage o (map declaring x.declarators) t) c.in_ok-specified.ensures) h))
    c.each_declarator.ensures
