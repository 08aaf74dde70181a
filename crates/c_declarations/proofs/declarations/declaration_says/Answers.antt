use Rattle.std.proofs.Common.{◌≡◌, [], IfOk, map, ap, subst, ◌∙◌}
use Rattle.c_language.specs.Scopes.{empty}
use Rattle.c_language.specs.Declares.{said_by}
use Rattle.c_language.specs.Declarations.{Declares, is_alone}
use Rattle.c_language.specs.Trees.{specifier_says}
use Rattle.c_language.specs.Units.{declaration_says}
use Rattle.c_declarations.specs.Views.{declares_in, each_as, item_of}
use Rattle.c_declarations.proofs.Wholes.{specified_free, whole_is}
use Rattle.c_declarations.proofs.declarations.declaration_says.Goals as goal

pub returns : goal.returns
returns c =
    let x = c.args.declaration.now in
    let said = c.in_ok-said.said in
    let t = c.specifiers.new.scope in
    let e : each_as said.storage c.in_ok-specified.specified (record { entries = c.new.result; faults = said.faults; after = t })
    (map item_of c.as_slice-items.result.now) ≡ declaration_says x c.args.scope.now =
    ap (λ items. each_as said.storage c.in_ok-specified.specified
    (record { entries = c.new.result; faults = said.faults; after = t }) (map item_of items)) c.as_slice-items.ensures
    ∙ ap (λ entries. each_as said.storage c.in_ok-specified.specified
    (record { entries = entries; faults = said.faults; after = t }) (map item_of x.declarators)) c.new.ensures
    ∙ ap (λ u. each_as said.storage u (record { entries = []; faults = said.faults; after = t })
    (map item_of x.declarators)) (c.in_ok-specified.ensures ∙ specified_free said empty t)
    ∙ whole_is x c.args.scope.now t said c.is_alone.result
    (c.in_ok-said.ensures ∙ ap (λ ss. said_by (map specifier_says ss) c.is_alone.result [] c.args.scope.now) c.as_slice.ensures)
    (c.is_alone.ensures ∙ ap (λ items. is_alone (map item_of items)) c.as_slice-items.ensures)
    in
    subst (λ (q : Declares). IfOk c.each_declarator.result (λ y. declares_in y c.each_declarator.new.scope ≡ q)) e
    c.each_declarator.ensures
