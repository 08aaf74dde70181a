use Rattle.std.proofs.Common.{Option, option_map, sym, subst}
use Rattle.std.proofs.lemmas.Result.{IfOk-weaker}
use Rattle.c_language.specs.declared.unit.Initializer.{Initializer}
use Rattle.c_declares.specs.Views.{formed_in}
use Rattle.c_declarations.specs.Beginnings.{begins_in}
use Rattle.c_means.specs.Initials.{initially}
use Rattle.c_means.specs.Statements.{name_offset}
use Rattle.c_item_notes.specs.ItemTellings.{item_as}
use Rattle.core_objects.specs.Begun.{IsBegun}
use Rattle.core_declarations.proofs.Declarators.{filled_begun, plain_begun}
use Rattle.core_declarations.proofs.declarations.one_declarator.Goals as goal

pub returns-in_ok-front-in-None : goal.returns-in_ok-front-in-None
returns-in_ok-front-in-None g c =
    let n = g.C.Places.numbering c.args.callees.now in
    let f = formed_in c.args.formed c.args.scope.now in
    let u = c.declared_first.new.scope in
    IfOk-weaker c.without_initializer.result _ _ (λ y h.
    subst (λ (o : Option Initializer). IsBegun n y (item_as c.args.storage c.args.specified.now f (option_map initially o)) u)
    (sym c.in-None.is)
    (plain_begun n c.args.storage c.args.specified.now f (begins_in c.in_ok-front-in-None.front u) y u
    c.in_ok-front-in-None.ensures h)) (c.without_initializer.ensures (name_offset f.name))

pub returns-in_ok-front-in-Some : goal.returns-in_ok-front-in-Some
returns-in_ok-front-in-Some g c =
    let n = g.C.Places.numbering c.args.callees.now in
    let f = formed_in c.args.formed c.args.scope.now in
    let i = initially c.in-Some.initializer in
    let u = c.with_initializer.new.scope in
    IfOk-weaker c.with_initializer.result _ _ (λ y h.
    subst (λ (o : Option Initializer). IsBegun n y (item_as c.args.storage c.args.specified.now f (option_map initially o)) u)
    (sym c.in-Some.is)
    (filled_begun n c.args.storage c.args.specified.now f i
    (begins_in c.in_ok-front-in-Some.front c.declared_first-in-Some.new.scope) y u c.in_ok-front-in-Some.ensures h))
    (c.with_initializer.ensures (name_offset f.name))
