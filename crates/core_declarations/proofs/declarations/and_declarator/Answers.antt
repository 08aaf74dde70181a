use Rattle.std.proofs.Common.{sym, ap, ◌∙◌, subst}
use Rattle.std.proofs.lemmas.Result.{IfOk-weaker}
use Rattle.c_language.specs.Declares.{DeclaratorSays, Formed}
use Rattle.c_means.specs.Statements.{declaring}
use Rattle.c_item_notes.specs.ItemTellings.{item_as}
use Rattle.c_item_notes.proofs.Declaring.{declarator_is}
use Rattle.core_objects.specs.Begun.{IsBegun}
use Rattle.core_declarations.proofs.declarations.and_declarator.Goals as goal

pub returns : goal.returns
returns g c =
    let n = g.C.Places.numbering c.args.callees.now in
    let s = c.args.scope.now in
    let y = declaring c.args.item.now in
    IfOk-weaker c.joined.result _ _ (λ z is. record {
      one = c.in_ok-one.one;
      is = is;
      begun = subst (λ (f : Formed). IsBegun n c.in_ok-one.one (item_as c.args.storage c.args.specified.now f y.initial)
          c.one_declarator.new.scope)
          (c.in_ok-formed.ensures ∙ ap (λ (d : DeclaratorSays). d s) (sym (declarator_is c.args.item.now.declarator)))
          c.in_ok-one.ensures;
    }) c.joined.ensures
