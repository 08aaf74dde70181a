use Rattle.std.proofs.Common.{map, ap, ◌∙◌, subst}
use Rattle.std.proofs.lemmas.Result.{IfOk-weaker}
use Rattle.c_language.specs.Initials.{fills_all}
use Rattle.c_initials.specs.Filled.{Filled, filling_in}
use Rattle.c_item_notes.proofs.Filling.{list_whole}
use Rattle.c_means.specs.Initials.{all_elements, all_fills, listed_item}
use Rattle.c_means.specs.Notes.{noted}
use Rattle.core_declarations.specs.declared.initials.Walked.{Walked}
use Rattle.core_declarations.specs.Hearing.{IsHeard}
use Rattle.core_declarations.specs.Walked.{Walks}
use Rattle.core_declarations.proofs.Fillings as fillings
use Rattle.core_declarations.proofs.Pairs.{says_it}
use Rattle.core_declarations.proofs.initials.fill_object.Goals as goal

pub returns-in_ok-x-in-Value-clause-says : goal.returns-in_ok-x-in-Value-clause-says
returns-in_ok-x-in-Value-clause-says g c =
    let n = g.C.Places.numbering c.args.callees.now in
    let s = c.args.scope.now in
    let v = c.in-Value.value in
    let x = c.in_ok-x-in-Value.x in
    let h = subst (λ e. IsHeard n x (noted e s) c.hear.new.scope) c.get.ensures c.in_ok-x-in-Value.ensures in
    IfOk-weaker c.as_whole.result _ _ (λ z k. k ∙ fillings.alone_says c.args.initializer.now v x.told s c.hear.new.scope
    c.in_ok-whole.whole c.args.ctype c.in-Value.is (says_it n x (noted v s) c.hear.new.scope h) c.in_ok-whole.ensures)
    c.as_whole.ensures.says

pub returns-in_ok-filling-in-List-clause-says : goal.returns-in_ok-filling-in-List-clause-says
returns-in_ok-filling-in-List-clause-says g c =
    let s = c.args.scope.now in
    let f = c.in_ok-filling-in-List.filling in
    IfOk-weaker c.fills_all.result _ _ (λ z h. h
    ∙ ap (λ xs. fills_all (all_fills (map listed_item xs)) (filling_in f s)) c.as_slice.ensures
    ∙ list_whole c.args.initializer.now c.in-List.at c.in-List.items c.in-List.trailing f c.in_ok-whole.whole c.args.ctype s
    c.in-List.is c.in_ok-whole.ensures c.in_ok-filling-in-List.ensures) c.fills_all.ensures.says

pub returns-in_ok-x-in-Value-clause-gone : goal.returns-in_ok-x-in-Value-clause-gone
returns-in_ok-x-in-Value-clause-gone g c =
    let n = g.C.Places.numbering c.args.callees.now in
    let s = c.args.scope.now in
    let v = c.in-Value.value in
    let h = subst (λ e. IsHeard n c.in_ok-x-in-Value.x (noted e s) c.hear.new.scope) c.get.ensures
    c.in_ok-x-in-Value.ensures
    in
    IfOk-weaker c.as_whole.result _ _ (λ z k. fillings.value_gone n c.args.initializer.now v s z c.in-Value.is k)
    (c.as_whole.ensures.goes n (noted v s) h)

pub returns-in_ok-filling-in-List-clause-gone : goal.returns-in_ok-filling-in-List-clause-gone
returns-in_ok-filling-in-List-clause-gone g c =
    let n = g.C.Places.numbering c.args.callees.now in
    let s = c.args.scope.now in
    let i = c.args.initializer.now in
    let u = c.fills_all.new.scope in
    let x : Walked = record { filling = c.in_ok-filling-in-List.filling; paired = c.none_paired.result } in
    IfOk-weaker c.fills_all.result _ _ (λ z m. fillings.list_gone n i s u x z
    (ap (λ (f : Filled). f.parts) c.in_ok-filling-in-List.ensures) c.none_paired.ensures
    (fillings.list_walks n i c.in-List.at c.in-List.items c.in-List.trailing x z s u c.in-List.is
    (subst (λ xs. Walks n (all_elements (map listed_item xs)) x s z u) c.as_slice.ensures m)))
    c.fills_all.ensures.walks
