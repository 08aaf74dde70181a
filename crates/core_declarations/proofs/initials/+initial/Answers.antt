use Rattle.std.proofs.Common.{List, map, refl, ap, ◌∙◌, subst}
use Rattle.std.proofs.lemmas.Result.{IfOk-weaker}
use Rattle.c_language.specs.declared.unit.InitializerItem.{InitializerItem}
use Rattle.c_language.specs.Initials.{Filling, fills_all, list_says, with_part_left}
use Rattle.c_typing.proofs.Declares as parts
use Rattle.c_initials.specs.Filled.{Filled, filling_in}
use Rattle.c_initials.specs.Said.{opened}
use Rattle.c_item_notes.proofs.Filling.{list_fills, item_says}
use Rattle.c_item_notes.proofs.Designating.{by_tree}
use Rattle.c_means.specs.Initials.{all_elements, all_fills, initially, listed_item}
use Rattle.c_means.specs.Notes.{noted}
use Rattle.core_declarations.specs.Hearing.{IsHeard}
use Rattle.core_declarations.specs.Walked.{Walks}
use Rattle.core_declarations.proofs.Fillings as fillings
use Rattle.core_declarations.proofs.Pairs.{says_it}
use Rattle.core_declarations.proofs.initials.+initial.Goals as goal

pub fills-returns-in_ok-x-in-Value-clause-says : goal.fills-returns-in_ok-x-in-Value-clause-says
fills-returns-in_ok-x-in-Value-clause-says g t c =
    let n = g.C.Places.numbering c.args.callees.now in
    let s = c.args.scope.now in
    let v = c.in-Value.value in
    let x = c.in_ok-x-in-Value.x in
    let h = subst (λ e. IsHeard n x (noted e s) c.hear.new.scope) c.get.ensures c.in_ok-x-in-Value.ensures in
    IfOk-weaker c.and_next.result _ _ (λ z k. k ∙ fillings.value_says c.args.initializer.now v x.told s c.hear.new.scope
    c.args.found.filling c.in-Value.is (says_it n x (noted v s) c.hear.new.scope h)) c.and_next.ensures.says

pub fills-returns-in_ok-x-in-Value-clause-walks : goal.fills-returns-in_ok-x-in-Value-clause-walks
fills-returns-in_ok-x-in-Value-clause-walks g t c =
    let n = g.C.Places.numbering c.args.callees.now in
    let s = c.args.scope.now in
    let v = c.in-Value.value in
    let x = c.in_ok-x-in-Value.x in
    let h = subst (λ e. IsHeard n x (noted e s) c.hear.new.scope) c.get.ensures c.in_ok-x-in-Value.ensures in
    IfOk-weaker c.and_next.result _ _ (λ z k. fillings.value_walks n c.args.initializer.now v c.args.found z s c.hear.new.scope
    c.in-Value.is k h.after) (c.and_next.ensures.goes n (noted v s) h)

pub fills-returns-in-List-clause-says : goal.fills-returns-in-List-clause-says
fills-returns-in-List-clause-says g t c =
    let y = filling_in c.args.found.filling c.args.scope.now in
    IfOk-weaker c.fills_list.result _ _ (λ z h. h
    ∙ ap (λ xs. (list_says c.in-List.at (all_fills (map listed_item xs))).fills y) c.as_slice.ensures
    ∙ list_fills c.args.initializer.now c.in-List.at c.in-List.items c.in-List.trailing y c.in-List.is) c.fills_list.ensures.says

pub fills-returns-in-List-clause-walks : goal.fills-returns-in-List-clause-walks
fills-returns-in-List-clause-walks g t c =
    let n = g.C.Places.numbering c.args.callees.now in
    let s = c.args.scope.now in
    IfOk-weaker c.fills_list.result _ _ (λ z h. fillings.list_walks n c.args.initializer.now c.in-List.at c.in-List.items
    c.in-List.trailing c.args.found z s c.fills_list.new.scope c.in-List.is
    (subst (λ xs. Walks n (all_elements (map listed_item xs)) c.args.found s z c.fills_list.new.scope) c.as_slice.ensures h))
    c.fills_list.ensures.walks

pub fills_list-returns-clause-says : goal.fills_list-returns-clause-says
fills_list-returns-clause-says g t c =
    fillings.list_says_it c.args.at (all_fills (map listed_item c.args.items.now)) c.args.found.filling
    c.with_part_left-filling.result c.in_ok-opened.opened.inside c.in_ok-filled.filled.filling c.list_closed.result
    c.in_ok-opened.opened.outside c.args.scope.now c.fills_all.new.scope c.with_part_left-filling.ensures
    c.in_ok-opened.ensures.inside c.in_ok-opened.ensures.outside c.in_ok-filled.ensures.says c.list_closed.ensures

pub fills_list-returns-clause-walks : goal.fills_list-returns-clause-walks
fills_list-returns-clause-walks g t c =
    let n = g.C.Places.numbering c.args.callees.now in
    let s = c.args.scope.now in
    let f = c.args.found.filling in
    let f1 = c.with_part_left-filling.result in
    let z = c.in_ok-filled.filled in
    fillings.within_walks n (all_elements (map listed_item c.args.items.now)) c.args.found
    (record c.args.found { filling = c.in_ok-opened.opened.inside }) z (record z { filling = c.list_closed.result }) s
    c.fills_all.new.scope c.args.at s.tables f1.frames (with_part_left s.tables f.frames) c.in_ok-opened.opened.outside
    (c.in_ok-opened.ensures.inside ∙ ap (λ (g : Filled). opened c.args.at s.tables f1.frames g)
    c.with_part_left-filling.ensures) refl c.in_ok-filled.ensures.walks c.list_closed.ensures refl

pub fills_item-returns-clause-says : goal.fills_item-returns-clause-says
fills_item-returns-clause-says g t c =
    let f = c.args.found.filling in
    let s = c.args.scope.now in
    let s1 = c.designated_by.new.scope in
    IfOk-weaker c.fills.result _ _ (λ z h. h
    ∙ ap (λ v. (initially v).says.fills (filling_in c.in_ok-filling.filling s1)) c.get.ensures
    ∙ item_says c.args.item.now f c.in_ok-filling.filling s s1
    (c.in_ok-filling.ensures ∙ ap (λ ds. by_tree ds (filling_in f s)) c.as_slice.ensures)) c.fills.ensures.says

pub fills_item-returns-clause-walks : goal.fills_item-returns-clause-walks
fills_item-returns-clause-walks g t c =
    let n = g.C.Places.numbering c.args.callees.now in
    let f = c.args.found.filling in
    let s = c.args.scope.now in
    let s1 = c.designated_by.new.scope in
    let w1 = record c.args.found { filling = c.in_ok-filling.filling } in
    IfOk-weaker c.fills.result _ _ (λ z h. fillings.item_walks n c.args.item.now c.args.found w1 z s s1 c.fills.new.scope
    refl (c.in_ok-filling.ensures ∙ ap (λ ds. by_tree ds (filling_in f s)) c.as_slice.ensures)
    (subst (λ v. Walks n (initially v).elements w1 s1 z c.fills.new.scope) c.get.ensures h)) c.fills.ensures.walks

pub fills_all-returns-clause-walks : goal.fills_all-returns-clause-walks
fills_all-returns-clause-walks g t c =
    fillings.all_items (g.C.Places.numbering c.args.callees.now) c.args.items.now c.args.found c.args.scope.now
    c.loop-item.item-index c.loop-item.found c.loop-item.scope c.loop-item-test.false c.loop-item.invariant.1

pub fills_all-loop-item-init : goal.fills_all-loop-item-init
fills_all-loop-item-init g t c = (refl, λ z u h. h)

pub fills_all-loop-item-preserved : goal.fills_all-loop-item-preserved
fills_all-loop-item-preserved g t c =
    let n = g.C.Places.numbering c.args.callees.now in (
      parts.goes-on (λ (es : List InitializerItem) (y : Filling). fills_all (all_fills (map listed_item es)) y)
          {step = (λ (e : InitializerItem) (y : Filling). (listed_item e).fills y)} (λ _ _ _. refl)
          c.args.items.now c.loop-item.item-index c.item-item.result c.get.result.now
          (filling_in c.loop-item.found.filling c.loop-item.scope) (filling_in c.in_ok-found.found.filling c.fills_item.new.scope)
          c.loop-item-test.true c.item-item.is c.get.ensures c.in_ok-found.ensures.says c.loop-item.invariant.0,
      fillings.an_item n c.args.items.now c.args.found c.args.scope.now c.loop-item.item-index c.item-item.result
          c.get.result.now c.loop-item.found c.in_ok-found.found c.loop-item.scope c.fills_item.new.scope
          c.loop-item-test.true c.item-item.is c.get.ensures c.loop-item.invariant.1 c.in_ok-found.ensures.walks,
    )
