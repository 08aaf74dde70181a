use Rattle.std.proofs.Common.{List, map, refl, ap, ◌∙◌}
use Rattle.std.proofs.lemmas.Result.{IfOk-weaker}
use Rattle.c_language.specs.declared.expr.Expr.{Expr}
use Rattle.c_language.specs.declared.unit.InitializerItem.{InitializerItem}
use Rattle.c_language.specs.Initials.{Filling, fills_all, list_says}
use Rattle.c_typing.proofs.Declares as parts
use Rattle.c_initials.specs.Filled.{filling_in}
use Rattle.c_means.specs.Initials.{all_elements, all_fills, initially, listed_item}
use Rattle.c_means.specs.Notes.{noted}
use Rattle.c_item_notes.specs.declared.initials.InitialNotes.{InitialNotes}
use Rattle.c_item_notes.specs.Levels.{judged, heard}
use Rattle.c_item_notes.specs.InitialTellings.{Seen, see, seen_in}
use Rattle.c_item_notes.proofs.Filling.{value_says, value_seen, list_fills, list_seen, item_says, item_seen}
use Rattle.c_item_notes.proofs.Designating.{by_tree}
use Rattle.c_item_notes.proofs.Seeing.{see_both}
use Rattle.c_item_notes.proofs.initials.+initial.Goals as goal

pub fills-returns-in_ok-x-in-Value-clause-says : goal.fills-returns-in_ok-x-in-Value-clause-says
fills-returns-in_ok-x-in-Value-clause-says t c =
    let j = judged c.args.source.now in
    IfOk-weaker c.and_next.result _ _ (λ z h. h ∙ value_says j c.args.initializer.now c.in-Value.value c.in_ok-x-in-Value.x
    c.args.scope.now c.heard.new.scope c.args.found.filling c.in-Value.is
    (c.in_ok-x-in-Value.ensures ∙ ap (λ (e : Expr). heard j (noted e c.args.scope.now)) c.get.ensures)) c.and_next.ensures.says

pub fills-returns-in_ok-x-in-Value-clause-seen : goal.fills-returns-in_ok-x-in-Value-clause-seen
fills-returns-in_ok-x-in-Value-clause-seen t c =
    let j = judged c.args.source.now in
    IfOk-weaker c.and_next.result _ _ (λ z h. ap (λ (n : InitialNotes). seen_in n c.heard.new.scope) h
    ∙ value_seen j c.args.initializer.now c.in-Value.value c.in_ok-x-in-Value.x
    c.args.scope.now c.heard.new.scope c.args.found.notes c.in-Value.is
    (c.in_ok-x-in-Value.ensures ∙ ap (λ (e : Expr). heard j (noted e c.args.scope.now)) c.get.ensures)) c.and_next.ensures.notes

pub fills-returns-in-List-clause-says : goal.fills-returns-in-List-clause-says
fills-returns-in-List-clause-says t c =
    let y = filling_in c.args.found.filling c.args.scope.now in
    IfOk-weaker c.fills_list.result _ _ (λ z h. h
    ∙ ap (λ xs. (list_says c.in-List.at (all_fills (map listed_item xs))).fills y) c.as_slice.ensures
    ∙ list_fills c.args.initializer.now c.in-List.at c.in-List.items c.in-List.trailing y c.in-List.is) c.fills_list.ensures.says

pub fills-returns-in-List-clause-seen : goal.fills-returns-in-List-clause-seen
fills-returns-in-List-clause-seen t c =
    let j = judged c.args.source.now in
    let z = seen_in c.args.found.notes c.args.scope.now in
    IfOk-weaker c.fills_list.result _ _ (λ x h. h
    ∙ ap (λ xs. see j (all_elements (map listed_item xs)) z) c.as_slice.ensures
    ∙ list_seen j c.args.initializer.now c.in-List.at c.in-List.items c.in-List.trailing z c.in-List.is) c.fills_list.ensures.seen

pub fills_item-returns-clause-says : goal.fills_item-returns-clause-says
fills_item-returns-clause-says t c =
    let f = c.args.found.filling in
    let s = c.args.scope.now in
    let s1 = c.designated_by.new.scope in
    IfOk-weaker c.fills.result _ _ (λ z h. h
    ∙ ap (λ v. (initially v).says.fills (filling_in c.in_ok-filling.filling s1)) c.get.ensures
    ∙ item_says c.args.item.now f c.in_ok-filling.filling s s1
    (c.in_ok-filling.ensures ∙ ap (λ ds. by_tree ds (filling_in f s)) c.as_slice.ensures)) c.fills.ensures.says

pub fills_item-returns-clause-seen : goal.fills_item-returns-clause-seen
fills_item-returns-clause-seen t c =
    let j = judged c.args.source.now in
    let f = c.args.found.filling in
    let n = c.args.found.notes in
    let s = c.args.scope.now in
    let s1 = c.designated_by.new.scope in
    IfOk-weaker c.fills.result _ _ (λ z h. h
    ∙ ap (λ v. see j (initially v).elements (seen_in n s1)) c.get.ensures
    ∙ item_seen j c.args.item.now n f c.in_ok-filling.filling s s1
    (c.in_ok-filling.ensures ∙ ap (λ ds. by_tree ds (filling_in f s)) c.as_slice.ensures)) c.fills.ensures.seen

pub fills_all-loop-item-preserved : goal.fills_all-loop-item-preserved
fills_all-loop-item-preserved t c =
    let j = judged c.args.source.now in (
      parts.goes-on (λ (es : List InitializerItem) (y : Filling). fills_all (all_fills (map listed_item es)) y)
          {step = (λ (e : InitializerItem) (y : Filling). (listed_item e).fills y)} (λ _ _ _. refl)
          c.args.items.now c.loop-item.item-index c.item-item.result c.get.result.now
          (filling_in c.loop-item.found.filling c.loop-item.scope) (filling_in c.in_ok-found.found.filling c.fills_item.new.scope)
          c.loop-item-test.true c.item-item.is c.get.ensures c.in_ok-found.ensures.says c.loop-item.invariant.0,
      parts.goes-on (λ (es : List InitializerItem) (z : Seen). see j (all_elements (map listed_item es)) z)
          {step = (λ (e : InitializerItem) (z : Seen). see j (listed_item e).elements z)}
          (λ e es z. see_both j (listed_item e).elements (all_elements (map listed_item es)) z)
          c.args.items.now c.loop-item.item-index c.item-item.result c.get.result.now
          (seen_in c.loop-item.found.notes c.loop-item.scope) (seen_in c.in_ok-found.found.notes c.fills_item.new.scope)
          c.loop-item-test.true c.item-item.is c.get.ensures c.in_ok-found.ensures.seen c.loop-item.invariant.1,
    )
