use Rattle.std.proofs.Common.{◌≡◌, IfOk, map, ap, sym, subst, ◌∙◌}
use Rattle.c_language.specs.Scopes.{empty}
use Rattle.c_language.specs.Typing.{typed_in}
use Rattle.c_language.specs.Initials.{Filling, fills_value, fills_list, with_part_left}
use Rattle.c_language.specs.Trees.{typed}
use Rattle.c_language.specs.Units.{initial_says}
use Rattle.c_initials.specs.Filled.{Filled, filling_in}
use Rattle.c_initials.specs.Said.{item_fills}
use Rattle.c_initials.proofs.Listed.{value_fills, list_fills, scope_free, frames_free}
use Rattle.c_initials.proofs.trees.+initial.Goals as goal

pub fills-returns-in_ok-told-in-Value : goal.fills-returns-in_ok-told-in-Value
fills-returns-in_ok-told-in-Value t c =
    let e : fills_value (typed_in c.in_ok-told-in-Value.told c.typed.new.scope) (filling_in c.args.filling empty)
    ≡ (initial_says c.args.initializer.now).fills (filling_in c.args.filling c.args.scope.now) =
    scope_free (typed_in c.in_ok-told-in-Value.told c.typed.new.scope) c.args.filling empty c.args.scope.now
    ∙ ap (λ x. fills_value x (filling_in c.args.filling c.args.scope.now))
    (c.in_ok-told-in-Value.ensures ∙ ap (λ v. typed v c.args.scope.now) c.get.ensures)
    ∙ sym (value_fills c.args.initializer.now c.in-Value.value (filling_in c.args.filling c.args.scope.now) c.in-Value.is)
    in
    subst (λ (q : Filling). IfOk c.fills_value.result (λ z. filling_in z c.typed.new.scope ≡ q)) e c.fills_value.ensures

pub fills-returns-in-List : goal.fills-returns-in-List
fills-returns-in-List t c =
    let s = c.args.scope.now in
    let left = with_part_left s.tables c.args.filling.frames in
    let e : fills_list c.in-List.at (map item_fills c.as_slice.result.now) c.with_part_left-filling.result.frames
    (filling_in c.with_part_left-filling.result s)
    ≡ (initial_says c.args.initializer.now).fills (filling_in c.args.filling s) =
    ap (λ items. fills_list c.in-List.at (map item_fills items) c.with_part_left-filling.result.frames
    (filling_in c.with_part_left-filling.result s)) c.as_slice.ensures
    ∙ ap (λ (f : Filled). fills_list c.in-List.at (map item_fills c.in-List.items) f.frames (filling_in f s))
    c.with_part_left-filling.ensures
    ∙ frames_free c.in-List.at (map item_fills c.in-List.items) left left (filling_in c.args.filling s)
    ∙ sym (list_fills c.args.initializer.now c.in-List.at c.in-List.items c.in-List.trailing
    (filling_in c.args.filling s) c.in-List.is)
    in
    subst (λ (q : Filling). IfOk c.fills_list.result (λ z. filling_in z c.fills_list.new.scope ≡ q)) e c.fills_list.ensures
