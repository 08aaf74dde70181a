use Rattle.std.proofs.Common.{◌≡◌, [], ◌∷◌, IfOk, map, ap, sym, subst, ◌∙◌}
use Rattle.c_language.specs.Initials.{Part, Filling, started, filling_of, fills_all}
use Rattle.c_language.specs.Units.{initial_says}
use Rattle.c_initials.specs.Filled.{Filled, filling_in, no_filling}
use Rattle.c_initials.specs.Said.{item_fills}
use Rattle.c_initials.proofs.Listed.{list_of}
use Rattle.c_initials.proofs.trees.filling_of.Goals as goal

pub returns-in_ok-filling-in-List : goal.returns-in_ok-filling-in-List
returns-in_ok-filling-in-List c =
    let s = c.args.scope.now in
    let e : fills_all (map item_fills c.as_slice.result.now) (filling_in c.in_ok-filling-in-List.filling s)
    ≡ filling_of (initial_says c.args.initializer.now) c.args.ctype s =
    ap (λ items. fills_all (map item_fills items) (filling_in c.in_ok-filling-in-List.filling s)) c.as_slice.ensures
    ∙ ap (λ (f : Filled). fills_all (map item_fills c.in-List.items) (filling_in f s))
    (c.in_ok-filling-in-List.ensures
    ∙ ap (λ (p : Part). record no_filling { frames = started p ∷ [] }) c.in_ok-whole.ensures)
    ∙ sym (list_of c.args.initializer.now c.in-List.at c.in-List.items c.in-List.trailing c.args.ctype s c.in-List.is)
    in
    subst (λ (q : Filling). IfOk c.fills_all.result (λ z. filling_in z c.fills_all.new.scope ≡ q)) e c.fills_all.ensures
