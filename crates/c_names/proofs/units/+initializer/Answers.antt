use Rattle.std.proofs.Common.{◌∷◌, map, ap, ◌∙◌}
use Rattle.c_means.specs.Names.{all, all_of, names_of, designator_names, initializer_names}
use Rattle.c_names.specs.Trees.{item_names}
use Rattle.c_names.proofs.Arms as arms
use Rattle.c_names.proofs.NamesOf as names
use Rattle.c_names.proofs.units.+initializer.Goals as goal

pub put_initializer-returns-in-Value : goal.put_initializer-returns-in-Value
put_initializer-returns-in-Value t c =
    arms.made c.put_expr.result c.put_expr.new.done _ _ c.put_expr.ensures (ap (λ z. names_of z ∷ c.args.done.now) c.get.ensures ∙ arms.named (names.initializer-Value _ c.in-Value.is))

pub put_initializer-returns-in-List : goal.put_initializer-returns-in-List
put_initializer-returns-in-List t c =
    arms.made c.put_items.result c.put_items.new.done _ _ c.put_items.ensures (ap (λ z. all (map item_names z) ∷ c.args.done.now) c.as_slice.ensures ∙ arms.named (names.initializer-List _ _ _ c.in-List.is))

pub put_item-returns : goal.put_item-returns
put_item-returns t c =
    arms.made c.join.result c.join.new.done _ _ c.join.ensures (arms.join-two (arms.top (all_of designator_names) c.in_ok-put_designators.ensures c.as_slice.ensures)
    (arms.top initializer_names c.in_ok-put_initializer.ensures c.get.ensures) ∙ arms.named (names.item-is c.args.i.now))

pub put_items-returns : goal.put_items-returns
put_items-returns t c =
    arms.made c.join_all.result c.join_all.new.done _ _ c.join_all.ensures (arms.put_all item_names c.args.items.now c.loop-item.item-index
    c.loop-item.done c.args.done.now c.loop-item-test.false c.loop-item.invariant)
