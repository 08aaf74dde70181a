use Rattle.std.proofs.Common.{◌≡◌, drop, map}
use Rattle.c_means.specs.Statements.{declaring}
use Rattle.c_item_notes.specs.Levels.{judged}
use Rattle.c_item_notes.specs.ItemTellings.{items_from, summed_in}
use Rattle.c_item_notes.proofs.declarations.each_declarator.Given as goal

abbrev pub invariant-loop-item : goal.invariant-loop-item
invariant-loop-item l =
    items_from (judged l.source) l.storage l.specified (summed_in l.notes l.scope) (map declaring (drop l.item-index l.items))
    ≡ items_from (judged l.source) l.storage l.specified (summed_in l.fn.before l.fn.scope) (map declaring l.items)
