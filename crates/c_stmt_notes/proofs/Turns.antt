-- The items of a block, one after the other.
use Rattle.std.proofs.Common.{◌≡◌, List, [], ◌∷◌, sym, ap, ◌∙◌}
use Rattle.c_means.specs.Items.{Code, Context, in_scope, in_turn}
use Rattle.c_item_notes.specs.declared.items.ItemNotes.{ItemNotes}
use Rattle.c_item_notes.specs.Levels.{Judged}
use Rattle.c_item_notes.specs.ItemTellings.{Summed, and_item, summed_in}
use Rattle.c_item_notes.proofs.ItemLaws.{both_nothing}
use Rattle.c_stmt_notes.proofs.Together.{grouped}

abbrev pub walked : Judged → Context → List Code → Summed → Summed
walked j c [] z = z
walked j c (b ∷ bs) z = walked j c bs (and_item j z (b.here (in_scope z.after c)))

pub walked_is : (j : Judged) (c : Context) (bs : List Code) (z : Summed) →
    walked j c bs z ≡ and_item j z (in_turn bs (in_scope z.after c))
walked_is j c [] z = ap (λ (n : ItemNotes). summed_in n z.after) (sym (both_nothing z.notes))
walked_is j c (b ∷ bs) z =
    let a = b.here (in_scope z.after c) in
    walked_is j c bs (and_item j z a) ∙ grouped j z.notes z.after a (in_turn bs (in_scope a.after c))
