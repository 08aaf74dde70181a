use Rattle.std.proofs.Common.{◌≡◌, ◌<◌, ◌∙◌, ◌++◌, ◌∷◌, [], length, get_or, ap, sym, subst}
use Rattle.path_summaries.specs.declared.table.Kept.{Kept}
use Rattle.path_summaries.specs.Tables.{AllStand, RowStands}
use Rattle.path_summaries.proofs.Rowed.{row_there, row_put, row_joined, any_default}
use Rattle.path_summaries.proofs.table.Summaries.put.Goals as goal

pub returns : goal.returns
returns c =
    let a = c.args in
    let rows = c.self.inside.rows.items in
    let x : Kept = record { function = a.function; left = a.left; summary = a.summary } in
    let within : a.start < length rows = subst (λ l. a.start < length l) (sym c.self.view_is) c.in_ok-reach.ensures.within in
    let row : c.push.new.self ≡ get_or rows a.start [] ++ x ∷ [] =
    c.in_ok-push.ensures.ok ∙ ap (λ r. r ++ x ∷ []) (c.index_mut-row.ensures.value ∙ any_default rows a.start c.index_mut-row.result.now [] within) in
    λ t b stand one.
    let all : AllStand t b 0 rows = subst (λ l. AllStand t b 0 l) (sym c.self.view_is) (c.in_ok-reach.ensures.stand t b stand) in
    row_put t b a.start rows c.push.new.self all within
    (subst (λ r. RowStands t b a.start r) (sym row)
    (row_joined t b a.start (get_or rows a.start []) (x ∷ []) (row_there t b a.start rows all within) (one, tt)))
