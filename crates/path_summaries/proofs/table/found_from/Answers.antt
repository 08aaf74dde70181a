use Rattle.std.proofs.Common.{◌≡◌, ◌∙◌, [], get_or, subst, sym}
use Rattle.path_summaries.specs.Tables.{RowStands}
use Rattle.path_summaries.proofs.Rowed.{row_there, any_default}
use Rattle.path_summaries.proofs.table.found_from.Goals as goal

pub returns : goal.returns
returns c =
    let rows = c.args.rows.now in
    let i = c.args.start in
    let row : c.as_slice.result.now ≡ get_or rows i [] =
    c.as_slice.ensures ∙ c.index-rows-start.is ∙ any_default rows i c.index-rows-start.result [] c.if-start-rows.false in
    λ t b stand. c.found.ensures t b i (subst (λ l. RowStands t b i l) (sym row) (row_there t b i rows stand c.if-start-rows.false))
