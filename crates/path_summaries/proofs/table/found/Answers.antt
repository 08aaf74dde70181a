use Rattle.std.proofs.Common.{sym, subst}
use Rattle.path_summaries.specs.declared.table.Kept.{Kept}
use Rattle.path_summaries.specs.Tours.{StandsFor}
use Rattle.path_summaries.proofs.Rowed.{row_of}
use Rattle.path_summaries.proofs.table.found.Goals as goal

pub returns-then-kept-left : goal.returns-then-kept-left
returns-then-kept-left c =
    let kept : Kept = c.kept-item.result in
    λ t b start stand.
    rw (← c.if-kept-function.true, ← c.if-kept-left.true)
    (subst (λ (k : Kept). StandsFor t b k.function k.left start k.summary) (sym c.kept-item.is)
    (row_of t b start c.kept.kept-index c.args.row.now kept stand c.kept-test.true))
