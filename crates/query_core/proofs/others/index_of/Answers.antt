use Rattle.std.proofs.Common.{sym, take, ◌∙◌}
use Rattle.path_states.proofs.Paths.{more_of}
use Rattle.query_core.proofs.KeepLemmas.{found-at, none-more}
use Rattle.query_core.proofs.others.index_of.Goals as goal

pub returns-then-is_other_of-clause-found : goal.returns-then-is_other_of-clause-found
returns-then-is_other_of-clause-found c =
    found-at c.args.others.now c.args.watch c.args.value.now c.others.index c.index-others-index.result c.others-test.true c.index-others-index.is
    c.others.invariant (sym c.is_other_of.ensures ∙ c.if-is_other_of.true)

pub others-preserved : goal.others-preserved
others-preserved c =
    let o = c.index-others-index.result in
    rw (more_of c.args.others.now c.others.index o c.others-test.true c.index-others-index.is)
    (none-more (take c.others.index c.args.others.now) c.args.watch c.args.value.now o c.others.invariant
    (sym c.is_other_of.ensures ∙ c.if-is_other_of.false))
