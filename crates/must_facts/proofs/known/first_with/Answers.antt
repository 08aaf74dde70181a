use Rattle.std.proofs.Common.{subst}
use Rattle.std.specs.Prelude.{not}
use Rattle.std.specs.List.{All}
use Rattle.std.proofs.lemmas.List.{take_all}
use Rattle.must_facts.specs.Knowing.{Answers}
use Rattle.must_facts.proofs.Lists.{all_more}
use Rattle.must_facts.proofs.Learning.{answers_other}
use Rattle.must_facts.proofs.known.first_with.Goals as goal

pub loop-index-preserved : goal.loop-index-preserved
loop-index-preserved c =
    let P = Answers (not c.args.wanted) c.args.log.now c.args.fact.now in
    let run = c.index-runs-index.result in
    all_more P c.args.runs.now c.loop-index.index run c.loop-index-test.true c.loop-index.invariant
    (subst P c.index-runs-index.is
    (answers_other c.args.wanted c.holds.result c.args.log.now c.args.fact.now run c.holds.ensures c.if-holds-wanted.false))

pub returns : goal.returns
returns c =
    let P = Answers (not c.args.wanted) c.args.log.now c.args.fact.now in
    record { found = subst (All P) (take_all c.loop-index.index c.args.runs.now c.loop-index-test.false) c.loop-index.invariant }
