use Rattle.std.proofs.Common.{◌∙◌, ◌||◌, List, take, take_all, subst}
use Rattle.cnf_core.specs.Literal.{Literal}
use Rattle.cdcl.specs.Trails.{names}
use Rattle.cdcl.specs.Tallies.{HasCounted}
use Rattle.cdcl.proofs.TallyLemmas.{counted-literal}
use Rattle.cdcl.proofs.tally.Tally.count_all.Goals as goal

pub loop-literal-preserved : goal.loop-literal-preserved
loop-literal-preserved c = record {
  counted = λ seen old h. counted-literal seen old c.count.new.self c.args.clause.now c.loop-literal.literal-index c.variable.result c.literal-item.result c.loop-literal-test.true c.literal-item.is c.variable.ensures.value
      (c.count.ensures.counted (λ v. seen v || names v (take c.loop-literal.literal-index c.args.clause.now)) old (c.loop-literal.invariant.counted seen old h));
  counts = c.count.ensures.counts;
  ranked = c.count.ensures.ranked;
  unset = c.count.ensures.unset ∙ c.loop-literal.invariant.unset;
}

pub returns-clause-counted : goal.returns-clause-counted
returns-clause-counted c = λ seen old h.
    let P : List Literal → Type 0 = λ t. HasCounted (λ v. seen v || names v t) old c.loop-literal.self in
    subst P (take_all c.loop-literal.literal-index c.args.clause.now c.loop-literal-test.false) (c.loop-literal.invariant.counted seen old h)
