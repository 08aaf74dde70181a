use Rattle.std.proofs.Common.{◌≡◌, ◌+◌, ◌++◌, ◌∷◌, [], subst, take, get_or, ◌∙◌, sym, ap, suc, length}
use Rattle.std.proofs.lemmas.List.{take_all, take_more}
use Rattle.plain_data.specs.declared.fact.Fact.{Fact}
use Rattle.plain_data.specs.declared.fact.Fact.TheVariants as fact
use Rattle.plain_data.specs.declared.run.Side.TheVariants.{Yes}
use Rattle.must_facts.specs.Inquiries.{matter_of}
use Rattle.must_facts.specs.Knowing.{IsKnown, Weighs, WeighsAll}
use Rattle.must_facts.proofs.Learning.{goes_both, goes_same, matter_goes, query_goes, weighs_more, weighs_none}
use Rattle.must_facts.proofs.Lists.{length_taken}
use Rattle.must_facts.proofs.weighing.weigh_all.Goals as goal

pub loop-index-init : goal.loop-index-init
loop-index-init c =
    let q = c.args.query.now in
    let m = matter_of c.args.inquiry.now q in (
      goes_same q,
      subst (λ vs. WeighsAll m [] c.args.known.now q.solver.kept vs) (sym c.new-verdicts.ensures)
          (weighs_none m c.args.known.now q.solver.kept c.requires.known),
    )

pub weigh-requires-clause-query : goal.weigh-requires-clause-query
weigh-requires-clause-query c = query_goes c.args.inquiry.now c.args.query.now c.loop-index.query c.loop-index.invariant.0 c.requires.query

pub weigh-requires-clause-known : goal.weigh-requires-clause-known
weigh-requires-clause-known c =
    subst (λ m. IsKnown m c.loop-index.known) (sym (matter_goes c.args.inquiry.now c.args.query.now c.loop-index.query c.loop-index.invariant.0))
    c.loop-index.invariant.1.known

pub loop-index-preserved : goal.loop-index-preserved
loop-index-preserved c =
    let x = c.args.inquiry.now in
    let q = c.args.query.now in
    let now = c.loop-index.query in
    let next = c.weigh.new.query in
    let m = matter_of x q in
    let i = c.loop-index.index in
    let first : Fact = fact.Branch 0 Yes in
    let f = get_or x.facts.now i first in
    let goes = c.loop-index.invariant.0 in
    let before = c.loop-index.invariant.1 in
    let weighed = subst (λ m. Weighs m c.in_ok-number.number f c.loop-index.known c.weigh.new.known now.solver.kept next.solver.kept c.in_ok-verdict.verdict)
    (matter_goes x q now goes) c.in_ok-verdict.ensures.weighs in
    let at : c.in_ok-number.number ≡ suc (length (take i x.facts.now)) =
    c.in_ok-number.ensures ∙ sym (ap suc (length_taken x.facts.now i c.loop-index-test.true)) in
    let one = subst (λ n. Weighs m n f c.loop-index.known c.weigh.new.known now.solver.kept next.solver.kept c.in_ok-verdict.verdict) at weighed in
    let all = weighs_more m c.loop-index.known c.weigh.new.known now.solver.kept next.solver.kept (take i x.facts.now) f c.loop-index.verdicts
    c.in_ok-verdict.verdict before one in (
      goes_both q now next goes c.in_ok-verdict.ensures.goes,
      subst (λ vs. WeighsAll m (take (i + 1) x.facts.now) c.weigh.new.known next.solver.kept vs) (sym c.in_ok-push.ensures.ok)
          (subst (λ fs. WeighsAll m fs c.weigh.new.known next.solver.kept (c.loop-index.verdicts ++ c.in_ok-verdict.verdict ∷ []))
          (sym (take_more x.facts.now i first c.loop-index-test.true)) all),
    )

pub returns-clause-weighs : goal.returns-clause-weighs
returns-clause-weighs c =
    let m = matter_of c.args.inquiry.now c.args.query.now in
    subst (λ fs. WeighsAll m fs c.loop-index.known c.loop-index.query.solver.kept c.loop-index.verdicts)
    (take_all c.loop-index.index c.args.inquiry.now.facts.now c.loop-index-test.false) c.loop-index.invariant.1
