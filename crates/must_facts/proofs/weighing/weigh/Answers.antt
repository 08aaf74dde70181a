use Rattle.std.proofs.Common.{subst, true, false}
use Rattle.must_facts.specs.Inquiries.{matter_of}
use Rattle.must_facts.specs.Knowing.{FindsWorld}
use Rattle.must_facts.proofs.Learning.{goes_same, weighs_found}
use Rattle.must_facts.proofs.weighing.weigh.Goals as goal

pub returns-in-Some-2-clause-weighs : goal.returns-in-Some-2-clause-weighs
returns-in-Some-2-clause-weighs c =
    let x = c.args.inquiry.now in
    let has = subst (FindsWorld true x.log.now c.args.fact.now c.args.known.now) c.in-Some.is c.in_ok-having.ensures in
    let lacks = subst (FindsWorld false x.log.now c.args.fact.now c.args.known.now) c.in-Some-2.is c.in_ok-lacking.ensures in
    weighs_found (matter_of x c.args.query.now) c.args.number c.args.fact.now c.args.known.now c.args.query.now.solver.kept c.in-Some.having
    c.in-Some-2.lacking c.requires.known has lacks

pub returns-in-Some-2-clause-goes : goal.returns-in-Some-2-clause-goes
returns-in-Some-2-clause-goes c = goes_same c.args.query.now
