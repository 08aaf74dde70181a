use Rattle.std.proofs.Common.{subst}
use Rattle.query_core.specs.declared.target.Target.TheVariants.{Fits as Fitting}
use Rattle.query_core.specs.Replies.{IsReply}
use Rattle.must_facts.specs.Verdicts.{AreFindings}
use Rattle.must_facts.proofs.Learning.{goes_both, matter_goes, query_goes}
use Rattle.must_facts.proofs.Worlds.{fits_there, nothing_fits}
use Rattle.must_facts.proofs.diagnosing.diagnose.Goals as goal

pub findings-requires-clause-fits : goal.findings-requires-clause-fits
findings-requires-clause-fits c =
    let q = c.args.query.now in
    let reply = subst (IsReply q Fitting c.args.inquiry.now.conflicts) c.in-World.is c.in_ok-world.ensures.reply in
    fits_there c.args.inquiry.now q c.requires.query c.in-World.world reply

pub findings-requires-clause-query : goal.findings-requires-clause-query
findings-requires-clause-query c = query_goes c.args.inquiry.now c.args.query.now c.ask.new.self c.ask.ensures.keeps c.requires.query

pub returns-in_ok-found-in-World-clause-diagnosis : goal.returns-in_ok-found-in-World-clause-diagnosis
returns-in_ok-found-in-World-clause-diagnosis c =
    let x = c.args.inquiry.now in
    subst (λ m. AreFindings m x.facts.now c.in_ok-found-in-World.found) (matter_goes x c.args.query.now c.ask.new.self c.ask.ensures.keeps)
    c.in_ok-found-in-World.ensures.found

pub returns-in_ok-found-in-World-clause-goes : goal.returns-in_ok-found-in-World-clause-goes
returns-in_ok-found-in-World-clause-goes c =
    goes_both c.args.query.now c.ask.new.self c.findings.new.query c.ask.ensures.keeps c.in_ok-found-in-World.ensures.goes

pub returns-in-Spent-clause-diagnosis : goal.returns-in-Spent-clause-diagnosis
returns-in-Spent-clause-diagnosis c =
    let reply = subst (IsReply c.args.query.now Fitting c.args.inquiry.now.conflicts) c.in-Spent.is c.in_ok-world.ensures.reply in
    reply.spends

pub returns-in-Refuted-clause-diagnosis : goal.returns-in-Refuted-clause-diagnosis
returns-in-Refuted-clause-diagnosis c =
    let q = c.args.query.now in
    let reply = subst (IsReply q Fitting c.args.inquiry.now.conflicts) c.in-Refuted.is c.in_ok-world.ensures.reply in
    nothing_fits c.args.inquiry.now q c.requires.query c.in-Refuted.refutation reply
