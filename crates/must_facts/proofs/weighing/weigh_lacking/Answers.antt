use Rattle.std.proofs.Common.{subst}
use Rattle.query_core.specs.declared.target.Target.TheVariants.{Lacking}
use Rattle.query_core.specs.Replies.{IsReply, KeepsBehind}
use Rattle.must_facts.specs.Inquiries.{matter_of}
use Rattle.must_facts.proofs.Learning.{weighs_lacking, weighs_must, weighs_open_lacking}
use Rattle.must_facts.proofs.Worlds.{lacks_there, all_have}
use Rattle.must_facts.proofs.weighing.weigh_lacking.Goals as goal

pub returns-in_ok-lacking-in-World-clause-weighs : goal.returns-in_ok-lacking-in-World-clause-weighs
returns-in_ok-lacking-in-World-clause-weighs c =
    let x = c.args.inquiry.now in
    let q = c.args.query.now in
    let w = c.in-World.world in
    let reply = subst (IsReply q (Lacking c.args.number) x.conflicts) c.in-World.is c.in_ok-world.ensures.reply in
    let there = lacks_there x q c.requires.query w c.args.number c.args.fact.now c.requires.fact reply in
    let more = subst (KeepsBehind q.solver.kept c.ask.new.self.solver.kept) c.in-World.is c.in_ok-world.ensures.kept in
    weighs_lacking (matter_of x q) c.args.number c.args.fact.now c.args.known.now c.add.new.self q.solver.kept
    c.ask.new.self.solver.kept more w c.requires.known
    c.in_ok-add-in-World.ensures.worlds c.in_ok-add-in-World.ensures.runs there.0
    c.in_ok-lacking-in-World.lacking c.in_ok-lacking-in-World.ensures c.requires.hold there.1

pub returns-in-Refuted-clause-weighs : goal.returns-in-Refuted-clause-weighs
returns-in-Refuted-clause-weighs c =
    let x = c.args.inquiry.now in
    let q = c.args.query.now in
    let steps = c.in-Refuted.refutation in
    let reply = subst (IsReply q (Lacking c.args.number) x.conflicts) c.in-Refuted.is c.in_ok-world.ensures.reply in
    let more = subst (KeepsBehind q.solver.kept c.ask.new.self.solver.kept) c.in-Refuted.is c.in_ok-world.ensures.kept in
    weighs_must (matter_of x q) c.args.number c.args.fact.now c.args.known.now q.solver.kept c.ask.new.self.solver.kept steps more
    c.requires.known
    (all_have x q c.requires.query c.args.number c.args.fact.now steps c.requires.fact reply)

pub returns-in_ok-count-in-Spent-clause-weighs : goal.returns-in_ok-count-in-Spent-clause-weighs
returns-in_ok-count-in-Spent-clause-weighs c =
    let x = c.args.inquiry.now in
    let q = c.args.query.now in
    let reply = subst (IsReply q (Lacking c.args.number) x.conflicts) c.in-Spent.is c.in_ok-world.ensures.reply in
    let ends = subst (KeepsBehind q.solver.kept c.ask.new.self.solver.kept) c.in-Spent.is c.in_ok-world.ensures.kept in
    weighs_open_lacking (matter_of x q) c.args.number c.args.fact.now c.args.known.now q.solver.kept c.ask.new.self.solver.kept
    c.in_ok-count-in-Spent.count c.in-Spent.trail c.requires.known c.in_ok-count-in-Spent.ensures reply.spends reply.kept ends
    c.requires.hold
