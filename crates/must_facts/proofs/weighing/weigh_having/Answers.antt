use Rattle.std.proofs.Common.{subst}
use Rattle.query_core.specs.declared.target.Target.TheVariants.{Having}
use Rattle.query_core.specs.Replies.{IsReply, KeepsBehind}
use Rattle.must_facts.specs.Inquiries.{matter_of}
use Rattle.must_facts.proofs.Learning.{weighs_having, weighs_mustnot, weighs_open_having}
use Rattle.must_facts.proofs.Worlds.{has_there, none_has}
use Rattle.must_facts.proofs.weighing.weigh_having.Goals as goal

pub returns-in_ok-having-in-World-clause-weighs : goal.returns-in_ok-having-in-World-clause-weighs
returns-in_ok-having-in-World-clause-weighs c =
    let x = c.args.inquiry.now in
    let q = c.args.query.now in
    let w = c.in-World.world in
    let reply = subst (IsReply q (Having c.args.number) x.conflicts) c.in-World.is c.in_ok-world.ensures.reply in
    let there = has_there x q c.requires.query w c.args.number c.args.fact.now c.requires.fact reply in
    let more = subst (KeepsBehind q.solver.kept c.ask.new.self.solver.kept) c.in-World.is c.in_ok-world.ensures.kept in
    weighs_having (matter_of x q) c.args.number c.args.fact.now c.args.known.now c.add.new.self q.solver.kept
    c.ask.new.self.solver.kept more w c.requires.known
    c.in_ok-add-in-World.ensures.worlds c.in_ok-add-in-World.ensures.runs there.0
    c.in_ok-having-in-World.having c.in_ok-having-in-World.ensures c.requires.fail there.1

pub returns-in-Refuted-clause-weighs : goal.returns-in-Refuted-clause-weighs
returns-in-Refuted-clause-weighs c =
    let x = c.args.inquiry.now in
    let q = c.args.query.now in
    let steps = c.in-Refuted.refutation in
    let reply = subst (IsReply q (Having c.args.number) x.conflicts) c.in-Refuted.is c.in_ok-world.ensures.reply in
    let more = subst (KeepsBehind q.solver.kept c.ask.new.self.solver.kept) c.in-Refuted.is c.in_ok-world.ensures.kept in
    weighs_mustnot (matter_of x q) c.args.number c.args.fact.now c.args.known.now q.solver.kept c.ask.new.self.solver.kept steps more
    c.requires.known
    (none_has x q c.requires.query c.args.number c.args.fact.now steps c.requires.fact reply)

pub returns-in_ok-count-in-Spent-clause-weighs : goal.returns-in_ok-count-in-Spent-clause-weighs
returns-in_ok-count-in-Spent-clause-weighs c =
    let x = c.args.inquiry.now in
    let q = c.args.query.now in
    let reply = subst (IsReply q (Having c.args.number) x.conflicts) c.in-Spent.is c.in_ok-world.ensures.reply in
    let ends = subst (KeepsBehind q.solver.kept c.ask.new.self.solver.kept) c.in-Spent.is c.in_ok-world.ensures.kept in
    weighs_open_having (matter_of x q) c.args.number c.args.fact.now c.args.known.now q.solver.kept c.ask.new.self.solver.kept
    c.in_ok-count-in-Spent.count c.in-Spent.trail c.requires.known c.in_ok-count-in-Spent.ensures reply.spends reply.kept ends
    c.requires.fail
