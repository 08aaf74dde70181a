use Rattle.std.proofs.Common.{take, get_or}
use Rattle.std.proofs.lemmas.List.{take_all, take_more}
use Rattle.plain_data.specs.declared.fact.Fact.{Fact}
use Rattle.plain_data.specs.declared.fact.Fact.TheVariants as fact
use Rattle.plain_data.specs.declared.run.Side.TheVariants.{Yes}
use Rattle.path_states.proofs.Growth.{states_grown}
use Rattle.run_formula.proofs.Asked.{asks_none, asks_more}
use Rattle.run_formula.proofs.formula.ask_all.Goals as goal

pub loop-fact-init : goal.loop-fact-init
loop-fact-init c = rw c.new-nodes.ensures (asks_none c.args.bank.now c.args.log.now c.args.states.now)

pub ask-requires : goal.ask-requires
ask-requires c = states_grown c.loop-fact.invariant.grows c.args.states.now c.requires

pub loop-fact-preserved : goal.loop-fact-preserved
loop-fact-preserved c =
    let i = c.loop-fact.fact-index in
    let first : Fact = fact.Branch 0 Yes in
    rw (c.in_ok-push.ensures.ok, take_more c.args.facts.now i first c.loop-fact-test.true)
    (asks_more _ _ _ c.args.log.now c.args.states.now (take i c.args.facts.now) (get_or c.args.facts.now i first) c.loop-fact.nodes
    c.in_ok-node.node c.loop-fact.invariant c.in_ok-node.ensures)

pub returns : goal.returns
returns c = rw (take_all c.loop-fact.fact-index c.args.facts.now c.loop-fact-test.false) at c.loop-fact.invariant
