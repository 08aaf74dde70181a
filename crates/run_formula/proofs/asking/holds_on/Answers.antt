use Rattle.term_bank.proofs.TermLemmas.{term_grown}
use Rattle.run_formula.proofs.Asked.{holds_told}
use Rattle.run_formula.proofs.asking.holds_on.Goals as goal

pub connect-requires-clause-left : goal.connect-requires-clause-left
connect-requires-clause-left c =
    term_grown _ _ _ c.in_ok-seen.seen c.in_ok-ended.ensures.grows (c.requires.told.tell _ c.in_ok-seen.seen c.in_ok-seen.ensures).term

pub returns : goal.returns
returns c =
    holds_told _ _ _ c.args.log.now c.args.fact c.args.state.now c.in_ok-seen.seen c.in_ok-ended.ended c.in_ok-node.node c.ends.result
    (c.requires.told.tell _ c.in_ok-seen.seen c.in_ok-seen.ensures) c.in_ok-ended.ensures c.in_ok-node.ensures (c.ends.ensures c.args.log.now)
