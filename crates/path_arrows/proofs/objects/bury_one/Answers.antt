use Rattle.term_bank.proofs.TermLemmas.{term_grown}
use Rattle.path_arrows.proofs.Living.{buries_one}
use Rattle.path_arrows.proofs.objects.bury_one.Goals as goal

pub ended-requires-clause-memory : goal.ended-requires-clause-memory
ended-requires-clause-memory c = term_grown _ _ _ c.args.memory c.in_ok-number.ensures.grows c.requires

pub returns : goal.returns
returns c =
    buries_one _ _ _ c.args.memory c.in_ok-number.number c.in_ok-node.node c.args.object c.in_ok-number.ensures c.in_ok-node.ensures
