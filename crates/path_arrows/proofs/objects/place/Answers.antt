use Rattle.term_bank.proofs.TermLemmas.{term_grown}
use Rattle.path_arrows.proofs.Living.{places}
use Rattle.path_arrows.proofs.objects.place.Goals as goal

pub binary-requires-clause-left : goal.binary-requires-clause-left
binary-requires-clause-left c = term_grown _ _ _ c.in_ok-base.base c.in_ok-more.ensures.grows c.in_ok-base.ensures.node

pub returns : goal.returns
returns c =
    places c.args.offset _ _ _ _ c.in_ok-base.base c.in_ok-more.more c.in_ok-node.node c.in_ok-base.ensures c.in_ok-more.ensures
    c.in_ok-node.ensures
