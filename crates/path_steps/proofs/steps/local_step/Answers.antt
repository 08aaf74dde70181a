use Rattle.term_bank.proofs.TermLemmas.{term_grown}
use Rattle.path_steps.proofs.LeafLemmas.{local_found}
use Rattle.path_steps.proofs.steps.local_step.Goals as goal

pub binary-requires-clause-left : goal.binary-requires-clause-left
binary-requires-clause-left c = term_grown _ _ _ c.in_ok-base.base c.in_ok-more.ensures.grows c.in_ok-base.ensures.node

pub binary-requires-2-clause-left : goal.binary-requires-2-clause-left
binary-requires-2-clause-left c = term_grown _ _ _ c.in_ok-place.place c.in_ok-bits.ensures.grows c.in_ok-place.ensures.node

pub returns : goal.returns
returns c =
    λ room within. rw c.in_ok-walked.ensures
    (local_found room c.args.offset c.args.bank.now c.base.new.self c.word.new.self c.binary.new.self c.word-2.new.self c.binary-2.new.self
    c.args.state c.in_ok-base.base c.in_ok-more.more c.in_ok-place.place c.in_ok-bits.bits c.in_ok-node.node c.requires within
    c.in_ok-base.ensures c.in_ok-more.ensures c.in_ok-place.ensures c.in_ok-bits.ensures c.in_ok-node.ensures)
