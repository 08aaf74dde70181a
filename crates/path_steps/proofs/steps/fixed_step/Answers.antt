use Rattle.std.proofs.Common.{pos, refl}
use Rattle.c_store.specs.Store.{start}
use Rattle.path_steps.proofs.LeafLemmas.{numbered_fixed}
use Rattle.path_steps.proofs.Trials.{found_by_none}
use Rattle.path_steps.proofs.steps.fixed_step.Goals as goal

pub returns : goal.returns
returns c =
    let number = numbered_fixed c.args.bank.now c.word.new.self c.args.place _ c.in_ok-node.node refl c.in_ok-node.ensures c.in_ok-node.ensures.bank in
    λ room. rw c.in_ok-walked.ensures
    (found_by_none room c.args.bank.now c.word.new.self c.args.state _ (λ e. pos (start c.args.place)) c.requires.state number.grows number.number
    (λ e v m r. number.is e v m))
