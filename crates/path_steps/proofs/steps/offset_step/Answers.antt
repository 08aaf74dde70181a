use Rattle.std.proofs.Common.{pos}
use Rattle.std.specs.Prelude.{unsigned_abs}
use Rattle.c_means.specs.Expressions.{behind}
use Rattle.term_bank.proofs.TermLemmas.{term_grown}
use Rattle.path_states.specs.States.{number_in}
use Rattle.path_steps.proofs.LeafLemmas.{numbered_behind}
use Rattle.path_steps.proofs.Trials.{found_by_one}
use Rattle.path_steps.proofs.steps.offset_step.Goals as goal

pub binary-requires-clause-left : goal.binary-requires-clause-left
binary-requires-clause-left c = term_grown _ _ _ c.in_ok-address.address c.in_ok-more.ensures.grows c.in_ok-address.ensures.term

pub returns : goal.returns
returns c =
    λ room. rw c.in_ok-walked.ensures
    (found_by_one room c.args.bank.now c.pop.new.bank c.binary.new.self c.args.state c.pop.new.state c.in_ok-operand.operand _
    (λ z. pos (behind c.args.bytes (unsigned_abs z))) c.in_ok-operand.ensures
    (numbered_behind c.pop.new.bank c.natural.new.bank c.word.new.self c.binary.new.self c.args.bytes c.in_ok-address.address c.in_ok-more.more
    c.in_ok-node.node (λ v. number_in v c.in_ok-operand.operand) c.in_ok-address.ensures c.in_ok-more.ensures c.in_ok-node.ensures))
