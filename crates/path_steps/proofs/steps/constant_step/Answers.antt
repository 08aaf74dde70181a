use Rattle.std.proofs.Common.{◌∙◌}
use Rattle.std.specs.Int.{w128}
use Rattle.std.proofs.lemmas.Int.{to_z-of_z}
use Rattle.path_steps.proofs.Trials.{found_by_none}
use Rattle.path_steps.proofs.steps.constant_step.Goals as goal

pub returns : goal.returns
returns c =
    λ room. rw c.in_ok-walked.ensures
    (found_by_none room c.args.bank.now c.constant.new.bank c.args.state c.in_ok-number.number (λ e. c.args.value) c.requires.state
    c.in_ok-number.ensures.grows c.in_ok-number.ensures.number
    (λ e v m r. c.in_ok-number.ensures.is e v m ∙ to_z-of_z w128 c.args.value c.ranges.value))
