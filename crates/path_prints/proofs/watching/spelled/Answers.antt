use Rattle.path_steps.proofs.AccessLemmas.{spelled_truth}
use Rattle.path_prints.proofs.watching.spelled.Goals as goal

pub returns-in_ok-number-in-Truth : goal.returns-in_ok-number-in-Truth
returns-in_ok-number-in-Truth c =
    rw c.in-Truth.is
    (spelled_truth c.args.bank.now c.truth.new.bank c.flag.new.bank c.args.node c.in_ok-truth-in-Truth.truth c.in_ok-number-in-Truth.number
    c.in_ok-truth-in-Truth.ensures c.in_ok-number-in-Truth.ensures)
