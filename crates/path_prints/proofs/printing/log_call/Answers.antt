use Rattle.path_prints.proofs.printing.log_call.Goals as goal

pub returns-in_ok-walked-in-Log : goal.returns-in_ok-walked-in-Log
returns-in_ok-walked-in-Log c =
    λ x along.
    let prints = rw (c.as_slice.ensures, c.as_slice-in-Log.ensures, c.as_slice-in-Log-2.ensures) at c.in_ok-walked-in-Log.ensures x along in
    rw c.in-Log.is prints.tries
