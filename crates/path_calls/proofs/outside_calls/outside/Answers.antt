use Rattle.path_calls.proofs.outside_calls.outside.Goals as goal

pub returns-in_ok-walked-in-None : goal.returns-in_ok-walked-in-None
returns-in_ok-walked-in-None c = rw c.in-None.is c.in_ok-walked-in-None.ensures
