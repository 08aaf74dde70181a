use Rattle.path_forms.proofs.forms.raise.Goals as goal

pub returns-in_ok-raise_before-in-Before : goal.returns-in_ok-raise_before-in-Before
returns-in_ok-raise_before-in-Before c = rw c.in-Before.is c.in_ok-raise_before-in-Before.ensures

pub returns-in_ok-raise_stored-in-Stored : goal.returns-in_ok-raise_stored-in-Stored
returns-in_ok-raise_stored-in-Stored c = rw c.in-Stored.is c.in_ok-raise_stored-in-Stored.ensures
