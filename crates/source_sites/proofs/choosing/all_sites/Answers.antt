use Rattle.source_sites.proofs.choosing.all_sites.Goals as goal

pub returns : goal.returns
returns c = rw c.as_slice.ensures at c.sites-found.ensures
