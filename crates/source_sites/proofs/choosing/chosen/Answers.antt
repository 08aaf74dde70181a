use Rattle.source_sites.proofs.Chosen.{chosen_more}
use Rattle.source_sites.proofs.choosing.chosen.Goals as goal

pub sites-preserved : goal.sites-preserved
sites-preserved c =
    chosen_more c.args.own.now c.sites.yielded c.in-Some.site c.sites.found c.put_if.new.out c.sites.invariant
    c.in_ok-put_if.ensures
