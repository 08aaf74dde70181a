use Rattle.std.proofs.Common.{◌≡◌}
use Rattle.source_sites.specs.Chosen.{chosen}
use Rattle.source_sites.proofs.choosing.chosen.Given as goal

abbrev pub invariant-sites : goal.invariant-sites
invariant-sites l = l.found ≡ chosen l.own l.yielded
