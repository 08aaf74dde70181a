use Rattle.std.proofs.Common.{◌≡◌}
use Rattle.log_sites.specs.Sites.{all_sites}
use Rattle.log_sites.proofs.listing.sites_of.Given as goal

abbrev pub invariant-marks : goal.invariant-marks
invariant-marks l = l.sites ≡ all_sites l.yielded
