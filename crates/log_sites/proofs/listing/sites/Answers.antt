use Rattle.log_sites.proofs.Sited.{sites_found}
use Rattle.log_sites.proofs.listing.sites.Goals as goal

pub returns : goal.returns
returns c =
    sites_found c.args.core.now c.in_ok-source.source c.in_ok-marks.marks c.in_ok-sites.sites c.in_ok-source.ensures c.in_ok-marks.ensures c.in_ok-sites.ensures
