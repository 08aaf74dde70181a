use Rattle.log_sites.proofs.Sited.{sites_more}
use Rattle.log_sites.proofs.listing.sites_of.Goals as goal

pub marks-preserved : goal.marks-preserved
marks-preserved c =
    sites_more c.marks.yielded c.in-Some.mark c.marks.sites c.put_site.new.out c.marks.invariant c.in_ok-put_site.ensures
