use Rattle.std.proofs.Common.{drop, []}
use Rattle.site_text.specs.Ends.{IsSiteText}
use Rattle.site_text.proofs.Adding.{Leads}
use Rattle.site_text.proofs.lines.match_lines.Given as goal

abbrev pub invariant-loop-site : goal.invariant-loop-site
invariant-loop-site l = Leads (IsSiteText l.places l.log) l.sites (drop l.site-index l.sites) [] l.text
