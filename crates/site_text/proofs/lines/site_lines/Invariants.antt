use Rattle.std.proofs.Common.{◌≡◌, ◌++◌, drop}
use Rattle.site_text.specs.Lines.{site_lines}
use Rattle.site_text.proofs.lines.site_lines.Given as goal

abbrev pub invariant-loop-site : goal.invariant-loop-site
invariant-loop-site l = l.text ++ site_lines l.places (drop l.site-index l.sites) ≡ site_lines l.places l.sites
