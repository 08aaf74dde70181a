use Rattle.site_text.specs.Ends.{IsSiteText}
use Rattle.site_text.proofs.Adding.{all_put, next_put}
use Rattle.site_text.proofs.lines.match_lines.Goals as goal

pub loop-site-preserved : goal.loop-site-preserved
loop-site-preserved c =
    next_put (IsSiteText c.args.places.now c.args.log.now) c.args.sites.now c.loop-site.site-index c.site-item.result _
    c.loop-site.text c.put_matches.new.text c.loop-site-test.true c.site-item.is c.loop-site.invariant c.in_ok-put_matches.ensures

pub returns : goal.returns
returns c =
    all_put (IsSiteText c.args.places.now c.args.log.now) c.args.sites.now c.loop-site.site-index c.loop-site.text
    c.loop-site-test.false c.loop-site.invariant
