use Rattle.std.proofs.Common.{refl, ◌∙◌}
use Rattle.sherlog.proofs.reporting.report_on.Goals as goal

pub returns-clause-report : goal.returns-clause-report
returns-clause-report c = record {
  within = c.in_ok-found.ensures.within;
  diagnosed = c.in_ok-found.found;
  just = c.in_ok-found.ensures.diagnosed;
  subject = record {
    places = c.args.places;
    log = c.args.log;
    bounds = c.args.bounds;
    conflicts = c.args.request.now.conflicts;
    assumptions = c.as_slice-2.result;
    facts = c.as_slice-3.result;
  };
  about = record {
    places = refl;
    log = refl;
    bounds = refl;
    conflicts = refl;
    assumed = c.as_slice-2.ensures ∙ (rw c.as_slice.ensures at c.in_ok-assumed.ensures);
    facts = c.as_slice-3.ensures;
  };
  text = c.in_ok-text.ensures;
  status = c.status_of-status.ensures;
  end = c.new.ensures;
  evidence = refl;
}
