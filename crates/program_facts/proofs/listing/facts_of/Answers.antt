use Rattle.program_facts.proofs.Gathering.{facts_found}
use Rattle.program_facts.proofs.listing.facts_of.Goals as goal

pub returns : goal.returns
returns c =
    facts_found c.args.core.now c.args.log.now c.args.by_line c.as_slice-functions.result.now c.in_ok-last.last c.in_ok-source.source c.in_ok-marks.marks
    c.as_slice-found.result.now c.in_ok-library.library c.as_slice-reached.result.now c.no_facts-facts.result c.put_marks.new.out c.put_ends.new.out
    c.as_slice-functions.ensures c.in_ok-last.ensures c.in_ok-source.ensures c.in_ok-marks.ensures c.as_slice-found.ensures
    c.in_ok-library.ensures c.as_slice-reached.ensures c.no_facts-facts.ensures c.in_ok-put_marks.ensures c.in_ok-put_ends.ensures
