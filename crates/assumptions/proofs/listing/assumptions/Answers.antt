use Rattle.c_item_notes.specs.Levels.{judged}
use Rattle.assumptions.proofs.AsDefined.{are_those_of}
use Rattle.assumptions.proofs.listing.assumptions.Goals as goal

pub returns : goal.returns
returns c =
    are_those_of (judged c.args.source.now) c.in_ok-asked.asked c.in_ok-overview.overview c.noted_in-assumed.result c.requires
    c.in_ok-asked.ensures c.in_ok-overview.ensures c.noted_in-assumed.ensures
