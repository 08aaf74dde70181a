use Rattle.cdcl.proofs.Resting.{rests-numbered}
use Rattle.cdcl.proofs.search.Search.number_from.Goals as goal

pub returns-clause-resting : goal.returns-clause-resting
returns-clause-resting c =
    let e = c.in_ok-renumber.ensures in
    rests-numbered c.args.self.now c.args.before c.renumber.new.self c.requires c.renumber.ensures.given e.clauses e.valid
