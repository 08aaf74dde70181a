use Rattle.std.proofs.Common.{sym}
use Rattle.proof_check.proofs.PlaceLemmas.{found-place, search-finds}
use Rattle.proof_check.proofs.marks.place.Goals as goal

pub unreachable-requires : goal.unreachable-requires
unreachable-requires c = search-finds c.args.variables.now c.args.variable c.binary_search.result c.in-Err.field-0 c.requires.rising c.binary_search.ensures.position c.requires.found c.in-Err.is

pub returns-clause-place : goal.returns-clause-place
returns-clause-place c = sym (found-place c.args.variables.now c.args.variable c.binary_search.result c.in-Ok.place c.requires.rising c.binary_search.ensures.position c.in-Ok.is).0
