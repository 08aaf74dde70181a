use Rattle.std.proofs.Common.{drop}
use Rattle.core_units.proofs.Making.{Walking}
use Rattle.core_units.proofs.walk.make_each.Given as goal

abbrev pub invariant-each : goal.invariant-each
invariant-each l = Walking l.around (drop l.external-index l.externals) l.scope l.index l.made
