use Rattle.std.proofs.Common.{drop}
use Rattle.core_units.proofs.Making.{Library}
use Rattle.core_units.proofs.library.each_alone.Given as goal

abbrev pub invariant-loop-external : goal.invariant-loop-external
invariant-loop-external l = Library l.around l.externals (drop l.external-index l.externals) l.all
