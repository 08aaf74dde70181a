use Rattle.std.proofs.Common.{sym, ◌∙◌}
use Rattle.cnf_core.specs.Truth.{value_of, clause_holds}
use Rattle.cnf_core.proofs.Indexed.{list_all-next, list_all-fails}
use Rattle.cnf_core.proofs.assignment.satisfies.Goals as goal

pub returns-then-not-satisfies_clause : goal.returns-then-not-satisfies_clause
returns-then-not-satisfies_clause c =
    sym (list_all-fails (clause_holds (value_of c.args.values.now)) c.args.formula.now c.loop-index.index c.clause.result.now c.clause.ensures (sym c.satisfies_clause.ensures ∙ c.if-not-satisfies_clause.true))

pub loop-index-preserved : goal.loop-index-preserved
loop-index-preserved c =
    list_all-next (clause_holds (value_of c.args.values.now)) c.args.formula.now c.loop-index.index c.clause.result.now c.clause.ensures (sym c.satisfies_clause.ensures ∙ c.if-not-satisfies_clause.false) c.loop-index.invariant
