use Rattle.std.proofs.Common.{◌≡◌, ◌++◌, take}
use Rattle.query_core.specs.Claims.{KeepsNone}
use Rattle.query_core.proofs.clauses.add_all.Given as goal

abbrev pub invariant-clauses : goal.invariant-clauses
invariant-clauses l = record {
  clauses : l.solver.clauses ≡ l.fn.solver.clauses ++ take l.index l.formula;
  kept : KeepsNone l.fn.solver l.solver;
}
