use Rattle.std.proofs.Common.{◌≡◌, ◌++◌, take}
use Rattle.query_core.proofs.clauses.push_all.Given as goal

abbrev pub invariant-clauses : goal.invariant-clauses
invariant-clauses l = l.formula ≡ l.fn.formula ++ take l.index l.more
