use Rattle.std.proofs.Common.{◌≡◌, ◌++◌, take}
use Rattle.bitvectors.proofs.more.clauses_from.Given as goal

abbrev pub invariant-clauses : goal.invariant-clauses
invariant-clauses l = take l.start l.formula ++ l.rest ≡ take l.index l.formula
