use Rattle.std.proofs.Common.{◌≡◌, ◌++◌, drop}
use Rattle.run_formula.specs.Watched.{watches, watches_behind}
use Rattle.run_formula.proofs.watches.watches_in.Given as goal

abbrev pub invariant-watched : goal.invariant-watched
invariant-watched l = l.all ++ watches_behind l.facts l.last l.next (drop l.index l.watched) ≡ watches l.facts l.watched
