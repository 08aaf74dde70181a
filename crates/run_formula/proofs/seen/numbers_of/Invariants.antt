use Rattle.std.proofs.Common.{◌≡◌, ◌++◌}
use Rattle.term_bank.specs.Values.{Environment, Values, Models}
use Rattle.run_formula.specs.Watched.{AllSeen, seen_all}
use Rattle.run_formula.proofs.seen.numbers_of.Given as goal

abbrev pub invariant-numbers : goal.invariant-numbers
invariant-numbers l = record {
  all : AllSeen l.bank l.all;
  are : (e : Environment) (v : Values) → Models l.bank e v → (v l.numbers).numbers ≡ (v l.at).numbers ++ seen_all v l.all;
}

abbrev pub decreases-numbers : goal.decreases-numbers
decreases-numbers l = l.at
