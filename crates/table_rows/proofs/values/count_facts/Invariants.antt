use Rattle.table_rows.specs.Asked.{IsAsked}
use Rattle.table_rows.proofs.values.count_facts.Given as goal

abbrev pub invariant-facts : goal.invariant-facts
invariant-facts l = IsAsked l.fn.facts l.fn.watches l.query
