use Rattle.std.proofs.Common.{List, subst}
use Rattle.std.specs.Prelude.{IfSome}
use Rattle.plain_data.specs.declared.fact.Fact.{Fact}
use Rattle.term_bank.specs.declared.shape.Shape.{Shape}
use Rattle.log_expr.specs.Tours.{Tour}
use Rattle.run_formula.specs.Formula.{IsFormula}
use Rattle.query_core.specs.Claims.{IsQuery}
use Rattle.must_facts.proofs.Wholes.{asked_stand}
use Rattle.must_facts.proofs.whole.query_of.Goals as goal

pub new-requires-clause-roots : goal.new-requires-clause-roots
new-requires-clause-roots c = asked_stand _ _ _ _ c.in_ok-formula.formula c.in_ok-formula.ensures.formula

pub returns-in-Some-clause-query : goal.returns-in-Some-clause-query
returns-in-Some-clause-query c =
    let bank = c.run_formula.new.bank in
    let query =
    subst
    (λ o. IfSome o (λ q. (t : Tour) (a : List Shape) (fs : List Fact) → IsFormula t a bank fs c.in_ok-formula.formula → IsQuery t fs q))
    c.in-Some.is c.in_ok-query.ensures.query in
    record {
      ends = c.in_ok-ends.ends;
      is = query _ _ _ c.in_ok-formula.ensures.formula;
    }
