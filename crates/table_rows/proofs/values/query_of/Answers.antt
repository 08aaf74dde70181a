use Rattle.std.proofs.Common.{List, subst, ◌≡◌, ◌∙◌}
use Rattle.std.specs.Prelude.{IfSome}
use Rattle.plain_data.specs.declared.fact.Fact.{Fact}
use Rattle.term_bank.specs.declared.shape.Shape.{Shape}
use Rattle.log_expr.specs.Tours.{Tour}
use Rattle.run_formula.specs.Formula.{IsFormula}
use Rattle.query_core.specs.Claims.{IsQuery}
use Rattle.query_core.proofs.QueryLemmas.{asked-stand}
use Rattle.table_rows.proofs.Asking.{asked-is}
use Rattle.table_rows.proofs.values.query_of.Goals as goal

pub new-requires-clause-roots : goal.new-requires-clause-roots
new-requires-clause-roots c = asked-stand _ _ _ _ c.in_ok-formula.formula c.in_ok-formula.ensures.formula

pub returns-in-Some : goal.returns-in-Some
returns-in-Some c =
    let bank = c.run_formula.new.bank in
    let query =
    subst
    (λ o. IfSome o (λ q. (t : Tour) (a : List Shape) (fs : List Fact) → IsFormula t a bank fs c.in_ok-formula.formula → IsQuery t fs q))
    c.in-Some.is c.in_ok-query.ensures.query in
    let watches =
    subst (λ o. IfSome o (λ q. q.formula.watches ≡ c.in_ok-formula.formula.watches)) c.in-Some.is c.in_ok-query.ensures.watches in
    let is = rw c.as_slice-facts.ensures at (query _ _ _ c.in_ok-formula.ensures.formula) in
    asked-is _ _ _ c.in-Some.query is (watches ∙ c.in_ok-formula.ensures.watches)
