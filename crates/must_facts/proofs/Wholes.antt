-- The measure, and what a query is asked.
use Rattle.std.proofs.Common.{◌≡◌, ◌≤◌, ◌<◌, ◌+◌, ◌*◌, ◌/◌, ◌↔◌, ◌∷◌, [], ℕ, List, min, arith, subst}
use Rattle.std.proofs.Math.Nat.{le-div_iff_mul-le}
use Rattle.plain_data.specs.declared.fact.Fact.{Fact}
use Rattle.term_bank.specs.declared.shape.Shape.{Shape}
use Rattle.term_bank.specs.declared.sort.Node.{Node}
use Rattle.term_bank.specs.declared.sort.Sort.TheVariants.{Truth}
use Rattle.term_bank.specs.Shapes.{Each, IsNode}
use Rattle.term_bank.proofs.TermLemmas.{node_of}
use Rattle.log_expr.specs.Tours.{Tour}
use Rattle.run_formula.specs.declared.formula.RunFormula.{RunFormula}
use Rattle.run_formula.specs.Formula.{IsFormula, SayFacts}
use Rattle.query_core.specs.Claims.{asked_nodes}

below : (s most size : ℕ) → size ≡ min s (most + 1) → size ≤ most → s ≤ most
below s most size is h = omega (arith, is, h)

above : (s most size : ℕ) → size ≡ min s (most + 1) → s ≤ most → size ≤ most
above s most size is h = omega (arith, is, h)

-- so many nodes, over so many positions
pub followed : (s n size : ℕ) → size ≡ min s (2000000 / (n + 1) + 1)
    → (size ≤ 2000000 / (n + 1)) ↔ (s * (n + 1) ≤ 2000000)
followed s n size is =
    let both = le-div_iff_mul-le {k = n + 1} {x = s} {y = 2000000} (omega arith) in
    (λ h. both.0 (below s (2000000 / (n + 1)) size is h), λ h. above s (2000000 / (n + 1)) size is (both.1 h))

facts_stand : (t : Tour) (b : List Shape) (fs : List Fact) (ns : List Node) → SayFacts t b fs ns → Each (IsNode b) ns
facts_stand t b [] [] h = tt
facts_stand t b [] (n ∷ ns) h = absurd h
facts_stand t b (f ∷ fs) [] h = absurd h
facts_stand t b (f ∷ fs) (n ∷ ns) h = (node_of b Truth n h.0.term, facts_stand t b fs ns h.1)

pub asked_stand : (t : Tour) (a b : List Shape) (fs : List Fact) (r : RunFormula) → IsFormula t a b fs r
    → Each (IsNode b) (asked_nodes r)
asked_stand t a b fs r h = (node_of b Truth r.fits h.fits.term, facts_stand t b fs r.facts h.facts)

-- more nodes than that
pub more_than : (s n k size : ℕ) → k ≡ n + 1 → size ≡ min s (2000000 / k + 1) → 2000000 / k < size → s * (n + 1) ≤ 2000000
    → ⊥
more_than s n k size e is h small =
    let is' = subst (λ k. size ≡ min s (2000000 / k + 1)) e is in
    let h' = subst (λ k. 2000000 / k < size) e h in
    let within = (followed s n size is').1 small in
    omega (arith, h', within)
