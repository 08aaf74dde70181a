-- Lines that are none.
use Rattle.std.proofs.Common.{◌≡◌, ℕ, List, [], ◌∷◌, refl, ◌⊎◌, inl, inr}
use Rattle.plain_data.specs.declared.fact.Fact.{Fact}
use Rattle.c_language.specs.PlaceTables.{PlaceTable}
use Rattle.diagnoses.specs.declared.verdict.Verdict.{Verdict}
use Rattle.report_text.specs.VerdictLines.{fact_lines}

pub no_lines : (places : PlaceTable) (number : ℕ) (facts : List Fact) (verdicts : List Verdict) → (facts ≡ []) ⊎ (verdicts ≡ []) → fact_lines places number facts verdicts ≡ []
no_lines places number [] verdicts e = refl
no_lines places number (fact ∷ facts) [] e = refl
no_lines places number (fact ∷ facts) (verdict ∷ verdicts) (inl e) = cc
no_lines places number (fact ∷ facts) (verdict ∷ verdicts) (inr e) = cc
