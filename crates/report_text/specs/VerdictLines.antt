-- The lines of facts with their verdicts, and how many of each there are.
use Rattle.std.specs.Prelude.{ℕ, ◌+◌, List, [], ◌∷◌, ◌++◌, Bool, true, false, codes, count_by}
use Rattle.plain_data.specs.declared.fact.Fact.{Fact}
use Rattle.c_language.specs.PlaceTables.{PlaceTable}
use Rattle.diagnoses.specs.declared.verdict.Open.{Open}
use Rattle.diagnoses.specs.declared.verdict.Open.TheVariants.{Having, Lacking}
use Rattle.diagnoses.specs.declared.verdict.Verdict.{Verdict}
use Rattle.diagnoses.specs.declared.verdict.Verdict.TheVariants.{Must, MustNot, May, Unknown}
use Rattle.report_text.specs.Numbers.{Text, count_text}
use Rattle.report_text.specs.FactTexts.{fact_text}

-- the question that stayed open
abbrev pub question_text : Open → Text
question_text Having = codes " unknown having "
question_text Lacking = codes " unknown lacking "

-- the verdict, without its evidence
abbrev pub verdict_text : Verdict → Text
verdict_text (Must refutation) = codes " must "
verdict_text (MustNot refutation) = codes " mustnot "
verdict_text (May having lacking) = count_text (codes " may ") having ++ (count_text (codes " ") lacking ++ codes " ")
verdict_text (Unknown question known trail) = question_text question

abbrev pub fact_line : PlaceTable → ℕ → Fact → Verdict → Text
fact_line places number fact verdict = count_text (codes "fact ") number ++ (verdict_text verdict ++ (fact_text places fact ++ codes "\n"))

-- the facts with their verdicts, numbered from this one on
abbrev pub fact_lines : PlaceTable → ℕ → List Fact → List Verdict → Text
fact_lines places number [] verdicts = []
fact_lines places number (fact ∷ facts) [] = []
fact_lines places number (fact ∷ facts) (verdict ∷ verdicts) =
    fact_line places number fact verdict ++ fact_lines places (number + 1) facts verdicts

-- ---- how many of each

abbrev pub is_must : Verdict → Bool
is_must (Must refutation) = true
is_must _ = false

abbrev pub is_mustnot : Verdict → Bool
is_mustnot (MustNot refutation) = true
is_mustnot _ = false

abbrev pub is_may : Verdict → Bool
is_may (May having lacking) = true
is_may _ = false

abbrev pub is_unknown : Verdict → Bool
is_unknown (Unknown question known trail) = true
is_unknown _ = false

-- the total of these many of each; no values are told of
unfoldable pub total_text : ℕ → ℕ → ℕ → ℕ → Text
total_text must mustnot may unknown =
    count_text (codes "total must ") must ++ (count_text (codes " mustnot ") mustnot ++ (count_text (codes " may ") may
    ++ (count_text (codes " unknown ") unknown ++ codes " values must 0 may 0 unknown 0\n")))

-- how many facts have each kind of verdict
abbrev pub total_line : List Verdict → Text
total_line verdicts = total_text (count_by is_must verdicts) (count_by is_mustnot verdicts) (count_by is_may verdicts) (count_by is_unknown verdicts)
