-- The report, as a function from values to bytes.
use Rattle.std.specs.Prelude.{ℕ, List, ◌++◌, codes}
use Rattle.std.specs.List.{flat_map}
use Rattle.plain_data.specs.declared.fact.Fact.{Fact}
use Rattle.c_language.specs.PlaceTables.{PlaceTable}
use Rattle.diagnoses.specs.declared.diagnosis.Findings.{Findings}
use Rattle.diagnoses.specs.declared.diagnosis.Diagnosis.{Diagnosis}
use Rattle.diagnoses.specs.declared.diagnosis.Diagnosis.TheVariants.{Found, Nothing, Undecided}
use Rattle.report_text.specs.Numbers.{Text, count_text}
use Rattle.report_text.specs.HeadLines.{bounds_line, assume_line, log_line}
use Rattle.report_text.specs.VerdictLines.{fact_lines, total_line}
use Rattle.report_text.specs.WorldTexts.{world_texts}
use Rattle.report_text.specs.declared.reports.Subject.{Subject}

abbrev pub found_lines : PlaceTable → List Fact → Findings → Text
found_lines places facts findings =
    codes "execution found\n" ++ (fact_lines places 1 facts findings.verdicts ++ (total_line findings.verdicts ++ world_texts 1 findings.worlds))

-- how many conflicts left it open whether a run fits
abbrev pub undecided_line : ℕ → Text
undecided_line conflicts = count_text (codes "execution unknown after ") conflicts ++ codes " conflicts\n"

abbrev pub diagnosis_lines : Subject → Diagnosis → Text
diagnosis_lines subject (Found findings) = found_lines subject.places.now subject.facts.now findings
diagnosis_lines subject (Nothing refutation) = codes "execution none within bounds\n"
diagnosis_lines subject (Undecided trail) = undecided_line subject.conflicts

abbrev pub report_of : Subject → Diagnosis → Text
report_of subject diagnosis =
    codes "sherlog report 1\n" ++ (bounds_line subject.bounds.now subject.conflicts ++ (flat_map assume_line subject.assumptions.now
    ++ (log_line subject.log.now ++ (diagnosis_lines subject diagnosis ++ codes "end\n"))))
