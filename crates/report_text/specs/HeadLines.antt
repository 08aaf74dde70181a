-- The lines on what a report rests on: bounds, assumptions, the log.
use Rattle.std.specs.Prelude.{ℕ, [], ◌++◌, length, Bool, true, false, Option, Some, None, codes}
use Rattle.plain_data.specs.declared.bounds.Bounds.{Bounds}
use Rattle.log_text.specs.Lines.{line_count}
use Rattle.diagnoses.specs.declared.assumption.Filling.{Filling}
use Rattle.diagnoses.specs.declared.assumption.Assumption.{Assumption}
use Rattle.diagnoses.specs.declared.assumption.Assumption.TheVariants.{Outside, Object}
use Rattle.report_text.specs.Numbers.{Text, count_text}

-- ---- bounds

-- how far a run is followed
unfoldable pub run_bounds : Bounds → Text
run_bounds bounds =
    count_text (codes "bounds turns ") bounds.turns ++ (count_text (codes " depth ") bounds.depth ++ count_text (codes " heap ") bounds.heap)

-- how much comes from outside
unfoldable pub outside_bounds : Bounds → Text
outside_bounds bounds =
    count_text (codes " outside ") bounds.outside ++ (count_text (codes " texts ") bounds.texts ++ count_text (codes " arguments ") bounds.arguments)

abbrev pub bounds_line : Bounds → ℕ → Text
bounds_line bounds conflicts = run_bounds bounds ++ (outside_bounds bounds ++ (count_text (codes " conflicts ") conflicts ++ codes "\n"))

-- ---- assumptions

-- the indices of the buffer that is filled and of its length
abbrev pub fills_text : Option Filling → Text
fills_text None = []
fills_text (Some filling) = count_text (codes " fills ") filling.buffer ++ count_text (codes " ") filling.length

abbrev pub null_text : Bool → Text
null_text true = codes " not null"
null_text false = []

abbrev pub outside_line : Text → Option Filling → Bool → Text
outside_line name fills never_null = codes "assume outside " ++ (name ++ (fills_text fills ++ (null_text never_null ++ codes "\n")))

abbrev pub object_line : Text → Text
object_line name = codes "assume object " ++ (name ++ codes "\n")

abbrev pub assume_line : Assumption → Text
assume_line (Outside name fills never_null) = outside_line name fills never_null
assume_line (Object name) = object_line name

-- ---- the log

abbrev pub log_line : Text → Text
log_line log = count_text (codes "log lines ") (line_count log) ++ (count_text (codes " bytes ") (length log) ++ codes "\n")
