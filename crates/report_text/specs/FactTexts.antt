-- The texts of facts.
use Rattle.std.specs.Prelude.{ℕ, ◌++◌, codes}
use Rattle.std.specs.Fmt.{decimal, signed_decimal}
use Rattle.plain_data.specs.declared.run.Side.{Side}
use Rattle.plain_data.specs.declared.run.Side.TheVariants as side
use Rattle.plain_data.specs.declared.run.Undefined.{Undefined}
use Rattle.plain_data.specs.declared.run.Undefined.TheVariants as undefined
use Rattle.plain_data.specs.declared.fact.Fact.{Fact}
use Rattle.plain_data.specs.declared.fact.Fact.TheVariants as fact
use Rattle.c_language.specs.declared.token.Place.{Place}
use Rattle.c_language.specs.PlaceTables.{PlaceTable, place_at, file_at}
use Rattle.report_text.specs.Numbers.{Text, count_text}

-- FILE:LINE:COLUMN
abbrev pub place_text : PlaceTable → Place → Text
place_text places place = file_at places.files place.file ++ (codes ":" ++ (decimal place.line ++ (codes ":" ++ decimal place.column)))

-- of the token at a byte offset
abbrev pub at_text : PlaceTable → ℕ → Text
at_text places at = place_text places (place_at places.places at)

-- ---- branches, calls, prints

abbrev pub side_text : Side → Text
side_text side.Yes = codes " true"
side_text side.No = codes " false"
side_text (side.Case value) = codes " case " ++ signed_decimal value
side_text side.Otherwise = codes " default"

abbrev pub branch_text : PlaceTable → ℕ → Side → Text
branch_text places at side = codes "branch " ++ (at_text places at ++ side_text side)

abbrev pub call_text : PlaceTable → ℕ → Text
call_text places at = codes "call " ++ at_text places at

abbrev pub print_text : PlaceTable → ℕ → ℕ → Text
print_text places at line = codes "print " ++ (at_text places at ++ count_text (codes " line ") line)

-- while the log stands in this line
abbrev pub in_text : ℕ → Text
in_text line = count_text (codes " in ") line

-- ---- undefined behaviour

abbrev pub kind_word : Undefined → Text
kind_word undefined.Overflow = codes "overflow"
kind_word undefined.ZeroDivisor = codes "divisor"
kind_word undefined.Shift = codes "shift"
kind_word undefined.PointerRange = codes "range"
kind_word undefined.Dereference = codes "dereference"
kind_word undefined.LiteralWrite = codes "literal"
kind_word undefined.Free = codes "free"
kind_word undefined.PointerOrder = codes "order"
kind_word undefined.MissingValue = codes "missing"

abbrev pub undefined_text : Undefined → Text
undefined_text kind = codes "undefined " ++ kind_word kind

abbrev pub stop_text : PlaceTable → Undefined → ℕ → Text
stop_text places kind at = undefined_text kind ++ (codes " " ++ at_text places at)

-- ---- the fact

abbrev pub fact_text : PlaceTable → Fact → Text
fact_text places (fact.Branch at side) = branch_text places at side
fact_text places (fact.BranchIn at side line) = branch_text places at side ++ in_text line
fact_text places (fact.Call at) = call_text places at
fact_text places (fact.CallIn at line) = call_text places at ++ in_text line
fact_text places (fact.Print at line) = print_text places at line
fact_text places (fact.StopAt kind at) = stop_text places kind at
fact_text places fact.Returned = codes "return"
fact_text places fact.Exited = codes "exit"
fact_text places fact.Aborted = codes "abort"
fact_text places (fact.StopOf kind) = undefined_text kind
