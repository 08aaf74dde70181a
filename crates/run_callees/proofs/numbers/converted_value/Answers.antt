use mir.Val.{SFits}
use mir.Syntax.{w128}
use Rattle.std.proofs.Common.{rules, ◌∙◌}
use Rattle.std.proofs.lemmas.Int.{to_z-of_z}
use Rattle.run_callees.proofs.numbers.converted_value.Goals as goal

pub returns-in-Word : goal.returns-in-Word
returns-in-Word c =
    let fits : SFits w128 c.wrapped_value.result = search rules in
    rw c.in-Word.is (to_z-of_z w128 c.wrapped_value.result fits ∙ c.wrapped_value.ensures)
