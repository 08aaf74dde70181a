use mir.Val.{SFits}
use mir.Syntax.{w128}
use Rattle.std.proofs.Common.{rules, ◌∙◌, ap}
use Rattle.std.proofs.lemmas.Int.{to_z-of_z}
use Rattle.plain_data.specs.Words.{word}
use Rattle.c_machine.specs.Worth.{worth}
use Rattle.run_callees.proofs.Values.{word_alike}
use Rattle.run_callees.proofs.numbers.word_of.Goals as goal

pub returns-clause-value : goal.returns-clause-value
returns-clause-value c =
    let passed : SFits w128 c.scalar.result = search rules in
    c.wrap.ensures.value ∙ ap (word c.args.width) (to_z-of_z w128 c.scalar.result passed)
    ∙ word_alike c.args.width c.scalar.result (worth c.args.value.now) c.scalar.ensures.word
