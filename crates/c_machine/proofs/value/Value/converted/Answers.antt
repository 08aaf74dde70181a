use mir.Val.{SFits}
use mir.Syntax.{w128}
use Rattle.std.proofs.Common.{rules, ◌∙◌, ap, refl}
use Rattle.c_language.specs.Integers.{converted}
use Rattle.c_machine.specs.Worth.{worth}
use Rattle.c_machine.proofs.Spelling.{kept, converted_alike}
use Rattle.c_machine.proofs.value.Value.converted.Goals as goal

pub returns-in-Integer-clause-value : goal.returns-in-Integer-clause-value
returns-in-Integer-clause-value c =
    let fits : SFits w128 c.convert.result = search rules in
    let passed : SFits w128 c.scalar.result = search rules in
    rw c.in-Integer.is
    (kept c.convert.result (converted c.in-Integer.kind (worth c.args.self)) fits
    (c.convert.ensures.value
    ∙ ap (converted c.in-Integer.kind) (kept c.scalar.result c.scalar.result passed refl)
    ∙ converted_alike c.in-Integer.kind c.scalar.result (worth c.args.self) c.scalar.ensures.word c.scalar.ensures.zero))
