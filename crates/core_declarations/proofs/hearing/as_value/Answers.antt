use Rattle.std.proofs.Common.{◌∙◌}
use Rattle.core_exprs.proofs.EachForm as each
use Rattle.core_declarations.proofs.hearing.as_value.Goals as goal

pub returns : goal.returns
returns c = λ n p h.
    let u = each.on_used n c.tables.result.now c.args.scope.now c.args.x p c.in_ok-used.used c.tables.ensures h
    c.in_ok-used.ensures
    in
    record {
      told = c.in_ok-told.ensures ∙ h.built.told;
      value = u.value;
      text = h.text;
      after = h.after;
      marks = u.marks;
    }
