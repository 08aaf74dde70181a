use Rattle.c_means.specs.Trees.{part}
use Rattle.core_forms.specs.Nodes.{type_as}
use Rattle.core_forms.proofs.Forms.{converted_does}
use Rattle.core_exprs.proofs.entries.value_as.Goals as goal

pub returns-clause-value : goal.returns-clause-value
returns-clause-value g c = record {
  to = type_as c.tables.result.now c.args.ctype.now;
  inner = c.in_ok-u.u.value;
  is = c.in_ok-e.ensures;
  does = converted_does _ c.tables.result.now c.args.ctype.now c.in_ok-u.u.value
      (part c.args.expr.now c.args.scope.now) c.in_ok-u.ensures.value.value;
  marks = c.in_ok-u.ensures.value.marks;
}
