use Rattle.core_functions.proofs.Making as making
use Rattle.core_functions.proofs.definitions.define.Goals as goal

pub returns-clause-made : goal.returns-clause-made
returns-clause-made g c =
    making.defines (g.P.Parts.numbering c.args.parts.now) c.args.specifiers.now c.args.declarator.now c.args.body.now
    c.args.scope.now c.in_ok-head.head c.in_ok-inside.inside c.inside.new.scope
    (record {
      said = c.in_ok-said.said;
      behind_head = c.function_says.new.scope;
      start = c.entered.new.scope;
      says = c.in_ok-said.ensures;
      head = c.in_ok-head.ensures.head;
      enters = c.in_ok-head.ensures.after;
      inside = c.in_ok-inside.ensures;
    })
    c.args.is_prelude c.with_body.result c.with_body.ensures

pub returns-clause-after : goal.returns-clause-after
returns-clause-after g c =
    making.leaves (g.P.Parts.numbering c.args.parts.now) c.args.specifiers.now c.args.declarator.now c.args.body.now
    c.args.scope.now c.in_ok-head.head c.in_ok-inside.inside c.inside.new.scope
    (record {
      said = c.in_ok-said.said;
      behind_head = c.function_says.new.scope;
      start = c.entered.new.scope;
      says = c.in_ok-said.ensures;
      head = c.in_ok-head.ensures.head;
      enters = c.in_ok-head.ensures.after;
      inside = c.in_ok-inside.ensures;
    })
    c.leave.new.self c.set_function.new.self c.in_ok-around.around c.leave.ensures c.set_function.ensures
    c.in_ok-around.ensures
