use Rattle.std.proofs.Common.{refl}
use Rattle.c_language.specs.declared.unit.External.TheVariants as external_
use Rattle.c_means.specs.Programs.{outer}
use Rattle.core_callees.specs.Knows.{known_by}
use Rattle.core_units.proofs.Making.{some_made, none_made}
use Rattle.core_units.proofs.walk.defined.Goals as goal

pub returns-in-Some-clause-made : goal.returns-in-Some-clause-made
returns-in-Some-clause-made c watched reached =
    some_made c.args.around.now c.requires.around c.placed.result c.args.plan.now.is_reached c.args.watched.now
    (outer (external_.Function c.args.specifiers.now c.args.declarator.now c.args.body.now) c.args.scope.now)
    c.in_ok-found.found c.in-Some.definition (known_by c.calling-calling.result) refl c.in-Some.is
    c.calling-calling.ensures c.in_ok-found.ensures.made c.placed.ensures watched reached

pub returns-in-None-clause-made : goal.returns-in-None-clause-made
returns-in-None-clause-made c watched reached =
    none_made c.args.around.now c.requires.around
    (outer (external_.Function c.args.specifiers.now c.args.declarator.now c.args.body.now) c.args.scope.now)
    c.in_ok-found.found (known_by c.calling-calling.result) c.nothing.result refl c.in-None.is
    c.in_ok-found.ensures.made c.nothing.ensures
