use Rattle.std.proofs.Common.{◌∙◌, ap, ◌++◌, ◌∷◌, []}
use Rattle.c_language.specs.declared.unit.External.TheVariants as external_
use Rattle.c_language.specs.Scopes.{empty}
use Rattle.c_means.specs.Programs.{outer}
use Rattle.core_callees.specs.Knows.{known_by}
use Rattle.core_units.proofs.Making.{begun, some_alone, none_alone}
use Rattle.core_units.proofs.library.defined_alone.Goals as goal

pub returns-in-Some : goal.returns-in-Some
returns-in-Some c watched =
    some_alone c.args.around.now c.requires.around
    c.args.watched.now (outer (external_.Function c.args.specifiers.now c.args.declarator.now c.args.body.now) empty)
    c.in_ok-found.found c.in-Some.definition (known_by c.calling-calling.result) c.push.new.self c.in-Some.is
    c.calling-calling.ensures
    (begun (external_.Function c.args.specifiers.now c.args.declarator.now c.args.body.now)
    (known_by c.calling-calling.result) c.in_ok-found.found c.new-scope.result c.new-scope.ensures
    c.in_ok-found.ensures.made)
    (c.in_ok-push-in-Some.ensures.ok ∙ ap (λ fs. fs ++ c.in-Some.definition.function ∷ []) c.new-functions.ensures) watched

pub returns : goal.returns
returns c watched =
    none_alone c.args.around.now c.requires.around
    (outer (external_.Function c.args.specifiers.now c.args.declarator.now c.args.body.now) empty)
    c.in_ok-found.found (known_by c.calling-calling.result) c.new.result c.in-None.is
    (begun (external_.Function c.args.specifiers.now c.args.declarator.now c.args.body.now)
    (known_by c.calling-calling.result) c.in_ok-found.found c.new-scope.result c.new-scope.ensures
    c.in_ok-found.ensures.made) c.new.ensures
