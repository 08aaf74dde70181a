use Rattle.c_item_notes.specs.Levels.{judged}
use Rattle.core_units.proofs.Making.{passed_after}
use Rattle.core_units.proofs.walk.passed.Goals as goal

pub returns-clause-after : goal.returns-clause-after
returns-clause-after c =
    passed_after (judged c.args.around.now.source.now) c.in_ok-outer_notes.field-0 c.args.external.now c.args.scope.now
    c.outer_notes.new.scope c.in_ok-outer_notes.ensures
