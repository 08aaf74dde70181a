use Rattle.core_units.proofs.Wholes.{watched_told}
use Rattle.core_units.proofs.library.watched_alone.Goals as goal

pub returns : goal.returns
returns c =
    watched_told c.args.around.now c.args.overview.now c.args.external.now c.in_ok-notes.notes c.outer_notes.new.scope
    c.new-scope.result c.watched_if.result c.requires.overview c.new-scope.ensures c.in_ok-notes.ensures c.watched_if.ensures
