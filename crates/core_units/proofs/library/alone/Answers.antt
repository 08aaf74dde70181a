use Rattle.c_language.specs.Scopes.{empty}
use Rattle.c_means.specs.Programs.{outer}
use Rattle.core_units.proofs.Making.{none_unwatched}
use Rattle.core_units.proofs.library.alone.Goals as goal

pub returns-in-None : goal.returns-in-None
returns-in-None c =
    none_unwatched c.args.around.now c.requires.around (outer c.args.external.now empty) c.in_ok-watched.field-0
    c.new-in-None.result c.in_ok-watched.ensures c.in-None.is c.new-in-None.ensures
