use Rattle.sherlog.proofs.Reading.{unit_of}
use Rattle.sherlog.proofs.source.read_unit.Goals as goal

pub returns-in-Ok-parse : goal.returns-in-Ok-parse
returns-in-Ok-parse c =
    unit_of _ _ c.in-Ok.tokens c.in-Ok-parse.unit c.in-Ok.ensures.value c.in-Ok-parse.ensures.derived
    c.in-Ok-parse.ensures.only c.in-Ok-parse.ensures.places c.in-Ok-parse.ensures.files
