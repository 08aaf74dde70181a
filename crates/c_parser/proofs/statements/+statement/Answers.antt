use Rattle.std.proofs.Common.{◌-◌, arith}
use Rattle.c_reading.specs.Cursor.{state_of}
use Rattle.c_parser.proofs.Levels.{at_zero, above}
use Rattle.c_parser.proofs.statements.+statement.Goals as goal

pub returns-then-height-eq0 : goal.returns-then-height-eq0
returns-then-height-eq0 t c = at_zero c.args.height c.args.rank _ c.if-height-eq0.true

pub returns : goal.returns
returns t c =
    rw (above (c.args.height - 1) c.args.height c.args.rank (state_of c.args.tokens.now c.args.file.now c.args.c.now)
    (omega arith)) c.read_statement.ensures
