use Rattle.std.proofs.Common.{◌≡◌, length, drop, suc}
use Rattle.c_grammar.specs.UnitReading.{externals_at}
use Rattle.c_reading.specs.Cursor.{state_of}
use Rattle.c_parser.proofs.UnitLists.{added}
use Rattle.c_parser.proofs.externals.externals.Given as goal

abbrev pub invariant-externals : goal.invariant-externals
invariant-externals l = added l.all (externals_at l.left (state_of l.tokens l.file l.c))
    ≡ externals_at (suc (length (drop l.fn.c.position l.tokens))) (state_of l.tokens l.fn.file l.fn.c)

abbrev pub decreases-externals : goal.decreases-externals
decreases-externals l = l.left
