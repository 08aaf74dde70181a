use Rattle.std.proofs.Common.{take}
use Rattle.input_tables.specs.Rows.{IsKnownAs}
use Rattle.input_tables.proofs.keys.known_number.Given as goal

abbrev pub invariant-bits : goal.invariant-bits
invariant-bits l = IsKnownAs (take l.index l.word) l.number
