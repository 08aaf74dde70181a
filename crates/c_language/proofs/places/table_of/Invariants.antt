use Rattle.std.proofs.Common.{◌≡◌, take}
use Rattle.c_language.specs.PlaceTables.{places_of}
use Rattle.c_language.proofs.places.table_of.Given as goal

abbrev pub invariant-loop-token : goal.invariant-loop-token
invariant-loop-token l = l.table.entries ≡ places_of (take l.token-index l.tokens)
