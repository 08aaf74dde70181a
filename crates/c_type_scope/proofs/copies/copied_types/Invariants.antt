use Rattle.std.proofs.Common.{◌≡◌, take}
use Rattle.c_type_scope.proofs.copies.copied_types.Given as goal

abbrev pub invariant-loop-ctype : goal.invariant-loop-ctype
invariant-loop-ctype l = l.copy ≡ take l.ctype-index l.types
