use Rattle.std.proofs.Common.{◌≡◌, take}
use Rattle.c_type_scope.proofs.copies.copied_signatures.Given as goal

abbrev pub invariant-loop-signature : goal.invariant-loop-signature
invariant-loop-signature l = l.copy ≡ take l.signature-index l.signatures
