use Rattle.std.proofs.Common.{◌≡◌, take}
use Rattle.c_language.proofs.places.owners_of.Given as goal

abbrev pub invariant-loop-file : goal.invariant-loop-file
invariant-loop-file l = l.owners ≡ take l.file-index l.files
