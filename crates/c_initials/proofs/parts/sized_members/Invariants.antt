use Rattle.std.proofs.Common.{◌≡◌, ◌++◌, take, drop}
use Rattle.c_language.specs.Initials.{sized_members}
use Rattle.c_initials.proofs.parts.sized_members.Given as goal

abbrev pub invariant-loop-i : goal.invariant-loop-i
invariant-loop-i l = take l.i l.members ++ sized_members l.tables (drop l.i l.members) ≡ sized_members l.tables l.members
