use Rattle.std.proofs.Common.{◌≡◌, drop}
use Rattle.c_language.specs.Initials.{member_number}
use Rattle.c_initials.proofs.designators.number_among.Given as goal

abbrev pub invariant-loop-i : goal.invariant-loop-i
invariant-loop-i l = member_number l.i l.name (drop l.i l.members) ≡ member_number 0 l.name l.members
