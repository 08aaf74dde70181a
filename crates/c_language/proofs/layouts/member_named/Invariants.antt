use Rattle.std.proofs.Common.{◌≡◌, drop}
use Rattle.c_language.specs.Layouts.{member_named}
use Rattle.c_language.proofs.layouts.member_named.Given as goal

abbrev pub invariant-loop-member : goal.invariant-loop-member
invariant-loop-member l = member_named l.name (drop l.member-index l.members) ≡ member_named l.name l.members
