use Rattle.std.proofs.Common.{◌≡◌, drop}
use Rattle.c_language.specs.Declares.{is_listed_name}
use Rattle.c_declares.proofs.members.is_listed_name.Given as goal

abbrev pub invariant-loop-listed : goal.invariant-loop-listed
invariant-loop-listed l = is_listed_name l.name (drop l.listed-index l.names) ≡ is_listed_name l.name l.names
