use Rattle.std.proofs.Common.{take}
use Rattle.format_match.specs.Spelled.{EndsBehind}
use Rattle.format_match.proofs.ending.behind.Given as goal

abbrev pub invariant-starts : goal.invariant-starts
invariant-starts l = EndsBehind l.piece l.log (take l.from-index l.before) l.ends
