use Rattle.std.proofs.Common.{◌-◌, ◌≤◌}
use Rattle.c_means.specs.Initials.{text_byte}
use Rattle.path_codes.specs.Settings.{Lays}
use Rattle.path_codes.proofs.texts.lay_text.Given as goal

abbrev pub invariant-bytes : goal.invariant-bytes
invariant-bytes l = Lays l.fn.bank l.bank l.fn.memory l.from l.laid l.at (text_byte l.fn.text) × (l.at ≤ l.fn.size)

abbrev pub decreases-bytes : goal.decreases-bytes
decreases-bytes l = l.size - l.at
