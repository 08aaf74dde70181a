use Rattle.std.proofs.Common.{◌≡◌, drop}
use Rattle.cert_text.specs.WorldSteps.{entry_after, entry_in}
use Rattle.cert_text.proofs.entry.entry_in.Given as goal

abbrev pub invariant-bytes : goal.invariant-bytes
invariant-bytes l = entry_after l.entry (drop l.byte-index l.line) ≡ entry_in l.line
