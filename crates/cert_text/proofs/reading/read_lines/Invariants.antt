use Rattle.std.proofs.Common.{◌+◌, ◌≤◌, length}
use Rattle.cert_text.proofs.ReadingLemmas.{Reading}
use Rattle.cert_text.proofs.reading.read_lines.Given as goal

abbrev pub invariant-lines : goal.invariant-lines
invariant-lines l = Reading l.bytes l.world l.stage l.number l.rest × (l.number + length l.rest ≤ length l.bytes + 1)

abbrev pub decreases-lines : goal.decreases-lines
decreases-lines l = length l.rest
