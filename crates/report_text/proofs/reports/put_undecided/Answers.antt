use Rattle.std.proofs.Common.{append_assoc}
use Rattle.report_text.proofs.reports.put_undecided.Goals as goal

pub returns : goal.returns
returns c = rw (c.in_ok-put_count.ensures, append_assoc, c.from.ensures) at c.extend_from_slice.ensures.ok
