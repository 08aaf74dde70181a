use Rattle.std.proofs.Common.{append_assoc}
use Rattle.report_text.proofs.reports.put_found.Goals as goal

pub returns : goal.returns
returns c =
    let facts = rw c.as_slice.ensures at c.in_ok-put_fact_lines.ensures in
    let total = rw c.as_slice-2.ensures at c.in_ok-put_total_line.ensures in
    let worlds = rw c.as_slice-3.ensures at c.put_worlds.ensures in
    let parts = rw (total, facts, c.in_ok-extend_from_slice.ensures.ok) at worlds in
    rw (append_assoc, append_assoc, append_assoc) at parts
