use Rattle.std.proofs.Common.{append_assoc}
use Rattle.report_text.proofs.head_lines.put_bounds.Goals as goal

pub returns : goal.returns
returns c =
    let parts = rw (c.in_ok-put_count.ensures, c.in_ok-put_outside_bounds.ensures, c.in_ok-put_run_bounds.ensures, c.from.ensures) at c.push.ensures.ok in
    rw (append_assoc, append_assoc, append_assoc) at parts
