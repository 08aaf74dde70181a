use Rattle.std.proofs.Common.{length, ap, ◌∙◌}
use Rattle.log_text.specs.Lines.{lines_of, line_count}
use Rattle.log_text.proofs.LineLemmas.{length-starts_from}
use Rattle.log_text.proofs.lines.LogText.line_count.Goals as goal

pub returns : goal.returns
returns c =
    c.len.ensures ∙ ap length c.self.invariant.0 ∙ length-starts_from 0 (lines_of c.self.inside.bytes) ∙ ap line_count c.self.view_is
