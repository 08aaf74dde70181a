use Rattle.std.proofs.Common.{length, ap, ◌∙◌, length-drop, arith}
use Rattle.log_text.specs.Lines.{line_len}
use Rattle.log_text.proofs.LineLemmas.{starts_more, slice_rest}
use Rattle.log_text.proofs.lines.line_starts.Goals as goal

pub lines-preserved : goal.lines-preserved
lines-preserved c =
    let log = c.args.log.now in
    let at = c.lines.at in
    let is = c.line_len-at.ensures.value ∙ ap line_len (slice_rest log at) in (
      starts_more log c.lines.starts c.push.new.self _ at c.line_len-at.result c.lines-test.true is c.in_ok-push.ensures.ok c.lines.invariant.0,
      omega (arith, c.line_len-at.ensures.within, ap length (slice_rest log at), length-drop at log),
    )
