use Rattle.std.proofs.Common.{◌+◌, ◌≡◌, length, sym, ap, subst, ◌∙◌, arith}
use Rattle.std.specs.List.Sorted.{IsNonDecreasing}
use Rattle.log_text.specs.Lines.{lines_of, line_count, line_of, starts_through}
use Rattle.log_text.proofs.LineLemmas.{length-starts_from, line_count_le, line_of-within, line_of-behind, starts_ascend}
use Rattle.log_text.proofs.lines.LogText.line_of.Goals as goal

pub overflow_add-result : goal.overflow_add-result
overflow_add-result c =
    let bytes = c.self.inside.bytes in
    let count : c.len-else-position-len.result ≡ line_count bytes = c.len-else-position-len.ensures ∙ ap length c.self.invariant.0 ∙ length-starts_from 0 (lines_of bytes) in
    record { fits = omega (arith, count, line_count_le bytes, c.self.invariant.1) }

pub returns-then-position-len : goal.returns-then-position-len
returns-then-position-len c =
    let bytes = c.self.inside.bytes in
    c.starts_through.ensures ∙ ap (λ starts. starts_through starts c.args.position) (c.as_slice.ensures ∙ c.self.invariant.0)
    ∙ line_of-within bytes c.args.position (omega (arith, c.len.ensures)) ∙ ap (λ log. line_of log c.args.position) c.self.view_is

pub returns-else-position-len : goal.returns-else-position-len
returns-else-position-len c =
    let bytes = c.self.inside.bytes in
    let count : c.len-else-position-len.result ≡ line_count bytes = c.len-else-position-len.ensures ∙ ap length c.self.invariant.0 ∙ length-starts_from 0 (lines_of bytes) in
    ap (λ n. n + 1) count ∙ sym (line_of-behind bytes c.args.position (omega (arith, c.len.ensures))) ∙ ap (λ log. line_of log c.args.position) c.self.view_is

pub starts_through-requires : goal.starts_through-requires
starts_through-requires c =
    subst IsNonDecreasing (sym (c.as_slice.ensures ∙ c.self.invariant.0)) (starts_ascend c.self.inside.bytes)
