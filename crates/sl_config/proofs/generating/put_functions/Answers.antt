use Rattle.std.proofs.Common.{◌≡◌, ◌+◌, ◌++◌, ap, ◌∙◌, rules, arith}
use Rattle.sl_config.specs.Generated.{function_line}
use Rattle.sl_config.proofs.Counting.{numbered_more, numbered_end}
use Rattle.sl_config.proofs.generating.put_functions.Goals as goal

pub lines-preserved : goal.lines-preserved
lines-preserved c =
    let line : c.as_bytes.result.now ≡ function_line (c.lines.index + 1) = search rules in
    numbered_more function_line c.lines.text c.extend_from_slice.new.self _ c.lines.index c.args.count c.lines-test.true
    (c.in_ok-extend_from_slice.ensures.ok ∙ ap (λ t. c.lines.text ++ t) line) c.lines.invariant

pub returns : goal.returns
returns c = numbered_end function_line c.lines.text _ c.lines.index c.args.count (omega arith) c.lines.invariant
