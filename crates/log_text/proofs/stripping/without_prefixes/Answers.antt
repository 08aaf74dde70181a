use Rattle.std.proofs.Common.{◌++◌, ap, subst, sym, ◌∙◌, arith}
use Rattle.std.proofs.lemmas.Bool.Decides.{nat_tests}
use Rattle.regex.specs.Patterns.{find}
use Rattle.log_text.specs.Patterns.{prefix_pattern}
use Rattle.log_text.specs.Lines.{line_len}
use Rattle.log_text.specs.Stripping.{without}
use Rattle.log_text.proofs.StripLemmas.{IsStripped, IsStripped-more, IsStripped-end, some_left, none_left}
use Rattle.log_text.proofs.stripping.without_prefixes.Goals as goal

pub lines-preserved : goal.lines-preserved
lines-preserved c =
    let pattern = prefix_pattern c.args.prefix.now in
    let drops = c.args.drop_unmatched in
    let line = c.split_at.result.0.now in
    let more = c.in_ok-extend_from_slice.ensures.ok ∙ ap (λ x. c.lines.bytes ++ x) (c.without_prefix.ensures.rest ∙ ap (λ p. without (find p line 0) drops line) c.lines.invariant.0) in (
      c.without_prefix.ensures.same ∙ c.lines.invariant.0,
      subst (λ r. IsStripped pattern drops c.args.log.now c.extend_from_slice.new.self r) (sym c.split_at.ensures.back)
          (IsStripped-more pattern drops c.args.log.now c.lines.bytes c.extend_from_slice.new.self c.lines.rest.now line c.line_len.result c.lines.invariant.1
          (some_left _ _ c.is_empty.ensures c.lines-test.true) c.line_len.ensures.value c.split_at.ensures.front more),
    )

pub returns-clause-value : goal.returns-clause-value
returns-clause-value c = IsStripped-end _ _ _ _ _ c.lines.invariant.1 (none_left _ _ c.is_empty.ensures c.lines-test.false)
