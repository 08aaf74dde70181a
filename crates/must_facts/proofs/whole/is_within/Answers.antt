use Rattle.std.proofs.Common.{◌∙◌, ap, ◌+◌}
use Rattle.c_means.specs.Units.{source_size}
use Rattle.log_text.specs.Lines.{line_count}
use Rattle.must_facts.proofs.Wholes.{more_than}
use Rattle.must_facts.proofs.whole.is_within.Goals as goal

pub returns : goal.returns
returns c =
    let p = c.args.program.now in (
      λ e. absurd (cc),
      λ small. absurd (more_than (source_size p.externals p.profile c.args.bounds.now) (line_count c.args.log.now)
          c.in-Some.positions c.in_ok-size.size (c.in-Some.ensures.1 ∙ ap (λ n. n + 1) c.line_count.ensures) c.in_ok-size.ensures
          c.if-size-most.false small),
    )
