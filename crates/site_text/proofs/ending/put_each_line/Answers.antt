use Rattle.std.proofs.Common.{refl, ap, ◌+◌}
use Rattle.log_text.specs.Lines.{line_starts}
use Rattle.log_text.proofs.LineLemmas.{starts_within}
use Rattle.site_text.specs.Ends.{IsLineText, numbered}
use Rattle.site_text.proofs.Adding.{begun, line_put, lines_put}
use Rattle.site_text.proofs.ending.put_each_line.Goals as goal

pub lines-init : goal.lines-init
lines-init c = record {
  ready = c.in_ok-format.ensures;
  counted = refl;
  leads = begun (IsLineText c.args.places.now c.args.log.now c.args.at c.args.pieces.now)
      (numbered 1 (line_starts c.args.log.now)) c.args.text.now;
}

pub put_line-requires-clause-within : goal.put_line-requires-clause-within
put_line-requires-clause-within c =
    let starts = c.starts-start-items.ensures in
    rw starts (starts_within c.args.log.now c.lines.start-index (rw starts at c.lines-test.true))

pub lines-preserved : goal.lines-preserved
lines-preserved c =
    let starts = c.starts-start-items.ensures in
    record {
      ready = c.in_ok-put_line.ensures.ready;
      counted = ap (λ n. n + 1) c.lines.invariant.counted;
      leads = line_put (IsLineText c.args.places.now c.args.log.now c.args.at c.args.pieces.now)
          (line_starts c.args.log.now) c.lines.start-index c.lines.number c.args.text.now c.lines.text c.put_line.new.text
          (rw starts at c.lines-test.true) c.lines.invariant.leads (rw starts at c.in_ok-put_line.ensures.line);
    }

pub returns : goal.returns
returns c =
    lines_put (IsLineText c.args.places.now c.args.log.now c.args.at c.args.pieces.now)
    (line_starts c.args.log.now) c.lines.start-index c.lines.number c.args.text.now c.lines.text
    (rw c.starts-start-items.ensures at c.lines-test.false) c.lines.invariant.leads
