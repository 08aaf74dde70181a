use Rattle.std.proofs.Common.{◌∙◌, ap, drop}
use Rattle.format_match.specs.Splits.{begins}
use Rattle.format_match.proofs.PlainTexts.{ends_one}
use Rattle.format_ends.proofs.literals.stops_of.Goals as goal

pub positions-preserved : goal.positions-preserved
positions-preserved c y =
    let bytes = c.args.bytes.now in
    let log = c.args.log.now in
    ends_one (λ z. begins bytes (drop z log)) c.positions.at y _ _ c.begins-stands.result (c.positions.invariant y)
    (c.begins-stands.ensures ∙ ap (begins bytes) c.split_at.ensures.back) (c.in_ok-put_where.ensures y)
