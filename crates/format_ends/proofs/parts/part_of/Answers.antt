use Rattle.std.proofs.Common.{sym, subst}
use Rattle.format_ends.specs.Found.{IsPart}
use Rattle.format_ends.proofs.parts.part_of.Goals as goal

pub returns-in_ok-known-in-Converted : goal.returns-in_ok-known-in-Converted
returns-in_ok-known-in-Converted c =
    subst (λ p. IsPart p c.args.log.now (record { stops = c.new-stops.result; known = c.in_ok-known-in-Converted.known })) (sym c.in-Converted.is)
    (λ from ends h. absurd (c.in_ok-known-in-Converted.ensures from ends h))
