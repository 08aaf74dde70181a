use Rattle.std.proofs.Common.{◌≡◌, ◌≤◌, ◌+◌, ◌↔◌, true, length, sym, subst}
use Rattle.printf_text.specs.declared.piece.Piece.TheVariants.{Literal}
use Rattle.positions.specs.Sets.{has}
use Rattle.format_match.specs.Spelled.{AreWithin, EndsBehind}
use Rattle.format_ends.specs.Reached.{EndsAtStop, reached}
use Rattle.format_ends.proofs.TextLaws.{stop_behind, stop_within}
use Rattle.format_ends.proofs.ending.behind_literal.Goals as goal

pub ends_at_stops-requires-clause-within : goal.ends_at_stops-requires-clause-within
ends_at_stops-requires-clause-within c stop m =
    subst (λ n. stop + n ≤ length c.args.log.now) (sym c.len-len.ensures)
    (stop_within c.args.bytes.now c.args.log.now c.args.part.now.stops c.requires.part stop m)

pub returns-then-from : goal.returns-then-from
returns-then-from c =
    let bytes = c.args.bytes.now in
    let log = c.args.log.now in
    let before = c.args.from.before in
    let stops = c.args.part.now.stops in
    let ends = c.in_ok-ends.ends in
    subst (λ t. EndsBehind (Literal bytes) log (reached log t before) ends) (sym c.if-from.true)
    (stop_behind bytes log before stops ends c.requires.part
    (λ y. subst (λ n. (has ends y ≡ true) ↔ EndsAtStop log before stops n y) c.len-len.ensures (c.in_ok-ends.ensures y)))

pub literal_ends-requires : goal.literal_ends-requires
literal_ends-requires c =
    subst (λ t. AreWithin c.args.log.now (reached c.args.log.now t c.args.from.before)) c.if-from.false c.requires.within
