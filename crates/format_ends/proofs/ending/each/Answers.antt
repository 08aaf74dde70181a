use Rattle.std.proofs.Common.{◌≡◌, sym, subst}
use Rattle.positions.specs.Sets.{has}
use Rattle.format_ends.specs.Reached.{reached}
use Rattle.format_ends.proofs.TextLaws.{stops_all}
use Rattle.format_ends.proofs.ending.each.Goals as goal

pub returns-then-from : goal.returns-then-from
returns-then-from c y =
    let log = c.args.log.now in
    let before = c.args.from.before in
    let ends = c.in_ok-ends.ends in
    subst (λ t. has ends y ≡ has (reached log t before) y) (sym c.if-from.true)
    (stops_all log before c.args.texts.now.all ends c.requires.all c.in_ok-ends.ensures y)
