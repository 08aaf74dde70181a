use Rattle.std.proofs.Common.{◌≤◌, length, arith}
use Rattle.format_ends.proofs.TextLaws.{none_reaches, last_reaches}
use Rattle.format_ends.proofs.texts.is_reached.Goals as goal

pub returns-then-passed-eq0 : goal.returns-then-passed-eq0
returns-then-passed-eq0 c log s p =
    none_reaches log c.args.before.now c.args.stop c.args.passed c.if-passed-eq0.true (omega (arith, s.long, c.requires.stop)) p

pub returns : goal.returns
returns c log s p =
    let h : c.args.stop ≤ length log = omega (arith, s.long, c.requires.stop) in
    last_reaches log c.args.before.now c.args.stop c.args.passed _ c.requires.ordered h (omega arith) c.requires.within p (s.are c.args.stop h)
