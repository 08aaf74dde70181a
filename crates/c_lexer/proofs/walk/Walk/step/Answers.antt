use Rattle.std.proofs.Common.{◌+◌, ◌-◌, ◌*◌, ◌^◌, length, drop, arith, length-drop, length-take}
use Rattle.c_lexer.proofs.walk.Walk.step.Goals as goal

pub returns-clause-small : goal.returns-clause-small
returns-clause-small c =
    let old = c.args.self.now in
    let len = c.piece_at-lexeme.result.1 in
    let within = c.piece_at-lexeme.ensures.within in
    let line = c.past_piece-self.ensures.line (2 * 10 ^ 9 + old.at) c.requires.small.line (omega arith) in
    record {
      at = omega (
        arith,
        c.requires.small.at,
        within.1,
        length-drop len old.rest.now,
        length-take
            (length old.rest.now - len) (drop len old.rest.now),
      );
      line = omega (arith, line, length-take len old.rest.now, within.1);
      column = omega (
        arith,
        c.past_piece-self.ensures.column,
        c.requires.small.column,
        length-take len old.rest.now,
        within.1,
      );
    }
