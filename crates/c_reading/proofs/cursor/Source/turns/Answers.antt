use Rattle.std.proofs.Common.{arith}
use Rattle.std.proofs.lemmas.List.{length-drop}
use Rattle.c_reading.proofs.cursor.Source.turns.Goals as goal

pub returns : goal.returns
returns c = omega (arith, c.saturating_sub.ensures, length-drop c.args.c.now.position c.args.self.now.tokens.now)
