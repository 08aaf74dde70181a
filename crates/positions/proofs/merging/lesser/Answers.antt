use Rattle.std.proofs.Common.{arith}
use Rattle.positions.proofs.Order.{first_least, second_least, both_least}
use Rattle.positions.proofs.merging.lesser.Goals as goal

pub returns-then-x-y : goal.returns-then-x-y
returns-then-x-y c = first_least _ _ _ _ c.requires.xs c.requires.ys c.requires.i c.requires.j c.if-x-y.true

pub returns-then-y-x : goal.returns-then-y-x
returns-then-y-x c = second_least _ _ _ _ c.requires.xs c.requires.ys c.requires.i c.requires.j c.if-y-x.true

pub returns : goal.returns
returns c = both_least _ _ _ _ c.requires.xs c.requires.ys c.requires.i c.requires.j (omega arith)
