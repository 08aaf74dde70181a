use Rattle.positions.proofs.Order.{first_alone, second_alone}
use Rattle.positions.proofs.merging.next_of.Goals as goal

pub returns-then-i-xs : goal.returns-then-i-xs
returns-then-i-xs c = first_alone _ _ _ _ c.requires.xs c.if-i-xs.true c.if-j-ys.false

pub returns-then-j-ys-2 : goal.returns-then-j-ys-2
returns-then-j-ys-2 c = second_alone _ _ _ _ c.requires.ys c.if-j-ys-2.true c.if-i-xs.false
