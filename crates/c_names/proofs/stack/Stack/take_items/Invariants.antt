use Rattle.std.proofs.Common.{◌≡◌, ◌++◌, length}
use Rattle.c_names.proofs.stack.Stack.take_items.Given as goal

abbrev pub invariant-items : goal.invariant-items
invariant-items g l = l.items ++ l.self ≡ l.fn.self

abbrev pub decreases-items : goal.decreases-items
decreases-items g l = length l.self
