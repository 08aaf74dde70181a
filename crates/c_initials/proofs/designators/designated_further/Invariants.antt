use Rattle.std.proofs.Common.{◌≡◌, drop, map}
use Rattle.c_language.specs.declared.expr.Expr.{Expr}
use Rattle.c_language.specs.Initials.{designated_further}
use Rattle.c_language.specs.Trees.{typed}
use Rattle.c_language.specs.Units.{designated}
use Rattle.c_initials.specs.Filled.{filling_in}
use Rattle.c_initials.proofs.designators.designated_further.Given as goal

abbrev pub invariant-loop-designator : goal.invariant-loop-designator
invariant-loop-designator l =
    designated_further {E = Expr} typed (map designated (drop l.designator-index l.designators))
    (filling_in l.filling l.scope)
    ≡ designated_further {E = Expr} typed (map designated l.designators) (filling_in l.fn.filling l.fn.scope)
