use Rattle.std.proofs.Common.{◌∙◌, sym, rules, arith}
use Rattle.c_scope.proofs.Found.{among_turn}
use Rattle.c_scope.proofs.levels.Levels.walk.Goals as goal

pub returns-in-Some : goal.returns-in-Some
returns-in-Some c =
    let turn = among_turn c.args.name.now c.args.file.now c.self.inside.levels.items c.walk.index c.index.result.now
    (search rules) c.walk.invariant.within c.index.ensures in
    let turned = rw (← c.find_over.ensures, c.in-Some.is) at turn in
    rw (← c.self.view_is) (sym turned ∙ c.walk.invariant.rest)

pub walk-preserved : goal.walk-preserved
walk-preserved c =
    let turn = among_turn c.args.name.now c.args.file.now c.self.inside.levels.items c.walk.index c.index.result.now
    (search rules) c.walk.invariant.within c.index.ensures in
    let turned = rw (← c.find_over.ensures, c.in_default.is) at turn in
    record { within = omega arith; rest = sym turned ∙ c.walk.invariant.rest }
