use Rattle.std.proofs.Common.{◌≡◌}
use Rattle.c_language.specs.Typing.{typed_in}
use Rattle.c_language.specs.Initials.{descends, most_levels}
use Rattle.c_initials.proofs.filling.descends.Given as goal

abbrev pub invariant-levels : goal.invariant-levels
invariant-levels l =
    descends l.levels l.scope.tables (typed_in l.told l.scope) l.frames
    ≡ descends most_levels l.scope.tables (typed_in l.told l.scope) l.fn.frames

abbrev pub decreases-levels : goal.decreases-levels
decreases-levels l = l.levels
