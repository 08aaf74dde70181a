use Rattle.std.proofs.Common.{◌≡◌, ◌-◌, ◌≤◌, length}
use Rattle.c_lexer.specs.Division.{divide}
use Rattle.c_lexer.specs.Places.{spot_in, located}
use Rattle.c_lexer.specs.Walks.{spot_of, IsSmall}
use Rattle.c_lexer.proofs.walk.here_at.Given as goal

abbrev pub invariant-pieces : goal.invariant-pieces
invariant-pieces l = record {
  rest : spot_in (spot_of l.walk.here) (divide 0 l.walk.fresh l.walk.rest.now) (l.at - l.walk.at)
      ≡ located l.name l.bytes l.at;
  small : IsSmall l.walk;
  within : l.walk.at ≤ l.at;
}

abbrev pub decreases-pieces : goal.decreases-pieces
decreases-pieces l = length l.walk.rest.now
