use Rattle.std.proofs.Common.{◌≡◌, length}
use Rattle.c_lexer.specs.Reading.{lexed}
use Rattle.c_lexer.specs.Walks.{whole, IsValid}
use Rattle.c_lexer.proofs.lexer.tokens_of.Given as goal

abbrev pub invariant-pieces : goal.invariant-pieces
invariant-pieces l = record {
  whole_is : whole l.lexer ≡ lexed l.name l.bytes;
  valid : IsValid l.lexer;
}

abbrev pub decreases-pieces : goal.decreases-pieces
decreases-pieces l = length l.lexer.walk.rest.now
