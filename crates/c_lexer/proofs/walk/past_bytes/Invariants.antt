use Rattle.std.proofs.Common.{◌≡◌, ◌+◌, ◌≤◌, drop}
use Rattle.c_lexer.specs.Class.{Text}
use Rattle.c_lexer.specs.Places.{moved}
use Rattle.c_lexer.specs.Walks.{spot}
use Rattle.c_lexer.proofs.walk.past_bytes.Given as goal

abbrev pub invariant-loop-b : goal.invariant-loop-b
invariant-loop-b l = record {
  moves : (file : Text) → moved (spot file l.line l.column) (drop l.b-index l.bytes)
      ≡ moved (spot file l.initial.line l.initial.column) l.bytes;
  line_small : l.line ≤ l.initial.line + l.b-index;
  column_small : l.column ≤ l.initial.column + l.b-index;
}
