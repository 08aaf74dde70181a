-- What a log call does with a text.
use Rattle.std.specs.Prelude.{ℕ, ℤ, pos, List, length}
use Rattle.core_tree.specs.declared.types.ValueType.{ValueType}
use Rattle.core_tree.specs.Callees.{print_noted, answers_int}
use Rattle.core_tree.specs.States.{Output, Done, plain, printing}

abbrev pub with_out : Output → Done Output → Done Output
with_out o d = record d { out = o }

abbrev pub put_out : List ℕ → Done Output → Done Output
put_out bytes d = with_out (printing bytes d.out) d

-- the event, the text and the answer
abbrev pub print_text : ℕ → ValueType → List ℤ → List ℕ → Done Output → Done Output
print_text at t shown bytes d =
    answers_int t (pos (length bytes)) (put_out bytes (print_noted plain at (length bytes) shown d))
