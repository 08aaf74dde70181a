-- Worked runs of small programs that log: `P(..)` is `int printf(const char *, ...); int ext(void); int main(void) {
-- .. }`.
use Rattle.std.proofs.Common.{◌≡◌, ℕ, pos, List, [], ◌∷◌, ◌++◌, true, false, cond, Some, None, refl}
use Rattle.std.specs.Prelude.{nat_eq}
use Rattle.plain_data.specs.declared.run.Finish.TheVariants as finish
use Rattle.plain_data.specs.declared.run.Undefined.TheVariants as undefined
use Rattle.c_language.specs.declared.expr.BinaryOperator.TheVariants as o
use Rattle.c_language.specs.declared.expr.TypeWord.TheVariants as w
use Rattle.c_language.specs.declared.expr.UnaryOperator.TheVariants as u
use Rattle.c_language.specs.Integers.{converted}
use Rattle.c_language.specs.Operators.{exact}
use Rattle.c_language.specs.Scopes.{Name, Scope}
use Rattle.c_language.proofs.Built as built
use Rattle.c_means.specs.Parts.{World}
use Rattle.printf_text.specs.Pieces.{pieces_from}
use Rattle.c_means.specs.Notes.{noting}
use Rattle.c_means.specs.Names.{Literal}
use Rattle.c_means.specs.Programs.{Outer}
use Rattle.c_means.specs.Runs.{Machine, run_of, met_of, level_of, room_of}
use Rattle.c_means.specs.Checks.{breaches_of}
use Rattle.c_means.proofs.RunScene.{OfExpr, OfStmt, int, text, op, un, set, increment, call, word, name, pointer, omitted}
use Rattle.c_means.proofs.RunScene.{parameter, does, returns, for, value, declare}
use Rattle.c_means.proofs.RunRows.{x, x', printf', main_with, machine, silent, declared_function, void_parameter}

abbrev ext' : Name
ext' = 101 ∷ 120 ∷ 116 ∷ []

-- int printf(const char *, ...);
abbrev log_declared : Scope → Outer
log_declared =
    declared_function 1 printf' (word w.Int ∷ [])
    (built.function noting 0 (name 1 printf') (parameter (word w.Char ∷ []) (pointer omitted) ∷ []) true)

-- int ext(void);
abbrev ext_declared : Scope → Outer
ext_declared =
    declared_function 2 ext' (word w.Int ∷ []) (built.function noting 0 (name 2 ext') (void_parameter ∷ []) false)

abbrev pub P : World → List Name → List Literal → List OfStmt → Machine
P world uses literals xs =
    machine world (log_declared ∷ ext_declared ∷ main_with uses literals (xs ++ returns 90 (int 0) ∷ []) ∷ [])

abbrev pub a_literal : ℕ → List ℕ → List Literal
a_literal at bytes = record { at = at; text = Some bytes } ∷ []

abbrev pub logs : List ℕ → List OfExpr → OfStmt
logs format xs = does (call 70 printf' (text 40 format ∷ xs))

-- ---- printf("%hhu\n", -1);

abbrev unsigned_line : List ℕ
unsigned_line = 37 ∷ 104 ∷ 104 ∷ 117 ∷ 10 ∷ []

abbrev printing_minus_one : Machine
printing_minus_one =
    P silent (printf' ∷ []) (a_literal 40 unsigned_line) (logs unsigned_line (un 0 u.Minus (int 1) ∷ []) ∷ [])

pub row_unsigned : (run_of printing_minus_one).printed ≡ 50 ∷ 53 ∷ 53 ∷ 10 ∷ []
unfolding converted exact level_of pieces_from
row_unsigned = refl

pub row_unsigned_end : (run_of printing_minus_one).finish ≡ finish.Return (pos 0)
unfolding converted exact level_of pieces_from
row_unsigned_end = refl

pub row_unsigned_accepted : breaches_of printing_minus_one ≡ []
unfolding converted exact level_of pieces_from
row_unsigned_accepted = refl

-- ---- int x = 1; printf("a\n"); x = x << 31; printf("b\n");

abbrev two_literals : List Literal
two_literals = record { at = 40; text = Some (97 ∷ 10 ∷ []) } ∷ record { at = 50; text = Some (98 ∷ 10 ∷ []) } ∷ []

abbrev between : OfStmt → OfStmt → Machine
between first second = P silent (printf' ∷ []) two_literals (
    first ∷ does (call 70 printf' (text 40 (97 ∷ 10 ∷ []) ∷ [])) ∷ second
    ∷ does (call 75 printf' (text 50 (98 ∷ 10 ∷ []) ∷ [])) ∷ [])

abbrev shifting : Machine
shifting =
    between (declare (word w.Int ∷ []) (name 20 x') (Some (value (int 1))))
    (does (set x (op 31 o.ShiftLeft x (int 31))))

pub row_shift_stops : (run_of shifting).finish ≡ finish.Stopped undefined.Shift 31
unfolding converted exact level_of pieces_from
row_shift_stops = refl

pub row_shift_printed : (run_of shifting).printed ≡ 97 ∷ 10 ∷ []
unfolding converted exact level_of pieces_from
row_shift_printed = refl

-- ---- int x = -2147483647 - 1; printf("a\n"); x = x / -1; printf("b\n");

abbrev dividing : Machine
dividing =
    between
    (declare (word w.Int ∷ []) (name 20 x') (Some (value (op 0 o.Subtract (un 0 u.Minus (int 2147483647)) (int 1)))))
    (does (set x (op 31 o.Divide x (un 0 u.Minus (int 1)))))

pub row_quotient_stops : (run_of dividing).finish ≡ finish.Stopped undefined.Overflow 31
unfolding converted exact level_of pieces_from
row_quotient_stops = refl

-- ---- int x; for (x = 0; x < 3; x++) printf("%d\n", ext()); where the words at 6, 14 and 22 are 1, 2 and 3

abbrev decimal_line : List ℕ
decimal_line = 37 ∷ 100 ∷ 10 ∷ []

abbrev answering : World
answering = record {
  word = λ p. cond (nat_eq p 6) 1 (cond (nat_eq p 14) 2 (cond (nat_eq p 22) 3 0));
  byte = λ a. 0;
}

abbrev asking_thrice : Machine
asking_thrice = P answering (printf' ∷ ext' ∷ []) (a_literal 40 decimal_line) (
    declare (word w.Int ∷ []) (name 20 x') None
    ∷ for 60 (set x (int 0)) (op 0 o.Less x (int 3)) (increment 0 x) (logs decimal_line (call 75 ext' [] ∷ []))
    ∷ [])

pub row_each_turn_asks : (run_of asking_thrice).printed ≡ 49 ∷ 10 ∷ 50 ∷ 10 ∷ 51 ∷ 10 ∷ []
unfolding converted exact level_of pieces_from
row_each_turn_asks = refl

-- the four functions and literals, the object, and the answers
pub row_places_of_turns : met_of asking_thrice ≡ 1 ∷ 2 ∷ 3 ∷ 4 ∷ 5 ∷ 6 ∷ 14 ∷ 22 ∷ []
unfolding converted exact level_of pieces_from
row_places_of_turns = refl

-- nine turns of eight places
pub row_room_of_turns : room_of asking_thrice ≡ 77
unfolding converted exact level_of pieces_from
row_room_of_turns = refl

-- ---- int x; printf("%d\n", x); where the byte at 21474836480 is 77: `ext` isn't needed, and has a place

abbrev seventy_seven : World
seventy_seven = record { word = λ p. 0; byte = λ a. cond (nat_eq a 21474836480) 77 0 }

abbrev showing_world : Machine
showing_world = P seventy_seven (printf' ∷ []) (a_literal 40 decimal_line) (
    declare (word w.Int ∷ []) (name 20 x') None ∷ logs decimal_line (x ∷ []) ∷ [])

pub row_byte_of_world : (run_of showing_world).printed ≡ 55 ∷ 55 ∷ 10 ∷ []
unfolding converted exact level_of pieces_from
row_byte_of_world = refl

pub row_places_of_needed : met_of showing_world ≡ 1 ∷ 3 ∷ 4 ∷ 5 ∷ []
unfolding converted exact level_of pieces_from
row_places_of_needed = refl

-- ---- what one conversion prints

abbrev prints_of : List ℕ → OfExpr → List ℕ
prints_of format e = (run_of (P silent (printf' ∷ []) (a_literal 40 format) (logs format (e ∷ []) ∷ []))).printed

-- %5.3d of 7
pub row_width_and_precision : prints_of (37 ∷ 53 ∷ 46 ∷ 51 ∷ 100 ∷ []) (int 7) ≡ 32 ∷ 32 ∷ 48 ∷ 48 ∷ 55 ∷ []
unfolding converted exact level_of pieces_from
row_width_and_precision = refl

-- %05d of -42
pub row_zeros : prints_of (37 ∷ 48 ∷ 53 ∷ 100 ∷ []) (un 0 u.Minus (int 42)) ≡ 45 ∷ 48 ∷ 48 ∷ 52 ∷ 50 ∷ []
unfolding converted exact level_of pieces_from
row_zeros = refl

-- %.0d of 0 prints nothing
pub row_no_digit : prints_of (37 ∷ 46 ∷ 48 ∷ 100 ∷ []) (int 0) ≡ []
unfolding converted exact level_of pieces_from
row_no_digit = refl

-- %hhd of 300
pub row_short_length : prints_of (37 ∷ 104 ∷ 104 ∷ 100 ∷ []) (int 300) ≡ 52 ∷ 52 ∷ []
unfolding converted exact level_of pieces_from
row_short_length = refl

-- (void *)0
abbrev null : OfExpr
null = built.cast noting 0 (built.type_name noting (word w.Void ∷ []) (pointer omitted)) (int 0)

-- %p of null
pub row_null : prints_of (37 ∷ 112 ∷ []) null ≡ 40 ∷ 110 ∷ 105 ∷ 108 ∷ 41 ∷ []
unfolding converted exact level_of pieces_from
row_null = refl
