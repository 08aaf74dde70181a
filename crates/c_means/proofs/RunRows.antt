-- Worked rows: whole programs, and what their runs print and how they end.
use Rattle.std.proofs.Common.{◌≡◌, ℕ, pos, negsuc, List, [], ◌∷◌, true, false, cond, Some, None, refl}
use Rattle.std.specs.Prelude.{nat_eq}
use Rattle.plain_data.specs.declared.run.Event.{Event}
use Rattle.plain_data.specs.declared.run.Finish.TheVariants as finish
use Rattle.plain_data.specs.declared.run.Happening.{Happening}
use Rattle.plain_data.specs.declared.run.Happening.TheVariants as happening
use Rattle.plain_data.specs.declared.run.Side.TheVariants as side
use Rattle.plain_data.specs.declared.run.Undefined.TheVariants as undefined
use Rattle.c_language.specs.declared.expr.BinaryOperator.TheVariants as o
use Rattle.c_language.specs.declared.expr.TypeWord.TheVariants as w
use Rattle.c_language.specs.declared.expr.UnaryOperator.TheVariants as u
use Rattle.c_language.specs.Integers.{converted}
use Rattle.c_language.specs.Operators.{exact}
use Rattle.c_language.specs.Folds.{fold_specifier}
use Rattle.c_language.specs.Scopes.{Name, Scope, empty}
use Rattle.c_language.specs.Declares.{Says}
use Rattle.c_language.specs.Declarations.{function_by}
use Rattle.c_language.proofs.Built.{all_say}
use Rattle.c_means.specs.Parts.{World, Limits}
use Rattle.printf_text.specs.Pieces.{pieces_from}
use Rattle.c_language.specs.declared.scope.Rule.TheVariants as rule
use Rattle.c_means.specs.declared.breach.Breach.{Breach}
use Rattle.c_means.specs.declared.breach.BrokenRule.{BrokenRule}
use Rattle.c_means.specs.declared.breach.BrokenRule.TheVariants as broken
use Rattle.c_means.specs.declared.profile.LogText.TheVariants as log_
use Rattle.c_means.specs.declared.profile.Profile.{Profile}
use Rattle.c_means.specs.Notes.{ExprNoted, noting}
use Rattle.c_means.specs.Names.{Names, Word, Literal, ordinary, none}
use Rattle.c_means.specs.Statements.{declares_by}
use Rattle.c_means.specs.Programs.{Outer, in_order, with_function, declared_outer, main'}
use Rattle.c_means.specs.Runs.{Machine, run_of, met_of, level_of, room_of, unrolled_size}
use Rattle.c_means.specs.Checks.{breaches_of, has_main}
use Rattle.c_means.proofs.RunScene.{OfExpr, OfDeclarator, OfSpecifier, OfParameter, OfStmt}
use Rattle.c_means.proofs.RunScene.{int, text, the, op, un, set, element, increment, call, word, name, pointer, array}
use Rattle.c_means.proofs.RunScene.{open_array, omitted, taking, parameter}
use Rattle.c_means.proofs.RunScene.{does, block, returns, when, for, switch, case, otherwise, label, goto, break, continue}
use Rattle.c_means.proofs.RunScene.{loop, returns_nothing}
use Rattle.c_means.proofs.RunScene.{value, declare, braced, item_at, plain_item, static}

-- ---- programs

abbrev pub x' : Name
x' = 120 ∷ []

abbrev pub f' : Name
f' = 102 ∷ []

abbrev pub printf' : Name
printf' = 112 ∷ 114 ∷ 105 ∷ 110 ∷ 116 ∷ 102 ∷ []

abbrev words : List Name → List Word
words [] = []
words (n ∷ ns) = ordinary n ∷ words ns

abbrev declaring : ℕ → Name → Names
declaring at n = record none { declares = record { at = at; word = ordinary n } ∷ [] }

-- a function of type `int`, with what its body uses
abbrev pub int_function : ℕ → Name → List OfParameter → List Name → List Literal → List OfStmt → Scope → Outer
int_function at n ps uses literals xs s =
    with_function (function_by (all_say (fold_specifier {c = Says ExprNoted} noting) (word w.Int ∷ []))
    (taking (name at n) ps).says s) None
    (Some (block xs).says) (declaring at n) (record (declaring at n) { uses = words uses; literals = literals }) s

-- int printf();
abbrev pub printf_declared : Scope → Outer
printf_declared s =
    declared_outer (declares_by (all_say (fold_specifier {c = Says ExprNoted} noting) (word w.Int ∷ []))
    (record { declarator = (taking (name 1 printf') []).says; initial = None } ∷ []) s) (declaring 1 printf')

abbrev pub void_parameter : OfParameter
void_parameter = parameter (word w.Void ∷ []) omitted

abbrev pub main_with : List Name → List Literal → List OfStmt → Scope → Outer
main_with uses literals xs s = int_function 10 main' (void_parameter ∷ []) uses literals xs s

abbrev logging : Profile
logging = record {
  log = record { name = printf'; text = log_.Format 0 false } ∷ [];
  identity = [];
  fills = [];
  never_null = [];
}

abbrev pub silent : World
silent = record { word = λ p. 0; byte = λ a. 0 }

abbrev bounds : Limits
bounds = record { turns = 8; heap = 256; outside = 64; texts = 32; arguments = 2 }

abbrev pub machine : World → List (Scope → Outer) → Machine
machine world xs = record {
  program = in_order xs empty;
  prelude = [];
  profile = logging;
  world = world;
  limits = bounds;
  depth = 8;
}

abbrev pub x : OfExpr
x = the x'

-- ---- int main(void) { int x = 2147483647; return x + 1; }

abbrev overflowing : Machine
overflowing = machine silent (main_with [] [] (
    declare (word w.Int ∷ []) (name 20 x') (Some (value (int 2147483647))) ∷ returns 30 (op 31 o.Add x (int 1)) ∷ [])
    ∷ [])

pub row_overflow : (run_of overflowing).finish ≡ finish.Stopped undefined.Overflow 31
unfolding converted exact level_of
row_overflow = refl

pub row_overflow_accepted : breaches_of overflowing ≡ []
unfolding converted exact level_of
row_overflow_accepted = refl

pub row_overflow_main : has_main overflowing ≡ true
unfolding converted exact level_of
row_overflow_main = refl

-- ---- int main(void) { return 1 << 40; }

pub row_shift : (run_of (machine silent (main_with [] [] (returns 30 (op 31 o.ShiftLeft (int 1) (int 40)) ∷ [])
    ∷ []))).finish
    ≡ finish.Stopped undefined.Shift 31
unfolding converted exact level_of
row_shift = refl

-- ---- int printf(); int main(void) { int x; for (x = 0; x < n; x++) printf("%d\n", x); return 0; }

abbrev pub line : OfExpr
line = text 40 (37 ∷ 100 ∷ 10 ∷ [])

abbrev pub line_literal : List Literal
line_literal = record { at = 40; text = Some (37 ∷ 100 ∷ 10 ∷ []) } ∷ []

abbrev prints : OfExpr → OfStmt
prints e = does (call 70 printf' (line ∷ e ∷ []))

abbrev counting : ℕ → Machine
counting n = machine silent (printf_declared ∷ main_with (printf' ∷ []) line_literal (
    declare (word w.Int ∷ []) (name 20 x') None
    ∷ for 60 (set x (int 0)) (op 0 o.Less x (int n)) (increment 0 x) (prints x)
    ∷ returns 80 (int 0) ∷ []) ∷ [])

abbrev eight_lines : List ℕ
eight_lines = 48 ∷ 10 ∷ 49 ∷ 10 ∷ 50 ∷ 10 ∷ 51 ∷ 10 ∷ 52 ∷ 10 ∷ 53 ∷ 10 ∷ 54 ∷ 10 ∷ 55 ∷ 10 ∷ []

pub row_eight_turns : (run_of (counting 8)).finish ≡ finish.Return (pos 0)
unfolding converted exact level_of pieces_from
row_eight_turns = refl

pub row_eight_lines : (run_of (counting 8)).printed ≡ eight_lines
unfolding converted exact level_of pieces_from
row_eight_lines = refl

pub row_nine_turns : (run_of (counting 9)).finish ≡ finish.Left 60
unfolding converted exact level_of pieces_from
row_nine_turns = refl

pub row_nine_lines : (run_of (counting 9)).printed ≡ eight_lines
unfolding converted exact level_of pieces_from
row_nine_lines = refl

pub row_counting_accepted : breaches_of (counting 9) ≡ []
unfolding converted exact level_of pieces_from
row_counting_accepted = refl

-- ---- int f(int x) { if (x == 0) return 0; return f(x - 1); } int main(void) { return f(n); }

abbrev descends : OfStmt
descends = returns 53 (call 55 f' (op 0 o.Subtract x (int 1) ∷ []))

abbrev deep : ℕ → Machine
deep n = machine silent (
    int_function 5 f' (parameter (word w.Int ∷ []) (name 7 x') ∷ []) (f' ∷ []) []
    (when 50 (op 0 o.Equal x (int 0)) (returns 51 (int 0)) ∷ descends ∷ [])
    ∷ main_with (f' ∷ []) [] (returns 80 (call 85 f' (int n ∷ [])) ∷ []) ∷ [])

pub row_eight_levels : (run_of (deep 6)).finish ≡ finish.Return (pos 0)
unfolding converted exact level_of
row_eight_levels = refl

pub row_nine_levels : (run_of (deep 7)).finish ≡ finish.Left 55
unfolding converted exact level_of
row_nine_levels = refl

-- ---- int main(void) { int x; printf("%d\n", x); return 0; } where the world has 77 at the object's first byte

-- `printf`, `main` and the literal have the places before it
abbrev seventy_seven : World
seventy_seven = record { word = λ p. 0; byte = λ a. cond (nat_eq a 17179869184) 77 0 }

abbrev uninitialised : Machine
uninitialised = machine seventy_seven (printf_declared ∷ main_with (printf' ∷ []) line_literal (
    declare (word w.Int ∷ []) (name 20 x') None ∷ prints x ∷ returns 80 (int 0) ∷ []) ∷ [])

pub row_uninitialised : (run_of uninitialised).printed ≡ 55 ∷ 55 ∷ 10 ∷ []
unfolding converted exact level_of pieces_from
row_uninitialised = refl

-- the places of `printf`, `main` and the literal, and that of the object
pub row_places_met : met_of uninitialised ≡ 1 ∷ 2 ∷ 3 ∷ 4 ∷ []
unfolding converted exact level_of pieces_from
row_places_met = refl

pub row_room : room_of uninitialised ≡ 8
unfolding converted exact level_of pieces_from
row_room = refl

-- the block, the object, the statement, the call, its two arguments, `return`, its value
pub row_nodes : unrolled_size uninitialised ≡ 8
unfolding converted exact level_of pieces_from
row_nodes = refl

-- ---- printf("%d\n", printf("%d\n", 7)): the inner call ends before the outer one begins

abbrev nested : Machine
nested = machine silent (printf_declared ∷ main_with (printf' ∷ []) line_literal (
    does (call 70 printf' (line ∷ call 75 printf' (line ∷ int 7 ∷ []) ∷ [])) ∷ returns 80 (int 0) ∷ []) ∷ [])

abbrev pub happenings : List Event → List Happening
happenings [] = []
happenings (e ∷ es) = e.what ∷ happenings es

pub row_order_of_calls : happenings (run_of nested).events
    ≡ happening.Call 75 ∷ happening.Print 75 2 [] ∷ happening.Call 70 ∷ happening.Print 70 2 [] ∷ []
unfolding converted exact level_of pieces_from
row_order_of_calls = refl

-- ---- int x = 0; switch (n) { case 1: x = x + 1; case 2: x = x + 10; break; default: x = x + 100; } return x;

abbrev adds : ℕ → OfStmt
adds n = does (set x (op 0 o.Add x (int n)))

abbrev choosing : ℕ → Machine
choosing n = machine silent (main_with [] [] (
    declare (word w.Int ∷ []) (name 20 x') (Some (value (int 0)))
    ∷ switch 30 (int n) (block (case 31 (int 1) (adds 1) ∷ case 32 (int 2) (adds 10) ∷ break 33 ∷ otherwise 34
    (adds 100) ∷ []))
    ∷ returns 80 x ∷ []) ∷ [])

pub row_case_falls_through : (run_of (choosing 1)).finish ≡ finish.Return (pos 11)
unfolding converted exact level_of
row_case_falls_through = refl

pub row_case_breaks : (run_of (choosing 2)).finish ≡ finish.Return (pos 10)
unfolding converted exact level_of
row_case_breaks = refl

pub row_default : (run_of (choosing 3)).finish ≡ finish.Return (pos 100)
unfolding converted exact level_of
row_default = refl

pub row_case_event : happenings (run_of (choosing 2)).events ≡ happening.Branch 30 (side.Case (pos 2)) ∷ []
unfolding converted exact level_of
row_case_event = refl

-- ---- int x = 1; goto f; x = x + 1; f: x = x + 10; return x;

pub row_goto : (run_of (machine silent (main_with [] [] (
    declare (word w.Int ∷ []) (name 20 x') (Some (value (int 1))) ∷ goto 30 f' ∷ adds 1 ∷ label 40 f' (adds 10)
    ∷ returns 80 x ∷ []) ∷ []))).finish
    ≡ finish.Return (pos 11)
unfolding converted exact level_of
row_goto = refl

-- ---- int x[3] = { [1] = 5, 7 }; return 100 * x[0] + 10 * x[1] + x[2];

abbrev digit : ℕ → ℕ → OfExpr
digit n i = op 0 o.Multiply (int n) (element 0 x (int i))

pub row_designators : (run_of (machine silent (main_with [] [] (
    declare (word w.Int ∷ []) (array 3 (name 20 x'))
    (Some (braced (item_at (int 1) (value (int 5)) ∷ plain_item (value (int 7)) ∷ [])))
    ∷ returns 80 (op 0 o.Add (digit 100 0) (op 0 o.Add (digit 10 1) (digit 1 2))) ∷ []) ∷ []))).finish
    ≡ finish.Return (pos 57)
unfolding converted exact level_of
row_designators = refl

-- ---- void *malloc(unsigned long); void free(void *); int main(void) { char *x = malloc(4); *x = 65; free(x); *x =
-- 66; return 0; }

abbrev malloc' : Name
malloc' = 109 ∷ 97 ∷ 108 ∷ 108 ∷ 111 ∷ 99 ∷ []

abbrev pub free' : Name
free' = 102 ∷ 114 ∷ 101 ∷ 101 ∷ []

abbrev pub declared_function : ℕ → Name → List OfSpecifier → OfDeclarator → Scope → Outer
declared_function at n ss d s =
    declared_outer (declares_by (all_say (fold_specifier {c = Says ExprNoted} noting) ss)
    (record { declarator = d.says; initial = None } ∷ []) s) (declaring at n)

abbrev malloc_declared : Scope → Outer
malloc_declared =
    declared_function 2 malloc' (word w.Void ∷ [])
    (pointer (taking (name 2 malloc') (parameter (word w.Unsigned ∷ word w.Long ∷ []) omitted ∷ [])))

abbrev pub free_declared : Scope → Outer
free_declared =
    declared_function 3 free' (word w.Void ∷ [])
    (taking (name 3 free') (parameter (word w.Void ∷ []) (pointer omitted) ∷ []))

abbrev pub giving : ℕ → ℕ → World
giving place answer = record { word = λ p. cond (nat_eq p place) answer 0; byte = λ a. 0 }

abbrev pointed : ℕ → ℕ → OfExpr
pointed at z = set (un at u.Indirection x) (int z)

-- the places of `malloc`, `free` and `main` come first, then the object; the call's answer is the next
abbrev dangling : ℕ → Machine
dangling answer = machine (giving 5 answer) (malloc_declared ∷ free_declared ∷ main_with (malloc' ∷ free' ∷ []) [] (
    declare (word w.Char ∷ []) (pointer (name 20 x')) (Some (value (call 25 malloc' (int 4 ∷ []))))
    ∷ does (pointed 30 65) ∷ does (call 35 free' (x ∷ [])) ∷ does (pointed 40 66) ∷ returns 80 (int 0) ∷ []) ∷ [])

pub row_dangling_write : (run_of (dangling 1)).finish ≡ finish.Stopped undefined.Dereference 40
unfolding converted exact level_of
row_dangling_write = refl

pub row_malloc_fails : (run_of (dangling 0)).finish ≡ finish.Stopped undefined.Dereference 30
unfolding converted exact level_of
row_malloc_fails = refl

pub row_heap_places : met_of (dangling 1) ≡ 1 ∷ 2 ∷ 3 ∷ 4 ∷ 5 ∷ []
unfolding converted exact level_of
row_heap_places = refl

-- ---- free(&x) of an automatic object

pub row_free_of_local : (run_of (machine silent (free_declared ∷ main_with (free' ∷ []) [] (
    declare (word w.Int ∷ []) (name 20 x') None ∷ does (call 35 free' (un 0 u.Address x ∷ [])) ∷ returns 80 (int 0)
    ∷ []) ∷ []))).finish
    ≡ finish.Stopped undefined.Free 35
unfolding converted exact level_of
row_free_of_local = refl

-- ---- char x[] = "ab"; printf("%s\n", x), and what its event shows; a static local keeps its value

abbrev text_line : OfExpr
text_line = text 40 (37 ∷ 115 ∷ 10 ∷ [])

abbrev texts : Machine
texts = machine silent (printf_declared ∷ main_with (printf' ∷ [])
    (record { at = 40; text = Some (37 ∷ 115 ∷ 10 ∷ []) } ∷ record { at = 25; text = Some (97 ∷ 98 ∷ []) } ∷ []) (
    declare (word w.Char ∷ []) (open_array (name 20 x')) (Some (value (text 25 (97 ∷ 98 ∷ []))))
    ∷ declare (word w.Int ∷ []) (name 28 f') (Some (value (int 9)))
    ∷ does (call 70 printf' (text_line ∷ x ∷ [])) ∷ returns 80 (int 0) ∷ []) ∷ [])

pub row_text : (run_of texts).printed ≡ 97 ∷ 98 ∷ 10 ∷ []
unfolding converted exact level_of pieces_from
row_text = refl

pub row_watched : happenings (run_of texts).events ≡ happening.Call 70 ∷ happening.Print 70 3 (pos 9 ∷ []) ∷ []
unfolding converted exact level_of pieces_from
row_watched = refl

-- ---- int f(void) { static int x = 5; x = x + 1; return x; } int main(void) { f(); return f(); }

abbrev keeping : Machine
keeping = machine silent (
    int_function 5 f' (void_parameter ∷ []) [] []
    (declare (static ∷ word w.Int ∷ []) (name 7 x') (Some (value (int 5))) ∷ adds 1 ∷ returns 8 x ∷ [])
    ∷ main_with (f' ∷ []) [] (does (call 60 f' []) ∷ returns 80 (call 85 f' []) ∷ []) ∷ [])

pub row_static_local : (run_of keeping).finish ≡ finish.Return (pos 7)
unfolding converted exact level_of
row_static_local = refl

pub row_static_accepted : breaches_of keeping ≡ []
unfolding converted exact level_of
row_static_accepted = refl

-- ---- an outside function: int f(void); int main(void) { return f(); } where the word of the call's first place is
-- 2^32 - 5

abbrev asking : Machine
asking = machine (giving 3 4294967291) (
    declared_function 5 f' (word w.Int ∷ []) (taking (name 5 f') (void_parameter ∷ []))
    ∷ main_with (f' ∷ []) [] (returns 80 (call 85 f' []) ∷ []) ∷ [])

pub row_outside_answer : (run_of asking).finish ≡ finish.Return (negsuc 4)
unfolding converted exact level_of
row_outside_answer = refl

-- ---- int x = 0; do { x = x + 1; if (x == 2) continue; } while (x < 3); return x;

abbrev rounds : ℕ → Machine
rounds n = machine silent (main_with [] [] (
    declare (word w.Int ∷ []) (name 20 x') (Some (value (int 0)))
    ∷ loop 30 (block (adds 1 ∷ when 31 (op 0 o.Equal x (int 2)) (continue 32) ∷ [])) (op 0 o.Less x (int n))
    ∷ returns 80 x ∷ []) ∷ [])

pub row_do : (run_of (rounds 3)).finish ≡ finish.Return (pos 3)
unfolding converted exact level_of
row_do = refl

pub row_do_left : (run_of (rounds 9)).finish ≡ finish.Left 30
unfolding converted exact level_of
row_do_left = refl

-- ---- a value that is missing: used, and not used

abbrev missing : OfStmt → Machine
missing s = machine silent (
    int_function 5 f' (void_parameter ∷ []) [] [] [] ∷ main_with (f' ∷ []) [] (s ∷ returns 80 (int 0) ∷ []) ∷ [])

pub row_missing_unused : (run_of (missing (does (call 60 f' [])))).finish ≡ finish.Return (pos 0)
unfolding converted exact level_of
row_missing_unused = refl

pub row_missing_used : (run_of (missing (returns 61 (call 60 f' [])))).finish
    ≡ finish.Stopped undefined.MissingValue 60
unfolding converted exact level_of
row_missing_used = refl

-- ---- what is refused

abbrev faulty : List OfStmt → Machine
faulty xs = machine silent (printf_declared ∷ main_with (printf' ∷ []) line_literal xs ∷ [])

abbrev broken_at : ℕ → BrokenRule → List Breach
broken_at at r = record { at = at; rule = r } ∷ []

-- `break` outside of a loop
pub row_break_refused : breaches_of (faulty (break 50 ∷ [])) ≡ broken_at 50 broken.BadGoto
unfolding converted exact level_of pieces_from
row_break_refused = refl

-- a `goto` back
pub row_goto_refused : breaches_of (faulty (label 50 f' (does (int 0)) ∷ goto 60 f' ∷ []))
    ≡ broken_at 60 broken.BadGoto
unfolding converted exact level_of pieces_from
row_goto_refused = refl

-- two cases of one value
pub row_case_refused :
    breaches_of (faulty (switch 50 (int 1) (block (case 51 (int 1) (break 52) ∷ case 53 (int 1) (break 54) ∷ []))
    ∷ []))
    ≡ broken_at 53 broken.BadGoto
unfolding converted exact level_of pieces_from
row_case_refused = refl

-- an argument too few
pub row_format_refused : breaches_of (faulty (does (call 70 printf' (line ∷ [])) ∷ []))
    ≡ broken_at 70 broken.FormatArgument
unfolding converted exact level_of pieces_from
row_format_refused = refl

-- `return` without a value
pub row_return_refused : breaches_of (faulty (returns_nothing 55 ∷ [])) ≡ broken_at 55
    (broken.Typing rule.TypeMismatch)
unfolding converted exact level_of pieces_from
row_return_refused = refl
