-- Worked runs of small programs of the core, as they print and along a log.
use Rattle.std.proofs.Common.{◌≡◌, ℕ, ◌+◌, ◌*◌, pos, List, [], ◌∷◌, true, false, Option, Some, None, refl, ap}
use Rattle.plain_data.specs.declared.run.Event.{Event}
use Rattle.plain_data.specs.declared.run.Finish.{Finish}
use Rattle.plain_data.specs.declared.run.Finish.TheVariants as finish
use Rattle.plain_data.specs.declared.run.Happening.TheVariants as happening
use Rattle.plain_data.specs.declared.run.Run.{Run}
use Rattle.plain_data.specs.declared.run.Side.TheVariants as side
use Rattle.plain_data.specs.declared.run.Undefined.TheVariants as undefined
use Rattle.plain_data.specs.declared.width.Width.TheVariants as width
use Rattle.printf_text.specs.declared.piece.Form.TheVariants as form
use Rattle.printf_text.specs.declared.piece.Piece.{Piece}
use Rattle.printf_text.specs.declared.piece.Piece.TheVariants as piece
use Rattle.printf_text.specs.declared.piece.Size.TheVariants as size
use Rattle.c_language.specs.Scopes.{Name}
use Rattle.c_means.specs.Parts.{World, Limits}
use Rattle.core_tree.specs.declared.expr.Callee.TheVariants as callee
use Rattle.core_tree.specs.declared.expr.Holder.TheVariants as holder
use Rattle.core_tree.specs.declared.expr.OutsideAnswer.TheVariants as answer
use Rattle.core_tree.specs.declared.expr.Watched.{Watched}
use Rattle.core_tree.specs.declared.types.Access.{Access}
use Rattle.core_tree.specs.declared.types.Answered.TheVariants as answered
use Rattle.core_tree.specs.declared.types.Arithmetic.TheVariants as o
use Rattle.core_tree.specs.declared.types.Operator.TheVariants as op
use Rattle.core_tree.specs.declared.types.ValueType.{ValueType}
use Rattle.core_tree.specs.declared.types.ValueType.TheVariants as v
use Rattle.core_tree.specs.Numbers.{int, wrapped, exact}
use Rattle.core_tree.specs.States.{Done, Output, plain, along}
use Rattle.core_tree.specs.Programs.{Machine, measures_of, calls_of, end_of, nothing_left, maybe_ran}
use Rattle.core_tree.specs.Programs.{run_of, room_of, unrolled_size}
use Rattle.core_tree.proofs.Scene.{OfExpr, OfCode, OfBody, number, local, load, operate, store, step, call, does}
use Rattle.core_tree.proofs.Scene.{declare, block, nothing, label, case, default, when, switch, loop, repeat, goto}
use Rattle.core_tree.proofs.Scene.{continue, break, returns, function, core, given, is_given}

-- ---- words of the programs

abbrev a_word : ValueType
a_word = v.Word int

abbrev i' : Access
i' = record { at = 21; stored = a_word; is_tested = false }

-- `int i` stands at 20
abbrev i : {O : Type 0} → OfExpr O
i = load i' (local 20)

abbrev less : {O : Type 0} → OfExpr O → OfExpr O → OfExpr O
less x y = operate 31 (op.Numbers o.Less int) x y

abbrev decimal : Piece
decimal = piece.Converted (record {
  flags = record { left = false; plus = false; space = false; alternate = false; zero = false };
  width = size.Omitted;
  precision = size.Omitted;
  form = form.Signed width.W32;
})

abbrev line : List ℕ → List Piece
line more = decimal ∷ piece.Literal (10 ∷ more) ∷ []

abbrev watching_i : List Watched
watching_i = record { at = 20; holder = holder.Local; stored = a_word } ∷ []

-- printf("%d\n", x), at 40
abbrev logs : {O : Type 0} → OfExpr O → OfCode O
logs x = does (call 40 (number (pos 0) ∷ x ∷ []) (callee.Log (line []) 1 (int ∷ int ∷ []) watching_i) a_word false)

abbrev silent : World
silent = record { word = λ p. 0; byte = λ a. 0 }

abbrev limits : Limits
limits = record { turns = 8; heap = 256; outside = 64; texts = 32; arguments = 2 }

abbrev main' : Name
main' = 109 ∷ 97 ∷ 105 ∷ 110 ∷ []

-- ---- int i; for (i = 0; i < n; i++) printf("%d\n", i); return 0;

abbrev counting : {O : Type 0} → ℕ → List (OfBody O)
counting n =
    function 10 main' [] (
    declare 20 4
    ∷ does (store 22 i' (local 20) (number (pos 0)))
    ∷ loop 30 (Some (less i (number (pos n)))) (Some (step 32 (op.Numbers o.Add int) i' answered.Before (local 20)))
    (block (logs i ∷ []))
    ∷ returns (Some (number (pos 0))) ∷ []) ∷ []

abbrev printed_by : Option Run → Option (List ℕ)
printed_by None = None
printed_by (Some r) = Some r.printed

abbrev finish_by : Option Run → Option Finish
finish_by None = None
finish_by (Some r) = Some r.finish

abbrev events_by : Option Run → List Event
events_by None = []
events_by (Some r) = r.events

abbrev counts_to : ℕ → Machine Output
counts_to n = given plain 0 (counting n) silent limits 1

-- the run of the trees is that of what was written beside them
pub row_counts :
    run_of (core {O = Output} 0 (counting 2)) silent limits 1 ≡ maybe_ran (end_of (counts_to 2) nothing_left)
row_counts = ap (λ m. maybe_ran (end_of m nothing_left)) (is_given plain 0 (counting 2) silent limits 1)

pub row_counts_printed :
    printed_by (maybe_ran (end_of (counts_to 2) nothing_left)) ≡ Some (48 ∷ 10 ∷ 49 ∷ 10 ∷ [])
unfolding wrapped exact measures_of calls_of
row_counts_printed = refl

-- the branch before each turn, the call, and the print with the value of i
pub row_counts_events :
    events_by (maybe_ran (end_of (counts_to 1) nothing_left))
    ≡ record { what = happening.Branch 30 side.Yes; printed = 0 }
    ∷ record { what = happening.Call 40; printed = 0 }
    ∷ record { what = happening.Print 40 2 (pos 0 ∷ []); printed = 0 }
    ∷ record { what = happening.Branch 30 side.No; printed = 2 } ∷ []
unfolding wrapped exact measures_of calls_of
row_counts_events = refl

-- eight turns and no more
pub row_eight_turns : finish_by (maybe_ran (end_of (counts_to 8) nothing_left)) ≡ Some (finish.Return (pos 0))
unfolding wrapped exact measures_of calls_of
row_eight_turns = refl

pub row_nine_turns : finish_by (maybe_ran (end_of (counts_to 9) nothing_left)) ≡ Some (finish.Left 30)
unfolding wrapped exact measures_of calls_of
row_nine_turns = refl

-- one place for i, and four in each of nine turns
pub row_room : room_of (counts_to 2) ≡ 37
unfolding measures_of
row_room = refl

-- the block; `int i`; `i = 0;` with three expressions; `for`, and in each of nine turns three expressions of the test,
-- two of the step, the block, and the statement with three expressions; `return` with one
pub row_size : unrolled_size (counts_to 2) ≡ 1 + 1 + 4 + (1 + 9 * (3 + (1 + 4) + 2)) + 2
unfolding measures_of
row_size = refl

-- ---- along a log

abbrev out_of : Option (Done ℕ) → Option ℕ
out_of None = None
out_of (Some d) = Some d.out

abbrev counts_along : ℕ → List ℕ → Machine ℕ
counts_along n log = given (along log) 0 (counting n) silent limits 1

-- the run ends at the log's end
pub row_along : out_of (end_of (counts_along 2 (48 ∷ 10 ∷ 49 ∷ 10 ∷ [])) 0) ≡ Some 4
unfolding wrapped exact measures_of calls_of
row_along = refl

-- what is printed stands in the log, which goes on
pub row_before_the_end : out_of (end_of (counts_along 1 (48 ∷ 10 ∷ 49 ∷ 10 ∷ [])) 0) ≡ Some 2
unfolding wrapped exact measures_of calls_of
row_before_the_end = refl

-- the second line is another one
pub row_off_the_log : out_of (end_of (counts_along 2 (48 ∷ 10 ∷ 50 ∷ 10 ∷ [])) 0) ≡ None
unfolding wrapped exact measures_of calls_of
row_off_the_log = refl

-- the log ends within a line
pub row_past_the_log : out_of (end_of (counts_along 2 (48 ∷ 10 ∷ 49 ∷ [])) 0) ≡ None
unfolding wrapped exact measures_of calls_of
row_past_the_log = refl

-- ---- int x = 2147483647; printf("a"); x = x + 1; printf("b");

abbrev writes : {O : Type 0} → ℕ → OfCode O
writes byte =
    does (call 40 (number (pos 0) ∷ []) (callee.Log (piece.Literal (byte ∷ []) ∷ []) 1 (int ∷ []) []) a_word false)

abbrev overflowing : {O : Type 0} → List (OfBody O)
overflowing =
    function 10 main' [] (
    declare 20 4
    ∷ does (store 22 i' (local 20) (number (pos 2147483647)))
    ∷ writes 97
    ∷ does (store 23 i' (local 20) (operate 24 (op.Numbers o.Add int) i (number (pos 1))))
    ∷ writes 98 ∷ []) ∷ []

abbrev overflows : Machine Output
overflows = given plain 0 overflowing silent limits 1

pub row_overflow : finish_by (maybe_ran (end_of overflows nothing_left)) ≡ Some (finish.Stopped undefined.Overflow 24)
unfolding wrapped exact measures_of calls_of
row_overflow = refl

-- the first text alone
pub row_overflow_printed : printed_by (maybe_ran (end_of overflows nothing_left)) ≡ Some (97 ∷ [])
unfolding wrapped exact measures_of calls_of
row_overflow_printed = refl

-- ---- int f(int n) { if (n) return f(n - 1); return 7; } int main(void) { return f(2); }

abbrev n' : Access
n' = record { at = 51; stored = a_word; is_tested = false }

abbrev calls_f : {O : Type 0} → ℕ → OfExpr O → OfExpr O
calls_f at x = call at (x ∷ []) (callee.Body 1) a_word true

abbrev recursing : {O : Type 0} → ℕ → List (OfBody O)
recursing n =
    function 10 main' [] (returns (Some (calls_f 60 (number (pos n)))) ∷ [])
    ∷ function 49 (102 ∷ []) (record { at = 50; stored = a_word } ∷ []) (
    when 52 (load n' (local 50))
    (returns (Some (calls_f 55 (operate 54 (op.Numbers o.Subtract int) (load n' (local 50)) (number (pos 1))))))
    nothing
    ∷ returns (Some (number (pos 7))) ∷ [])
    ∷ []

abbrev recurses : ℕ → ℕ → Machine Output
recurses n depth = given plain 0 (recursing n) silent limits depth

pub row_depth : finish_by (maybe_ran (end_of (recurses 2 4) nothing_left)) ≡ Some (finish.Return (pos 7))
unfolding wrapped exact measures_of calls_of
row_depth = refl

-- a level too many leaves the bounds at the callee's name
pub row_too_deep : finish_by (maybe_ran (end_of (recurses 2 3) nothing_left)) ≡ Some (finish.Left 55)
unfolding wrapped exact measures_of calls_of
row_too_deep = refl

-- each level has one place, for n
pub row_depth_room : room_of (recurses 2 4) ≡ 3
unfolding measures_of
row_depth_room = refl

-- ---- a missing value: int g(void) { } int main(void) { return g(); }

abbrev missing : {O : Type 0} → List (OfBody O)
missing =
    function 10 main' [] (returns (Some (call 60 [] (callee.Body 1) a_word true)) ∷ [])
    ∷ function 49 (103 ∷ []) [] [] ∷ []

pub row_missing :
    finish_by (maybe_ran (end_of (given plain 0 missing silent limits 2) nothing_left))
    ≡ Some (finish.Stopped undefined.MissingValue 60)
unfolding wrapped exact measures_of calls_of
row_missing = refl

-- ---- switch (x) { case 1: printf("%d\n", 1); default: printf("%d\n", 2); break; case 3: printf("%d\n", 3); }

abbrev switching : {O : Type 0} → ℕ → List (OfBody O)
switching x =
    function 10 main' [] (
    switch 30 int (pos 1 ∷ pos 3 ∷ []) (number (pos x)) (
    case (pos 1) (number (pos 1)) (logs (number (pos 1)))
    ∷ default (logs (number (pos 2)))
    ∷ break
    ∷ case (pos 3) (number (pos 3)) (logs (number (pos 3))) ∷ []) ∷ []) ∷ []

abbrev switches : ℕ → Machine Output
switches x = given plain 0 (switching x) silent limits 1

pub row_first_case : printed_by (maybe_ran (end_of (switches 1) nothing_left)) ≡ Some (49 ∷ 10 ∷ 50 ∷ 10 ∷ [])
unfolding wrapped exact measures_of calls_of
row_first_case = refl

pub row_default : printed_by (maybe_ran (end_of (switches 2) nothing_left)) ≡ Some (50 ∷ 10 ∷ [])
unfolding wrapped exact measures_of calls_of
row_default = refl

pub row_last_case : printed_by (maybe_ran (end_of (switches 3) nothing_left)) ≡ Some (51 ∷ 10 ∷ [])
unfolding wrapped exact measures_of calls_of
row_last_case = refl

-- ---- goto out of two loops: for (;;) { for (;;) { goto out; } } out: printf("%d\n", 1);

abbrev out' : Name
out' = 111 ∷ []

abbrev leaving : {O : Type 0} → List (OfBody O)
leaving =
    function 10 main' [] (
    loop 30 None None (block (loop 31 None None (block (goto out' ∷ [])) ∷ []))
    ∷ logs (number (pos 0))
    ∷ label out' (logs (number (pos 1))) ∷ []) ∷ []

pub row_goto :
    printed_by (maybe_ran (end_of (given plain 0 leaving silent limits 1) nothing_left)) ≡ Some (49 ∷ 10 ∷ [])
unfolding wrapped exact measures_of calls_of
row_goto = refl

-- ---- do { if (i) continue; .. } while (0): a body, then the test

abbrev repeating : {O : Type 0} → ℕ → List (OfBody O)
repeating x =
    function 10 main' [] (
    repeat 30 (block (logs (number (pos 4)) ∷ continue ∷ logs (number (pos 5)) ∷ [])) (number (pos x)) ∷ []) ∷ []

pub row_once :
    printed_by (maybe_ran (end_of (given plain 0 (repeating 0) silent limits 1) nothing_left)) ≡ Some (52 ∷ 10 ∷ [])
unfolding wrapped exact measures_of calls_of
row_once = refl

pub row_repeats_left :
    finish_by (maybe_ran (end_of (given plain 0 (repeating 1) silent limits 1) nothing_left)) ≡ Some (finish.Left 30)
unfolding wrapped exact measures_of calls_of
row_repeats_left = refl

-- ---- int i; for (i = 0; i < 2; i++) printf("%d\n", ext());: each turn has places of its own

abbrev asks : {O : Type 0} → OfExpr O
asks = call 45 [] (callee.Outside answer.Number None) a_word true

abbrev asking : {O : Type 0} → List (OfBody O)
asking =
    function 10 main' [] (
    declare 20 4
    ∷ does (store 22 i' (local 20) (number (pos 0)))
    ∷ loop 30 (Some (less i (number (pos 2)))) (Some (step 32 (op.Numbers o.Add int) i' answered.Before (local 20)))
    (block (logs asks ∷ []))
    ∷ returns (Some (number (pos 0))) ∷ []) ∷ []

-- the word of each place is its number
abbrev numbered : World
numbered = record { word = λ p. p; byte = λ a. 0 }

-- place 1 is that of i; a turn has four for the call outside and four for the log call
pub row_turns_places :
    printed_by (maybe_ran (end_of (given plain 0 asking numbered limits 1) nothing_left))
    ≡ Some (50 ∷ 10 ∷ 49 ∷ 48 ∷ 10 ∷ [])
unfolding wrapped exact measures_of calls_of
row_turns_places = refl

-- ---- an object ends with its block: int *p; { int i; p = &i; } *p = 1;

abbrev p' : Access
p' = record { at = 71; stored = v.Pointer; is_tested = false }

abbrev through_p : Access
through_p = record { at = 72; stored = a_word; is_tested = true }

abbrev dangling : {O : Type 0} → List (OfBody O)
dangling =
    function 10 main' [] (
    declare 70 8
    ∷ block (declare 20 4 ∷ does (store 73 p' (local 70) (local 20)) ∷ [])
    ∷ does (store 74 through_p (load p' (local 70)) (number (pos 1))) ∷ []) ∷ []

pub row_dangling :
    finish_by (maybe_ran (end_of (given plain 0 dangling silent limits 1) nothing_left))
    ≡ Some (finish.Stopped undefined.Dereference 72)
unfolding wrapped exact measures_of calls_of
row_dangling = refl

-- ---- exit(printf("a") + printf("b")): the left operand comes first

abbrev says : {O : Type 0} → ℕ → OfExpr O
says byte = call 40 (number (pos 0) ∷ []) (callee.Log (piece.Literal (byte ∷ []) ∷ []) 1 (int ∷ []) []) a_word true

abbrev ordered : {O : Type 0} → List (OfBody O)
ordered =
    function 10 main' [] (
    does (call 46 (operate 47 (op.Numbers o.Add int) (says 97) (says 98) ∷ []) callee.Exit v.Void false) ∷ []) ∷ []

pub row_left_first :
    maybe_ran (end_of (given plain 0 ordered silent limits 1) nothing_left)
    ≡ Some (record {
      printed = 97 ∷ 98 ∷ [];
      events =
          record { what = happening.Call 40; printed = 0 }
          ∷ record { what = happening.Print 40 1 []; printed = 0 }
          ∷ record { what = happening.Call 40; printed = 1 }
          ∷ record { what = happening.Print 40 1 []; printed = 1 }
          ∷ record { what = happening.Call 46; printed = 2 } ∷ [];
      finish = finish.Exit (pos 2);
    })
unfolding wrapped exact measures_of calls_of
row_left_first = refl

-- ---- an empty text is no print: printf("");

abbrev silence : {O : Type 0} → List (OfBody O)
silence =
    function 10 main' [] (
    does (call 40 (number (pos 0) ∷ []) (callee.Log [] 1 (int ∷ []) []) a_word false) ∷ []) ∷ []

pub row_no_print :
    events_by (maybe_ran (end_of (given plain 0 silence silent limits 1) nothing_left))
    ≡ record { what = happening.Call 40; printed = 0 } ∷ []
unfolding wrapped exact measures_of calls_of
row_no_print = refl

-- ---- malloc(257) where the bound is 256; malloc(4) of a place whose word is 0

abbrev allocating : {O : Type 0} → ℕ → List (OfBody O)
allocating n =
    function 10 main' [] (
    returns (Some (call 48 (number (pos n) ∷ []) callee.Malloc v.Pointer true)) ∷ []) ∷ []

pub row_heap_left :
    finish_by (maybe_ran (end_of (given plain 0 (allocating 257) silent limits 1) nothing_left)) ≡ Some (finish.Left 48)
unfolding wrapped exact measures_of calls_of
row_heap_left = refl

pub row_heap_null :
    finish_by (maybe_ran (end_of (given plain 0 (allocating 4) silent limits 1) nothing_left))
    ≡ Some (finish.Return (pos 0))
unfolding wrapped exact measures_of calls_of
row_heap_null = refl

pub row_heap_object :
    finish_by (maybe_ran (end_of (given plain 0 (allocating 4) numbered limits 1) nothing_left))
    ≡ Some (finish.Return (pos 4294967296))
unfolding wrapped exact measures_of calls_of
row_heap_object = refl
