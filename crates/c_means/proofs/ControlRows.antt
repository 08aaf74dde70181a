-- Worked rows: what ends with its block, which way a run goes, and what stands one past a bound.
use Rattle.std.proofs.Common.{◌≡◌, ℕ, pos, List, [], ◌∷◌, cond, Some, None, refl}
use Rattle.std.specs.Prelude.{nat_eq}
use Rattle.plain_data.specs.declared.run.Finish.TheVariants as finish
use Rattle.plain_data.specs.declared.run.Undefined.TheVariants as undefined
use Rattle.c_language.specs.declared.expr.BinaryOperator.TheVariants as o
use Rattle.c_language.specs.declared.expr.TypeWord.TheVariants as w
use Rattle.c_language.specs.declared.expr.UnaryOperator.TheVariants as u
use Rattle.c_language.specs.Integers.{converted}
use Rattle.c_language.specs.Operators.{exact}
use Rattle.c_means.specs.Parts.{World}
use Rattle.printf_text.specs.Pieces.{pieces_from}
use Rattle.c_means.specs.declared.profile.FillAnswer.TheVariants as answer
use Rattle.c_means.specs.declared.profile.FillFunction.{FillFunction}
use Rattle.c_means.specs.Runs.{Machine, run_of, met_of, level_of}
use Rattle.c_means.proofs.RunScene.{OfExpr, OfStmt, int, op, un, set, element, increment, call, word, name, pointer, array}
use Rattle.c_means.proofs.RunScene.{omitted, taking, parameter, does, block, returns, when, for, switch, case, otherwise}
use Rattle.c_means.proofs.RunScene.{continue, value, declare}
use Rattle.c_means.proofs.RunScene as scene
use Rattle.c_means.proofs.RunRows.{x, x', f', main_with, machine, silent, declared_function}
use Rattle.c_means.proofs.MoreRows.{showing}

-- ---- int *x; { int f = 5; x = &f; inside } return *x;

abbrev f : OfExpr
f = scene.the f'

abbrev pointee : ℕ → OfExpr
pointee at = un at u.Indirection x

abbrev behind_block : List OfStmt → OfStmt → Machine
behind_block inside last = machine silent (main_with [] [] (
    declare (word w.Int ∷ []) (pointer (name 20 x')) None
    ∷ block (declare (word w.Int ∷ []) (name 28 f') (Some (value (int 5))) ∷ does (set x (un 0 u.Address f)) ∷ inside)
    ∷ last ∷ returns 90 (int 0) ∷ []) ∷ [])

-- the object of an inner block ends with it
pub row_dead_object_read :
    (run_of (behind_block [] (returns 80 (pointee 81)))).finish ≡ finish.Stopped undefined.Dereference 81
unfolding converted exact level_of
row_dead_object_read = refl

pub row_dead_object_written :
    (run_of (behind_block [] (does (set (pointee 81) (int 1))))).finish ≡ finish.Stopped undefined.Dereference 81
unfolding converted exact level_of
row_dead_object_written = refl

-- it lives until then
pub row_object_alive_in_its_block :
    (run_of (behind_block (returns 70 (pointee 71) ∷ []) (returns 80 (int 0)))).finish ≡ finish.Return (pos 5)
unfolding converted exact level_of
row_object_alive_in_its_block = refl

-- ---- int *x; for (x = 0; x == 0; ) { int f = 5; x = &f; continue; } return *x;

-- also where the block is left by a jump
pub row_dead_object_of_loop :
    (run_of (machine silent (main_with [] [] (
    declare (word w.Int ∷ []) (pointer (name 20 x')) None
    ∷ for 60 (set x (int 0)) (op 0 o.Equal x (int 0)) (int 0)
    (block (declare (word w.Int ∷ []) (name 28 f') (Some (value (int 5))) ∷ does (set x (un 0 u.Address f))
    ∷ continue 65 ∷ []))
    ∷ returns 80 (pointee 81) ∷ []) ∷ []))).finish
    ≡ finish.Stopped undefined.Dereference 81
unfolding converted exact level_of
row_dead_object_of_loop = refl

-- ---- int x; for (x = 0; x < 3; x++) continue; return x;

-- `continue` leads to the step
pub row_continue_steps :
    (run_of (machine silent (main_with [] [] (
    declare (word w.Int ∷ []) (name 20 x') None
    ∷ for 60 (set x (int 0)) (op 0 o.Less x (int 3)) (increment 0 x) (continue 65)
    ∷ returns 80 x ∷ []) ∷ []))).finish
    ≡ finish.Return (pos 3)
unfolding converted exact level_of
row_continue_steps = refl

-- ---- int x = 0; switch (n) { default: x = x + 100; case 2: x = x + 10; } return x;

abbrev adds : ℕ → OfStmt
adds n = does (set x (op 0 o.Add x (int n)))

abbrev default_first : ℕ → Machine
default_first n = machine silent (main_with [] [] (
    declare (word w.Int ∷ []) (name 20 x') (Some (value (int 0)))
    ∷ switch 30 (int n) (block (otherwise 31 (adds 100) ∷ case 32 (int 2) (adds 10) ∷ []))
    ∷ returns 80 x ∷ []) ∷ [])

-- a case of the value comes before `default`, wherever they stand
pub row_case_behind_default : (run_of (default_first 2)).finish ≡ finish.Return (pos 10)
unfolding converted exact level_of
row_case_behind_default = refl

pub row_default_falls_through : (run_of (default_first 3)).finish ≡ finish.Return (pos 110)
unfolding converted exact level_of
row_default_falls_through = refl

-- ---- int x = 1; printf("%p\n", &x); where the word of `%p` is 26

-- `printf`, `main`, the literal and the object; of the call's five places the last
pub row_pointer_place : met_of (showing 26 (un 0 u.Address x)) ≡ 1 ∷ 2 ∷ 3 ∷ 4 ∷ 9 ∷ []
unfolding converted exact level_of pieces_from
row_pointer_place = refl

-- ---- int f(char *, int), which fills its first argument: char x[8]; x[4] = 9; f(x, 4); return x[4];

-- the world would fill six bytes, and has 65 in each
abbrev long_world : World
long_world = record { word = λ p. cond (nat_eq p 5) 6 0; byte = λ a. 65 }

abbrev filled : OfExpr
filled = call 70 f' (x ∷ int 4 ∷ [])

abbrev filling : List OfStmt → Machine
filling xs = record (machine long_world (
    declared_function 5 f' (word w.Int ∷ [])
    (taking (name 5 f') (parameter (word w.Char ∷ []) (pointer omitted) ∷ parameter (word w.Int ∷ []) omitted ∷ []))
    ∷ main_with (f' ∷ []) [] (declare (word w.Char ∷ []) (array 8 (name 20 x')) None ∷ xs) ∷ [])) {
      profile = record { log = []; identity = []; fills = filler ∷ []; never_null = [] };
    }
  where
    filler : FillFunction
    filler = record { name = f'; buffer = 0; length = 1; answer = answer.Count }

-- no byte past the length is filled
pub row_byte_past_length :
    (run_of (filling (does (set (element 60 x (int 4)) (int 9)) ∷ does filled ∷ returns 80 (element 81 x (int 4))
    ∷ []))).finish
    ≡ finish.Return (pos 9)
unfolding converted exact level_of
row_byte_past_length = refl

pub row_byte_within_length :
    (run_of (filling (does (set (element 60 x (int 3)) (int 9)) ∷ does filled ∷ returns 80 (element 81 x (int 3))
    ∷ []))).finish
    ≡ finish.Return (pos 65)
unfolding converted exact level_of
row_byte_within_length = refl

pub row_count_is_length : (run_of (filling (returns 80 filled ∷ []))).finish ≡ finish.Return (pos 4)
unfolding converted exact level_of
row_count_is_length = refl

-- ---- int f(char *, int), which fills its first argument, and answers freely: char x[8]; f(x, 4); return 0;

abbrev filling_freely : Machine
filling_freely = record (machine long_world (
    declared_function 5 f' (word w.Int ∷ [])
    (taking (name 5 f') (parameter (word w.Char ∷ []) (pointer omitted) ∷ parameter (word w.Int ∷ []) omitted ∷ []))
    ∷ main_with (f' ∷ []) [] (
    declare (word w.Char ∷ []) (array 8 (name 20 x')) None ∷ does filled ∷ returns 80 (int 0) ∷ []) ∷ [])) {
      profile = record { log = []; identity = []; fills = filler ∷ []; never_null = [] };
    }
  where
    filler : FillFunction
    filler = record { name = f'; buffer = 0; length = 1; answer = answer.Free }

-- `f`, `main`, the object; how much is filled, with what, and the answer
pub row_filling_places : met_of filling_freely ≡ 1 ∷ 2 ∷ 3 ∷ 5 ∷ 6 ∷ 4 ∷ []
unfolding converted exact level_of
row_filling_places = refl

-- ---- int f(int); int x(void); int main(void) { return f(x()); }, both of them outside

abbrev asking_twice : Machine
asking_twice = machine silent (
    declared_function 5 f' (word w.Int ∷ []) (taking (name 5 f') (parameter (word w.Int ∷ []) omitted ∷ []))
    ∷ declared_function 6 x' (word w.Int ∷ []) (taking (name 6 x') (parameter (word w.Void ∷ []) omitted ∷ []))
    ∷ main_with (f' ∷ x' ∷ []) [] (returns 80 (call 85 f' (call 87 x' [] ∷ [])) ∷ []) ∷ [])

-- the places of a call stand behind those of its arguments
pub row_places_of_arguments : met_of asking_twice ≡ 1 ∷ 2 ∷ 3 ∷ 4 ∷ 8 ∷ []
unfolding converted exact level_of
row_places_of_arguments = refl
