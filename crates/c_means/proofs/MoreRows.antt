-- Worked rows: what functions of the C library and outside do, `main` with parameters, and which names trees use.
use Rattle.std.proofs.Common.{◌≡◌, ℕ, pos, negsuc, List, [], ◌∷◌, true, false, cond, Some, None, refl}
use Rattle.std.specs.Prelude.{nat_eq}
use Rattle.plain_data.specs.declared.run.Finish.TheVariants as finish
use Rattle.plain_data.specs.declared.run.Undefined.TheVariants as undefined
use Rattle.c_language.specs.declared.token.IntegerType.TheVariants as integer_type
use Rattle.c_language.specs.declared.expr.TypeWord.TheVariants as w
use Rattle.c_language.specs.declared.expr.UnaryOperator.TheVariants as u
use Rattle.c_language.specs.Integers.{converted}
use Rattle.c_language.specs.Operators.{exact}
use Rattle.c_language.specs.Scopes.{Name, Scope}
use Rattle.c_language.proofs.Built as built
use Rattle.c_means.specs.Parts.{World}
use Rattle.printf_text.specs.Pieces.{pieces_from}
use Rattle.c_means.specs.declared.profile.FillAnswer.TheVariants as answer
use Rattle.c_means.specs.declared.profile.FillFunction.{FillFunction}
use Rattle.c_means.specs.Names.{Names, ordinary, naming, with_name, with_body, ◌then◌}
use Rattle.c_means.specs.Programs.{Outer, main'}
use Rattle.c_means.specs.Runs.{Machine, run_of, met_of, level_of, room_of}
use Rattle.c_means.specs.Checks.{has_main}
use Rattle.c_means.proofs.RunScene.{OfExpr, OfSpecifier, OfDeclarator, OfStmt, int, text, op, un, set, element, call, word}
use Rattle.c_means.proofs.RunScene.{name, pointer, array, omitted, taking, parameter, does, returns, value, declare}
use Rattle.c_means.proofs.RunScene.{braced}
use Rattle.c_means.proofs.RunScene.{plain_item}
use Rattle.c_means.proofs.RunRows.{x, x', f', printf', int_function, main_with, machine, silent, giving, declared_function}
use Rattle.c_means.proofs.RunRows.{printf_declared}

-- ---- void exit(int); int main(void) { exit(3); return 0; }

abbrev exit' : Name
exit' = 101 ∷ 120 ∷ 105 ∷ 116 ∷ []

abbrev exit_declared : Scope → Outer
exit_declared =
    declared_function 2 exit' (word w.Void ∷ []) (taking (name 2 exit') (parameter (word w.Int ∷ []) omitted ∷ []))

pub row_exit :
    (run_of (machine silent (exit_declared
    ∷ main_with (exit' ∷ []) [] (does (call 60 exit' (int 3 ∷ [])) ∷ returns 80 (int 0) ∷ []) ∷ []))).finish
    ≡ finish.Exit (pos 3)
unfolding converted exact level_of
row_exit = refl

-- ---- int exit(int) is no function of the library: it is outside, and comes back

pub row_other_exit :
    (run_of (machine silent (
    declared_function 2 exit' (word w.Int ∷ []) (taking (name 2 exit') (parameter (word w.Int ∷ []) omitted ∷ []))
    ∷ main_with (exit' ∷ []) [] (does (call 60 exit' (int 3 ∷ [])) ∷ returns 80 (int 0) ∷ []) ∷ []))).finish
    ≡ finish.Return (pos 0)
unfolding converted exact level_of
row_other_exit = refl

-- ---- void *calloc(unsigned long, unsigned long); int main(void) { char *x = calloc(2, n); return x[0]; }

abbrev calloc' : Name
calloc' = 99 ∷ 97 ∷ 108 ∷ 108 ∷ 111 ∷ 99 ∷ []

abbrev unsigned_long : List OfSpecifier
unsigned_long = word w.Unsigned ∷ word w.Long ∷ []

abbrev calloc_declared : Scope → Outer
calloc_declared =
    declared_function 2 calloc' (word w.Void ∷ [])
    (pointer (taking (name 2 calloc') (parameter unsigned_long omitted ∷ parameter unsigned_long omitted ∷ [])))

-- the call's answer is behind `calloc`, `main` and the object; every byte of the world is 7
abbrev sevens : World
sevens = record { word = λ p. cond (nat_eq p 4) 1 0; byte = λ a. 7 }

abbrev allocating : ℕ → Machine
allocating n = machine sevens (calloc_declared ∷ main_with (calloc' ∷ []) [] (
    declare (word w.Char ∷ []) (pointer (name 20 x')) (Some (value (call 25 calloc' (int 2 ∷ int n ∷ []))))
    ∷ returns 80 (element 81 x (int 0)) ∷ []) ∷ [])

pub row_calloc_zeroes : (run_of (allocating 4)).finish ≡ finish.Return (pos 0)
unfolding converted exact level_of
row_calloc_zeroes = refl

pub row_heap_bound_met : (run_of (allocating 128)).finish ≡ finish.Return (pos 0)
unfolding converted exact level_of
row_heap_bound_met = refl

pub row_heap_bound_left : (run_of (allocating 129)).finish ≡ finish.Left 25
unfolding converted exact level_of
row_heap_bound_left = refl

-- ---- int printf(); int main(void) { int x = 1; printf("%p\n", &x); return 0; } where the word of `%p` is 26

abbrev pointer_line : OfExpr
pointer_line = text 40 (37 ∷ 112 ∷ 10 ∷ [])

-- behind the places of `printf`, `main`, the literal and the object, and the four of the call
abbrev pub showing : ℕ → OfExpr → Machine
showing n e = machine (giving 9 n) (printf_declared
    ∷ main_with (printf' ∷ []) (record { at = 40; text = Some (37 ∷ 112 ∷ 10 ∷ []) } ∷ []) (
    declare (word w.Int ∷ []) (name 20 x') (Some (value (int 1))) ∷ does (call 70 printf' (pointer_line ∷ e ∷ []))
    ∷ returns 80 (int 0) ∷ []) ∷ [])

pub row_pointer_shown : (run_of (showing 26 (un 0 u.Address x))).printed ≡ 48 ∷ 120 ∷ 49 ∷ 97 ∷ 10 ∷ []
unfolding converted exact level_of pieces_from
row_pointer_shown = refl

pub row_pointer_of_zero : (run_of (showing 0 (un 0 u.Address x))).printed ≡ 48 ∷ 120 ∷ 49 ∷ 10 ∷ []
unfolding converted exact level_of pieces_from
row_pointer_of_zero = refl

-- one place more than a call without `%p` has
pub row_pointer_room : room_of (showing 0 x) ≡ 9
unfolding converted exact level_of pieces_from
row_pointer_room = refl

-- ---- int main(int x, char **f) { return x; }, and { return f[0][64]; }

abbrev taking_arguments : OfExpr → Machine
taking_arguments e = machine (giving 2 5) (
    int_function 10 main' (parameter (word w.Int ∷ []) (name 12 x')
    ∷ parameter (word w.Char ∷ []) (pointer (pointer (name 14 f'))) ∷ []) [] [] (returns 80 e ∷ []) ∷ [])

-- `main` has the first place; 1 and the word 5 modulo 2
pub row_argument_count : (run_of (taking_arguments x)).finish ≡ finish.Return (pos 2)
unfolding converted exact level_of
row_argument_count = refl

abbrev f : OfExpr
f = Rattle.c_means.proofs.RunScene.the f'

pub row_argument_end :
    (run_of (taking_arguments (element 83 (element 82 f (int 1)) (int 64)))).finish ≡ finish.Return (pos 0)
unfolding converted exact level_of
row_argument_end = refl

pub row_argument_past_end :
    (run_of (taking_arguments (element 83 (element 82 f (int 1)) (int 65)))).finish
    ≡ finish.Stopped undefined.Dereference 83
unfolding converted exact level_of
row_argument_past_end = refl

-- `main`, the count, the array, two strings, two parameters
pub row_argument_places : met_of (taking_arguments x) ≡ 1 ∷ 2 ∷ 3 ∷ 4 ∷ 5 ∷ 6 ∷ 7 ∷ []
unfolding converted exact level_of
row_argument_places = refl

pub row_argument_main : has_main (taking_arguments x) ≡ true
unfolding converted exact level_of
row_argument_main = refl

-- ---- int f(char *, int), which fills its first argument: char x[4]; f(x, 4); return x[1]; and return f(x, 4);

-- behind `f`, `main` and the object the call has the places 4 to 7: how much, what, and whether it fails come behind
-- its answer
abbrev filling_world : ℕ → World
filling_world fails = record {
  word = λ p. cond (nat_eq p 5) 3 (cond (nat_eq p 7) fails 0);
  byte = λ a. cond (nat_eq a 25769803777) 65 (cond (nat_eq a 25769803779) 66 0);
}

abbrev filled : OfExpr
filled = call 70 f' (x ∷ int 4 ∷ [])

abbrev filling : ℕ → List OfStmt → Machine
filling fails xs = record (machine (filling_world fails) (
    declared_function 5 f' (word w.Int ∷ [])
    (taking (name 5 f') (parameter (word w.Char ∷ []) (pointer omitted) ∷ parameter (word w.Int ∷ []) omitted ∷ []))
    ∷ main_with (f' ∷ []) [] (declare (word w.Char ∷ []) (array 4 (name 20 x')) None ∷ xs) ∷ [])) {
      profile = record { log = []; identity = []; fills = filler ∷ []; never_null = [] };
    }
  where
    filler : FillFunction
    filler = record { name = f'; buffer = 0; length = 1; answer = answer.Count }

pub row_filled_byte : (run_of (filling 0 (does filled ∷ returns 80 (element 81 x (int 1)) ∷ []))).finish
    ≡ finish.Return (pos 65)
unfolding converted exact level_of
row_filled_byte = refl

-- a byte past the count stays as it was
pub row_byte_past_filled :
    (run_of (filling 0 (does (set (element 60 x (int 3)) (int 9)) ∷ does filled ∷ returns 80 (element 81 x (int 3))
    ∷ []))).finish
    ≡ finish.Return (pos 9)
unfolding converted exact level_of
row_byte_past_filled = refl

pub row_fill_count : (run_of (filling 0 (returns 80 filled ∷ []))).finish ≡ finish.Return (pos 3)
unfolding converted exact level_of
row_fill_count = refl

pub row_fill_fails : (run_of (filling 1 (returns 80 filled ∷ []))).finish ≡ finish.Return (negsuc 0)
unfolding converted exact level_of
row_fill_fails = refl

-- ---- which names are used: of x(f, 1) both, and a name behind its own declaration not

abbrev using_two : Names
using_two =
    (built.call naming 0 (built.identifier naming 0 x')
    (built.identifier naming 0 f' ∷ built.integer naming 0 (record { value = 1; integer_type = integer_type.Int })
    ∷ [])).says

pub row_names_used : using_two.uses ≡ ordinary x' ∷ ordinary f' ∷ []
row_names_used = refl

pub row_names_bound : (with_name (built.named naming 20 f').says then using_two).uses ≡ ordinary x' ∷ []
row_names_bound = refl

pub row_names_bound_at : (with_name (built.named naming 20 f').says then using_two).bound ≡ 20 ∷ []
row_names_bound_at = refl

-- a parameter's name is in force in the body: f(x) { .. x(f, 1) .. }
pub row_names_of_body :
    (with_body (built.function naming 0 (built.named naming 20 f')
    (built.parameter naming (built.word naming 0 w.Int ∷ []) (built.named naming 22 x')
    ∷ []) false).says using_two).uses
    ≡ []
row_names_of_body = refl
