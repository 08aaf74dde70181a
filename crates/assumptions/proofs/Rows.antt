-- Worked rows: whole programs, and what is assumed of them.
use Rattle.std.proofs.Common.{◌≡◌, ℕ, List, [], ◌∷◌, Some, None, refl}
use Rattle.c_language.specs.declared.expr.StorageClass.TheVariants as class
use Rattle.c_language.specs.declared.expr.TypeWord.TheVariants as w
use Rattle.c_language.specs.Folds.{fold_specifier}
use Rattle.c_language.specs.Integers.{converted}
use Rattle.c_language.specs.Operators.{exact}
use Rattle.c_language.specs.Scopes.{Name, Scope}
use Rattle.c_language.specs.Declares.{Says}
use Rattle.c_language.proofs.Built as built
use Rattle.c_means.specs.Notes.{ExprNoted, noting}
use Rattle.c_means.specs.Names.{ordinary}
use Rattle.c_means.specs.Programs.{Outer}
use Rattle.c_means.specs.Rules.{exit'}
use Rattle.c_means.specs.Runs.{Machine, level_of}
use Rattle.c_means.proofs.RunRows.{declared_function, f', free', free_declared, machine, main_with, printf', printf_declared}
use Rattle.c_means.proofs.RunRows.{silent, void_parameter, x, x'}
use Rattle.c_means.proofs.RunScene.{OfSpecifier, call, does, int, name, omitted, parameter, returns, taking, text, word}
use Rattle.assumptions.specs.Assumed.{outside_names, undefined_names}

-- ---- int exit(int); int f(void); void free(void *); int printf();
-- int main(void) { f(); exit(3); f(); free(0); printf("f"); return 0; }

abbrev exit_declared : Scope → Outer
exit_declared =
    declared_function 2 exit' (word w.Int ∷ []) (taking (name 2 exit') (parameter (word w.Int ∷ []) omitted ∷ []))

abbrev f_declared : Scope → Outer
f_declared = declared_function 5 f' (word w.Int ∷ []) (taking (name 5 f') (void_parameter ∷ []))

abbrev calling : Machine
calling = machine silent (printf_declared ∷ exit_declared ∷ free_declared ∷ f_declared
    ∷ main_with (f' ∷ exit' ∷ free' ∷ printf' ∷ []) (record { at = 70; text = Some (102 ∷ []) } ∷ []) (
    does (call 60 f' []) ∷ does (call 61 exit' (int 3 ∷ [])) ∷ does (call 62 f' [])
    ∷ does (call 63 free' (int 0 ∷ [])) ∷ does (call 64 printf' (text 70 (102 ∷ []) ∷ []))
    ∷ returns 80 (int 0) ∷ []) ∷ [])

-- `exit` isn't that of the library, whose answer is `void`; `free` is
pub row_outside : outside_names calling ≡ exit' ∷ f' ∷ []
unfolding converted exact level_of
row_outside = refl

-- ---- extern int x; int main(void) { return x; }

abbrev extern : OfSpecifier
extern = built.storage noting 0 class.Extern

abbrev x_declared : Scope → Outer
x_declared = declared_function 3 x' (extern ∷ word w.Int ∷ []) (name 3 x')

abbrev returning : List (Scope → Outer) → Machine
returning xs = machine silent (x_declared ∷ main_with (x' ∷ []) [] (returns 80 x ∷ []) ∷ xs)

pub row_undefined : undefined_names (returning []) ≡ x' ∷ []
unfolding converted exact level_of
row_undefined = refl

-- ---- extern int x; int main(void) { return x; } int x;

pub row_defined : undefined_names (returning (declared_function 90 x' (word w.Int ∷ []) (name 90 x') ∷ [])) ≡ []
unfolding converted exact level_of
row_defined = refl
