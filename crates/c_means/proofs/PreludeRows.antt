-- A function of the prelude in a run: `strlen` beside what it is worth, called by a program that declares it.
use Rattle.std.proofs.Common.{◌≡◌, ℕ, pos, List, [], ◌∷◌, Some, None, refl}
use Rattle.plain_data.specs.declared.run.Finish.TheVariants as finish
use Rattle.c_language.specs.declared.expr.TypeWord.TheVariants as w
use Rattle.c_language.specs.Folds.{fold_specifier}
use Rattle.c_language.specs.Integers.{converted}
use Rattle.c_language.specs.Operators.{exact}
use Rattle.c_language.specs.Scopes.{Name, Scope, empty}
use Rattle.c_language.specs.Declares.{Says}
use Rattle.c_language.specs.Declarations.{function_by}
use Rattle.c_language.proofs.Built.{all_say}
use Rattle.c_means.specs.Notes.{ExprNoted, noting}
use Rattle.c_means.specs.Names.{none}
use Rattle.c_means.specs.Programs.{Outer, in_order, functions_of, with_function}
use Rattle.c_means.specs.Runs.{Machine, run_of, level_of}
use Rattle.c_means.proofs.RunScene.{OfSpecifier, OfParameter, int, text, the, element, increment, call, word, name}
use Rattle.c_means.proofs.RunScene.{pointer, omitted, taking, parameter, does, block, returns, while, value, declare}
use Rattle.c_means.proofs.RunRows.{main_with, machine, silent, declared_function}

abbrev strlen' : Name
strlen' = 115 ∷ 116 ∷ 114 ∷ 108 ∷ 101 ∷ 110 ∷ []

abbrev s' : Name
s' = 115 ∷ []

abbrev n' : Name
n' = 110 ∷ []

abbrev unsigned_long : List OfSpecifier
unsigned_long = word w.Unsigned ∷ word w.Long ∷ []

abbrev text_parameter : OfParameter
text_parameter = parameter (word w.Char ∷ []) (pointer (name 1033 s'))

-- unsigned long strlen(char *s) { unsigned long n = 0; while (s[n]) n++; return n; }
abbrev strlen : Scope → Outer
strlen s =
    with_function
    (function_by (all_say (fold_specifier {c = Says ExprNoted} noting) unsigned_long)
    (taking (name 1014 strlen') (text_parameter ∷ [])).says s)
    None
    (Some (block (
    declare unsigned_long (name 1052 n') (Some (value (int 0)))
    ∷ while 1059 (element 1067 (the s') (the n')) (does (increment 1073 (the n')))
    ∷ returns 1077 (the n') ∷ [])).says) none none s

abbrev measuring : List OfSpecifier → List ℕ → Machine
measuring result bytes = record (machine silent (
    declared_function 2 strlen' result (taking (name 2 strlen') (parameter (word w.Char ∷ []) (pointer omitted) ∷ []))
    ∷ main_with (strlen' ∷ []) (record { at = 40; text = Some bytes } ∷ [])
    (returns 80 (call 70 strlen' (text 40 bytes ∷ [])) ∷ []) ∷ [])) {
      prelude = functions_of (in_order (strlen ∷ []) empty);
    }

-- ten turns: in a function of the prelude the limit of texts counts
pub row_prelude :
    (run_of (measuring unsigned_long (97 ∷ 98 ∷ 99 ∷ 100 ∷ 101 ∷ 102 ∷ 103 ∷ 104 ∷ 105 ∷ 106 ∷ []))).finish
    ≡ finish.Return (pos 10)
unfolding converted exact level_of
row_prelude = refl

-- `int strlen()` of another type is outside: the answer is the word of the call's place
pub row_not_of_prelude : (run_of (measuring (word w.Int ∷ []) (97 ∷ []))).finish ≡ finish.Return (pos 0)
unfolding converted exact level_of
row_not_of_prelude = refl
