-- The tables of functions tell the numbers.
use Rattle.std.proofs.Common.{◌≡◌, ℕ, suc, ◌+◌, Bool, true, false, cond, List, [], ◌∷◌, ◌++◌, map, reverse, length}
use Rattle.std.proofs.Common.{Option, Some, None, refl, sym, ap, ◌∙◌, arith}
use Rattle.std.specs.Prelude.{option_map, not}
use Rattle.std.specs.Str.{bytes_eq}
use Rattle.std.proofs.lemmas.List.{reverse-append}
use Rattle.c_language.specs.Scopes.{Name, last_where}
use Rattle.c_means.specs.Prelude.{prelude_functions}
use Rattle.c_means.specs.Programs.{Function, function_named, has_function}
use Rattle.c_prelude.specs.Heads.{Head, head_of}
use Rattle.c_prelude.specs.Heads as heads
use Rattle.c_prelude.proofs.Heads.{heads_are}
use Rattle.core_callees.specs.declared.bodies.PreludeFunction.{PreludeFunction}
use Rattle.core_callees.specs.declared.bodies.PreludeFunction.TheVariants as g
use Rattle.core_callees.specs.declared.numbered.FunctionNumber.{FunctionNumber}
use Rattle.core_callees.specs.Bodies.{named, number_from as number_first, position}
use Rattle.core_callees.specs.Numbered as table
use Rattle.core_units.specs.Numbers.{next_number, number_from, position_from}
use Rattle.core_units.specs.Surroundings.{numbered_from}

-- ---- functions of the source: the first of a name

reverse_cons : (xs : List FunctionNumber) (x : FunctionNumber) → reverse (x ∷ xs) ≡ reverse xs ++ x ∷ []
reverse_cons xs x = reverse-append (x ∷ []) xs

last_is : (f : FunctionNumber → Bool) (best : Option FunctionNumber) (xs : List FunctionNumber) (x : FunctionNumber)
    → last_where f best (xs ++ x ∷ []) ≡ cond (f x) (Some x) (last_where f best xs)
last_is f best [] x = refl
last_is f best (y ∷ ys) x = last_is f (cond (f y) (Some y) best) ys x

-- a number, from the first entry of the name
by_first : (b : Bool) (x : FunctionNumber) (f : Function) (n : ℕ) (rest : Option FunctionNumber)
    (o : Option Function) (m : ℕ) → x.number ≡ n → table.number_of rest ≡ option_map (λ h. m) o
    → table.number_of (cond b (Some x) rest) ≡ option_map (λ h. cond b n m) (cond b (Some f) o)
by_first true x f n rest o m is h = ap (λ k. Some k) is
by_first false x f n rest o m is h = h

pub table_tells : (found : List Function) (n k : ℕ) (fs : List Function) (name : Name)
    → table.numbers_in (reverse (numbered_from found n k fs)) name
    ≡ option_map (λ h. number_from found n k fs name) (function_named fs name)
table_tells found n k [] name = refl
table_tells found n k (f ∷ fs) name =
    let b = has_function f found in
    let x : FunctionNumber = record { name = f.name; number = cond b n k } in
    let rest = numbered_from found (next_number b n) (next_number (not b) k) fs in
    let is = λ (y : FunctionNumber). bytes_eq y.name name in
    ap (λ xs. table.number_of (last_where is None xs)) (reverse_cons rest x)
    ∙ ap table.number_of (last_is is None (reverse rest) x)
    ∙ by_first (bytes_eq f.name name) x f (cond b n k) (last_where is None (reverse rest)) (function_named fs name)
    (number_from found (next_number b n) (next_number (not b) k) fs name) refl
    (table_tells found (next_number b n) (next_number (not b) k) fs name)

-- ---- functions of the prelude: by their names alone

abbrev position_in : ℕ → List Head → Name → Option ℕ
position_in n [] name = None
position_in n (h ∷ hs) name = cond (bytes_eq h.name name) (Some n) (position_in (suc n) hs name)

at_head : (n m k : ℕ) (b : Bool) (o : Option ℕ) → (o ≡ Some k → k ≡ m) → cond b (Some n) o ≡ Some k → k ≡ cond b n m
at_head n m k true o behind e = cc
at_head n m k false o behind e = behind e

by_heads : (n : ℕ) (fs : List Function) (name : Name) (k : ℕ) → position_in n (map head_of fs) name ≡ Some k
    → k ≡ position_from n fs name
by_heads n [] name k is = cc
by_heads n (f ∷ fs) name k is =
    at_head n (position_from (suc n) fs name) k (bytes_eq f.name name) (position_in (suc n) (map head_of fs) name)
    (λ e. by_heads (suc n) fs name k e) is

step : (first k : ℕ) (b : Bool) (x : PreludeFunction) (o : Option PreludeFunction) (r : Option ℕ) → first + position x ≡ k
    → number_first first o ≡ r → number_first first (cond b (Some x) o) ≡ cond b (Some k) r
step first k true x o r is h = ap (λ j. Some j) is
step first k false x o r is h = h

plus : (n k : ℕ) → n + suc k ≡ suc n + k
plus n k = omega arith

in_order : (n : ℕ) (name : Name) → number_first n (named name) ≡ position_in n heads.heads name
in_order n name =
    step n n (bytes_eq heads.strlen.name name) g.Strlen _ _ (omega arith)
    (step n (suc n) (bytes_eq heads.strcmp.name name) g.Strcmp _ _ (omega arith)
    (step n (suc (suc n)) (bytes_eq heads.strncmp.name name) g.Strncmp _ _ (omega arith)
    (step n (suc (suc (suc n))) (bytes_eq heads.strchr.name name) g.Strchr _ _ (omega arith)
    (step n (suc (suc (suc (suc n)))) (bytes_eq heads.strcpy.name name) g.Strcpy _ _ (omega arith)
    (step n (suc (suc (suc (suc (suc n))))) (bytes_eq heads.strcat.name name) g.Strcat _ _ (omega arith)
    (step n (suc (suc (suc (suc (suc (suc n)))))) (bytes_eq heads.memset.name name) g.Memset _ _ (omega arith)
    (step n (suc (suc (suc (suc (suc (suc (suc n))))))) (bytes_eq heads.memcpy.name name) g.Memcpy _ _ (omega arith)
    (step n (suc (suc (suc (suc (suc (suc (suc (suc n)))))))) (bytes_eq heads.atoi.name name) g.Atoi None None (omega arith)
    refl))))))))

pub prelude_numbers : (n : ℕ) (name : Name) (h : PreludeFunction) → named name ≡ Some h
    → n + position h ≡ position_from n prelude_functions name
prelude_numbers n name h is =
    by_heads n prelude_functions name (n + position h)
    (ap (λ hs. position_in n hs name) heads_are ∙ sym (in_order n name) ∙ ap (number_first n) is)

-- there are nine of them
length_map : (fs : List Function) → length (map head_of fs) ≡ length fs
length_map [] = refl
length_map (f ∷ fs) = ap suc (length_map fs)

pub nine : length prelude_functions ≡ 9
nine = sym (length_map prelude_functions) ∙ ap length heads_are
