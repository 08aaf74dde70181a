-- The functions that are found over summaries are those that `c_means` reaches.
use Rattle.std.proofs.Common.{◌≡◌, ℕ, zero, suc, ◌+◌, Bool, true, false, cond, ◌||◌, nat_eq, List, [], ◌∷◌, ◌++◌, length}
use Rattle.std.proofs.Common.{reverse, map, Option, Some, None, refl, sym, ap, ◌∙◌, arith}
use Rattle.std.specs.Prelude.{option_map, is_some}
use Rattle.std.specs.Str.{bytes_eq}
use Rattle.std.proofs.lemmas.List.{append-nil, reverse-append}
use Rattle.c_language.specs.Scopes.{Name, last_where}
use Rattle.c_means.specs.declared.profile.Profile.{Profile}
use Rattle.c_means.specs.Programs.{Function, Program, functions_of, function_named, main'}
use Rattle.c_means.specs.Programs as programs
use Rattle.c_means.specs.Rules.{log_of, identity_index}
use Rattle.c_item_notes.specs.Levels.{Judged}
use Rattle.c_reach.specs.declared.search.Reaching.{Reaching}
use Rattle.c_reach.specs.declared.summaries.FunctionNotes.{FunctionNotes}
use Rattle.c_reach.specs.Summaries.{function_notes}
use Rattle.c_reach.specs.Reaching as spec

-- ---- order

pub reverse_cons : {A : Type 0} (xs : List A) (x : A) → reverse (x ∷ xs) ≡ reverse xs ++ x ∷ []
reverse_cons xs x = reverse-append (x ∷ []) xs

exchanged : (a b c : Bool) → (a || (b || c)) ≡ (b || (a || c))
exchanged true true c = refl
exchanged true false c = refl
exchanged false true c = refl
exchanged false false c = refl

or_last : (n : ℕ) (xs : List FunctionNotes) (f : FunctionNotes) → spec.has_at n (xs ++ f ∷ [])
    ≡ (nat_eq n f.at || spec.has_at n xs)
or_last n [] f = refl
or_last n (x ∷ xs) f =
    ap (λ b. nat_eq n x.at || b) (or_last n xs f) ∙ exchanged (nat_eq n x.at) (nat_eq n f.at) (spec.has_at n xs)

turned : (n : ℕ) (xs : List FunctionNotes) → spec.has_at n (reverse xs) ≡ spec.has_at n xs
turned n [] = refl
turned n (x ∷ xs) =
    ap (spec.has_at n) (reverse_cons xs x) ∙ or_last n (reverse xs) x ∙ ap (λ b. nat_eq n x.at || b) (turned n xs)

pub has_reversed : (n : ℕ) (xs ys : List FunctionNotes) → ys ≡ reverse xs → spec.has_at n xs ≡ spec.has_at n ys
has_reversed n xs ys is = sym (turned n xs) ∙ ap (spec.has_at n) (sym is)

-- ---- the first function of a name

last_is : {A : Type 0} (f : A → Bool) (best : Option A) (xs : List A) (x : A) →
    last_where f best (xs ++ x ∷ []) ≡ cond (f x) (Some x) (last_where f best xs)
last_is f best [] x = refl
last_is f best (y ∷ ys) x = last_is f (cond (f y) (Some y) best) ys x

abbrev notes : Judged → Function → FunctionNotes
notes = function_notes

chosen : (p : Profile) (j : Judged) (b : Bool) (f : Function) (x : Option Function) →
    cond b (Some (notes j f)) (option_map (notes j) x) ≡ option_map (notes j) (cond b (Some f) x)
chosen p j true f x = refl
chosen p j false f x = refl

pub named_is : (p : Profile) (j : Judged) (fs : List Function) (name : Name) →
    spec.named_in (reverse (map (notes j) fs)) name ≡ option_map (notes j) (function_named fs name)
named_is p j [] name = refl
named_is p j (f ∷ fs) name =
    ap (λ (gs : List FunctionNotes). spec.named_in gs name) (reverse_cons (map (notes j) fs) (notes j f))
    ∙ last_is (λ g. bytes_eq g.name name) None (reverse (map (notes j) fs)) (notes j f)
    ∙ ap (cond (bytes_eq f.name name) (Some (notes j f))) (named_is p j fs name)
    ∙ chosen p j (bytes_eq f.name name) f (function_named fs name)

runs_by : (p : Profile) (j : Judged) (b : Bool) (x : Option Function) →
    cond b None (option_map (notes j) x) ≡ option_map (notes j) (cond b None x)
runs_by p j true x = refl
runs_by p j false x = refl

runs_is : (p : Profile) (j : Judged) (fs : List Function) (name : Name) →
    spec.run_body p (reverse (map (notes j) fs)) name ≡ option_map (notes j) (programs.run_body p fs name)
runs_is p j fs name =
    let b = is_some (log_of p name) || is_some (identity_index p name) in
    ap (cond b None) (named_is p j fs name) ∙ runs_by p j b (function_named fs name)

has_is : (p : Profile) (j : Judged) (f : Function) (found : List Function) →
    spec.has_at f.at (map (notes j) found) ≡ programs.has_function f found
has_is p j f [] = refl
has_is p j f (g ∷ gs) = ap (λ b. nat_eq f.at g.at || b) (has_is p j f gs)

-- ---- the search

stays : (p : Profile) (fs : List FunctionNotes) (n : ℕ) (found : List FunctionNotes) →
    (spec.steps p fs n (record { todo = []; found = found })).found ≡ found
stays p fs zero found = refl
stays p fs (suc n) found = stays p fs n found

abbrev at_names : Judged → List Name → List Function → Reaching
at_names j todo found = record { todo = todo; found = map (notes j) found }

gone : (p : Profile) (j : Judged) (todo : List Name) (found : List Function) (f : Function) (b : Bool) →
    programs.has_function f found ≡ b →
    cond b (at_names j todo found)
    (record { todo = f.body.called ++ todo; found = notes j f ∷ map (notes j) found })
    ≡ at_names j (programs.called_by (cond b [] (f ∷ [])) ++ todo) (cond b [] (f ∷ []) ++ found)
gone p j todo found f true is = refl
gone p j todo found f false is =
    ap (λ (names : List Name). record { todo = names ++ todo; found = notes j f ∷ map (notes j) found })
    (sym (append-nil f.body.called))

went : (p : Profile) (j : Judged) (todo : List Name) (found : List Function) (x : Option Function) →
    spec.gone_on (option_map (notes j) x) (at_names j todo found)
    ≡ at_names j (programs.called_by (programs.newly found x) ++ todo) (programs.newly found x ++ found)
went p j todo found None = refl
went p j todo found (Some f) =
    ap (λ b. cond b (at_names j todo found)
    (record { todo = f.body.called ++ todo; found = notes j f ∷ map (notes j) found })) (has_is p j f found)
    ∙ gone p j todo found f (programs.has_function f found) refl

pub reach_is : (p : Profile) (j : Judged) (fs : List Function) (n : ℕ) (todo : List Name) (found : List Function) →
    (spec.steps p (reverse (map (notes j) fs)) n (at_names j todo found)).found
    ≡ map (notes j) (programs.reach n p fs todo found)
reach_is p j fs zero todo found = refl
reach_is p j fs (suc n) [] found = stays p (reverse (map (notes j) fs)) n (map (notes j) found)
reach_is p j fs (suc n) (name ∷ todo) found =
    let new = programs.newly found (programs.run_body p fs name) in
    ap (λ (z : Reaching). (spec.steps p (reverse (map (notes j) fs)) n z).found)
    (ap (λ (x : Option FunctionNotes). spec.gone_on x (at_names j todo found)) (runs_is p j fs name)
    ∙ went p j todo found (programs.run_body p fs name))
    ∙ reach_is p j fs n (programs.called_by new ++ todo) (new ++ found)

all_called_is : (p : Profile) (j : Judged) (fs : List Function) →
    spec.all_called (map (notes j) fs) ≡ programs.all_called fs
all_called_is p j [] = refl
all_called_is p j (f ∷ fs) = ap (λ n. length f.body.called + n) (all_called_is p j fs)

-- the functions that are found are those that are reached
pub reached_is : (p : Profile) (j : Judged) (program : Program) →
    spec.reached p (reverse (map (notes j) (functions_of program))) (map (notes j) (functions_of program))
    ≡ map (notes j) (programs.reached p program)
reached_is p j program =
    let fs = functions_of program in
    ap (λ n. (spec.steps p (reverse (map (notes j) fs)) (suc (suc n)) spec.begun).found) (all_called_is p j fs)
    ∙ reach_is p j fs (suc (suc (programs.all_called fs))) (main' ∷ []) []

-- ---- steps one behind another

zero_plus : (b : ℕ) → 0 + b ≡ b
zero_plus b = omega arith

suc_plus : (a b : ℕ) → suc a + b ≡ suc (a + b)
suc_plus a b = omega arith

pub steps_add : (p : Profile) (fs : List FunctionNotes) (a b : ℕ) (z : Reaching) →
    spec.steps p fs (a + b) z ≡ spec.steps p fs b (spec.steps p fs a z)
steps_add p fs zero b z = ap (λ n. spec.steps p fs n z) (zero_plus b)
steps_add p fs (suc a) b z =
    ap (λ n. spec.steps p fs n z) (suc_plus a b) ∙ steps_add p fs a b (spec.step p fs z)
