-- What is made of external declarations, one behind the other.
use Rattle.std.proofs.Common.{◌≡◌, ℕ, Bool, true, false, cond, List, [], ◌∷◌, ◌++◌, Option, Some, None}
use Rattle.std.proofs.Common.{refl, sym, ap, ◌∙◌, subst}
use Rattle.c_means.specs.Items as runs
use Rattle.c_means.specs.Names.{Word}
use Rattle.c_means.specs.Programs.{Function, Outer, Needs, functions_in, function_if, all_needs, and_needs}
use Rattle.c_means.specs.Programs.{declared_needs, function_needs, has_function}
use Rattle.c_means.specs.Runs as whole
use Rattle.core_tree.specs.declared.program.Function.{Function as CoreFunction}
use Rattle.core_tree.specs.declared.program.LastingSetting.{LastingSetting}
use Rattle.core_programs.specs.Numberings.{Numbers}
use Rattle.core_programs.specs.Programs.{AllSettings, AreSettings, bare_numbering, joined}
use Rattle.core_units.specs.Numbers.{others_among}
use Rattle.core_programs.specs.Marked.{AllAre, reached_among}
use Rattle.core_units.specs.Walked.{AreSet, IsCoreFunction, IsWalkOf}

append_none : {A : Type 0} (xs : List A) → xs ++ [] ≡ xs
append_none [] = refl
append_none (x ∷ xs) = ap (λ ys. x ∷ ys) (append_none xs)

append_assoc : {A : Type 0} (xs ys zs : List A) → (xs ++ ys) ++ zs ≡ xs ++ (ys ++ zs)
append_assoc [] ys zs = refl
append_assoc (x ∷ xs) ys zs = ap (λ ys. x ∷ ys) (append_assoc xs ys zs)

pub all_append : {A B : Type 0} (R : A → B → Type 0) (xs ys : List A) (us bs : List B) → AllAre R xs us → AllAre R ys bs
    → AllAre R (xs ++ ys) (us ++ bs)
all_append R [] ys [] bs h i = i
all_append R [] ys (a ∷ us) bs h i = absurd h
all_append R (x ∷ xs) ys [] bs h i = absurd h
all_append R (x ∷ xs) ys (a ∷ us) bs h i = (h.0, all_append R xs ys us bs h.1 i)

-- ---- what initializers set

joined_append : (xs ys : List (List LastingSetting)) → joined (xs ++ ys) ≡ joined xs ++ joined ys
joined_append [] ys = refl
joined_append (x ∷ xs) ys =
    ap (λ zs. x ++ zs) (joined_append xs ys) ∙ sym (append_assoc x (joined xs) (joined ys))

module _ (m : whole.Machine) where
  settings_append : (xs ys : List (List LastingSetting)) (us bs : List runs.Lasting)
      → AllSettings (bare_numbering m) xs us → AllSettings (bare_numbering m) ys bs
      → AllSettings (bare_numbering m) (xs ++ ys) (us ++ bs)
  settings_append [] ys [] bs h i = i
  settings_append [] ys (a ∷ us) bs h i = absurd h
  settings_append (x ∷ xs) ys [] bs h i = absurd h
  settings_append (x ∷ xs) ys (a ∷ us) bs h i = (h.0, settings_append xs ys us bs h.1 i)

  pub set_append : (xs ys : List LastingSetting) (us bs : List runs.Lasting) → AreSet m xs us → AreSet m ys bs
      → AreSet m (xs ++ ys) (us ++ bs)
  set_append xs ys us bs h i = record {
    each = h.each ++ i.each;
    all = ap (λ zs. zs ++ ys) h.all ∙ ap (λ zs. joined h.each ++ zs) i.all ∙ sym (joined_append h.each i.each);
    set = settings_append h.each i.each us bs h.set i.set;
  }

  pub set_none : AreSet m [] []
  set_none = record { each = []; all = refl; set = tt }

-- ---- external declarations, one behind the other

reached_if : (b : Bool) (f : Function) (fs gs all : List Function) → all ≡ fs ++ gs
    → cond b (f ∷ all) all ≡ cond b (f ∷ fs) fs ++ gs
reached_if true f fs gs all is = ap (λ xs. f ∷ xs) is
reached_if false f fs gs all is = is

reached_append : (found fs gs : List Function) → reached_among found (fs ++ gs) ≡ reached_among found fs ++ reached_among found gs
reached_append found [] gs = refl
reached_append found (f ∷ fs) gs =
    reached_if (has_function f found) f (reached_among found fs) (reached_among found gs) (reached_among found (fs ++ gs))
    (reached_append found fs gs)

others_if : (b : Bool) (f : Function) (fs gs all : List Function) → all ≡ fs ++ gs
    → cond b all (f ∷ all) ≡ cond b fs (f ∷ fs) ++ gs
others_if true f fs gs all is = is
others_if false f fs gs all is = ap (λ xs. f ∷ xs) is

others_append : (found fs gs : List Function) → others_among found (fs ++ gs) ≡ others_among found fs ++ others_among found gs
others_append found [] gs = refl
others_append found (f ∷ fs) gs =
    others_if (has_function f found) f (others_among found fs) (others_among found gs) (others_among found (fs ++ gs))
    (others_append found fs gs)

functions_if_append : (o : Option Function) (fs gs : List Function) → function_if o fs ++ gs ≡ function_if o (fs ++ gs)
functions_if_append None fs gs = refl
functions_if_append (Some f) fs gs = refl

functions_append : (xs ys : List Outer) → functions_in (xs ++ ys) ≡ functions_in xs ++ functions_in ys
functions_append [] ys = refl
functions_append (x ∷ xs) ys =
    ap (function_if x.function) (functions_append xs ys)
    ∙ sym (functions_if_append x.function (functions_in xs) (functions_in ys))

lasting_append : (ws : List Word) (found : List Function) (xs ys : List Outer)
    → (all_needs ws found (xs ++ ys)).lasting ≡ (all_needs ws found xs).lasting ++ (all_needs ws found ys).lasting
lasting_append ws found [] ys = refl
lasting_append ws found (x ∷ xs) ys =
    let d = (declared_needs ws x).lasting in
    let f = (function_needs found x.function).lasting in
    let a = (all_needs ws found xs).lasting in
    let b = (all_needs ws found ys).lasting in
    ap (λ zs. d ++ (f ++ zs)) (lasting_append ws found xs ys) ∙ ap (λ zs. d ++ zs) (sym (append_assoc f a b))
    ∙ sym (append_assoc d (f ++ a) b)

module _ (m : whole.Machine) (ns : Numbers) (ws : List Word) (found : List Function) where
  pub walk_none : IsWalkOf m ns ws found [] [] [] []
  walk_none = record { cores = tt; rest = tt; set = set_none m }

  pub walk_append : (xs ys : List Outer) (fs gs hs is : List CoreFunction) (ss ts : List LastingSetting)
      → IsWalkOf m ns ws found xs fs hs ss → IsWalkOf m ns ws found ys gs is ts
      → IsWalkOf m ns ws found (xs ++ ys) (fs ++ gs) (hs ++ is) (ss ++ ts)
  walk_append xs ys fs gs hs is ss ts h i = record {
    cores = subst (λ us. AllAre (IsCoreFunction m ns false) us (fs ++ gs))
        (sym (ap (reached_among found) (functions_append xs ys) ∙ reached_append found (functions_in xs) (functions_in ys)))
        (all_append (IsCoreFunction m ns false) (reached_among found (functions_in xs))
        (reached_among found (functions_in ys)) fs gs h.cores i.cores);
    rest = subst (λ us. AllAre (IsCoreFunction m ns false) us (hs ++ is))
        (sym (ap (others_among found) (functions_append xs ys) ∙ others_append found (functions_in xs) (functions_in ys)))
        (all_append (IsCoreFunction m ns false) (others_among found (functions_in xs))
        (others_among found (functions_in ys)) hs is h.rest i.rest);
    set = subst (λ ls. AreSet m (ss ++ ts) ls) (sym (lasting_append ws found xs ys))
        (set_append m ss ts (all_needs ws found xs).lasting (all_needs ws found ys).lasting h.set i.set);
  }
