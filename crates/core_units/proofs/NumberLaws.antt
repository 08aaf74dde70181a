-- The core of a function stands where its number says.
use Rattle.std.proofs.Common.{◌≡◌, ℕ, zero, suc, ◌+◌, Bool, true, false, cond, List, [], ◌∷◌, ◌++◌, length, Option, Some, None}
use Rattle.std.proofs.Common.{refl, sym, ap, ◌∙◌, subst, arith}
use Rattle.std.specs.Prelude.{slice_get, not}
use Rattle.std.specs.Str.{bytes_eq}
use Rattle.c_language.specs.Scopes.{Name}
use Rattle.c_means.specs.Programs.{Function, function_named, has_function}
use Rattle.core_tree.specs.declared.program.Function.{Function as CoreFunction}
use Rattle.core_units.specs.Numbers.{others_among, next_number, number_from, position_from}
use Rattle.core_programs.specs.Marked.{AllAre, reached_among}

-- what is related to a function stands at a number
pub record Stands (R : Function → CoreFunction → Type 0) (f : Function) (cs : List CoreFunction) (k : ℕ) : Type 0 where
  pub core : CoreFunction
  pub found : slice_get cs k ≡ Some core
  pub is : R f core

some_same : {A : Type 0} (x y : A) → Some x ≡ Some y → x ≡ y
some_same x y e = cc

none_some : {A : Type 0} {x : A} → None ≡ Some x → ⊥
none_some e = cc

-- behind others
at_length : (pre cs : List CoreFunction) (c : CoreFunction) → slice_get (pre ++ c ∷ cs) (length pre) ≡ Some c
at_length [] cs c = refl
at_length (p ∷ pre) cs c = at_length pre cs c

append_one : (pre cs : List CoreFunction) (c : CoreFunction) → (pre ++ c ∷ []) ++ cs ≡ pre ++ c ∷ cs
append_one [] cs c = refl
append_one (p ∷ pre) cs c = ap (λ xs. p ∷ xs) (append_one pre cs c)

length_one : (pre : List CoreFunction) (c : CoreFunction) → length (pre ++ c ∷ []) ≡ suc (length pre)
length_one [] c = refl
length_one (p ∷ pre) c = ap suc (length_one pre c)

module _ (R : Function → CoreFunction → Type 0) where
  here : (f : Function) (c : CoreFunction) (pre cs : List CoreFunction) (g : Function) (k : ℕ) → R f c → f ≡ g
      → length pre ≡ k → Stands R g (pre ++ c ∷ cs) k
  here f c pre cs g k r same is = record {
    core = c;
    found = subst (λ n. slice_get (pre ++ c ∷ cs) n ≡ Some c) is (at_length pre cs c);
    is = subst (λ h. R h c) same r;
  }

  -- the functions of the source, of which those that are reached stand in one row and the others in another
  abbrev Stand : List Function → List Function → Name → Type 0
  Stand found fs name =
      (all pre cs rest qre ds : List CoreFunction) (g : Function) → AllAre R (reached_among found fs) cs
      → AllAre R (others_among found fs) ds → pre ++ (cs ++ rest) ≡ all → qre ++ ds ≡ all
      → function_named fs name ≡ Some g → Stands R g all (number_from found (length pre) (length qre) fs name)

  one_on : (all pre cs : List CoreFunction) (c : CoreFunction) → pre ++ c ∷ cs ≡ all → (pre ++ c ∷ []) ++ cs ≡ all
  one_on all pre cs c is = append_one pre cs c ∙ is

  stand_step : (found fs : List Function) (f : Function) (name : Name) → Stand found fs name → (eq is : Bool)
      (all pre cs rest qre ds : List CoreFunction) (g : Function)
      → AllAre R (cond is (f ∷ reached_among found fs) (reached_among found fs)) cs
      → AllAre R (cond is (others_among found fs) (f ∷ others_among found fs)) ds
      → pre ++ (cs ++ rest) ≡ all → qre ++ ds ≡ all → cond eq (Some f) (function_named fs name) ≡ Some g
      → Stands R g all (cond eq (cond is (length pre) (length qre))
      (number_from found (next_number is (length pre)) (next_number (not is) (length qre)) fs name))
  stand_step found fs f name ih true true all pre [] rest qre ds g h i p q named = absurd h
  stand_step found fs f name ih true true all pre (c ∷ cs) rest qre ds g h i p q named =
      subst (λ xs. Stands R g xs (length pre)) p
      (here f c pre (cs ++ rest) g (length pre) h.0 (some_same f g named) refl)
  stand_step found fs f name ih true false all pre cs rest qre [] g h i p q named = absurd i
  stand_step found fs f name ih true false all pre cs rest qre (d ∷ ds) g h i p q named =
      subst (λ xs. Stands R g xs (length qre)) q (here f d qre ds g (length qre) i.0 (some_same f g named) refl)
  stand_step found fs f name ih false true all pre [] rest qre ds g h i p q named = absurd h
  stand_step found fs f name ih false true all pre (c ∷ cs) rest qre ds g h i p q named =
      subst (λ n. Stands R g all (number_from found n (length qre) fs name)) (length_one pre c)
      (ih all (pre ++ c ∷ []) cs rest qre ds g h.1 i (one_on all pre (cs ++ rest) c p) q named)
  stand_step found fs f name ih false false all pre cs rest qre [] g h i p q named = absurd i
  stand_step found fs f name ih false false all pre cs rest qre (d ∷ ds) g h i p q named =
      subst (λ n. Stands R g all (number_from found (length pre) n fs name)) (length_one qre d)
      (ih all pre cs rest (qre ++ d ∷ []) ds g h i.1 p (one_on all qre ds d q) named)

  pub source_stands : (found fs : List Function) (name : Name) → Stand found fs name
  source_stands found [] name all pre cs rest qre ds g h i p q named = absurd (none_some named)
  source_stands found (f ∷ fs) name all pre cs rest qre ds g h i p q named =
      stand_step found fs f name (source_stands found fs name) (bytes_eq f.name name) (has_function f found) all pre cs rest
      qre ds g h i p q named

  -- behind those of the source that are reached stand those of the prelude
  position_step : (fs : List Function) (f : Function) (name : Name)
      → ((all pre cs rest : List CoreFunction) (g : Function) → AllAre R fs cs → pre ++ (cs ++ rest) ≡ all
      → function_named fs name ≡ Some g → Stands R g all (position_from (length pre) fs name))
      → (eq : Bool) (all pre cs rest : List CoreFunction) (g : Function) → AllAre R (f ∷ fs) cs
      → pre ++ (cs ++ rest) ≡ all → cond eq (Some f) (function_named fs name) ≡ Some g
      → Stands R g all (cond eq (length pre) (position_from (suc (length pre)) fs name))
  position_step fs f name ih eq all pre [] rest g h p named = absurd h
  position_step fs f name ih true all pre (c ∷ cs) rest g h p named =
      subst (λ xs. Stands R g xs (length pre)) p
      (here f c pre (cs ++ rest) g (length pre) h.0 (some_same f g named) refl)
  position_step fs f name ih false all pre (c ∷ cs) rest g h p named =
      subst (λ n. Stands R g all (position_from n fs name)) (length_one pre c)
      (ih all (pre ++ c ∷ []) cs rest g h.1 (one_on all pre (cs ++ rest) c p) named)

  pub position_stands : (fs : List Function) (name : Name) (all pre cs rest : List CoreFunction) (g : Function)
      → AllAre R fs cs → pre ++ (cs ++ rest) ≡ all → function_named fs name ≡ Some g
      → Stands R g all (position_from (length pre) fs name)
  position_stands [] name all pre cs rest g h p named = absurd (none_some named)
  position_stands (f ∷ fs) name all pre cs rest g h p named =
      position_step fs f name (position_stands fs name) (bytes_eq f.name name) all pre cs rest g h p named

  -- as many functions as cores
  pub same_length : (fs : List Function) (cs : List CoreFunction) → AllAre R fs cs → length fs ≡ length cs
  same_length [] [] h = refl
  same_length [] (c ∷ cs) h = absurd h
  same_length (f ∷ fs) [] h = absurd h
  same_length (f ∷ fs) (c ∷ cs) h = ap suc (same_length fs cs h.1)
