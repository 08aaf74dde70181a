-- What is made of one external declaration.
use Rattle.std.proofs.Common.{◌≡◌, Bool, true, false, cond, List, [], ◌∷◌, ◌++◌, Option, Some, None}
use Rattle.std.proofs.Common.{refl, sym, ap, ◌∙◌, subst}
use Rattle.c_language.specs.declared.scope.Entry.{Entry}
use Rattle.c_means.specs.Items as runs
use Rattle.c_means.specs.Names.{Word}
use Rattle.c_means.specs.Programs.{Function, Outer, Program, Needs, no_needs, has_function, is_needed, item_needs}
use Rattle.c_means.specs.Programs.{all_needs, declared_needs, function_needs, functions_in, watched_lasting}
use Rattle.c_means.specs.Runs as whole
use Rattle.core_tree.specs.declared.program.Function.{Function as CoreFunction}
use Rattle.core_tree.specs.declared.program.LastingSetting.{LastingSetting}
use Rattle.core_programs.specs.Numberings.{Numbers}
use Rattle.core_programs.specs.Marked.{AllAre, reached_among}
use Rattle.core_units.specs.Plans.{watched_if}
use Rattle.core_units.specs.Walked.{AreSet, IsCoreFunction, IsWalkOf}
use Rattle.core_units.proofs.WalkLaws.{set_none}

append_none : {A : Type 0} (xs : List A) → xs ++ [] ≡ xs
append_none [] = refl
append_none (x ∷ xs) = ap (λ ys. x ∷ ys) (append_none xs)

-- what nothing is needed of has no objects
lasting_if : (b : Bool) (x : Needs) → x.lasting ≡ [] → (cond b x no_needs).lasting ≡ []
lasting_if true x h = h
lasting_if false x h = refl

pub watched_by : (p : Program) (f : Function) (es : List Entry) → watched_if p (Some f) ≡ Some es
    → watched_lasting p.scope f ≡ es
watched_by p f es e = cc

module _ (m : whole.Machine) (ns : Numbers) (ws : List Word) (found : List Function) where
  abbrev lasting_of : Outer → List runs.Lasting
  lasting_of o = (declared_needs ws o).lasting ++ ((function_needs found o.function).lasting ++ [])

  -- of what declares no object of its own
  undeclared : (o : Outer) → o.item.lasting ≡ [] → (declared_needs ws o).lasting ≡ []
  undeclared o h = lasting_if (is_needed ws o) (item_needs [] o.item [] o.names) h

  same_outer : (o : Outer) (f : Function) → o.function ≡ Some f → record o { function = Some f } ≡ o
  same_outer o f is = ap (λ g. record o { function = g }) (sym is)

  reached_is : (b : Bool) (f : Function) → b ≡ true
      → (cond b (item_needs (f.name ∷ []) f.body f.name f.names) no_needs).lasting ≡ f.body.lasting
  reached_is true f h = refl
  reached_is false f h = cc

  unreached_is : (b : Bool) (f : Function) → b ≡ false
      → (cond b (item_needs (f.name ∷ []) f.body f.name f.names) no_needs).lasting ≡ []
  unreached_is true f h = cc
  unreached_is false f h = refl

  whole_reached : (o : Outer) (f : Function) → o.item.lasting ≡ [] → has_function f found ≡ true
      → lasting_of (record o { function = Some f }) ≡ f.body.lasting
  whole_reached o f none there =
      ap (λ ls. ls ++ ((function_needs found (Some f)).lasting ++ [])) (undeclared o none)
      ∙ append_none (function_needs found (Some f)).lasting ∙ reached_is (has_function f found) f there

  whole_unreached : (o : Outer) (f : Function) → o.item.lasting ≡ [] → has_function f found ≡ false
      → lasting_of (record o { function = Some f }) ≡ []
  whole_unreached o f none there =
      ap (λ ls. ls ++ ((function_needs found (Some f)).lasting ++ [])) (undeclared o none)
      ∙ append_none (function_needs found (Some f)).lasting ∙ unreached_is (has_function f found) f there

  -- a function that is reached
  pub walk_reached : (o : Outer) (f : Function) (x : CoreFunction) (ss : List LastingSetting) → o.item.lasting ≡ []
      → o.function ≡ Some f → has_function f found ≡ true → IsCoreFunction m ns false f x → AreSet m ss f.body.lasting
      → IsWalkOf m ns ws found (o ∷ []) (x ∷ []) [] ss
  walk_reached o f x ss none is there core set =
      subst (λ h. IsWalkOf m ns ws found (h ∷ []) (x ∷ []) [] ss) (same_outer o f is) (record {
        cores = subst (λ b. AllAre (IsCoreFunction m ns false) (cond b (f ∷ []) []) (x ∷ [])) (sym there) (core, tt);
        rest = subst (λ b. AllAre (IsCoreFunction m ns false) (cond b [] (f ∷ [])) []) (sym there) tt;
        set = subst (λ ls. AreSet m ss ls) (sym (whole_reached o f none there)) set;
      })

  -- one that isn't
  pub walk_unreached : (o : Outer) (f : Function) (x : CoreFunction) → o.item.lasting ≡ [] → o.function ≡ Some f
      → has_function f found ≡ false → IsCoreFunction m ns false f x → IsWalkOf m ns ws found (o ∷ []) [] (x ∷ []) []
  walk_unreached o f x none is there core =
      subst (λ h. IsWalkOf m ns ws found (h ∷ []) [] (x ∷ []) []) (same_outer o f is) (record {
        cores = subst (λ b. AllAre (IsCoreFunction m ns false) (cond b (f ∷ []) []) []) (sym there) tt;
        rest = subst (λ b. AllAre (IsCoreFunction m ns false) (cond b [] (f ∷ [])) (x ∷ [])) (sym there) (core, tt);
        set = subst (λ ls. AreSet m [] ls) (sym (whole_unreached o f none there)) (set_none m);
      })

  -- a definition without a name
  pub walk_nameless : (o : Outer) → o.item.lasting ≡ [] → o.function ≡ None → IsWalkOf m ns ws found (o ∷ []) [] [] []
  walk_nameless o none is = subst (λ h. IsWalkOf m ns ws found (h ∷ []) [] [] []) (ap (λ g. record o { function = g }) (sym is)) (record {
    cores = tt;
    rest = tt;
    set = subst (λ ls. AreSet m [] ls) (sym (ap (λ ls. ls ++ []) (undeclared o none))) (set_none m);
  })

  -- declarations that are needed, and others
  needed_is : (b : Bool) (o : Outer) → b ≡ true → (cond b (item_needs [] o.item [] o.names) no_needs).lasting ≡ o.item.lasting
  needed_is true o h = refl
  needed_is false o h = cc

  unneeded_is : (b : Bool) (o : Outer) → b ≡ false → (cond b (item_needs [] o.item [] o.names) no_needs).lasting ≡ []
  unneeded_is true o h = cc
  unneeded_is false o h = refl

  pub walk_needed : (o : Outer) (ss : List LastingSetting) → o.function ≡ None → is_needed ws o ≡ true
      → AreSet m ss o.item.lasting → IsWalkOf m ns ws found (o ∷ []) [] [] ss
  walk_needed o ss is need set = subst (λ h. IsWalkOf m ns ws found (h ∷ []) [] [] ss) (ap (λ g. record o { function = g }) (sym is)) (record {
    cores = tt;
    rest = tt;
    set = subst (λ ls. AreSet m ss ls)
        (sym (ap (λ ls. ls ++ []) (needed_is (is_needed ws o) o need) ∙ append_none o.item.lasting)) set;
  })

  pub walk_unneeded : (o : Outer) → o.function ≡ None → is_needed ws o ≡ false → IsWalkOf m ns ws found (o ∷ []) [] [] []
  walk_unneeded o is need = subst (λ h. IsWalkOf m ns ws found (h ∷ []) [] [] []) (ap (λ g. record o { function = g }) (sym is)) (record {
    cores = tt;
    rest = tt;
    set = subst (λ ls. AreSet m [] ls) (sym (ap (λ ls. ls ++ []) (unneeded_is (is_needed ws o) o need))) (set_none m);
  })
