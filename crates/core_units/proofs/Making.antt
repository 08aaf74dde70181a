-- What is made of an external declaration, by what code knows of the source.
use Rattle.std.proofs.Common.{◌≡◌, ◌<◌, ◌≤◌, ◌+◌, ℕ, suc, add-one, drop, drop-cons, get_or, Bool, true, false, List, [], ◌∷◌, ◌++◌, map, length, Option, Some, None, Result, IfOk, refl, sym, ap, ap₂, ◌∙◌, subst, arith}
use Rattle.std.specs.Prelude.{slice_get}
use Rattle.std.proofs.lemmas.List.{drop_all, append_assoc}
use Rattle.std.proofs.lemmas.Result.{IfOk-weaker}
use Rattle.c_language.specs.declared.unit.External.{External}
use Rattle.c_language.specs.declared.scope.Entry.{Entry}
use Rattle.c_means.specs.Items as runs
use Rattle.c_language.specs.Scopes.{Scope, empty}
use Rattle.c_means.specs.Names.{Word}
use Rattle.c_means.specs.Programs.{Function, Outer, watched_lasting, is_needed, outer, in_order, has_function, function_if, functions_of}
use Rattle.c_means.specs.Programs.{program_of}
use Rattle.c_item_notes.specs.Levels.{Judged}
use Rattle.c_program_notes.specs.declared.outers.OuterNotes.{OuterNotes}
use Rattle.c_program_notes.specs.Summaries.{outer_in, outer_told}
use Rattle.c_means.specs.Prelude.{prelude_functions, functions_from}
use Rattle.c_means.specs.Rules.{identity_index}
use Rattle.c_means.specs.Runs as whole
use Rattle.core_tree.specs.declared.program.Function.{Function as CoreFunction}
use Rattle.core_tree.specs.declared.program.LastingSetting.{LastingSetting}
use Rattle.core_tree.specs.Programs.{body_of}
use Rattle.core_tree.specs.States.{Output}
use Rattle.core_marks.specs.Programs.{function_marks}
use Rattle.elaborate.specs.Means.{Numbering, SameMarks, IsBodyOf}
use Rattle.core_programs.specs.Numberings.{Numbers, numbering_of}
use Rattle.core_programs.specs.Programs.{AllSettings, no_calls}
use Rattle.core_callees.specs.Known.{Known, numbering_in}
use Rattle.core_callees.specs.Knows.{Knows, known}
use Rattle.core_callees.proofs.Programs.{numberings_are}
use Rattle.core_codes.specs.Settings.{AreAllSet}
use Rattle.core_functions.specs.declared.definitions.Definition.{Definition}
use Rattle.core_functions.specs.Definitions.{IsDefinitionOf, MaybeDefinitionOf}
use Rattle.core_units.specs.declared.plan.Plan.{Plan}
use Rattle.core_units.specs.declared.walk.Around.{Around}
use Rattle.core_units.specs.declared.walk.Made.{Made}
use Rattle.core_units.specs.Numbers.{position_from}
use Rattle.core_units.specs.Plans.{program_in, reached_in, words_in, numbers_in}
use Rattle.core_units.specs.Surroundings.{IsAroundOf, AreMadeIn, AreSetIn, AreLibrary, externals_of, profile_of, machine_of}
use Rattle.core_units.specs.Surroundings.{watched_in, reached_by, plan_in, outers_of, made_by}
use Rattle.core_units.specs.Walked.{AreSet, IsCoreFunction}
use Rattle.core_programs.specs.Marked.{AllAre}
use Rattle.core_units.proofs.OneOuter.{watched_by, walk_reached, walk_unreached, walk_nameless}
use Rattle.core_units.proofs.OneOuter.{walk_needed, walk_unneeded}
use Rattle.core_units.proofs.WalkLaws.{all_append, walk_none, walk_append}
use Rattle.core_units.proofs.Tables.{prelude_numbers}

-- in a file of its own, which begins without names
pub begun : (e : External) (k : Known) (f : Option Definition) (s : Scope) → s ≡ empty
    → MaybeDefinitionOf (numbering_in k) f true (outer e s) → MaybeDefinitionOf (numbering_in k) f true (outer e empty)
begun e k f s is h = subst (λ (s : Scope). MaybeDefinitionOf (numbering_in k) f true (outer e s)) is h

module _ (x : Around) (h : IsAroundOf x) where
  abbrev m : whole.Machine
  m = machine_of x

  -- what is known of a function's calls
  knows : (f : Function) (es : List Entry) → watched_lasting m.program.scope f ≡ es
      → Knows m (numbers_in (externals_of x) (profile_of x)) f (profile_of x) x.places.now x.functions.now x.prelude es
  knows f es watched = record {
    prelude_is = refl;
    profile_is = refl;
    places_are = h.places;
    functions_are = h.functions_are;
    prelude_numbers = λ name g is. prelude_numbers x.prelude name g is
        ∙ ap (λ n. position_from n prelude_functions name) h.first_is;
    watched_are = watched;
  }

  -- what is set where nothing is called
  pub set_same : (es : List Entry) (ss : List LastingSetting) (ls : List runs.Lasting)
      → AreAllSet (numbering_in (known (profile_of x) x.places.now x.functions.now x.prelude es)) ss ls → AreSetIn x ss ls
  set_same es ss ls set = record {
    each = set.each;
    all = set.all;
    set = subst (λ place. AllSettings (no_calls place (identity_index (profile_of x))) set.each ls) (sym h.places) set.set;
  }

  abbrev ns : Numbers
  ns = numbers_in (externals_of x) (profile_of x)

  abbrev ws : List Word
  ws = words_in (externals_of x) (profile_of x)

  abbrev found : List Function
  found = reached_in (externals_of x) (profile_of x)

  -- the core of a function of the source or of the prelude
  core_function : (es : List Entry) (o : Outer) (d : Definition) (is_prelude : Bool) → watched_in x o.function ≡ Some es
      → (i : IsDefinitionOf (numbering_in (known (profile_of x) x.places.now x.functions.now x.prelude es)) d is_prelude o)
      → IsCoreFunction m ns is_prelude i.function d.function
  core_function es o d is_prelude watched i =
      let f = i.function in
      let watches = subst (λ g. watched_in x g ≡ Some es) i.is watched in
      let same = numberings_are m ns f (profile_of x) x.places.now x.functions.now x.prelude es
      (knows f es (watched_by m.program f es watches)) in
      record {
        kind = i.kind;
        name = i.name;
        item = i.item;
        is_body = subst (λ n. IsBodyOf n (body_of {O = Output} d.function) f i.item) same i.is_body;
        marks = subst (λ n. SameMarks n (function_marks d.function) f.body.marks) same i.marks;
      }

  made_is : (b : Bool) (es : List Entry) (o : Outer) (d : Definition) → o.item.lasting ≡ []
      → watched_in x o.function ≡ Some es
      → (i : IsDefinitionOf (numbering_in (known (profile_of x) x.places.now x.functions.now x.prelude es)) d false o)
      → has_function i.function found ≡ b → AreMadeIn x (o ∷ []) (made_by b d)
  made_is true es o d none watched i there =
      walk_reached m ns ws found o i.function d.function d.settings none i.is there
      (core_function es o d false watched i) (set_same es d.settings i.function.body.lasting i.lasting)
  made_is false es o d none watched i there =
      walk_unreached m ns ws found o i.function d.function none i.is there (core_function es o d false watched i)

  -- a function, which is reached or not
  pub function_made : (b : Bool) (es : List Entry) (o : Outer) (d : Definition) (k : Known) → o.item.lasting ≡ []
      → watched_in x o.function ≡ Some es → b ≡ reached_by x o.function
      → k ≡ known (profile_of x) x.places.now x.functions.now x.prelude es
      → IsDefinitionOf (numbering_in k) d false o → AreMadeIn x (o ∷ []) (made_by b d)
  function_made b es o d k none watched reached is h =
      let i = subst (λ k. IsDefinitionOf (numbering_in k) d false o) is h in
      made_is b es o d none watched i (sym (reached ∙ ap (reached_by x) i.is))

  definition_some : (k : Known) (b : Bool) (o : Outer) (f : Option Definition) (d : Definition) → f ≡ Some d
      → MaybeDefinitionOf (numbering_in k) f b o → IsDefinitionOf (numbering_in k) d b o
  definition_some k b o f d is h = subst (λ f. MaybeDefinitionOf (numbering_in k) f b o) is h

  definition_none : (k : Known) (b : Bool) (o : Outer) (f : Option Definition) → f ≡ None
      → MaybeDefinitionOf (numbering_in k) f b o → o.function ≡ None
  definition_none k b o f is h = subst (λ f. MaybeDefinitionOf (numbering_in k) f b o) is h

  pub some_made : {E : Type 0} (r : Result Made E) (b : Bool) (es : List Entry) (o : Outer) (f : Option Definition)
      (d : Definition) (k : Known) → o.item.lasting ≡ [] → f ≡ Some d
      → k ≡ known (profile_of x) x.places.now x.functions.now x.prelude es
      → MaybeDefinitionOf (numbering_in k) f false o → IfOk r (λ y. y ≡ made_by b d)
      → watched_in x o.function ≡ Some es → b ≡ reached_by x o.function → IfOk r (AreMadeIn x (o ∷ []))
  some_made r b es o f d k none is known_is h made watched reached =
      IfOk-weaker r (λ y. y ≡ made_by b d) (AreMadeIn x (o ∷ []))
      (λ y same. subst (AreMadeIn x (o ∷ [])) (sym same)
      (function_made b es o d k none watched reached known_is (definition_some k false o f d is h))) made

  -- what defines no function, though it is a definition
  pub nameless_made : (o : Outer) → o.item.lasting ≡ [] → o.function ≡ None
      → AreMadeIn x (o ∷ []) (record { functions = []; others = []; settings = [] })
  nameless_made o none is = walk_nameless m ns ws found o none is

  pub none_made : (o : Outer) (f : Option Definition) (k : Known) (y : Made) → o.item.lasting ≡ [] → f ≡ None
      → MaybeDefinitionOf (numbering_in k) f false o → y ≡ record { functions = []; others = []; settings = [] }
      → AreMadeIn x (o ∷ []) y
  none_made o f k y none is h same =
      subst (AreMadeIn x (o ∷ [])) (sym same) (nameless_made o none (definition_none k false o f is h))

  unwatched : (g : Option Function) → watched_in x g ≡ None → g ≡ None
  unwatched None w = refl
  unwatched (Some f) w = cc

  pub passed_function : (o : Outer) → o.item.lasting ≡ [] → watched_in x o.function ≡ None
      → AreMadeIn x (o ∷ []) (record { functions = []; others = []; settings = [] })
  passed_function o none w = nameless_made o none (unwatched o.function w)

  -- ---- the prelude

  -- the function of an external declaration in a file of its own
  pub alone_made : (es : List Entry) (o : Outer) (d : Definition) (k : Known) → watched_in x o.function ≡ Some es
      → k ≡ known (profile_of x) x.places.now x.functions.now x.prelude es → IsDefinitionOf (numbering_in k) d true o
      → AreLibrary x (function_if o.function []) (d.function ∷ [])
  alone_made es o d k watched is h =
      let i = subst (λ k. IsDefinitionOf (numbering_in k) d true o) is h in
      subst (λ g. AreLibrary x (function_if g []) (d.function ∷ [])) (sym i.is) (core_function es o d true watched i, tt)

  pub some_alone : (es : List Entry) (o : Outer) (f : Option Definition) (d : Definition) (k : Known)
      (cs : List CoreFunction) → f ≡ Some d → k ≡ known (profile_of x) x.places.now x.functions.now x.prelude es
      → MaybeDefinitionOf (numbering_in k) f true o → cs ≡ d.function ∷ [] → watched_in x o.function ≡ Some es
      → AreLibrary x (function_if o.function []) cs
  some_alone es o f d k cs is known_is h same watched =
      subst (AreLibrary x (function_if o.function [])) (sym same)
      (alone_made es o d k watched known_is (definition_some k true o f d is h))

  pub none_alone : (o : Outer) (f : Option Definition) (k : Known) (cs : List CoreFunction) → f ≡ None
      → MaybeDefinitionOf (numbering_in k) f true o → cs ≡ [] → AreLibrary x (function_if o.function []) cs
  none_alone o f k cs is h same =
      subst (AreLibrary x (function_if o.function [])) (sym same)
      (subst (λ g. AreLibrary x (function_if g []) []) (sym (definition_none k true o f is h)) tt)

  pub alone_none : (o : Outer) → o.function ≡ None → AreLibrary x (function_if o.function []) []
  alone_none o is = subst (λ g. AreLibrary x (function_if g []) []) (sym is) tt

  pub alone_unwatched : (o : Outer) → watched_in x o.function ≡ None → AreLibrary x (function_if o.function []) []
  alone_unwatched o w = alone_none o (unwatched o.function w)

  pub none_unwatched : (o : Outer) (w : Option (List Entry)) (cs : List CoreFunction) → w ≡ watched_in x o.function
      → w ≡ None → cs ≡ [] → AreLibrary x (function_if o.function []) cs
  none_unwatched o w cs same none is =
      subst (AreLibrary x (function_if o.function [])) (sym is) (alone_unwatched o (sym same ∙ none))

  pub library_append : (fs gs : List Function) (cs ds : List CoreFunction) → AreLibrary x fs cs → AreLibrary x gs ds
      → AreLibrary x (fs ++ gs) (cs ++ ds)
  library_append fs gs cs ds h i = all_append (IsCoreFunction m ns true) fs gs cs ds h i

  -- declarations
  pub needed_made : (o : Outer) (ss : List LastingSetting) → o.function ≡ None
      → is_needed (words_in (externals_of x) (profile_of x)) o ≡ true → AreSetIn x ss o.item.lasting
      → AreMadeIn x (o ∷ []) (record { functions = []; others = []; settings = ss })
  needed_made o ss is need set =
      walk_needed m (numbers_in (externals_of x) (profile_of x)) (words_in (externals_of x) (profile_of x))
      (reached_in (externals_of x) (profile_of x)) o ss is need set

  pub unneeded_made : (o : Outer) → o.function ≡ None → is_needed (words_in (externals_of x) (profile_of x)) o ≡ false
      → AreMadeIn x (o ∷ []) (record { functions = []; others = []; settings = [] })
  unneeded_made o is need =
      walk_unneeded m (numbers_in (externals_of x) (profile_of x)) (words_in (externals_of x) (profile_of x))
      (reached_in (externals_of x) (profile_of x)) o is need

-- ---- one after the other

pub passed_after : (j : Judged) (n : OuterNotes) (e : External) (s t : Scope) → outer_in n t ≡ outer_told j e s
    → t ≡ (outer e s).after
unfolding outer_told
passed_after j n e s t h = ap (λ z. z.after) h

nth : {A B : Type 0} (f : A → B) (xs : List A) (y : A) (ys : List A) → slice_get (map f (xs ++ y ∷ ys)) (length xs) ≡ Some (f y)
nth f [] y ys = refl
nth f (x ∷ xs) y ys = nth f xs y ys

append_one : {A : Type 0} (xs : List A) (y : A) (ys : List A) → (xs ++ y ∷ []) ++ ys ≡ xs ++ y ∷ ys
append_one [] y ys = refl
append_one (x ∷ xs) y ys = ap (λ zs. x ∷ zs) (append_one xs y ys)

length_one : {A : Type 0} (xs : List A) (y : A) → length (xs ++ y ∷ []) ≡ suc (length xs)
length_one [] y = refl
length_one (x ∷ xs) y = ap suc (length_one xs y)

append_none : {A : Type 0} (xs : List A) → xs ++ [] ≡ xs
append_none [] = refl
append_none (x ∷ xs) = ap (λ ys. x ∷ ys) (append_none xs)

longer : {A : Type 0} (xs : List A) (y : A) (ys : List A) → length xs < length (xs ++ y ∷ ys)
longer [] y ys = omega arith
longer (x ∷ xs) y ys = let h = longer xs y ys in omega (arith, h)

length_mapped : {A B : Type 0} (f : A → B) (xs : List A) → length (map f xs) ≡ length xs
length_mapped f [] = refl
length_mapped f (x ∷ xs) = ap suc (length_mapped f xs)

some_same : {A : Type 0} (x y : A) → Some x ≡ Some y → x ≡ y
some_same x y e = cc

-- what is made of so many, in front of these in this scope
pub record Walking (x : Around) (rest : List External) (s : Scope) (n : ℕ) (y : Made) : Type 0 where
  pub done : List Outer
  pub made : AreMadeIn x done y
  pub all : done ++ (in_order (map outer rest) s).outers ≡ outers_of x
  pub counted : length done ≡ n

module _ (x : Around) where
  pub walking_start : (s : Scope) → s ≡ empty
      → Walking x (externals_of x) s 0 (record { functions = []; others = []; settings = [] })
  walking_start s is = record {
    done = [];
    made = walk_none (machine_of x) (numbers_in (externals_of x) (profile_of x))
        (words_in (externals_of x) (profile_of x)) (reached_in (externals_of x) (profile_of x));
    all = ap (λ s. (in_order (map outer (externals_of x)) s).outers) is;
    counted = refl;
  }

  -- the plan at its place is that of the next
  pub walking_plan : (e : External) (es : List External) (s : Scope) (n : ℕ) (y : Made) (ps : List Plan) (q : Plan)
      → Walking x (e ∷ es) s n y → ps ≡ map (plan_in x) (outers_of x) → slice_get ps n ≡ Some q
      → q ≡ plan_in x (outer e s)
  walking_plan e es s n y ps q w planned found =
      let behind = (in_order (map outer es) (outer e s).after).outers in
      sym (some_same (plan_in x (outer e s)) q
      (sym (nth (plan_in x) w.done (outer e s) behind)
      ∙ ap (λ os. slice_get (map (plan_in x) os) (length w.done)) w.all
      ∙ ap (λ ps. slice_get ps (length w.done)) (sym planned)
      ∙ ap (slice_get ps) w.counted ∙ found))

  pub walking_next : (e : External) (es : List External) (s t : Scope) (n : ℕ) (y z : Made) → Walking x (e ∷ es) s n y
      → AreMadeIn x (outer e s ∷ []) z → t ≡ (outer e s).after
      → Walking x es t (suc n) (record {
        functions = y.functions ++ z.functions;
        others = y.others ++ z.others;
        settings = y.settings ++ z.settings;
      })
  walking_next e es s t n y z w more is = record {
    done = w.done ++ outer e s ∷ [];
    made = walk_append (machine_of x) (numbers_in (externals_of x) (profile_of x))
        (words_in (externals_of x) (profile_of x)) (reached_in (externals_of x) (profile_of x)) w.done
        (outer e s ∷ []) y.functions z.functions y.others z.others y.settings z.settings w.made more;
    all = ap (λ t. (w.done ++ outer e s ∷ []) ++ (in_order (map outer es) t).outers) is
        ∙ append_one w.done (outer e s) (in_order (map outer es) (outer e s).after).outers ∙ w.all;
    counted = length_one w.done (outer e s) ∙ ap suc w.counted;
  }

  pub walking_end : (s : Scope) (n : ℕ) (y : Made) → Walking x [] s n y → AreMadeIn x (outers_of x) y
  walking_end s n y w = subst (λ os. AreMadeIn x os y) (sym (append_none w.done) ∙ w.all) w.made

  -- ---- at an index

  abbrev xs : List External
  xs = externals_of x

  cut : (i : ℕ) (e : External) → i < length xs → e ≡ get_or xs i e → drop i xs ≡ e ∷ drop (i + 1) xs
  cut i e within is =
      drop-cons xs i e within ∙ ap₂ (λ d n. d ∷ drop n xs) (sym is) (sym (add-one i))

  -- there is a plan at its place
  pub plan_there : (i n : ℕ) (e : External) (s : Scope) (y : Made) (ps : List Plan) → i < length xs → e ≡ get_or xs i e
      → Walking x (drop i xs) s n y → ps ≡ map (plan_in x) (outers_of x) → n < length ps
  plan_there i n e s y ps within is w planned =
      let u = subst (λ es. Walking x es s n y) (cut i e within is) w in
      subst (λ ps. n < length ps) (sym planned)
      (subst (λ k. n < k) (sym (length_mapped (plan_in x) (outers_of x)))
      (subst (λ os. n < length os) u.all
      (subst (λ k. k < length (u.done ++ outer e s ∷ (in_order (map outer (drop (i + 1) xs)) (outer e s).after).outers))
      u.counted (longer u.done (outer e s) _))))

  pub plan_at : (i n : ℕ) (e e' : External) (s : Scope) (y : Made) (ps : List Plan) (q : Plan) → i < length xs
      → e ≡ get_or xs i e → e' ≡ e → Walking x (drop i xs) s n y → ps ≡ map (plan_in x) (outers_of x)
      → slice_get ps n ≡ Some q → q ≡ plan_in x (outer e' s)
  plan_at i n e e' s y ps q within is same w planned found =
      walking_plan e (drop (i + 1) xs) s n y ps q (subst (λ es. Walking x es s n y) (cut i e within is) w) planned found
      ∙ ap (λ e. plan_in x (outer e s)) (sym same)

  abbrev the_made : List CoreFunction → List CoreFunction → List LastingSetting → Made
  the_made fs os ss = record { functions = fs; others = os; settings = ss }

  pub walking_at : (i n : ℕ) (e e' : External) (s t : Scope) (y z : Made) (fs os : List CoreFunction)
      (ss : List LastingSetting) → i < length xs → e ≡ get_or xs i e → e' ≡ e → Walking x (drop i xs) s n y
      → AreMadeIn x (outer e' s ∷ []) z → t ≡ (outer e' s).after → fs ≡ y.functions ++ z.functions
      → os ≡ y.others ++ z.others → ss ≡ y.settings ++ z.settings
      → Walking x (drop (i + 1) xs) t (n + 1) (record { functions = fs; others = os; settings = ss })
  walking_at i n e e' s t y z fs os ss within is same w more after functions others settings =
      subst (λ u. Walking x (drop (i + 1) xs) t (n + 1) u)
      (sym (ap (λ fs. the_made fs os ss) functions ∙ ap₂ (the_made (y.functions ++ z.functions)) others settings))
      (subst (λ k. Walking x (drop (i + 1) xs) t k (the_made (y.functions ++ z.functions) (y.others ++ z.others)
      (y.settings ++ z.settings))) (sym (add-one n))
      (walking_next e (drop (i + 1) xs) s t n y z (subst (λ es. Walking x es s n y) (cut i e within is) w)
      (subst (λ e. AreMadeIn x (outer e s ∷ []) z) same more) (after ∙ ap (λ e. (outer e s).after) same)))

  pub walked_to_end : (i n : ℕ) (s : Scope) (y : Made) → length xs ≤ i → Walking x (drop i xs) s n y
      → AreMadeIn x (outers_of x) y
  walked_to_end i n s y past w = walking_end s n y (subst (λ es. Walking x es s n y) (drop_all i xs past) w)

-- ---- the functions of the prelude, one external declaration behind the other

module _ (x : Around) where
  -- those of external declarations in front of these
  pub record Library (es rest : List External) (cs : List CoreFunction) : Type 0 where
    pub done : List Function
    pub made : AreLibrary x done cs
    pub all : done ++ functions_from rest ≡ functions_from es

  pub library_start : (es : List External) → Library es es []
  library_start es = record { done = []; made = tt; all = refl }

  pub library_next : (h : IsAroundOf x) (es : List External) (i : ℕ) (e e' : External) (cs ds more : List CoreFunction)
      → i < length es → e ≡ get_or es i e → e' ≡ e → Library es (drop i es) cs
      → AreLibrary x (functions_of (program_of (e' ∷ []))) ds → more ≡ cs ++ ds → Library es (drop (i + 1) es) more
  library_next h es i e e' cs ds more within is same l one all =
      let u = subst (λ rest. Library es rest cs)
      (drop-cons es i e within ∙ ap₂ (λ d n. d ∷ drop n es) (sym is) (sym (add-one i))) l in
      let own = functions_of (program_of (e ∷ [])) in
      subst (Library es (drop (i + 1) es)) (sym all) (record {
        done = u.done ++ own;
        made = library_append x h u.done own cs ds u.made
            (subst (λ e. AreLibrary x (functions_of (program_of (e ∷ []))) ds) same one);
        all = append_assoc u.done own (functions_from (drop (i + 1) es)) ∙ u.all;
      })

  pub library_end : (es : List External) (i : ℕ) (cs : List CoreFunction) → length es ≤ i → Library es (drop i es) cs
      → AreLibrary x (functions_from es) cs
  library_end es i cs past l =
      let u = subst (λ rest. Library es rest cs) (drop_all i es past) l in
      subst (λ fs. AreLibrary x fs cs) (sym (append_none u.done) ∙ u.all) u.made
