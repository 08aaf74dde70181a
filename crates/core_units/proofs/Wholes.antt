-- From what was noted of the source to its core.
use Rattle.std.proofs.Common.{◌≡◌, ℕ, ◌+◌, Bool, List, [], ◌∷◌, ◌++◌, map, reverse, length, nat_eq, Option, Some, None}
use Rattle.std.proofs.Common.{Result, IfOk, refl, sym, ap, ap₂, ◌∙◌, subst, arith}
use Rattle.std.proofs.lemmas.Result.{IfOk-weaker}
use Rattle.std.specs.Prelude.{option_map}
use Rattle.c_language.specs.declared.unit.External.{External}
use Rattle.c_means.specs.declared.profile.Profile.{Profile}
use Rattle.c_means.specs.Prelude.{prelude_functions}
use Rattle.c_language.specs.declared.scope.Entry.{Entry}
use Rattle.c_language.specs.Scopes.{Scope, empty}
use Rattle.c_means.specs.Programs.{Function, Outer, Program, functions_of, function_named, main', program_of, outer}
use Rattle.c_means.specs.Runs as whole
use Rattle.c_item_notes.specs.Levels.{Judged}
use Rattle.c_program_notes.specs.declared.whole.Overview.{Overview}
use Rattle.c_program_notes.specs.declared.outers.OuterNotes.{OuterNotes}
use Rattle.c_program_notes.specs.Summaries.{Summed, outer_in, outer_summed, outer_told}
use Rattle.c_program_notes.specs.Wholes.{machine, needs_in, overview, overview_of}
use Rattle.c_reach.specs.declared.summaries.FunctionNotes.{FunctionNotes}
use Rattle.c_reach.specs.Summaries.{function_notes}
use Rattle.core_callees.specs.declared.numbered.FunctionNumber.{FunctionNumber}
use Rattle.core_callees.specs.Numbered as table
use Rattle.core_programs.specs.Programs.{HasArguments, met_by, objects_of}
use Rattle.core_tree.specs.declared.program.Core.{Core}
use Rattle.core_units.specs.declared.plan.Plan.{Plan}
use Rattle.core_units.specs.declared.unit.Parts.{Parts}
use Rattle.core_units.specs.declared.walk.Around.{Around}
use Rattle.core_units.specs.Numbers.{number_from, first_other}
use Rattle.core_programs.specs.Marked.{reached_among, told_core}
use Rattle.core_units.specs.Overviews as spec
use Rattle.core_units.specs.Plans.{program_in, reached_in, numbers_in, watched_if}
use Rattle.core_units.specs.Surroundings.{IsAround, plan_in, outers_of, numbered_from, externals_of, profile_of, watched_in}
use Rattle.core_units.specs.Units.{IsAssembled, IsCoreOfUnit, AreParts, AreAll}
use Rattle.core_prefix.specs.Prefixes.{cut}
use Rattle.core_prefix.specs.Runs.{RunsAs}
use Rattle.core_units.proofs.Assembly.{in_front, is_unit_core}
use Rattle.core_units.proofs.Functions.{cut_told}
use Rattle.core_units.proofs.OverviewLaws.{plans_same, watched_same, numbers_same, count_same, main_same, has_arguments}
use Rattle.core_units.proofs.Tables.{table_tells, nine}

abbrev told : List External → Profile → Judged
told xs profile = record { externals = xs; profile = profile }

-- the plans are those of the external declarations
pub plans_given : (x : Around) (v : Overview) (ps : List Plan) → v ≡ overview (told (externals_of x) (profile_of x))
    → ps ≡ map (spec.plan_noted v) v.program.outers → ps ≡ map (plan_in x) (outers_of x)
unfolding overview
plans_given x v ps is planned =
    planned ∙ ap (λ (v : Overview). map (spec.plan_noted v) v.program.outers) is
    ∙ plans_same (told (externals_of x) (profile_of x)) (program_of (externals_of x)) (outers_of x)

-- the variables that the function of an external declaration in a file of its own names
function_told : (j : Judged) (o : Outer) (notes : OuterNotes) (t : Scope) → outer_in notes t ≡ outer_summed j o
    → notes.function ≡ option_map (function_notes j) o.function
function_told j o notes t h = ap (λ (z : Summed). z.notes.function) h

noted_as : (j : Judged) (e : External) (s : Scope) (notes : OuterNotes) (t : Scope) → s ≡ empty
    → outer_in notes t ≡ outer_told j e s → notes.function ≡ option_map (function_notes j) (outer e empty).function
unfolding outer_told
noted_as j e s notes t begins h =
    function_told j (outer e s) notes t h
    ∙ ap (λ (s : Scope). option_map (function_notes j) (outer e s).function) begins

watched_as : (j : Judged) (p : Program) (f : Option Function) (v : Overview) (g : Option FunctionNotes)
    → v ≡ overview_of j p → g ≡ option_map (function_notes j) f → spec.watched_noted v g ≡ watched_if p f
watched_as j p f v g is same = ap₂ (λ (v : Overview) g. spec.watched_noted v g) is same ∙ watched_same j p f

overview_is : (xs : List External) (profile : Profile) (v : Overview) → v ≡ overview (told xs profile)
    → v ≡ overview_of (told xs profile) (program_of xs)
unfolding overview
overview_is xs profile v is = is

pub watched_told : {E : Type 0} (x : Around) (v : Overview) (e : External) (notes : OuterNotes) (t s : Scope)
    (r : Result (Option (List Entry)) E) → v ≡ overview (told (externals_of x) (profile_of x)) → s ≡ empty
    → outer_in notes t ≡ outer_told (told (externals_of x) (profile_of x)) e s
    → IfOk r (λ w. w ≡ spec.watched_noted v notes.function)
    → IfOk r (λ w. w ≡ watched_in x (outer e empty).function)
watched_told x v e notes t s r is begins noted h =
    let j = told (externals_of x) (profile_of x) in
    let same : spec.watched_noted v notes.function ≡ watched_in x (outer e empty).function =
    watched_as j (program_of (externals_of x)) (outer e empty).function v notes.function
    (overview_is (externals_of x) (profile_of x) v is) (noted_as j e s notes t begins noted) in
    IfOk-weaker r (λ w. w ≡ spec.watched_noted v notes.function) (λ w. w ≡ watched_in x (outer e empty).function)
    (λ w told. told ∙ same) h

pub none_of : {A : Type 0} (o : Option A) → ((x : A) → o ≡ Some x → ⊥) → o ≡ None
none_of None other = refl
none_of (Some x) other = absurd (other x refl)

zero_plus : (n : ℕ) → 0 + n ≡ n
zero_plus n = omega arith

module _ (xs : List External) (profile : Profile) (v : Overview) (is : v ≡ overview (told xs profile)) where
  abbrev found : List Function
  found = reached_in xs profile

  abbrev all : List Function
  all = functions_of (program_in xs profile).program

  -- the tables tell of the program
  pub around_is : (fs entries : List FunctionNumber) (n k : ℕ) → n ≡ spec.count_noted v.reached 0 v.program.outers → k ≡ n + 9
      → fs ≡ spec.numbers_noted v.reached 0 k v.program.outers → entries ≡ reverse fs
      → IsAround xs profile v.places entries n
  unfolding overview
  around_is fs entries n k counted nine_more numbered turned =
      let first_is = counted ∙ ap (λ (v : Overview). spec.count_noted v.reached 0 v.program.outers) is
      ∙ count_same (told xs profile) found (program_in xs profile).program.outers 0
      ∙ zero_plus (length (reached_among found all)) in
      let other_is : k ≡ first_other found all prelude_functions = nine_more
      ∙ ap₂ (λ a b. a + b) first_is (sym nine) in record {
        places = ap whole.place_in (sym (ap (λ (v : Overview). v.places) is));
        functions_are = λ name.
            ap (λ fs. table.numbers_in fs name)
            (turned ∙ ap reverse (numbered ∙ ap (λ (v : Overview). spec.numbers_noted v.reached 0 k v.program.outers) is
            ∙ numbers_same (told xs profile) found (program_in xs profile).program.outers 0 k))
            ∙ table_tells found 0 k all name
            ∙ ap (λ m. option_map (λ h. number_from found 0 m all name) (function_named all name)) other_is;
        first_is = first_is;
      }

  -- the number of `main`
  pub record Numbered (n : ℕ) : Type 0 where
    pub function : Function
    pub is_main : whole.main_of (program_in xs profile) ≡ Some function
    pub number : (numbers_in xs profile).source main' ≡ n

  numbered_main : (o : Option Function) (n : ℕ) → o ≡ function_named all main'
      → option_map (λ h. (numbers_in xs profile).source main') o ≡ Some n → Numbered n
  numbered_main None n named h = cc
  numbered_main (Some f) n named h = record { function = f; is_main = sym named; number = same_number _ n h }
    where
      same_number : (x y : ℕ) → Some x ≡ Some y → x ≡ y
      same_number x y e = cc

  pub main_number : (entries : List FunctionNumber) (first n : ℕ) → IsAround xs profile v.places entries first
      → table.numbers_in entries main' ≡ Some n → Numbered n
  main_number entries first n h named =
      numbered_main (function_named all main') n refl (sym (h.functions_are main') ∙ named)

  unnumbered : (o : Option Function) (n : ℕ) → option_map (λ h. n) o ≡ None → o ≡ None
  unnumbered None n h = refl
  unnumbered (Some f) n h = cc

  pub no_main_number : (entries : List FunctionNumber) (first : ℕ) → IsAround xs profile v.places entries first
      → table.numbers_in entries main' ≡ None → whole.main_of (program_in xs profile) ≡ None
  no_main_number entries first h named =
      unnumbered (function_named all main') ((numbers_in xs profile).source main') (sym (h.functions_are main') ∙ named)

  -- `main` and its parameters
  record Main (b : Bool) : Type 0 where
    pub function : Function
    pub is_main : whole.main_of (program_in xs profile) ≡ Some function
    pub arguments : HasArguments b function.parameters

  main_in : (o : Option Function) (b : Bool) → o ≡ function_named all main'
      → option_map (λ f. nat_eq (length f.parameters) 2) o ≡ Some b → Main b
  main_in None b named h = cc
  main_in (Some f) b named h = record {
    function = f;
    is_main = sym named;
    arguments = subst (λ c. HasArguments c f.parameters) (some_same _ b h) (has_arguments f.parameters);
  }
    where
      some_same : (x y : Bool) → Some x ≡ Some y → x ≡ y
      some_same x y e = cc

  main_told : (b : Bool) → spec.main_takes_two v.program.outers ≡ Some b → Main b
  unfolding overview
  main_told b h =
      main_in (function_named all main') b refl
      (sym (ap (λ (v : Overview). spec.main_takes_two v.program.outers) is
      ∙ main_same (told xs profile) (program_in xs profile).program.outers) ∙ h)

  no_main : (o : Option Function) → option_map (λ f. nat_eq (length f.parameters) 2) o ≡ None → o ≡ None
  no_main None h = refl
  no_main (Some f) h = cc

  pub no_main_told : spec.main_takes_two v.program.outers ≡ None → whole.main_of (program_in xs profile) ≡ None
  unfolding overview
  no_main_told h =
      no_main (function_named all main')
      (sym (ap (λ (v : Overview). spec.main_takes_two v.program.outers) is
      ∙ main_same (told xs profile) (program_in xs profile).program.outers) ∙ h)

  -- the parts are those of a core of the source
  pub assembled : (p : Core) (x : Parts) → AreParts xs profile x → p.functions ≡ x.functions → p.settings ≡ x.settings
      → p.main ≡ x.main → p.places ≡ length v.places → spec.main_takes_two v.program.outers ≡ Some p.has_arguments
      → p.met ≡ met_by (machine (told xs profile)) (needs_in (told xs profile))
      → p.objects ≡ objects_of (machine (told xs profile)) (needs_in (told xs profile)) → IsAssembled xs profile p
  unfolding overview machine needs_in
  assembled p x parts functions settings main places two met objects =
      let taken = main_told p.has_arguments two in
      record {
        all = subst (λ fs. AreAll xs profile fs p.settings) (sym functions)
            (subst (λ ss. AreAll xs profile x.functions ss) (sym settings) parts.all);
        met = met;
        objects = objects;
        places = places ∙ ap (λ (v : Overview). length v.places) is;
        function = taken.function;
        is_main = taken.is_main;
        number = parts.number ∙ sym main;
        arguments = taken.arguments;
      }

  -- what is made of the source is its core, and so without the functions behind the first so many
  pub is_core : (p q : Core) (n k : ℕ) → IsAssembled xs profile p → q ≡ cut n p → RunsAs q p
      → k ≡ spec.count_noted v.reached 0 v.program.outers → n ≡ k + 9 → IsCoreOfUnit xs profile q
  unfolding overview
  is_core p q n k h made runs counted nine_more =
      let first_is : k ≡ length (reached_among found all) = counted
      ∙ ap (λ (v : Overview). spec.count_noted v.reached 0 v.program.outers) is
      ∙ count_same (told xs profile) found (program_in xs profile).program.outers 0
      ∙ zero_plus (length (reached_among found all)) in
      record {
        whole_core = p;
        is = is_unit_core xs profile p h;
        runs = runs;
        functions = ap told_core made
            ∙ cut_told xs profile p h n (nine_more ∙ ap (λ j. j + 9) (first_is ∙ in_front xs profile p h));
      }
