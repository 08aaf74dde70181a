-- The parts together are the core of the source.
use Rattle.std.proofs.Common.{◌≡◌, ℕ, suc, ◌+◌, Bool, true, false, List, [], ◌∷◌, ◌++◌, length, Option, Some, refl, sym}
use Rattle.std.proofs.Common.{ap, ap₂, ◌∙◌, subst}
use Rattle.std.proofs.lemmas.List.{append_assoc, length-append}
use Rattle.std.specs.Prelude.{slice_get, cond}
use Rattle.c_language.specs.declared.unit.External.{External}
use Rattle.c_language.specs.Scopes.{Name}
use Rattle.c_means.specs.Parts as c
use Rattle.c_means.specs.declared.profile.Profile.{Profile}
use Rattle.c_means.specs.Prelude.{prelude_functions}
use Rattle.c_means.specs.Programs.{Function, functions_of, function_named, main'}
use Rattle.c_means.specs.Runs as whole
use Rattle.c_means.specs.Units.{machine_of}
use Rattle.core_tree.specs.declared.program.Core.{Core}
use Rattle.core_tree.specs.declared.program.Function.{Function as CoreFunction}
use Rattle.core_tree.specs.Programs.{maybe_body, body_of}
use Rattle.core_programs.specs.Numberings.{IsFunctionOf, AreFunctions, numbering_of}
use Rattle.core_programs.specs.Programs.{IsCoreOf, IsStartOf, IsMainOf, machine_for}
use Rattle.core_programs.proofs.Machines.{is_machine}
use Rattle.core_units.specs.Numbers.{number_from, position_from, first_other}
use Rattle.core_programs.specs.Marked.{reached_among}
use Rattle.core_units.specs.Plans.{program_in, reached_in, numbers_in}
use Rattle.core_units.specs.Units.{IsUnitCore, IsAssembled}
use Rattle.core_units.specs.Walked.{IsCoreFunction}
use Rattle.core_units.proofs.NumberLaws.{Stands, source_stands, position_stands, same_length}

module _ (xs : List External) (profile : Profile) (p : Core) (h : IsAssembled xs profile p) where
  abbrev m : whole.Machine
  m = program_in xs profile

  -- where a function stands is its core
  function_at : (is_prelude : Bool) (f : Function) (n : ℕ)
      → Stands (IsCoreFunction m (numbers_in xs profile) is_prelude) f (h.all.sources ++ (h.all.library ++ h.all.others)) n
      → IsFunctionOf m (numbers_in xs profile) p f n is_prelude
  function_at is_prelude f n x = record {
    function = x.core;
    found = subst (λ fs. slice_get fs n ≡ Some x.core) (sym h.all.all) x.found;
    kind = x.is.kind;
    name = x.is.name;
    item = x.is.item;
    is_body = x.is.is_body;
    marks = x.is.marks;
  }

  -- how many stand in front of the prelude, and in front of the others
  pub in_front : length (reached_among (reached_in xs profile) (functions_of m.program)) ≡ length h.all.sources
  in_front = same_length (IsCoreFunction m (numbers_in xs profile) false)
      (reached_among (reached_in xs profile) (functions_of m.program)) h.all.sources h.all.walk.cores

  in_front_of_others : first_other (reached_in xs profile) (functions_of m.program) prelude_functions
      ≡ length (h.all.sources ++ h.all.library)
  in_front_of_others =
      ap₂ (λ a b. a + b) in_front
      (same_length (IsCoreFunction m (numbers_in xs profile) true) prelude_functions h.all.library h.all.prelude)
      ∙ sym (length-append h.all.sources h.all.library)

  of_source : (name : Name) (f : Function) → function_named (functions_of m.program) name ≡ Some f
      → IsFunctionOf m (numbers_in xs profile) p f ((numbers_in xs profile).source name) false
  of_source name f named =
      function_at false f ((numbers_in xs profile).source name)
      (subst (λ k. Stands (IsCoreFunction m (numbers_in xs profile) false) f
      (h.all.sources ++ (h.all.library ++ h.all.others))
      (number_from (reached_in xs profile) 0 k (functions_of m.program) name)) (sym in_front_of_others)
      (source_stands (IsCoreFunction m (numbers_in xs profile) false) (reached_in xs profile) (functions_of m.program)
      name (h.all.sources ++ (h.all.library ++ h.all.others)) [] h.all.sources (h.all.library ++ h.all.others)
      (h.all.sources ++ h.all.library) h.all.others f h.all.walk.cores h.all.walk.rest refl
      (append_assoc h.all.sources h.all.library h.all.others) named))

  of_prelude : (name : Name) (f : Function) → function_named prelude_functions name ≡ Some f
      → IsFunctionOf m (numbers_in xs profile) p f ((numbers_in xs profile).prelude name) true
  of_prelude name f named =
      function_at true f ((numbers_in xs profile).prelude name)
      (subst (λ k. Stands (IsCoreFunction m (numbers_in xs profile) true) f
      (h.all.sources ++ (h.all.library ++ h.all.others)) (position_from k prelude_functions name)) (sym in_front)
      (position_stands (IsCoreFunction m (numbers_in xs profile) true) prelude_functions name
      (h.all.sources ++ (h.all.library ++ h.all.others)) h.all.sources h.all.library h.all.others f h.all.prelude refl named))

  pub are_functions : AreFunctions m (numbers_in xs profile) p
  are_functions = record { source = of_source; prelude = of_prelude }

  -- `main`
  main_at : IsFunctionOf m (numbers_in xs profile) p h.function p.main false
  main_at =
      subst (λ n. IsFunctionOf m (numbers_in xs profile) p h.function n false) h.number (of_source main' h.function h.is_main)

  pub is_unit_core : IsUnitCore xs profile p
  is_unit_core world limits depth = record {
    functions = is_machine m (numbers_in xs profile) p are_functions world limits depth;
    start = record { met = h.met; objects = h.objects; settings = h.all.walk.set.each; are_set = h.all.walk.set.all; set = h.all.walk.set.set };
    places = h.places;
    main = record {
      function = h.function;
      is_main = h.is_main;
      body = body_of main_at.function;
      found = ap maybe_body main_at.found;
      item = main_at.item;
      is_body = main_at.is_body;
      turns = ap (λ b. cond b limits.texts limits.turns) main_at.kind;
      arguments = h.arguments;
    };
  }
