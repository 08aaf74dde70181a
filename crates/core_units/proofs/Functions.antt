-- A core has the functions of the source that are reached, with what stands at their tokens.
use Rattle.std.proofs.Common.{◌≡◌, ℕ, zero, suc, ◌+◌, Bool, true, false, cond, ◌&&◌, List, [], ◌∷◌, ◌++◌, length, map}
use Rattle.std.proofs.Common.{take, refl, sym, ap, ap₂, ◌∙◌}
use Rattle.std.proofs.Math.Path.{fun_ext}
use Rattle.std.proofs.lemmas.List.{append_assoc, append-nil, length-append}
use Rattle.std.proofs.lemmas.List.Folds.{list_all-append}
use Rattle.std.specs.Prelude.{nat_le, nat_lt}
use Rattle.std.specs.List.{list_all}
use Rattle.c_language.specs.declared.unit.External.{External}
use Rattle.c_means.specs.declared.profile.Profile.{Profile}
use Rattle.c_means.specs.Marks.{Mark as Said}
use Rattle.c_means.specs.Prelude.{prelude_functions}
use Rattle.c_means.specs.Programs.{Function, functions_of}
use Rattle.c_means.specs.Runs as whole
use Rattle.c_means.specs.Units.{silent}
use Rattle.core_tree.specs.declared.program.Core.{Core}
use Rattle.core_tree.specs.declared.program.Function.{Function as CoreFunction}
use Rattle.core_tree.specs.States.{plain}
use Rattle.core_marks.specs.declared.mark.Mark.{Mark}
use Rattle.core_marks.specs.declared.mark.Mark.TheVariants as mark
use Rattle.core_marks.specs.Programs.{function_marks, own_functions}
use Rattle.elaborate.specs.Tokens.{told, all_told}
use Rattle.core_prefix.specs.Prefixes.{mark_below, calls_below, is_closed, prefix, cut}
use Rattle.core_prefix.proofs.RunsAgree.{kept, function_room, function_size}
use Rattle.core_prefix.proofs.ValuesAgree.{and_left, and_right}
use Rattle.core_programs.specs.Marked.{AllAre, Told, name_if, name_in, reached_among, told_core, told_in, told_of, told_source}
use Rattle.core_programs.specs.Numberings.{Numbers, AreFunctions}
use Rattle.core_programs.proofs.Marked.{source_told, told_same}
use Rattle.core_units.specs.Plans.{program_in, reached_in, numbers_in}
use Rattle.core_units.specs.Units.{IsAssembled}
use Rattle.core_units.specs.Walked.{IsCoreFunction}
use Rattle.core_units.proofs.Assembly.{are_functions}
use Rattle.core_units.proofs.NumberLaws.{same_length}
use Rattle.core_units.proofs.Tables.{nine}

-- ---- those in front of the library's

module _ (m : whole.Machine) (ns : Numbers) where
  own_are : (fs : List Function) (cs rest : List CoreFunction) → AllAre (IsCoreFunction m ns false) fs cs
      → own_functions rest ≡ [] → own_functions (cs ++ rest) ≡ cs
  own_are [] [] rest h none = none
  own_are [] (c ∷ cs) rest h none = absurd h
  own_are (f ∷ fs) [] rest h none = absurd h
  own_are (f ∷ fs) (c ∷ cs) rest h none =
      ap (λ b. cond b [] (c ∷ own_functions (cs ++ rest))) h.0.kind ∙ ap (λ l. c ∷ l) (own_are fs cs rest h.1 none)

  library_begins : (fs : List Function) (cs rest : List CoreFunction) → AllAre (IsCoreFunction m ns true) fs cs
      → length fs ≡ 9 → own_functions (cs ++ rest) ≡ []
  library_begins [] cs rest h nine = absurd (zero_nine nine)
    where
      zero_nine : zero ≡ 9 → ⊥
      zero_nine e = cc
  library_begins (f ∷ fs) [] rest h nine = absurd h
  library_begins (f ∷ fs) (c ∷ cs) rest h nine =
      ap (λ b. cond b [] (c ∷ own_functions (cs ++ rest))) h.0.kind

-- ---- names of the first functions

module _ (n : ℕ) (p : Core) where
  name_kept : (k : ℕ) → nat_lt k n ≡ true → name_in (prefix n p) k ≡ name_in p k
  name_kept k h = ap name_if (kept p.functions n k h)

  mark_kept : (x : Mark) → mark_below n x ≡ true → told (name_in (prefix n p)) x ≡ told (name_in p) x
  mark_kept (mark.Branch at side) h = refl
  mark_kept (mark.Call at) h = refl
  mark_kept (mark.Body at function) h = ap (λ name. told (λ k. name) (mark.Body at function)) (name_kept function h)
  mark_kept (mark.Log site) h = refl
  mark_kept (mark.Exit at) h = refl
  mark_kept (mark.Abort at) h = refl
  mark_kept (mark.Stop at kind) h = refl

  marks_kept : (xs : List Mark) → list_all (mark_below n) xs ≡ true
      → all_told (name_in (prefix n p)) xs ≡ all_told (name_in p) xs
  marks_kept [] h = refl
  marks_kept (x ∷ xs) h =
      ap₂ (λ (y : Said) ys. y ∷ ys) (mark_kept x (and_left (mark_below n x) (list_all (mark_below n) xs) h))
      (marks_kept xs (and_right (mark_below n x) (list_all (mark_below n) xs) h))

  module _ (bodies : list_all (calls_below n) (take n p.functions) ≡ true) where
    function_kept : (c : CoreFunction) → calls_below n c ≡ true → told_in (prefix n p) c ≡ told_in p c
    function_kept c h =
        told_same refl (marks_kept (function_marks c) h)
        (fun_ext (λ limits. fun_ext (λ k. sym (function_size n p bodies plain silent limits 0 k c h))))
        (fun_ext (λ limits. fun_ext (λ k. sym (function_room n p bodies plain silent limits 0 k c h))))

    functions_kept : (cs : List CoreFunction) → list_all (calls_below n) cs ≡ true
        → map (told_in (prefix n p)) cs ≡ map (told_in p) cs
    functions_kept [] h = refl
    functions_kept (c ∷ cs) h =
        ap₂ (λ (x : Told) (more : List Told). x ∷ more)
        (function_kept c (and_left (calls_below n c) (list_all (calls_below n) cs) h))
        (functions_kept cs (and_right (calls_below n c) (list_all (calls_below n) cs) h))

-- the first of a list in two parts
first_part : (xs ys : List CoreFunction) → take (length xs) (xs ++ ys) ≡ xs
first_part [] ys = refl
first_part (x ∷ xs) ys = ap (λ l. x ∷ l) (first_part xs ys)

-- ---- the functions of a core, and of one that was cut

module _ (xs : List External) (profile : Profile) (p : Core) (h : IsAssembled xs profile p) where
  abbrev m : whole.Machine
  m = program_in xs profile

  abbrev found : List Function
  found = reached_among (reached_in xs profile) (functions_of m.program)

  told_each : (fs : List Function) (cs : List CoreFunction)
      → AllAre (IsCoreFunction m (numbers_in xs profile) false) fs cs → map (told_in p) cs ≡ map (told_of m) fs
  told_each [] [] i = refl
  told_each [] (c ∷ cs) i = absurd i
  told_each (f ∷ fs) [] i = absurd i
  told_each (f ∷ fs) (c ∷ cs) i =
      ap₂ (λ (x : Told) (more : List Told). x ∷ more)
      (source_told m (numbers_in xs profile) p (are_functions xs profile p h) f c i.0.item i.0.kind i.0.name i.0.marks
      i.0.is_body)
      (told_each fs cs i.1)

  own_of : (rest : List CoreFunction) → own_functions (h.all.sources ++ (h.all.library ++ rest)) ≡ h.all.sources
  own_of rest =
      own_are m (numbers_in xs profile) found h.all.sources (h.all.library ++ rest) h.all.walk.cores
      (library_begins m (numbers_in xs profile) prelude_functions h.all.library rest h.all.prelude nine)

  whole_told : told_core p ≡ told_source xs profile
  whole_told =
      ap (λ fs. map (told_in p) fs) (ap own_functions h.all.all ∙ own_of h.all.others)
      ∙ told_each found h.all.sources h.all.walk.cores

  module _ (n : ℕ) (count : n ≡ length h.all.sources + 9) where
    first_are : take n p.functions ≡ h.all.sources ++ h.all.library
    first_are =
        ap₂ take
        (count ∙ ap (λ k. length h.all.sources + k) (sym nine
        ∙ same_length (IsCoreFunction m (numbers_in xs profile) true) prelude_functions h.all.library h.all.prelude)
        ∙ sym (length-append h.all.sources h.all.library))
        (h.all.all ∙ sym (append_assoc h.all.sources h.all.library h.all.others))
        ∙ first_part (h.all.sources ++ h.all.library) h.all.others

    short_told : is_closed n p ≡ true → told_core (prefix n p) ≡ told_source xs profile
    short_told closed =
        let calls = and_right (nat_lt p.main n) (list_all (calls_below n) (take n p.functions))
        (and_right (nat_le n (length p.functions))
        (nat_lt p.main n && list_all (calls_below n) (take n p.functions)) closed) in
        let parts : (list_all (calls_below n) h.all.sources && list_all (calls_below n) h.all.library) ≡ true =
        sym (list_all-append (calls_below n) h.all.sources h.all.library)
        ∙ ap (list_all (calls_below n)) (sym first_are) ∙ calls in
        ap (λ fs. map (told_in (prefix n p)) fs)
        (ap own_functions (first_are ∙ ap (λ l. h.all.sources ++ l) (sym (append-nil h.all.library))) ∙ own_of [])
        ∙ functions_kept n p calls h.all.sources
        (and_left (list_all (calls_below n) h.all.sources) (list_all (calls_below n) h.all.library) parts)
        ∙ told_each found h.all.sources h.all.walk.cores

    pub cut_told : told_core (cut n p) ≡ told_source xs profile
    cut_told = by_closed (is_closed n p) refl where
      by_closed : (b : Bool) → is_closed n p ≡ b
          → told_core (record p { functions = cond b (take n p.functions) p.functions }) ≡ told_source xs profile
      by_closed true e = short_told e
      by_closed false e = whole_told
