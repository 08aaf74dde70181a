-- Accepted sources have no refusal, and refused ones the first; and a core that is a source's in every world has its runs.
use Rattle.std.proofs.Common.{◌≡◌, Bool, true, false, cond, List, [], Option, Some, None, Result, Ok, Err, IfOk, refl, sym, ap, ◌∙◌, subst}
use Rattle.plain_data.specs.declared.bounds.Bounds.{Bounds}
use Rattle.c_language.specs.declared.unit.External.{External}
use Rattle.c_checks.specs.Refusals.{IsLeast, least_of}
use Rattle.c_checks.proofs.Least.{is_least, none_broken}
use Rattle.c_means.specs.declared.breach.Breach.{Breach}
use Rattle.c_means.specs.declared.profile.Profile.{Profile}
use Rattle.c_means.specs.Checks.{IsAccepted, breaches_of, has_main, is_main}
use Rattle.c_means.specs.Runs.{Machine}
use Rattle.c_means.specs.Units.{IsAcceptedSource, limits_of, machine_in, machine_of, silent, source_room, source_run, source_size, world_of}
use Rattle.c_item_notes.specs.Levels.{Judged}
use Rattle.c_program_notes.specs.declared.accepting.Refusal.{Refusal}
use Rattle.c_program_notes.specs.declared.accepting.Refusal.TheVariants as refusal_
use Rattle.c_program_notes.specs.Refused.{broken_by, refusal_of}
use Rattle.c_program_notes.specs.Wholes.{machine}
use Rattle.core_tree.specs.declared.program.Core.{Core}
use Rattle.core_programs.specs.Numberings.{numbering_of}
use Rattle.core_programs.proofs.Programs.{room_is, run_same, size_is}
use Rattle.core_units.specs.Plans.{numbers_in, program_in}
use Rattle.core_units.specs.Units.{IsUnitCore, IsCoreOfUnit, MaybeCore}
use Rattle.acceptance.specs.Refusals.{Judges, judged_in}
use Rattle.accepted.specs.Cores.{HasItsFunctions, HasItsRuns}

-- ---- by whether there is a `main`, and which rule is the least that is broken

abbrev by : Bool → Option Breach → Option Refusal
by b o = cond b (broken_by o) (Some refusal_.NoMain)

some_none : {A : Type 0} (x : A) → Some x ≡ None → ⊥
some_none x e = cc

other_refusal : (x : Breach) → Some refusal_.NoMain ≡ Some (refusal_.Broken x) → ⊥
other_refusal x e = cc

same_breach : (x y : Breach) → Some (refusal_.Broken x) ≡ Some (refusal_.Broken y) → Some x ≡ Some y
same_breach x y e = cc

none_by : (b : Bool) (o : Option Breach) → by b o ≡ None → (b ≡ true) × (o ≡ None)
none_by true None e = (refl, refl)
none_by true (Some x) e = absurd (some_none (refusal_.Broken x) e)
none_by false o e = absurd (some_none refusal_.NoMain e)

no_main_by : (b : Bool) (o : Option Breach) → by b o ≡ Some refusal_.NoMain → b ≡ false
no_main_by false o e = refl
no_main_by true None e = absurd (some_none refusal_.NoMain (sym e))
no_main_by true (Some x) e = absurd (other_refusal x (sym e))

broken_is : (b : Bool) (o : Option Breach) (x : Breach) → by b o ≡ Some (refusal_.Broken x)
    → (b ≡ true) × (o ≡ Some x)
broken_is true (Some y) x e = (refl, same_breach y x e)
broken_is true None x e = absurd (some_none (refusal_.Broken x) (sym e))
broken_is false o x e = absurd (other_refusal x e)

-- ---- of a source

pub judges : (j : Judged) (r : Option Refusal) → r ≡ refusal_of (machine j) → Judges j.externals j.profile r
unfolding refusal_of machine
judges j None e =
    let m = judged_in j.externals j.profile in
    let p = none_by (has_main m) (least_of (breaches_of m)) (sym e) in
    record { main = p.0; kept = none_broken (breaches_of m) p.1 }
judges j (Some refusal_.NoMain) e =
    let m = judged_in j.externals j.profile in
    no_main_by (has_main m) (least_of (breaches_of m)) (sym e)
judges j (Some (refusal_.Broken x)) e =
    let m = judged_in j.externals j.profile in
    let p = broken_is (has_main m) (least_of (breaches_of m)) x (sym e) in
    record { main = p.0; first = is_least (breaches_of m) x p.1 }

pub judged_ok : {E : Type 0} (j : Judged) (r : Result (Option Refusal) E) → IfOk r (λ x. x ≡ refusal_of (machine j))
    → IfOk r (Judges j.externals j.profile)
judged_ok j (Ok x) h = judges j x h
judged_ok j (Err e) h = tt

pub kept_ok : {T E : Type 0} (xs : List External) (profile : Profile) (o : Option Refusal) (r : Result T E) → o ≡ None
    → Judges xs profile o → IfOk r (λ x. IsAcceptedSource xs profile)
kept_ok xs profile o (Ok x) is h = subst (Judges xs profile) is h
kept_ok xs profile o (Err e) is h = tt

-- ---- of its core

unit_runs : (xs : List External) (profile : Profile) (p : Core) → IsUnitCore xs profile p → HasItsRuns xs profile p
unfolding source_run source_room source_size
unit_runs xs profile p h =
    let numbering = numbering_of (program_in xs profile) (numbers_in xs profile) in
    record {
      run = λ w b. run_same numbering (machine_in xs profile w b) p (h (world_of w) (limits_of b) b.depth);
      room = λ b. room_is numbering (machine_of xs profile silent (limits_of b) b.depth) p (h silent (limits_of b) b.depth);
      size = λ b. size_is numbering (machine_of xs profile silent (limits_of b) b.depth) p (h silent (limits_of b) b.depth);
    }

has_its_runs : (xs : List External) (profile : Profile) (p : Core) → IsCoreOfUnit xs profile p → HasItsRuns xs profile p
has_its_runs xs profile p h =
    let whole = unit_runs xs profile h.whole_core h.is in
    record {
      run = λ w b. h.runs.run (world_of w) (limits_of b) b.depth ∙ whole.run w b;
      room = λ b. h.runs.room silent (limits_of b) b.depth ∙ whole.room b;
      size = λ b. h.runs.size silent (limits_of b) b.depth ∙ whole.size b;
    }

pub has_a_core : (xs : List External) (profile : Profile) (o : Option Core) (p : Core) → o ≡ Some p
    → MaybeCore xs profile o → HasItsRuns xs profile p
has_a_core xs profile o p is h = has_its_runs xs profile p (subst (MaybeCore xs profile) is h)

pub has_functions : (xs : List External) (profile : Profile) (o : Option Core) (p : Core) → o ≡ Some p
    → MaybeCore xs profile o → HasItsFunctions xs profile p
has_functions xs profile o p is h =
    let core : IsCoreOfUnit xs profile p = subst (MaybeCore xs profile) is h in core.functions

-- where there is none, there is no `main`
pub no_core : (xs : List External) (profile : Profile) (o : Option Core) → o ≡ None → MaybeCore xs profile o
    → has_main (judged_in xs profile) ≡ false
no_core xs profile o is h = ap is_main (subst (MaybeCore xs profile) is h)
