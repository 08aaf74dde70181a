-- Why a source is refused: as `c_means` has its rules, in any world and bounds.
use Rattle.std.specs.Prelude.{◌≡◌, true, false, List, Option, Some, None, ⊤}
use Rattle.c_language.specs.declared.unit.External.{External}
use Rattle.c_program_notes.specs.declared.accepting.Refusal.{Refusal}
use Rattle.c_program_notes.specs.declared.accepting.Refusal.TheVariants.{NoMain, Broken}
use Rattle.c_checks.specs.Refusals.{IsLeast}
use Rattle.c_means.specs.declared.breach.Breach.{Breach}
use Rattle.c_means.specs.declared.profile.Profile.{Profile}
use Rattle.c_means.specs.Checks.{breaches_of, has_main}
use Rattle.c_means.specs.Runs.{Machine}
use Rattle.c_means.specs.Units.{machine_of, silent, least, IsAcceptedSource}
use Rattle.acceptance.specs.declared.fault.CheckFault.{CheckFault}
use Rattle.acceptance.specs.declared.fault.CheckFault.TheVariants.{Refused, Memory}

-- what rules are asked of
abbrev pub judged_in : List External → Profile → Machine
judged_in xs profile = machine_of xs profile silent least 1

-- there is a `main`; this rule is broken, and none that is broken comes before it
pub record IsFirstBroken (xs : List External) (profile : Profile) (b : Breach) : Type 0 where
  pub main : has_main (judged_in xs profile) ≡ true
  pub first : IsLeast b (breaches_of (judged_in xs profile))

-- the source is refused so
abbrev pub IsRefusal : List External → Profile → Refusal → Type 0
IsRefusal xs profile NoMain = has_main (judged_in xs profile) ≡ false
IsRefusal xs profile (Broken b) = IsFirstBroken xs profile b

-- it is accepted, or refused so
abbrev pub Judges : List External → Profile → Option Refusal → Type 0
Judges xs profile None = IsAcceptedSource xs profile
Judges xs profile (Some refusal) = IsRefusal xs profile refusal

-- why it has no program
abbrev pub Refuses : List External → Profile → CheckFault → Type 0
Refuses xs profile (Refused refusal) = IsRefusal xs profile refusal
Refuses xs profile Memory = ⊤
