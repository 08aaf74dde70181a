-- The log calls of a source, as `c_means` says which functions are reached and which rule a call follows.
use Rattle.std.specs.Prelude.{ℕ, Bool, List, [], ◌∷◌, ◌++◌, Option, Some, None}
use Rattle.std.specs.List.Sorted.{IsPermutation, IsSortedBy, IsStableBy}
use Rattle.std.specs.Ordering.{is_lt, nat_cmp}
use Rattle.c_language.specs.declared.unit.External.{External}
use Rattle.c_means.specs.Parts.{Level}
use Rattle.c_means.specs.Parts as parts
use Rattle.c_means.specs.declared.profile.Profile.{Profile}
use Rattle.c_means.specs.Programs.{Function, reached}
use Rattle.c_means.specs.Rules.{Rules, LogCall, IdentityCall, BodyCall, LibraryCall, PreludeCall, OutsideCall}
use Rattle.c_means.specs.Runs.{Machine, bare, rule_of}
use Rattle.c_means.specs.Units.{least, machine_of, silent}
use Rattle.c_notes.specs.declared.calls.CallNote.{CallNote}
use Rattle.c_notes.specs.declared.calls.LogFormat.{LogFormat}
use Rattle.c_notes.specs.CallsTold.{format_in}
use Rattle.c_reach.specs.declared.summaries.FunctionNotes.{FunctionNotes}
use Rattle.source_sites.specs.declared.listing.Site.{Site}

-- ---- calls, by the rule that they follow

abbrev pub site_by : parts.Site → Rules Function → List Site
site_by g (LogCall text) = record { at = g.at; format = format_in g.texts text } ∷ []
site_by g (IdentityCall index) = []
site_by g (BodyCall function) = []
site_by g (LibraryCall function) = []
site_by g (PreludeCall function) = []
site_by g OutsideCall = []

abbrev pub call_sites : Machine → List (Level → parts.Site) → List Site
call_sites m [] = []
call_sites m (f ∷ fs) = let g = f (bare m m.limits.turns) in site_by g (rule_of m g) ++ call_sites m fs

abbrev pub function_sites : Machine → List Function → List Site
function_sites m [] = []
function_sites m (f ∷ fs) = call_sites m f.body.calls ++ function_sites m fs

-- those of the functions of a program that are reached
abbrev pub program_sites : Machine → List Site
program_sites m = function_sites m (reached m.profile m.program)

-- ---- in the order of their tokens

abbrev pub comes_before : Site → Site → Bool
comes_before x y = is_lt (nat_cmp x.at y.at)

pub record AreInOrder (sites ordered : List Site) : Type 0 where
  pub same : IsPermutation sites ordered
  pub sorted : IsSortedBy comes_before ordered
  pub stable : IsStableBy comes_before sites ordered

-- the log calls of a source that are reached, by the offset of the callee's name (no call's rule asks for more than one
-- turn and one level)
abbrev pub AreSitesOf : List External → Profile → List Site → Type 0
AreSitesOf xs profile sites = AreInOrder (program_sites (machine_of xs profile silent least 1)) sites

-- ---- over what is noted of calls

abbrev pub site_if : ℕ → Option LogFormat → List Site
site_if at None = []
site_if at (Some format) = record { at = at; format = format } ∷ []

abbrev pub noted_site : CallNote → List Site
noted_site call = site_if call.at call.format

abbrev pub noted_sites : List CallNote → List Site
noted_sites [] = []
noted_sites (call ∷ calls) = noted_site call ++ noted_sites calls

abbrev pub noted_in : List FunctionNotes → List Site
noted_in [] = []
noted_in (f ∷ fs) = noted_sites f.body.calls ++ noted_in fs
