-- What is found over the summaries of a whole program is what `c_means` says of it.
use Rattle.std.proofs.Common.{◌≡◌, ℕ, List, [], ◌∷◌, ◌++◌, Option, Some, None, map, reverse, refl, sym, ap, ◌∙◌}
use Rattle.std.specs.Prelude.{option_map}
use Rattle.c_means.specs.declared.profile.Profile.{Profile}
use Rattle.c_means.specs.Names.{Word}
use Rattle.c_means.specs.Programs.{Function, Outer, Program, Needs, needed_words, needs_of, ordinaries}
use Rattle.c_means.specs.Programs.{functions_of, program_of}
use Rattle.c_means.specs.Programs as programs
use Rattle.c_means.specs.Runs.{Machine, offsets_of, places_of}
use Rattle.c_means.specs.Units.{least, machine_of, silent}
use Rattle.core_tree.specs.declared.program.LastingObject.{LastingObject}
use Rattle.core_programs.specs.Programs.{met_by, objects_of}
use Rattle.core_programs.specs.Offsets.{offsets_in}
use Rattle.c_item_notes.specs.Levels.{Judged}
use Rattle.c_names.specs.declared.summaries.Names.{Names}
use Rattle.c_names.specs.Kept.{kept}
use Rattle.c_names.specs.Needs as names
use Rattle.c_names.proofs.SameNeeds.{needed_is}
use Rattle.c_reach.specs.declared.summaries.FunctionNotes.{FunctionNotes}
use Rattle.c_reach.specs.Summaries.{function_notes}
use Rattle.c_reach.specs.Reaching as reaching
use Rattle.c_reach.proofs.SameAsDefined.{reached_is}
use Rattle.c_program_notes.specs.declared.needing.Needs.{Needs as Held}
use Rattle.c_program_notes.specs.declared.outers.OuterNotes.{OuterNotes}
use Rattle.c_program_notes.specs.declared.whole.Overview.{Overview}
use Rattle.c_program_notes.specs.declared.outers.ProgramNotes.{ProgramNotes}
use Rattle.c_program_notes.specs.Needed.{all_needs, needs_notes, no_needs}
use Rattle.c_program_notes.specs.Placed.{needed_list, program_list}
use Rattle.c_program_notes.specs.Placed as placed
use Rattle.c_program_notes.specs.Summaries.{outer_notes, program_notes}
use Rattle.c_program_notes.specs.Wholes.{machine, needs_in, over, overview, prepared, reached_in, words_in}
use Rattle.c_program_notes.specs.Wholes as spec
use Rattle.c_program_notes.proofs.NeedLaws.{needs_are, objects_are}
use Rattle.c_program_notes.proofs.Offsets.{needed_are, offsets_are}

-- ---- functions and words

function_then : (j : Judged) (f : Option Function) (fs : List Function) →
    spec.function_if (option_map (function_notes j) f) ++ map (function_notes j) fs
    ≡ map (function_notes j) (programs.function_if f fs)
function_then j None fs = refl
function_then j (Some f) fs = refl

pub functions_are : (j : Judged) (xs : List Outer) →
    spec.functions_in (map (outer_notes j) xs) ≡ map (function_notes j) (programs.functions_in xs)
functions_are j [] = refl
functions_are j (x ∷ xs) =
    ap (λ (fs : List FunctionNotes). spec.function_if (option_map (function_notes j) x.function) ++ fs)
    (functions_are j xs)
    ∙ function_then j x.function (programs.functions_in xs)

reached_are : (j : Judged) (p : Program) →
    spec.reached_in j.profile (map (outer_notes j) p.outers)
    ≡ map (function_notes j) (programs.reached j.profile p)
unfolding reached_in
reached_are j p =
    ap (λ (fs : List FunctionNotes). reaching.reached j.profile (reverse fs) fs) (functions_are j p.outers)
    ∙ reached_is j.profile j p

used_are : (j : Judged) (fs : List Function) → spec.used_by (map (function_notes j) fs) ≡ programs.used_by fs
used_are j [] = refl
used_are j (f ∷ fs) =
    ap (λ (ws : List Word). (f.names.uses ++ ordinaries (f.name ∷ f.body.links)) ++ ws) (used_are j fs)

names_are : (j : Judged) (xs : List Outer) →
    spec.names_of (map (outer_notes j) xs) ≡ map (λ (x : Outer). kept x.names) xs
names_are j [] = refl
names_are j (x ∷ xs) = ap (λ (ns : List Names). kept x.names ∷ ns) (names_are j xs)

words_are : (j : Judged) (p : Program) →
    spec.words_in (map (function_notes j) (programs.reached j.profile p)) (map (outer_notes j) p.outers)
    ≡ needed_words j.profile p
unfolding words_in
words_are j p =
    let ws = programs.used_by (programs.reached j.profile p) in
    ap (λ (ns : List Names). names.needed_words ns
    (spec.used_by (map (function_notes j) (programs.reached j.profile p)))) (names_are j p.outers)
    ∙ ap (λ (us : List Word). names.needed_words (map (λ (x : Outer). kept x.names) p.outers) us)
    (used_are j (programs.reached j.profile p))
    ∙ needed_is p.outers ws

-- ---- all of it

abbrev made : Judged → Program → List FunctionNotes → List Word → Held → List ℕ → Overview
made j p found words needs places =
    record { program = program_notes j p; reached = found; words = words; needs = needs; places = places }

whole_is : (j : Judged) (p : Program) → spec.over j.profile (program_notes j p) ≡ spec.overview_of j p
unfolding over
whole_is j p =
    let os = map (outer_notes j) p.outers in
    let places = offsets_in (reverse (program_list (program_notes j p))) in
    let found = map (function_notes j) (programs.reached j.profile p) in
    ap (λ (fs : List FunctionNotes). let ws = spec.words_in fs os in made j p fs ws (all_needs ws fs os no_needs) places)
    (reached_are j p)
    ∙ ap (λ (ws : List Word). made j p found ws (all_needs ws found os no_needs) places) (words_are j p)
    ∙ ap (λ (x : Held). made j p found (needed_words j.profile p) x places)
    (needs_are j (needed_words j.profile p) (programs.reached j.profile p) p.outers)
    ∙ ap (λ (ats : List ℕ). made j p found (needed_words j.profile p) (needs_notes (needs_of j.profile p)) ats)
    (offsets_are j p)

pub overview_is : (j : Judged) (x : ProgramNotes) → x ≡ program_notes j (program_of j.externals) →
    spec.over j.profile x ≡ spec.overview j
unfolding overview
overview_is j x is = ap (spec.over j.profile) is ∙ whole_is j (program_of j.externals)

-- ---- before `main` is called

met_are : (m : Machine) (x : Needs) →
    map (places_of m.program) (offsets_in (reverse (needed_list m.program.scope (needs_notes x)))) ≡ met_by m x
met_are m x = ap (map (places_of m.program)) (needed_are m.program.scope x)

pub met_is : (j : Judged) → (spec.prepared (spec.overview j)).met ≡ met_by (spec.machine j) (spec.needs_in j)
unfolding prepared overview machine needs_in
met_is j = met_are (machine_of j.externals j.profile silent least 1) (spec.needs_in j)

pub made_are : (j : Judged) →
    (spec.prepared (spec.overview j)).objects ≡ objects_of (spec.machine j) (spec.needs_in j)
unfolding prepared overview machine needs_in
made_are j = objects_are (machine_of j.externals j.profile silent least 1) (spec.needs_in j)
