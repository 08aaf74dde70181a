-- What is assumed over what was noted is what the source's runs rest on.
use Rattle.std.proofs.Common.{◌≡◌, ℕ, Bool, cond, List, [], ◌∷◌, ◌++◌, map, reverse}
use Rattle.std.proofs.Common.{Result, Ok, Err, IfOk, refl, ap, ◌∙◌}
use Rattle.std.specs.Prelude.{nat_eq, ◌&&◌, ◌||◌}
use Rattle.c_language.specs.declared.unit.External.{External}
use Rattle.c_language.specs.Scopes.{Name}
use Rattle.c_means.specs.Parts.{Level, Site}
use Rattle.c_means.specs.declared.profile.Profile.{Profile}
use Rattle.c_means.specs.Checks.{breaches_of, call_breaches, function_breaches, item_breaches, outer_breaches}
use Rattle.c_means.specs.Checks.{rule_breaches, unread_breaches}
use Rattle.c_means.specs.Items.{Lasting}
use Rattle.c_means.specs.Programs.{Function, Needs, Program, functions_in, needed, needs_of, program_of, reached}
use Rattle.c_means.specs.Runs.{Machine, bare, rule_of}
use Rattle.c_means.specs.Units.{IsAcceptedSource}
use Rattle.c_notes.specs.CallsTold.{told_calls, told_site}
use Rattle.c_item_notes.specs.declared.items.LastingNote.{LastingNote}
use Rattle.c_item_notes.specs.ItemTellings.{lasting_notes}
use Rattle.c_item_notes.specs.Levels.{Judged, level_in}
use Rattle.c_reach.specs.declared.summaries.FunctionNotes.{FunctionNotes}
use Rattle.c_reach.specs.Summaries.{function_notes}
use Rattle.c_program_notes.specs.declared.whole.Overview.{Overview}
use Rattle.c_program_notes.specs.Wholes.{overview, overview_of}
use Rattle.c_program_notes.specs.Wholes as wholes
use Rattle.c_program_notes.proofs.Together.{functions_are}
use Rattle.diagnoses.specs.declared.assumption.Assumption.{Assumption}
use Rattle.assumptions.specs.Asked.{asked, asked_of}
use Rattle.assumptions.specs.Assumed.{assumptions_of, by_name, object, outside, program_in}
use Rattle.assumptions.specs.Assumed as spec
use Rattle.assumptions.specs.Noted.{assumptions_noted, outside_noted}
use Rattle.assumptions.specs.Noted as noted
use Rattle.assumptions.proofs.SameAsked.{needs_same, reached_same}
use Rattle.assumptions.proofs.Telling.{call_is, summaries}

-- ---- where no rule is broken

cons_nil : {A : Type 0} (x : A) (xs : List A) → x ∷ xs ≡ [] → ⊥
cons_nil x xs e = cc

no_first : {A : Type 0} (xs ys : List A) → xs ++ ys ≡ [] → xs ≡ []
no_first [] ys e = refl
no_first (x ∷ xs) ys e = absurd (cons_nil x (xs ++ ys) e)

no_second : {A : Type 0} (xs ys : List A) → xs ++ ys ≡ [] → ys ≡ []
no_second [] ys e = e
no_second (x ∷ xs) ys e = absurd (cons_nil x (xs ++ ys) e)

abbrev machine : Judged → Machine
machine j = program_in j.externals j.profile

-- ---- calls

level_is : (j : Judged) → level_in (asked_of j) ≡ bare (machine j) 1
unfolding level_in
level_is j = refl

calls_at : (j : Judged) (l : Level) → l ≡ bare (machine j) 1 → (fs : List (Level → Site)) →
    call_breaches (machine j) fs ≡ [] →
    noted.outside_calls (asked j.profile) (summaries j) (told_calls (asked j.profile) l fs)
    ≡ spec.outside_calls (machine j) fs
calls_at j l is [] kept = refl
calls_at j l is (f ∷ fs) kept =
    let m = machine j in
    let g = f (bare m 1) in
    let own = rule_breaches m g (rule_of m g) in
    ap (λ (k : Level). noted.name_if_outside (asked j.profile) (summaries j) (told_site (asked j.profile) (f k))
    ++ noted.outside_calls (asked j.profile) (summaries j) (told_calls (asked j.profile) l fs)) is
    ∙ ap (λ (names : List Name). names
    ++ noted.outside_calls (asked j.profile) (summaries j) (told_calls (asked j.profile) l fs))
    (call_is j g (no_first own (call_breaches m fs) kept))
    ∙ ap (λ (names : List Name). spec.name_if_outside g.callee.name (rule_of m g) ++ names)
    (calls_at j l is fs (no_second own (call_breaches m fs) kept))

functions_at : (j : Judged) (fs : List Function) → function_breaches (machine j) fs ≡ [] →
    noted.called_outside (asked j.profile) (summaries j) (map (function_notes (asked_of j)) fs)
    ≡ spec.called_outside (machine j) fs
functions_at j [] kept = refl
functions_at j (f ∷ fs) kept =
    let m = machine j in
    let unread = unread_breaches f.unread in
    let item = item_breaches m f.body in
    let before = no_first (unread ++ item) (function_breaches m fs) kept in
    let calls = no_second f.body.breaches (call_breaches m f.body.calls) (no_second unread item before) in
    ap (λ (names : List Name). names
    ++ noted.called_outside (asked j.profile) (summaries j) (map (function_notes (asked_of j)) fs))
    (calls_at j (level_in (asked_of j)) (level_is j) f.body.calls calls)
    ∙ ap (λ (names : List Name). spec.outside_calls m f.body.calls ++ names)
    (functions_at j fs (no_second (unread ++ item) (function_breaches m fs) kept))

outside_at : (j : Judged) → IsAcceptedSource j.externals j.profile →
    outside_noted (asked j.profile) (overview_of (asked_of j) (program_of j.externals))
    ≡ spec.called_outside (machine j) (reached j.profile (program_of j.externals))
unfolding outside_noted
outside_at j accepted =
    let m = machine j in
    let p = program_of j.externals in
    ap (λ (fs : List FunctionNotes). noted.called_outside (asked j.profile) (reverse fs)
    (map (function_notes (asked_of j)) (reached (asked j.profile) p))) (functions_are (asked_of j) p.outers)
    ∙ ap (λ (fs : List Function). noted.called_outside (asked j.profile) (summaries j)
    (map (function_notes (asked_of j)) fs)) (reached_same j.profile p)
    ∙ functions_at j (reached j.profile p)
    (no_second (outer_breaches m (needed j.profile p)) (function_breaches m (reached j.profile p)) accepted.kept)

-- ---- objects

defined_is : (at : ℕ) (xs : List Lasting) → noted.is_defined at (lasting_notes xs) ≡ spec.is_defined at xs
defined_is at [] = refl
defined_is at (x ∷ xs) = ap (λ b. (x.is_defined && nat_eq at x.entry.at) || b) (defined_is at xs)

undefined_is : (all xs : List Lasting) →
    noted.undefined_in (lasting_notes all) (lasting_notes xs) ≡ spec.undefined_in all xs
undefined_is all [] = refl
undefined_is all (x ∷ xs) =
    ap (λ (b : Bool). cond b [] (x.entry.name ∷ []) ++ noted.undefined_in (lasting_notes all) (lasting_notes xs))
    (defined_is x.entry.at all)
    ∙ ap (λ (names : List Name). cond (spec.is_defined x.entry.at all) [] (x.entry.name ∷ []) ++ names)
    (undefined_is all xs)

objects_at : (j : Judged) →
    let noted_here = lasting_notes (needs_of (asked j.profile) (program_of j.externals)).lasting in
    let here = (needs_of j.profile (program_of j.externals)).lasting in
    noted.undefined_in noted_here noted_here ≡ spec.undefined_in here here
objects_at j =
    let p = program_of j.externals in
    let here = (needs_of j.profile p).lasting in
    ap (λ (x : Needs). noted.undefined_in (lasting_notes x.lasting) (lasting_notes x.lasting)) (needs_same j.profile p)
    ∙ undefined_is here here

-- ---- all of it

noted_are : (j : Judged) → IsAcceptedSource j.externals j.profile →
    assumptions_noted j.profile (asked j.profile) (overview (asked_of j)) ≡ assumptions_of j.externals j.profile
unfolding assumptions_noted overview assumptions_of
noted_are j accepted =
    let xs = lasting_notes (needs_of (asked j.profile) (program_of j.externals)).lasting in
    ap (λ (names : List Name). map (outside j.profile) (by_name names) ++ map object (by_name (noted.undefined_in xs xs)))
    (outside_at j accepted)
    ∙ ap (λ (names : List Name). map (outside j.profile) (spec.outside_names (machine j)) ++ map object (by_name names))
    (objects_at j)

-- of what answers it, in the names of the calls
pub are_those_of : {E : Type 0} (j : Judged) (p : Profile) (x : Overview) (r : Result (List Assumption) E) →
    IsAcceptedSource j.externals j.profile → p ≡ asked j.profile →
    x ≡ overview (record { externals = j.externals; profile = p }) →
    IfOk r (λ all. all ≡ assumptions_noted j.profile p x) →
    IfOk r (λ all. all ≡ assumptions_of j.externals j.profile)
are_those_of j p x (Ok all) accepted is over found =
    found ∙ ap (assumptions_noted j.profile p) over
    ∙ ap (λ (q : Profile). assumptions_noted j.profile q (overview (record { externals = j.externals; profile = q }))) is
    ∙ noted_are j accepted
are_those_of j p x (Err e) accepted is over found = tt
