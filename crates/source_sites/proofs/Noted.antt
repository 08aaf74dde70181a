-- The log calls that are noted are those of `c_means`.
use Rattle.std.proofs.Common.{◌≡◌, ℕ, List, [], ◌∷◌, ◌++◌, Option, Some, None, map, refl, sym, ap, ◌∙◌}
use Rattle.c_means.specs.Parts.{Level}
use Rattle.c_means.specs.Parts as parts
use Rattle.c_means.specs.declared.profile.LogFunction.{LogFunction}
use Rattle.c_means.specs.Programs.{Function, function_named, functions_in, reached}
use Rattle.c_means.specs.Rules.{Library, body_or, callee_taking, identity_index, identity_or, library_of, library_or}
use Rattle.c_means.specs.Rules.{log_of, prelude_or_outside, rule_by}
use Rattle.c_means.specs.Runs.{Machine, bare, prelude_of, rule_of}
use Rattle.c_means.specs.Units.{least, machine_of, silent}
use Rattle.c_notes.specs.CallsTold.{told_calls, told_site}
use Rattle.c_notes.specs.CallsTold as told
use Rattle.c_item_notes.specs.Levels.{Judged, level_in}
use Rattle.c_reach.specs.Summaries.{function_notes}
use Rattle.c_program_notes.specs.Wholes.{overview}
use Rattle.source_sites.specs.declared.listing.Site.{Site}
use Rattle.source_sites.specs.Sites.{site_by, call_sites, function_sites, program_sites, noted_in, noted_site, noted_sites}

abbrev machine : Judged → Machine
machine j = machine_of j.externals j.profile silent least 1

-- ---- calls, rule by rule

no_library : (g : parts.Site) (l : Option Library) (p : Option Function) → site_by g (library_or l p) ≡ []
no_library g (Some l) p = refl
no_library g None (Some f) = refl
no_library g None None = refl

no_body : (g : parts.Site) (f : Option Function) (l : Option Library) (p : Option Function) → site_by g (body_or f l p) ≡ []
no_body g (Some f) l p = refl
no_body g None l p = no_library g l p

by_rule : (j : Judged) (g : parts.Site) (f : Option LogFunction) (i : Option ℕ) (b : Option Function) (l : Option Library)
    (p : Option Function) →
    site_by g (rule_by f i b l p)
    ≡ noted_site (told.call_by j.profile g.at g.scope.tables g.callee g.types g.texts f i)
by_rule j g (Some f) i b l p = refl
by_rule j g None (Some i) b l p = refl
by_rule j g None None b l p = no_body g b l p

call_is : (j : Judged) (g : parts.Site) → site_by g (rule_of (machine j) g) ≡ noted_site (told_site j.profile g)
call_is j g =
    by_rule j g (log_of j.profile g.callee.name) (identity_index j.profile g.callee.name)
    (function_named (functions_in (machine j).program.outers) g.callee.name) (library_of g)
    (prelude_of (machine j) (callee_taking g) g.callee.name)

calls_at : (j : Judged) (l : Level) → l ≡ bare (machine j) 1 → (fs : List (Level → parts.Site)) →
    call_sites (machine j) fs ≡ noted_sites (told_calls j.profile l fs)
calls_at j l is [] = refl
calls_at j l is (f ∷ fs) =
    ap (λ (k : List Site). k ++ call_sites (machine j) fs)
    (call_is j (f (bare (machine j) 1)) ∙ ap (λ (k : Level). noted_site (told_site j.profile (f k))) (sym is))
    ∙ ap (λ (k : List Site). noted_site (told_site j.profile (f l)) ++ k) (calls_at j l is fs)

level_is : (j : Judged) → level_in j ≡ bare (machine j) 1
unfolding level_in
level_is j = refl

functions_are : (j : Judged) (fs : List Function) →
    function_sites (machine j) fs ≡ noted_in (map (function_notes j) fs)
functions_are j [] = refl
functions_are j (f ∷ fs) =
    ap (λ (k : List Site). k ++ function_sites (machine j) fs) (calls_at j (level_in j) (level_is j) f.body.calls)
    ∙ ap (λ (k : List Site). noted_sites (told_calls j.profile (level_in j) f.body.calls) ++ k) (functions_are j fs)

-- of the whole source
pub sites_are : (j : Judged) → noted_in (overview j).reached ≡ program_sites (machine j)
unfolding overview
sites_are j = sym (functions_are j (reached j.profile (machine j).program))
