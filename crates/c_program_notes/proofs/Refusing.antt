-- The first broken rule over summaries is that of `c_means`.
use Rattle.std.proofs.Common.{◌≡◌, ℕ, Bool, true, false, cond, List, [], ◌∷◌, ◌++◌, length, Option, Some, None, map, reverse, refl, sym, ap, ◌∙◌}
use Rattle.std.specs.Prelude.{option_map, is_some}
use Rattle.c_language.specs.declared.scope.Entry.{Entry}
use Rattle.c_language.specs.Scopes.{Name, Scope, entry_in}
use Rattle.c_means.specs.Parts.{Level, Site}
use Rattle.c_means.specs.declared.breach.Breach.{Breach}
use Rattle.c_means.specs.declared.profile.FillFunction.{FillFunction}
use Rattle.c_means.specs.declared.profile.LogFunction.{LogFunction}
use Rattle.c_means.specs.declared.profile.LogText.{LogText}
use Rattle.c_means.specs.declared.profile.LogText.TheVariants as log_
use Rattle.c_means.specs.Checks.{rule_breaches, call_breaches, item_breaches, function_breaches, final_breaches}
use Rattle.c_means.specs.Checks.{lasting_breaches, outer_breaches, breaches_of, unread_breaches}
use Rattle.c_means.specs.Checks as checks
use Rattle.c_means.specs.Items.{Item, Lasting}
use Rattle.c_means.specs.Names.{Word}
use Rattle.c_means.specs.Programs.{Function, Outer, declares_some, functions_in, function_named, main', needed_among}
use Rattle.c_means.specs.Programs.{needed_words, reached}
use Rattle.c_means.specs.Rules.{Library, body_or, callee_taking, fill_of, identity_index, identity_or, library_named}
use Rattle.c_means.specs.Rules.{library_of, library_or, log_of, prelude_or_outside, rule_by}
use Rattle.c_means.specs.Runs.{Machine, bare, prelude_of, rule_of}
use Rattle.c_means.specs.Units.{least, machine_of, silent}
use Rattle.c_checks.specs.Calls as calls
use Rattle.c_checks.specs.Refusals.{least_of, lesser}
use Rattle.c_checks.proofs.Least.{of_both}
use Rattle.c_notes.specs.declared.calls.CallNote.{CallNote}
use Rattle.c_notes.specs.CallsTold.{bodiless_least, library_least, outside_least, prelude_count, prelude_least}
use Rattle.c_notes.specs.CallsTold.{told_calls, told_site}
use Rattle.c_notes.specs.CallsTold as told
use Rattle.c_item_notes.specs.ItemTellings.{item_notes, lasting_note, lasting_notes}
use Rattle.c_item_notes.specs.Levels.{Judged, level_in}
use Rattle.c_reach.specs.declared.summaries.FunctionNotes.{FunctionNotes}
use Rattle.c_reach.specs.Reaching.{named_in}
use Rattle.c_reach.specs.Summaries.{function_notes}
use Rattle.c_reach.proofs.SameAsDefined.{named_is}
use Rattle.c_program_notes.specs.declared.accepting.Refusal.{Refusal}
use Rattle.c_program_notes.specs.declared.accepting.Refusal.TheVariants as refusal_
use Rattle.c_program_notes.specs.Refused as spec
use Rattle.c_program_notes.specs.Summaries.{outer_notes}
use Rattle.c_program_notes.specs.Wholes.{overview, overview_of}
use Rattle.c_program_notes.specs.Refused.{refusal_by, refusal_of, whole_least}
use Rattle.c_program_notes.specs.Wholes as wholes
use Rattle.c_program_notes.proofs.PreludeCounts.{prelude_counts}
use Rattle.c_program_notes.proofs.Together.{functions_are}

abbrev machine : Judged → Machine
machine j = machine_of j.externals j.profile silent least 1

-- ---- calls, rule by rule

abbrev count : Function → ℕ
count f = length f.parameters

by_fill : (g : Site) (o : Option FillFunction) →
    least_of (checks.fill_breaches o g) ≡ outside_least g.at g.types o
by_fill g None = refl
by_fill g (Some f) = refl

by_prelude : (m : Machine) (g : Site) (o : Option Function) →
    least_of (rule_breaches m g (prelude_or_outside o))
    ≡ prelude_least g.at g.types (fill_of m.profile g.callee.name) (option_map count o)
by_prelude m g None = by_fill g (fill_of m.profile g.callee.name)
by_prelude m g (Some f) = refl

by_library : (m : Machine) (g : Site) (l : Option Library) (o : Option Function) →
    least_of (rule_breaches m g (library_or l o))
    ≡ library_least g.at g.types (fill_of m.profile g.callee.name) (option_map count o) (is_some l)
by_library m g None o = by_prelude m g o
by_library m g (Some l) o = refl

by_body : (m : Machine) (j : Judged) (g : Site) (f : Option Function) (b : Option Breach) →
    least_of (rule_breaches m g (body_or None (library_of g) (prelude_of m (callee_taking g) g.callee.name))) ≡ b →
    least_of (rule_breaches m g (body_or f (library_of g) (prelude_of m (callee_taking g) g.callee.name)))
    ≡ spec.counted_call (told.open_call g.at g.callee.name (length g.types) b) (length g.types)
    (option_map (function_notes j) f)
by_body m j g None b h = h
by_body m j g (Some f) b h = refl

abbrev functions_of : Judged → List Function
functions_of j = functions_in (machine j).program.outers

abbrev summaries : Judged → List FunctionNotes
summaries j = reverse (map (function_notes j) (functions_of j))

bodiless : (j : Judged) (g : Site) →
    least_of (rule_breaches (machine j) g (body_or None (library_of g) (prelude_of (machine j) (callee_taking g) g.callee.name)))
    ≡ bodiless_least j.profile g.at g.scope.tables g.callee g.types
bodiless j g =
    by_library (machine j) g (library_of g) (prelude_of (machine j) (callee_taking g) g.callee.name)
    ∙ ap (λ (n : Option ℕ). library_least g.at g.types (fill_of j.profile g.callee.name) n (is_some (library_of g)))
    (prelude_counts (callee_taking g) g.callee.name)

by_rule : (j : Judged) (g : Site) (f : Option LogFunction) (i : Option ℕ) →
    least_of (rule_breaches (machine j) g (rule_by f i (function_named (functions_of j) g.callee.name) (library_of g)
    (prelude_of (machine j) (callee_taking g) g.callee.name)))
    ≡ spec.call_least (summaries j)
    (told.call_by j.profile g.at g.scope.tables g.callee g.types g.texts f i)
by_rule j g (Some f) i = ap least_of (by_log f.text)
  where
    by_log : (text : LogText) → checks.log_breaches text g ≡ calls.log_breaches g.at g.texts g.types text
    by_log (log_.Format k newline) = refl
    by_log (log_.Text format) = refl
by_rule j g None (Some i) = refl
by_rule j g None None =
    by_body (machine j) j g (function_named (functions_of j) g.callee.name)
    (bodiless_least j.profile g.at g.scope.tables g.callee g.types) (bodiless j g)
    ∙ ap (λ (f : Option FunctionNotes). spec.counted_call (told.open_call g.at g.callee.name (length g.types)
    (bodiless_least j.profile g.at g.scope.tables g.callee g.types)) (length g.types) f)
    (sym (named_is j.profile j (functions_of j) g.callee.name))

call_is : (j : Judged) (g : Site) →
    least_of (rule_breaches (machine j) g (rule_of (machine j) g)) ≡ spec.call_least (summaries j) (told_site j.profile g)
call_is j g = by_rule j g (log_of j.profile g.callee.name) (identity_index j.profile g.callee.name)

calls_at : (j : Judged) (l : Level) → l ≡ bare (machine j) 1 → (fs : List (Level → Site)) →
    least_of (call_breaches (machine j) fs) ≡ spec.calls_least (summaries j) (told_calls j.profile l fs)
calls_at j l is [] = refl
calls_at j l is (f ∷ fs) =
    let m = machine j in
    let g = f (bare m 1) in
    of_both (rule_breaches m g (rule_of m g)) (call_breaches m fs)
    ∙ ap (λ (b : Option Breach). lesser b (least_of (call_breaches m fs)))
    (call_is j g ∙ ap (λ (k : Level). spec.call_least (summaries j) (told_site j.profile (f k))) (sym is))
    ∙ ap (λ (b : Option Breach). lesser (spec.call_least (summaries j) (told_site j.profile (f l))) b) (calls_at j l is fs)

level_is : (j : Judged) → level_in j ≡ bare (machine j) 1
unfolding level_in
level_is j = refl

item_is : (j : Judged) (x : Item) →
    least_of (item_breaches (machine j) x) ≡ spec.item_least (summaries j) (item_notes j x)
item_is j x =
    of_both x.breaches (call_breaches (machine j) x.calls)
    ∙ ap (lesser (least_of x.breaches)) (calls_at j (level_in j) (level_is j) x.calls)

-- ---- functions

functions_are_least : (j : Judged) (fs : List Function) →
    least_of (function_breaches (machine j) fs)
    ≡ spec.functions_least (summaries j) (map (function_notes j) fs)
functions_are_least j [] = refl
functions_are_least j (f ∷ fs) =
    let unread = unread_breaches f.unread in
    let item = item_breaches (machine j) f.body in
    of_both (unread ++ item) (function_breaches (machine j) fs)
    ∙ ap (λ (b : Option Breach). lesser b (least_of (function_breaches (machine j) fs)))
    (of_both unread item ∙ ap (lesser (least_of unread)) (item_is j f.body))
    ∙ ap (lesser (spec.function_least (summaries j) (function_notes j f))) (functions_are_least j fs)

-- ---- declarations

final_is : (s : Scope) (x : Lasting) (e : Option Entry) →
    least_of (final_breaches s x e) ≡ spec.final_least s.tables (lasting_note x) e
final_is s x None = refl
final_is s x (Some e) = refl

lasting_is : (s : Scope) (xs : List Lasting) →
    least_of (lasting_breaches s xs) ≡ spec.lasting_least s (lasting_notes xs)
lasting_is s [] = refl
lasting_is s (x ∷ xs) =
    of_both (final_breaches s x (entry_in s.file x.entry.name)) (lasting_breaches s xs)
    ∙ ap (λ (b : Option Breach). lesser b (least_of (lasting_breaches s xs)))
    (final_is s x (entry_in s.file x.entry.name))
    ∙ ap (lesser (spec.note_least s (lasting_note x))) (lasting_is s xs)

outer_is : (j : Judged) (x : Outer) →
    least_of (item_breaches (machine j) x.item ++ lasting_breaches (machine j).program.scope x.item.lasting)
    ≡ lesser (spec.item_least (summaries j) (item_notes j x.item))
    (spec.lasting_least (machine j).program.scope (lasting_notes x.item.lasting))
outer_is j x =
    let s = (machine j).program.scope in
    of_both (item_breaches (machine j) x.item) (lasting_breaches s x.item.lasting)
    ∙ ap (λ (b : Option Breach). lesser b (least_of (lasting_breaches s x.item.lasting))) (item_is j x.item)
    ∙ ap (lesser (spec.item_least (summaries j) (item_notes j x.item))) (lasting_is s x.item.lasting)

if_needed : (j : Judged) (ws : List Word) (x : Outer) (xs : List Outer) (b : Bool) (r : Option Breach) →
    least_of (outer_breaches (machine j) xs) ≡ r →
    least_of (outer_breaches (machine j) (cond b (x ∷ xs) xs))
    ≡ lesser (cond b (lesser (spec.item_least (summaries j) (item_notes j x.item))
    (spec.lasting_least (machine j).program.scope (lasting_notes x.item.lasting))) None) r
if_needed j ws x xs true r h =
    of_both (item_breaches (machine j) x.item ++ lasting_breaches (machine j).program.scope x.item.lasting)
    (outer_breaches (machine j) xs)
    ∙ ap (λ (b : Option Breach). lesser b (least_of (outer_breaches (machine j) xs))) (outer_is j x)
    ∙ ap (lesser (lesser (spec.item_least (summaries j) (item_notes j x.item))
    (spec.lasting_least (machine j).program.scope (lasting_notes x.item.lasting)))) h
if_needed j ws x xs false r h = h

outers_are_least : (j : Judged) (ws : List Word) (xs : List Outer) →
    least_of (outer_breaches (machine j) (needed_among xs ws))
    ≡ spec.outers_least (summaries j) (machine j).program.scope ws (map (outer_notes j) xs)
outers_are_least j ws [] = refl
outers_are_least j ws (x ∷ xs) =
    if_needed j ws x (needed_among xs ws) (declares_some x.names.declares ws)
    (spec.outers_least (summaries j) (machine j).program.scope ws (map (outer_notes j) xs))
    (outers_are_least j ws xs)

-- ---- the whole source

least_is : (j : Judged) →
    least_of (breaches_of (machine j)) ≡ spec.whole_least (summaries j) (overview_of j (machine j).program)
unfolding whole_least
least_is j =
    let p = (machine j).program in
    let ws = needed_words j.profile p in
    of_both (outer_breaches (machine j) (needed_among p.outers ws))
    (function_breaches (machine j) (reached j.profile p))
    ∙ ap (λ (b : Option Breach). lesser b (least_of (function_breaches (machine j) (reached j.profile p))))
    (outers_are_least j ws p.outers)
    ∙ ap (lesser (spec.outers_least (summaries j) p.scope ws (map (outer_notes j) p.outers)))
    (functions_are_least j (reached j.profile p))

main_is : (j : Judged) (f : Option Function) →
    spec.is_main (option_map (function_notes j) f) ≡ checks.is_main f
main_is j None = refl
main_is j (Some f) = refl

has_main_is : (j : Judged) → spec.has_main (summaries j) ≡ checks.has_main (machine j)
has_main_is j =
    ap spec.is_main (named_is j.profile j (functions_of j) main')
    ∙ main_is j (function_named (functions_of j) main')

by_summaries : (j : Judged) →
    spec.refusal_by (summaries j) (overview_of j (machine j).program) ≡ spec.refusal_of (machine j)
unfolding refusal_by refusal_of
by_summaries j =
    ap (λ b. cond b (spec.broken_by (spec.whole_least (summaries j) (overview_of j (machine j).program)))
    (Some refusal_.NoMain)) (has_main_is j)
    ∙ ap (λ (b : Option Breach). cond (checks.has_main (machine j)) (spec.broken_by b) (Some refusal_.NoMain))
    (sym (least_is j))

-- why a source isn't accepted
pub refusal_is : (j : Judged) →
    spec.refusal_by (reverse (wholes.functions_in (overview j).program.outers)) (overview j)
    ≡ spec.refusal_of (wholes.machine j)
unfolding overview wholes.machine
refusal_is j =
    ap (λ (fs : List FunctionNotes). spec.refusal_by (reverse fs) (overview_of j (machine j).program))
    (functions_are j (machine j).program.outers)
    ∙ by_summaries j
