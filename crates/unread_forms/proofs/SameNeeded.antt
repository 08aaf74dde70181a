-- What is kept by summaries is what is needed.
use Rattle.std.proofs.Common.{◌≡◌, ◌≤◌, ℕ, zero, suc, List, [], ◌∷◌, ◌||◌, cond, drop, length, min, Option, Some, None, map, refl, ap, ◌∙◌}
use Rattle.std.proofs.Common.{arith}
use Rattle.std.specs.Prelude.{nat_eq, option_map}
use Rattle.c_language.specs.declared.unit.External.{External}
use Rattle.c_means.specs.Names.{Word}
use Rattle.c_means.specs.Programs.{Function, Outer, has_function, is_needed, needed_words, program_of, reached}
use Rattle.c_item_notes.specs.Levels.{Judged}
use Rattle.c_reach.specs.declared.summaries.FunctionNotes.{FunctionNotes}
use Rattle.c_reach.specs.Reaching.{has_at}
use Rattle.c_reach.specs.Summaries.{function_notes}
use Rattle.c_program_notes.specs.declared.outers.OuterNotes.{OuterNotes}
use Rattle.c_program_notes.specs.Summaries.{outer_notes}
use Rattle.c_program_notes.specs.Wholes.{overview}
use Rattle.unread_forms.specs.Needed.{defines_noted, defines_one, is_kept, keeps, kept, kept_among, kept_noted}

has_noted : (j : Judged) (f : Function) (fs : List Function) → has_at f.at (map (function_notes j) fs) ≡ has_function f fs
has_noted j f [] = refl
has_noted j f (g ∷ fs) = ap (λ b. nat_eq f.at g.at || b) (has_noted j f fs)

defines_same : (j : Judged) (fs : List Function) (o : Option Function)
    → defines_noted (map (function_notes j) fs) (option_map (function_notes j) o) ≡ defines_one fs o
defines_same j fs None = refl
defines_same j fs (Some f) = has_noted j f fs

keeps_same : (j : Judged) (ws : List Word) (fs : List Function) (o : Outer)
    → keeps ws (map (function_notes j) fs) (outer_notes j o) ≡ is_kept ws fs o
keeps_same j ws fs o = ap (λ b. is_needed ws o || b) (defines_same j fs o.function)

kept_same : (j : Judged) (ws : List Word) (fs : List Function) (os : List Outer) (xs : List External)
    → kept_noted ws (map (function_notes j) fs) (map (outer_notes j) os) xs ≡ kept_among ws fs os xs
kept_same j ws fs [] xs = refl
kept_same j ws fs (o ∷ os) [] = refl
kept_same j ws fs (o ∷ os) (x ∷ xs) =
    let all = map (function_notes j) fs in
    ap (λ b. cond b (x ∷ kept_noted ws all (map (outer_notes j) os) xs) (kept_noted ws all (map (outer_notes j) os) xs)) (keeps_same j ws fs o)
    ∙ ap (λ l. cond (is_kept ws fs o) (x ∷ l) l) (kept_same j ws fs os xs)

-- of a source that was read once
pub kept_in : (j : Judged) → let o = overview j in
    kept_noted o.words o.reached o.program.outers j.externals ≡ kept j.externals j.profile
unfolding overview kept
kept_in j =
    let p = program_of j.externals in
    kept_same j (needed_words j.profile p) (reached j.profile p) p.outers j.externals

-- ---- behind the last one

none_left : (ws : List Word) (found : List FunctionNotes) (os : List OuterNotes) → kept_noted ws found os [] ≡ []
none_left ws found [] = refl
none_left ws found (o ∷ os) = refl

pub no_more : (ws : List Word) (found : List FunctionNotes) (os : List OuterNotes) (xs : List External) (i : ℕ) → min (length os) (length xs) ≤ i
    → kept_noted ws found (drop i os) (drop i xs) ≡ []
no_more ws found [] xs zero h = refl
no_more ws found [] xs (suc i) h = refl
no_more ws found (o ∷ os) [] zero h = refl
no_more ws found (o ∷ os) [] (suc i) h = none_left ws found (drop i os)
no_more ws found (o ∷ os) (x ∷ xs) zero h = absurd (omega (arith, h))
no_more ws found (o ∷ os) (x ∷ xs) (suc i) h = no_more ws found os xs i (omega (arith, h))
