-- What is noted of the expressions of an initializer one by one is what is noted of them together.
use Rattle.std.proofs.Common.{◌≡◌, List, [], ◌∷◌, ◌++◌, Bool, Option, Some, None, refl, sym, ap, ◌∙◌}
use Rattle.std.proofs.lemmas.List.{append-nil, append_assoc}
use Rattle.c_language.specs.Scopes.{Name, Scope}
use Rattle.c_language.specs.Initials.{Filling}
use Rattle.c_means.specs.declared.breach.Breach.{Breach}
use Rattle.c_means.specs.Notes.{Noted}
use Rattle.c_means.specs.Initials.{Element, Evaluates, Indexes, evaluated, initial_of, all_calls, all_called}
use Rattle.c_means.specs.Initials.{not_static, all_not_static}
use Rattle.c_checks.specs.Refusals.{lesser, least_of}
use Rattle.c_checks.proofs.Least.{grouping, of_both}
use Rattle.c_notes.specs.declared.calls.CallNote.{CallNote}
use Rattle.c_notes.specs.CallsTold.{told_calls}
use Rattle.c_notes.proofs.Parts.{told_both}
use Rattle.c_item_notes.specs.declared.initials.InitialNotes.{InitialNotes}
use Rattle.c_item_notes.specs.Levels.{Judged, level_in, heard}
use Rattle.c_item_notes.specs.InitialTellings.{Seen, see, seen_in, and_heard, no_notes, initial_notes}

pub see_both : (j : Judged) (xs ys : List Element) (z : Seen) → see j (xs ++ ys) z ≡ see j ys (see j xs z)
see_both j [] ys z = refl
see_both j (Evaluates e ∷ xs) ys z = see_both j xs ys (and_heard (heard j (e z.after)) z.notes)
see_both j (Indexes e ∷ xs) ys z = see_both j xs ys (seen_in z.notes (e z.after).part.typed.after)

-- none is behind any
pub lesser_none : (b : Option Breach) → lesser b None ≡ b
lesser_none None = refl
lesser_none (Some x) = refl

abbrev made : List CallNote → List Name → Option Breach → InitialNotes
made a b c = record { calls = a; called = b; constant = c }

made_same : (a a' : List CallNote) (b b' : List Name) (c c' : Option Breach) → a ≡ a' → b ≡ b' → c ≡ c' →
    made a b c ≡ made a' b' c'
made_same a a' b b' c c' e f g = ap (λ x. made x b c) e ∙ ap (λ y. made a' y c) f ∙ ap (λ z. made a' b' z) g

abbrev and_all : Judged → InitialNotes → List Noted → InitialNotes
and_all j n xs = made (n.calls ++ told_calls j.profile (level_in j) (all_calls xs)) (n.called ++ all_called xs)
    (lesser n.constant (least_of (all_not_static xs)))

seen_notes : (j : Judged) (es : List Element) (z : Seen) →
    (see j es z).notes ≡ and_all j z.notes (evaluated es z.after)
seen_notes j [] z =
    sym (made_same _ _ _ _ _ _ (append-nil z.notes.calls) (append-nil z.notes.called) (lesser_none z.notes.constant))
seen_notes j (Evaluates e ∷ es) z =
    let x = e z.after in
    let n = z.notes in
    let more = evaluated es x.part.typed.after in
    let p = j.profile in
    let l = level_in j in
    seen_notes j es (and_heard (heard j x) n)
    ∙ made_same _ (n.calls ++ told_calls p l (x.notes.calls ++ all_calls more)) _ (n.called ++ (x.notes.called ++ all_called more))
    _ (lesser n.constant (least_of (not_static x ++ all_not_static more)))
    (append_assoc n.calls (told_calls p l x.notes.calls) (told_calls p l (all_calls more))
    ∙ ap (λ (cs : List CallNote). n.calls ++ cs) (sym (told_both p l x.notes.calls (all_calls more))))
    (append_assoc n.called x.notes.called (all_called more))
    (sym (grouping n.constant (least_of (not_static x)) (least_of (all_not_static more)))
    ∙ ap (lesser n.constant) (sym (of_both (not_static x) (all_not_static more))))
seen_notes j (Indexes e ∷ es) z = seen_notes j es (seen_in z.notes (e z.after).part.typed.after)

-- all expressions of an initializer
pub notes_are : (j : Judged) (es : List Element) (s : Scope) (b : Bool) (y : Filling) →
    (see j es (seen_in no_notes s)).notes ≡ initial_notes j (initial_of b y (evaluated es s))
notes_are j es s b y = seen_notes j es (seen_in no_notes s)
