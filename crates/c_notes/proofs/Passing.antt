-- Arguments: what code collects of them from left to right is what is noted of them together.
use Rattle.std.proofs.Common.{◌≡◌, ℕ, List, [], ◌∷◌, ◌++◌, Option, Some, map, refl, sym, ap, ◌∙◌}
use Rattle.std.proofs.lemmas.List.{append-nil, append_assoc}
use Rattle.c_language.specs.declared.expr.Expr.{Expr}
use Rattle.c_language.specs.declared.ctype.CType.{CType}
use Rattle.c_language.specs.Scopes.{Scope}
use Rattle.c_language.specs.Typing.{Typed, told_of, used, used_told}
use Rattle.c_language.specs.Trees.{typed, through_one}
use Rattle.c_language.specs.Trees as says
use Rattle.c_means.specs.Parts.{Part, Level}
use Rattle.c_means.specs.Operators.{value_type}
use Rattle.c_means.specs.Expressions.{promoted_type, passed, passed_types, passed_texts}
use Rattle.c_means.specs.declared.profile.Profile.{Profile}
use Rattle.c_means.specs.Notes.{noted, through}
use Rattle.c_notes.specs.declared.arguments.ArgumentNotes.{ArgumentNotes}
use Rattle.c_notes.specs.declared.notes.ExprNotes.{ExprNotes}
use Rattle.c_notes.specs.declared.notes.NotedExpr.{NotedExpr}
use Rattle.c_notes.specs.CallsTold.{told_calls}
use Rattle.c_notes.specs.Tellings.{notes_of, passed_as, and_noted}
use Rattle.c_notes.specs.Relations.{Knows, IsNoted, Passed, with_argument, with_arguments, behind}
use Rattle.c_notes.proofs.Parts.{noted_typed, told_both}

abbrev pub value_types : List Part → List (Option CType)
value_types [] = []
value_types (p ∷ ps) = promoted_type (value_type p.typed) ∷ value_types ps

abbrev pub texts_of : Level → List Part → List (Option (List ℕ))
texts_of l [] = []
texts_of l (p ∷ ps) = p.text l ∷ texts_of l ps

pub passed_types_are : (ps : List Part) (ts : List CType) → passed_types (passed ps ts) ≡ passed_as (value_types ps) ts
passed_types_are [] ts = refl
passed_types_are (p ∷ ps) [] =
    ap (λ (xs : List (Option CType)). promoted_type (value_type p.typed) ∷ xs) (passed_types_are ps [])
passed_types_are (p ∷ ps) (t ∷ ts) = ap (λ (xs : List (Option CType)). Some t ∷ xs) (passed_types_are ps ts)

pub passed_texts_are : (l : Level) (ps : List Part) (ts : List CType) → passed_texts (passed ps ts) l ≡ texts_of l ps
passed_texts_are l [] ts = refl
passed_texts_are l (p ∷ ps) [] = ap (λ xs. p.text l ∷ xs) (passed_texts_are l ps [])
passed_texts_are l (p ∷ ps) (t ∷ ts) = ap (λ xs. p.text l ∷ xs) (passed_texts_are l ps ts)

-- ---- one list behind another

pub types_are : (p : Profile) (l : Level) (es : List Expr) (z : Passed) →
    (with_arguments p l es z).found.types ≡ z.found.types ++ value_types (through (map noted es) z.after).parts
types_are p l [] z = sym (append-nil z.found.types)
types_are p l (e ∷ es) z =
    let n = noted e z.after in
    types_are p l es (with_argument p l n z)
    ∙ append_assoc z.found.types (promoted_type (value_type n.part.typed) ∷ [])
    (value_types (through (map noted es) n.part.typed.after).parts)

pub texts_are : (p : Profile) (l : Level) (es : List Expr) (z : Passed) →
    (with_arguments p l es z).found.texts ≡ z.found.texts ++ texts_of l (through (map noted es) z.after).parts
texts_are p l [] z = sym (append-nil z.found.texts)
texts_are p l (e ∷ es) z =
    let n = noted e z.after in
    texts_are p l es (with_argument p l n z)
    ∙ append_assoc z.found.texts (n.part.text l ∷ []) (texts_of l (through (map noted es) n.part.typed.after).parts)

pub calls_are : (p : Profile) (l : Level) (es : List Expr) (z : Passed) →
    (with_arguments p l es z).found.calls ≡ z.found.calls ++ told_calls p l (through (map noted es) z.after).calls
calls_are p l [] z = sym (append-nil z.found.calls)
calls_are p l (e ∷ es) z =
    let n = noted e z.after in
    let more = (through (map noted es) n.part.typed.after).calls in
    calls_are p l es (with_argument p l n z)
    ∙ append_assoc z.found.calls (told_calls p l n.notes.calls) (told_calls p l more)
    ∙ ap (λ cs. z.found.calls ++ cs) (sym (told_both p l n.notes.calls more))

pub called_are : (p : Profile) (l : Level) (es : List Expr) (z : Passed) →
    (with_arguments p l es z).found.called ≡ z.found.called ++ (through (map noted es) z.after).called
called_are p l [] z = sym (append-nil z.found.called)
called_are p l (e ∷ es) z =
    let n = noted e z.after in
    called_are p l es (with_argument p l n z)
    ∙ append_assoc z.found.called n.notes.called (through (map noted es) n.part.typed.after).called

pub after_is : (p : Profile) (l : Level) (es : List Expr) (z : Passed) →
    (with_arguments p l es z).after ≡ (through (map noted es) z.after).after
after_is p l [] z = refl
after_is p l (e ∷ es) z = after_is p l es (with_argument p l (noted e z.after) z)

abbrev pub said_by : Passed → says.Through
said_by z = record { arguments = z.found.arguments; after = z.after }

pub said_are : (p : Profile) (l : Level) (es : List Expr) (z : Passed) →
    said_by (with_arguments p l es z) ≡ says.through (said_by z) (map typed es)
said_are p l [] z = refl
said_are p l (e ∷ es) z =
    said_are p l es (with_argument p l (noted e z.after) z)
    ∙ ap (λ (t : Typed). says.through (through_one (said_by z) t) (map typed es)) (noted_typed e z.after)

-- one more argument, as a value
pub one_argument : (p : Profile) (l : Level) (s s1 : Scope) (x u : NotedExpr) (e : Expr) (xs ys : ArgumentNotes) →
    Knows p l → IsNoted p e s x s1 → u ≡ record x { told = used_told s1.tables x.told } → ys ≡ and_noted xs u →
    behind ys s1 ≡ with_argument p l (noted e s) (behind xs s)
one_argument p l s s1 x u e xs ys knows h value found =
    ap (λ (k : ArgumentNotes). behind k s1) (found ∙ ap (and_noted xs) value)
    ∙ ap (λ (k : ExprNotes). behind (and_noted xs (record { told = used_told s1.tables x.told; notes = k })) s1)
    (h.notes l knows)
    ∙ ap (λ (t : Typed). behind (and_noted xs (record { told = told_of (used t); notes = notes_of p l (noted e s) }))
    t.after) (h.typed ∙ sym (noted_typed e s))
