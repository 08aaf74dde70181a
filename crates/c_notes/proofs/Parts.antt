-- What is noted of a form over its parts, from what the code has found of them: for forms of no, one, two and three
-- parts.
use Rattle.std.proofs.Common.{◌≡◌, List, [], ◌∷◌, ◌++◌, Option, refl, sym, ap, ◌∙◌}
use Rattle.c_language.specs.declared.expr.Expr.{Expr}
use Rattle.c_language.specs.declared.shown.Shown.{Shown}
use Rattle.c_language.specs.Scopes.{Scope}
use Rattle.c_language.specs.Typing.{Typed, typed_in}
use Rattle.c_language.specs.Trees.{typed}
use Rattle.c_means.specs.Parts.{Part, Level, Site}
use Rattle.c_means.proofs.Fusion.{part_typed}
use Rattle.c_means.specs.declared.profile.Profile.{Profile}
use Rattle.c_means.specs.Notes.{Noted, noted}
use Rattle.c_means.proofs.RunFusion.{part_noted}
use Rattle.c_notes.specs.declared.notes.ExprNotes.{ExprNotes}
use Rattle.c_notes.specs.declared.notes.NotedExpr.{NotedExpr}
use Rattle.c_notes.specs.CallsTold.{told_site, told_calls}
use Rattle.c_notes.specs.Tellings.{notes_of}
use Rattle.c_notes.specs.Relations.{Knows, IsNoted}

-- what is noted of an expression says to the types what the expression says
pub noted_typed : (e : Expr) (s : Scope) → (noted e s).part.typed ≡ typed e s
noted_typed e s = ap (λ (p : Part). p.typed) (part_noted e s) ∙ part_typed e s

pub told_both : (p : Profile) (l : Level) (xs ys : List (Level → Site)) →
    told_calls p l (xs ++ ys) ≡ told_calls p l xs ++ told_calls p l ys
told_both p l [] ys = refl
told_both p l (f ∷ fs) ys = ap (λ zs. told_site p (f l) ∷ zs) (told_both p l fs ys)

-- the scope behind a part
pub behind_part : (p : Profile) (e : Expr) (s : Scope) (x : NotedExpr) (s1 : Scope) → IsNoted p e s x s1 →
    (noted e s).part.typed.after ≡ s1
behind_part p e s x s1 h = ap (λ (t : Typed). t.after) (noted_typed e s ∙ sym h.typed)

-- what is shown
shown_by : (e : Expr) (s : Scope) (z : NotedExpr) (s1 : Scope) (n : Noted) → typed_in z.told s1 ≡ typed e s →
    noted e s ≡ n → z.told.shown ≡ n.part.typed.shown
shown_by e s z s1 n said is =
    ap (λ (t : Typed). t.shown) (said ∙ sym (noted_typed e s) ∙ ap (λ (m : Noted). m.part.typed) is)

pub of_none : (p : Profile) (l : Level) (e : Expr) (s : Scope) (z : NotedExpr) (s1 : Scope) (n : Noted)
    (g : Option Shown → ExprNotes) → g n.part.typed.shown ≡ notes_of p l n → noted e s ≡ n →
    typed_in z.told s1 ≡ typed e s → z.notes ≡ g z.told.shown → z.notes ≡ notes_of p l (noted e s)
of_none p l e s z s1 n g core is said found =
    found ∙ ap g (shown_by e s z s1 n said is) ∙ core ∙ sym (ap (notes_of p l) is)

pub of_one : (p : Profile) (l : Level) (e c : Expr) (s t s1 s2 : Scope) (x z : NotedExpr) (f : Noted → Noted)
    (g : Option Shown → ExprNotes → ExprNotes) →
    ((m : Noted) → g (f m).part.typed.shown (notes_of p l m) ≡ notes_of p l (f m)) →
    noted e s ≡ f (noted c t) → IsNoted p c t x s1 → typed_in z.told s2 ≡ typed e s →
    z.notes ≡ g z.told.shown x.notes → Knows p l → z.notes ≡ notes_of p l (noted e s)
of_one p l e c s t s1 s2 x z f g core is h said found knows =
    found ∙ ap (λ (w : Option Shown). g w x.notes) (shown_by e s z s2 (f (noted c t)) said is)
    ∙ ap (g (f (noted c t)).part.typed.shown) (h.notes l knows) ∙ core (noted c t) ∙ sym (ap (notes_of p l) is)

pub of_two : (p : Profile) (l : Level) (e c d : Expr) (s s1 s2 : Scope) (x u y z : NotedExpr)
    (f : Noted → Noted → Noted) (g : Option Shown → ExprNotes → ExprNotes → ExprNotes) →
    ((m n : Noted) → g (f m n).part.typed.shown (notes_of p l m) (notes_of p l n) ≡ notes_of p l (f m n)) →
    noted e s ≡ f (noted c s) (noted d (noted c s).part.typed.after) → IsNoted p c s x s1 → u.notes ≡ x.notes →
    IsNoted p d s1 y s2 → typed_in z.told s2 ≡ typed e s → z.notes ≡ g z.told.shown u.notes y.notes → Knows p l →
    z.notes ≡ notes_of p l (noted e s)
of_two p l e c d s s1 s2 x u y z f g core is hx same hy said found knows =
    let X = noted c s in
    let Y = noted d s1 in
    let whole : noted e s ≡ f X Y = is ∙ ap (λ (t : Scope). f X (noted d t)) (behind_part p c s x s1 hx) in
    found ∙ ap (λ (w : Option Shown). g w u.notes y.notes) (shown_by e s z s2 (f X Y) said whole)
    ∙ ap (λ (m : ExprNotes). g (f X Y).part.typed.shown m y.notes) (same ∙ hx.notes l knows)
    ∙ ap (g (f X Y).part.typed.shown (notes_of p l X)) (hy.notes l knows)
    ∙ core X Y ∙ sym (ap (notes_of p l) whole)

pub of_three : (p : Profile) (l : Level) (e c d b : Expr) (s s1 s2 s3 : Scope) (x u y v w z : NotedExpr)
    (f : Noted → Noted → Noted → Noted) (g : Option Shown → ExprNotes → ExprNotes → ExprNotes → ExprNotes) →
    ((m n o : Noted) → g (f m n o).part.typed.shown (notes_of p l m) (notes_of p l n) (notes_of p l o)
    ≡ notes_of p l (f m n o)) →
    noted e s ≡ f (noted c s) (noted d (noted c s).part.typed.after)
    (noted b (noted d (noted c s).part.typed.after).part.typed.after) →
    IsNoted p c s x s1 → u.notes ≡ x.notes → IsNoted p d s1 y s2 → v.notes ≡ y.notes → IsNoted p b s2 w s3 →
    typed_in z.told s3 ≡ typed e s → z.notes ≡ g z.told.shown u.notes v.notes w.notes → Knows p l →
    z.notes ≡ notes_of p l (noted e s)
of_three p l e c d b s s1 s2 s3 x u y v w z f g core is hx same hy same' hw said found knows =
    let X = noted c s in
    let Y = noted d s1 in
    let W = noted b s2 in
    let first : noted e s ≡ f X Y (noted b Y.part.typed.after) = is
    ∙ ap (λ (t : Scope). f X (noted d t) (noted b (noted d t).part.typed.after)) (behind_part p c s x s1 hx) in
    let whole : noted e s ≡ f X Y W = first
    ∙ ap (λ (t : Scope). f X Y (noted b t)) (behind_part p d s1 y s2 hy) in
    found ∙ ap (λ (k : Option Shown). g k u.notes v.notes w.notes) (shown_by e s z s3 (f X Y W) said whole)
    ∙ ap (λ (m : ExprNotes). g (f X Y W).part.typed.shown m v.notes w.notes) (same ∙ hx.notes l knows)
    ∙ ap (λ (m : ExprNotes). g (f X Y W).part.typed.shown (notes_of p l X) m w.notes) (same' ∙ hy.notes l knows)
    ∙ ap (g (f X Y W).part.typed.shown (notes_of p l X) (notes_of p l Y)) (hw.notes l knows)
    ∙ core X Y W ∙ sym (ap (notes_of p l) whole)
