-- What is noted of an expression at any level that knows the profile, is noted at the level by which a source is judged.
use Rattle.std.proofs.Common.{◌≡◌, refl, sym, ap, ◌∙◌}
use Rattle.c_language.specs.declared.expr.Expr.{Expr}
use Rattle.c_language.specs.Scopes.{Scope}
use Rattle.c_language.specs.Typing.{Typed}
use Rattle.c_means.specs.Notes.{noted}
use Rattle.c_notes.specs.declared.notes.ExprNotes.{ExprNotes}
use Rattle.c_notes.specs.declared.notes.NotedExpr.{NotedExpr}
use Rattle.c_notes.specs.Relations.{Knows, IsNoted}
use Rattle.c_notes.proofs.Parts.{noted_typed}
use Rattle.c_item_notes.specs.Levels.{Judged, Heard, level_in, heard_in, heard}

pub knows : (j : Judged) → Knows j.profile (level_in j)
unfolding level_in
knows j = record { identity = refl }

abbrev made : Typed → ExprNotes → Heard
made t n = record { typed = t; notes = n }

pub heard_is : (j : Judged) (e : Expr) (s : Scope) (x : NotedExpr) (s1 : Scope) → IsNoted j.profile e s x s1 →
    heard_in x s1 ≡ heard j (noted e s)
heard_is j e s x s1 h =
    ap (λ (t : Typed). made t x.notes) (h.typed ∙ sym (noted_typed e s))
    ∙ ap (λ (n : ExprNotes). made (noted e s).part.typed n) (h.notes (level_in j) (knows j))
