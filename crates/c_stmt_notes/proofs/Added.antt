-- What is added to what was noted so far.
use Rattle.std.proofs.Common.{◌≡◌, ℕ, ℤ, List, [], ◌∷◌, ◌++◌, Option, None, refl, sym, ap, ◌∙◌}
use Rattle.std.proofs.lemmas.List.{append-nil}
use Rattle.c_language.specs.Scopes.{Name}
use Rattle.c_means.specs.declared.breach.Breach.{Breach}
use Rattle.c_means.specs.Items.{Case}
use Rattle.c_checks.specs.Refusals.{lesser}
use Rattle.c_notes.specs.declared.calls.CallNote.{CallNote}
use Rattle.c_notes.specs.declared.notes.ExprNotes.{ExprNotes}
use Rattle.c_item_notes.specs.declared.items.ItemNotes.{ItemNotes}
use Rattle.c_item_notes.specs.declared.items.LastingNote.{LastingNote}
use Rattle.c_item_notes.specs.ItemTellings.{both}
use Rattle.c_stmt_notes.specs.StatementTellings.{broken, evaluated, case_at, case_notes, default_notes}

abbrev pub made : Option Breach → List Case → List CallNote → List Name → List LastingNote → List Name → ItemNotes
made a b c d e f = record { breach = a; cases = b; calls = c; called = d; lasting = e; links = f }

pub made_same : (a a' : Option Breach) (b b' : List Case) (c c' : List CallNote) (d d' : List Name)
    (e e' : List LastingNote) (f f' : List Name) → a ≡ a' → b ≡ b' → c ≡ c' → d ≡ d' → e ≡ e' → f ≡ f' →
    made a b c d e f ≡ made a' b' c' d' e' f'
made_same a a' b b' c c' d d' e e' f f' p q r s t u =
    ap (λ x. made x b c d e f) p ∙ ap (λ x. made a' x c d e f) q ∙ ap (λ x. made a' b' x d e f) r
    ∙ ap (λ x. made a' b' c' x e f) s ∙ ap (λ x. made a' b' c' d' x f) t ∙ ap (λ x. made a' b' c' d' e' x) u

pub broken_behind : (n : ItemNotes) (b : Option Breach) →
    record n { breach = lesser n.breach b } ≡ both n (broken b)
broken_behind n b =
    made_same _ _ _ _ _ _ _ _ _ _ _ _ refl (sym (append-nil n.cases)) (sym (append-nil n.calls))
    (sym (append-nil n.called)) (sym (append-nil n.lasting)) (sym (append-nil n.links))

pub evaluated_behind : (n : ItemNotes) (b : Option Breach) (m : ExprNotes) →
    record n { breach = lesser n.breach b; calls = n.calls ++ m.calls; called = n.called ++ m.called }
    ≡ both n (evaluated b m)
evaluated_behind n b m =
    made_same _ _ _ _ _ _ _ _ _ _ _ _ refl (sym (append-nil n.cases)) refl refl (sym (append-nil n.lasting))
    (sym (append-nil n.links))

pub case_behind : (n : ItemNotes) (at : ℕ) (b : Option Breach) (z : Option ℤ) (m : ExprNotes) →
    record n { breach = lesser n.breach b; cases = n.cases ++ case_at at z; calls = n.calls ++ m.calls }
    ≡ both n (case_notes at b z m)
case_behind n at b z m =
    made_same _ _ _ _ _ _ _ _ _ _ _ _ refl refl refl (sym (append-nil n.called)) (sym (append-nil n.lasting))
    (sym (append-nil n.links))

pub default_behind : (n : ItemNotes) (at : ℕ) (b : Option Breach) →
    record n { breach = lesser n.breach b; cases = n.cases ++ record { at = at; value = None } ∷ [] }
    ≡ both n (default_notes at b)
default_behind n at b =
    made_same _ _ _ _ _ _ _ _ _ _ _ _ refl refl (sym (append-nil n.calls)) (sym (append-nil n.called))
    (sym (append-nil n.lasting)) (sym (append-nil n.links))
