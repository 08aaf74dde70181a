-- What is noted of the expressions of statements.
use Rattle.std.proofs.Common.{◌≡◌, ℕ, ℤ, List, [], Option, Some, None, refl, sym, ap, ap₂, ◌∙◌}
use Rattle.std.proofs.lemmas.List.{append-nil}
use Rattle.std.specs.Prelude.{option_map}
use Rattle.c_language.specs.declared.expr.Expr.{Expr}
use Rattle.c_language.specs.declared.ctype.IntegerKind.{IntegerKind}
use Rattle.c_language.specs.Scopes.{Scope}
use Rattle.c_language.specs.Typing.{Typed, constant_of, told_of, typed_in, value_in}
use Rattle.c_means.specs.declared.breach.Breach.{Breach}
use Rattle.c_means.specs.Items.{Context, Item, nothing, typing}
use Rattle.c_means.specs.Notes.{Noted, noted}
use Rattle.c_means.specs.Statements.{case_value, maybe_test, maybe_value, return_of, test_of, tested, value_of, value_return}
use Rattle.c_checks.specs.Refusals.{least_of}
use Rattle.c_checks.specs.Rules.{bare_return_breaches, case_breaches, condition_breaches, return_value_breaches}
use Rattle.c_notes.specs.declared.notes.NotedExpr.{NotedExpr}
use Rattle.c_item_notes.specs.declared.items.ItemNotes.{ItemNotes}
use Rattle.c_item_notes.specs.Levels.{Judged, Heard, heard_in, heard}
use Rattle.c_item_notes.specs.ItemTellings.{Summed, both, summed, summed_in}
use Rattle.c_stmt_notes.specs.StatementTellings.{gathered, broken, evaluated, case_notes, case_front}
use Rattle.c_stmt_notes.proofs.Together.{none, same}

-- an expression, with these broken rules
abbrev evaluating : List Breach → Noted → Item
evaluating bs y =
    record (nothing y.part.typed.after) { breaches = bs; calls = y.notes.calls; called = y.notes.called }

module _ (j : Judged) where
  evaluates : (rules : Typed → List Breach) (x : NotedExpr) (y : Noted) (b : Option Breach) (n m : ItemNotes)
      (s t : Scope) → heard_in x t ≡ heard j y → b ≡ least_of (rules (typed_in x.told t)) →
      m ≡ both n (evaluated b x.notes) → summed_in m t ≡ gathered j n s (evaluating (rules y.part.typed) y)
  evaluates rules x y b n m s t h said gained =
      ap (λ (m : ItemNotes). summed_in m t)
      (gained ∙ ap (λ (b : Option Breach). both n (evaluated b x.notes)) said)
      ∙ ap (λ (k : Heard). summed_in (both n (evaluated (least_of (rules k.typed)) k.notes)) k.typed.after) h

  pub effect_is : (x : NotedExpr) (y : Noted) (b : Option Breach) (n m : ItemNotes) (s t : Scope) →
      heard_in x t ≡ heard j y → b ≡ least_of (typing x.told.faults) → m ≡ both n (evaluated b x.notes) →
      summed_in m t ≡ gathered j n s (value_of y)
  effect_is x y b n m s t h said gained =
      same j n s s (evaluating (typing y.part.typed.faults) y) (value_of y) (summed_in m t)
      (evaluates (λ z. typing z.faults) x y b n m s t h said gained)
      (ap (λ (bs : List Breach). summed j (evaluating bs y)) (sym (append-nil (typing y.part.typed.faults))))

  pub tested_is : (at : ℕ) (x : NotedExpr) (y : Noted) (b : Option Breach) (n m : ItemNotes) (s t : Scope) →
      heard_in x t ≡ heard j y → b ≡ least_of (condition_breaches at (typed_in x.told t)) →
      m ≡ both n (evaluated b x.notes) → summed_in m t ≡ gathered j n s (test_of at y).item
  tested_is at x y b n m s t h said gained =
      same j n s s (evaluating (condition_breaches at y.part.typed) y) (test_of at y).item (summed_in m t)
      (evaluates (condition_breaches at) x y b n m s t h said gained)
      (ap (λ (bs : List Breach). summed j (evaluating bs y)) (sym (append-nil (condition_breaches at y.part.typed))))

  pub switch_value_is : (x : NotedExpr) (y : Noted) (n m : ItemNotes) (s t : Scope) → heard_in x t ≡ heard j y →
      m ≡ both n (evaluated None x.notes) → summed_in m t ≡ gathered j n s (tested y)
  switch_value_is x y n m s t h gained = evaluates (λ z. []) x y None n m s t h refl gained

  pub returned_is : (at : ℕ) (c : Context) (x : NotedExpr) (y : Noted) (b : Option Breach) (n m : ItemNotes)
      (s t : Scope) → heard_in x t ≡ heard j y →
      b ≡ least_of (return_value_breaches at c.result (typed_in x.told t)) → m ≡ both n (evaluated b x.notes) →
      summed_in m t ≡ gathered j n s (value_return at y c)
  returned_is at c x y b n m s t h said gained =
      evaluates (return_value_breaches at c.result) x y b n m s t h said gained

  pub case_is : (at : ℕ) (chooses : Option IntegerKind) (x : NotedExpr) (y : Noted) (b : Option Breach)
      (z : Option ℤ) (n m : ItemNotes) (s t : Scope) → heard_in x t ≡ heard j y →
      b ≡ least_of (case_breaches at x.told chooses) → z ≡ case_value chooses (value_in x.told.shown) →
      m ≡ both n (case_notes at b z x.notes) → summed_in m t ≡ gathered j n s (case_front at y chooses)
  case_is at chooses x y b z n m s t h said valued gained =
      ap (λ (m : ItemNotes). summed_in m t)
      (gained ∙ ap₂ (λ (b : Option Breach) (z : Option ℤ). both n (case_notes at b z x.notes)) said valued)
      ∙ ap (λ (k : Heard). summed_in (both n (case_notes at (least_of (case_breaches at (told_of k.typed) chooses))
      (case_value chooses (constant_of k.typed)) k.notes)) k.typed.after) h

  -- ---- where there is one

  pub no_effect : (o : Option Expr) (n : ItemNotes) (s : Scope) → o ≡ None →
      summed_in n s ≡ gathered j n s (maybe_value (option_map noted o) s)
  no_effect o n s is =
      none j n s ∙ ap (λ (o : Option Expr). gathered j n s (maybe_value (option_map noted o) s)) (sym is)

  pub an_effect : (o : Option Expr) (e e' : Expr) (n : ItemNotes) (s : Scope) (z : Summed) → o ≡ Some e → e' ≡ e →
      z ≡ gathered j n s (value_of (noted e' s)) → z ≡ gathered j n s (maybe_value (option_map noted o) s)
  an_effect o e e' n s z is same h =
      h ∙ ap (λ (e : Expr). gathered j n s (value_of (noted e s))) same
      ∙ ap (λ (o : Option Expr). gathered j n s (maybe_value (option_map noted o) s)) (sym is)

  pub no_test : (at : ℕ) (o : Option Expr) (n : ItemNotes) (s : Scope) → o ≡ None →
      summed_in n s ≡ gathered j n s (maybe_test at (option_map noted o) s).item
  no_test at o n s is =
      none j n s ∙ ap (λ (o : Option Expr). gathered j n s (maybe_test at (option_map noted o) s).item) (sym is)

  pub a_test : (at : ℕ) (o : Option Expr) (e e' : Expr) (n : ItemNotes) (s : Scope) (z : Summed) → o ≡ Some e →
      e' ≡ e → z ≡ gathered j n s (test_of at (noted e' s)).item →
      z ≡ gathered j n s (maybe_test at (option_map noted o) s).item
  a_test at o e e' n s z is same h =
      h ∙ ap (λ (e : Expr). gathered j n s (test_of at (noted e s)).item) same
      ∙ ap (λ (o : Option Expr). gathered j n s (maybe_test at (option_map noted o) s).item) (sym is)

  pub no_value : (at : ℕ) (c : Context) (o : Option Expr) (n m : ItemNotes) (b : Option Breach) → o ≡ None →
      b ≡ least_of (bare_return_breaches at c.result) → m ≡ both n (broken b) →
      summed_in m c.scope ≡ gathered j n c.scope (return_of at (option_map noted o) c)
  no_value at c o n m b is said gained =
      ap (λ (m : ItemNotes). summed_in m c.scope) (gained ∙ ap (λ (b : Option Breach). both n (broken b)) said)
      ∙ ap (λ (o : Option Expr). gathered j n c.scope (return_of at (option_map noted o) c)) (sym is)

  pub a_value : (at : ℕ) (c : Context) (o : Option Expr) (e e' : Expr) (n : ItemNotes) (z : Summed) → o ≡ Some e →
      e' ≡ e → z ≡ gathered j n c.scope (value_return at (noted e' c.scope) c) →
      z ≡ gathered j n c.scope (return_of at (option_map noted o) c)
  a_value at c o e e' n z is same h =
      h ∙ ap (λ (e : Expr). gathered j n c.scope (value_return at (noted e c.scope) c)) same
      ∙ ap (λ (o : Option Expr). gathered j n c.scope (return_of at (option_map noted o) c)) (sym is)
