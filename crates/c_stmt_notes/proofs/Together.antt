-- Items one behind the other, and blocks.
use Rattle.std.proofs.Common.{◌≡◌, List, [], ◌++◌, sym, ap, ap₂, ◌∙◌}
use Rattle.std.proofs.lemmas.List.{append-nil}
use Rattle.c_language.specs.Scopes.{Scope, enter, leave}
use Rattle.c_means.specs.Items.{Case, Code, Context, Item, Label}
use Rattle.c_means.specs.Items.{closed, followed, guarded, nothing, opened, sub, unchosen, without_cases}
use Rattle.c_means.specs.Statements.{left_scope}
use Rattle.c_item_notes.specs.declared.items.ItemNotes.{ItemNotes}
use Rattle.c_item_notes.specs.Levels.{Judged}
use Rattle.c_item_notes.specs.ItemTellings.{Summed, and_item, both, item_notes, nothing_noted, summed, summed_in}
use Rattle.c_item_notes.proofs.ItemLaws.{both_grouped, both_nothing, followed_is}
use Rattle.c_stmt_notes.specs.StatementTellings.{gathered}

module _ (j : Judged) where
  -- an item of which the same is kept
  pub same : (n : ItemNotes) (s s' : Scope) (a b : Item) (z : Summed) → z ≡ gathered j n s a →
      summed j a ≡ summed j b → z ≡ gathered j n s' b
  same n s s' a b z h e = h ∙ ap (λ (y : Summed). summed_in (both n y.notes) y.after) e

  -- alone
  pub fresh : (n : ItemNotes) (s : Scope) (a : Item) (z : Summed) → n ≡ nothing_noted → z ≡ gathered j n s a →
      z ≡ summed j a
  fresh n s a z e h = h ∙ ap (λ (m : ItemNotes). gathered j m s a) e

  -- what was noted apart
  pub adds : (n m k : ItemNotes) (s t : Scope) (a : Item) → summed_in k t ≡ summed j a → m ≡ both n k →
      summed_in m t ≡ gathered j n s a
  adds n m k s t a h e =
      ap (λ (m : ItemNotes). summed_in m t) e ∙ ap (λ (y : Summed). summed_in (both n y.notes) y.after) h

  -- what isn't there
  pub none : (n : ItemNotes) (s : Scope) → summed_in n s ≡ gathered j n s (nothing s)
  none n s = ap (λ (m : ItemNotes). summed_in m s) (sym (both_nothing n))

  pub grouped : (n : ItemNotes) (s : Scope) (a b : Item) →
      and_item j (gathered j n s a) b ≡ gathered j n s (followed a b)
  grouped n s a b =
      ap (λ (m : ItemNotes). summed_in m b.after)
      (both_grouped n (item_notes j a) (item_notes j b) ∙ ap (both n) (sym (followed_is j a b)))

  -- one behind the other, in the scope that the first leaves
  pub then : (n m : ItemNotes) (s t : Scope) (a : Item) (b : Scope → Item) (z : Summed) →
      summed_in m t ≡ gathered j n s a → z ≡ gathered j m t (b t) → z ≡ gathered j n s (followed a (b a.after))
  then n m s t a b z h k = k ∙ ap (λ (y : Summed). and_item j y (b y.after)) h ∙ grouped n s a (b a.after)

  -- behind a block that a statement is
  pub left : (n m : ItemNotes) (s t u : Scope) (a : Item) → summed_in m t ≡ gathered j n s a → u ≡ leave t →
      summed_in m u ≡ gathered j n s (left_scope a)
  left n m s t u a h e = ap (summed_in m) e ∙ ap (λ (y : Summed). summed_in y.notes (leave y.after)) h

  -- a block whose cases are its own
  pub within : (n n1 n2 n3 : ItemNotes) (s s1 s2 s3 : Scope) (a : Item) → n1 ≡ record n { cases = [] } →
      summed_in n2 s2 ≡ gathered j n1 s1 a → s3 ≡ leave s2 → n3 ≡ record n2 { cases = n.cases } →
      summed_in n3 s3 ≡ gathered j n s (without_cases (guarded (closed a)))
  within n n1 n2 n3 s s1 s2 s3 a emptied h out kept =
      let x = item_notes j a in
      let e : n3 ≡ both n (record x { cases = [] }) =
      kept
      ∙ ap (λ (m : ItemNotes). record m { cases = n.cases })
      (ap (λ (y : Summed). y.notes) h ∙ ap (λ (m : ItemNotes). both m x) emptied)
      ∙ ap (λ (cs : List Case). record (both n x) { cases = cs }) (sym (append-nil n.cases)) in
      ap (λ (m : ItemNotes). summed_in m s3) e
      ∙ ap (summed_in (both n (record x { cases = [] }))) (out ∙ ap leave (ap (λ (y : Summed). y.after) h))

  -- the block that a substatement is
  pub a_sub : (b : Code) (c : Context) (l : List Label) (n n1 n2 n3 : ItemNotes) (s1 s2 s3 : Scope) →
      l ≡ c.labels ++ b.own → n1 ≡ record n { cases = [] } → s1 ≡ enter c.scope →
      summed_in n2 s2 ≡ gathered j n1 s1 (b.content (record (unchosen c) { scope = s1; labels = l })) →
      s3 ≡ leave s2 → n3 ≡ record n2 { cases = n.cases } → summed_in n3 s3 ≡ gathered j n c.scope (sub b c)
  a_sub b c l n n1 n2 n3 s1 s2 s3 ls emptied entered h out kept =
      within n n1 n2 n3 c.scope s1 s2 s3 (b.content (opened b.own (unchosen c))) emptied
      (h ∙ ap₂ (λ (s : Scope) (l : List Label).
      gathered j n1 s1 (b.content (record (unchosen c) { scope = s; labels = l }))) entered ls) out kept
