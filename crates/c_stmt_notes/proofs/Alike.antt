-- What is kept of each form of statement is what is kept of its parts, one behind the other.
use Rattle.std.proofs.Common.{◌≡◌, ℕ, ℤ, List, [], ◌++◌, Option, Some, None, refl, sym, ap, ◌∙◌}
use Rattle.std.proofs.lemmas.List.{append-nil, append_assoc}
use Rattle.c_language.specs.Scopes.{Name, Scope}
use Rattle.c_means.specs.declared.breach.Breach.{Breach}
use Rattle.c_means.specs.Notes.{ExprNoted, Noted}
use Rattle.c_means.specs.Items.{Code, Context, Item, Lasting, closed, followed, nothing, with_breaches}
use Rattle.c_means.specs.Statements.{case_breaches, case_of, condition_breaches, if_item, looped}
use Rattle.c_means.specs.Statements.{maybe_sub, maybe_test, maybe_value, repeated_cases, switch_breaches, switch_item}
use Rattle.c_means.specs.Statements.{test_of, tested}
use Rattle.c_checks.specs.Refusals.{least_of, lesser}
use Rattle.c_checks.proofs.Least.{grouping, of_both}
use Rattle.c_notes.specs.declared.calls.CallNote.{CallNote}
use Rattle.c_notes.specs.CallsTold.{told_calls}
use Rattle.c_notes.proofs.Parts.{told_both}
use Rattle.c_item_notes.specs.declared.items.ItemNotes.{ItemNotes}
use Rattle.c_item_notes.specs.declared.items.LastingNote.{LastingNote}
use Rattle.c_item_notes.specs.Levels.{Judged, level_in}
use Rattle.c_item_notes.specs.ItemTellings.{both, item_notes, lasting_notes, summed, summed_in}
use Rattle.c_item_notes.proofs.Seeing.{lesser_none}
use Rattle.c_stmt_notes.specs.StatementTellings.{case_at, taken_back}
use Rattle.c_stmt_notes.proofs.Added.{made_same}

-- ---- parts that give no case

pub else_gives_none : (o : Option Code) (c : Context) → (maybe_sub o c).cases ≡ []
else_gives_none None c = refl
else_gives_none (Some b) c = refl

pub test_gives_none : (at : ℕ) (o : Option ExprNoted) (s : Scope) → (maybe_test at o s).item.cases ≡ []
test_gives_none at None s = refl
test_gives_none at (Some e) s = refl

pub effect_gives_none : (o : Option ExprNoted) (s : Scope) → (maybe_value o s).cases ≡ []
effect_gives_none None s = refl
effect_gives_none (Some e) s = refl

module _ (j : Judged) where
  pub case_alike : (at : ℕ) (x : Noted) (c : Context) (y : Item) (z : Option ℤ) →
      let i = with_breaches (case_breaches at x c) (case_of at x z y) in
      summed j (followed (record (nothing x.part.typed.after) {
        breaches = case_breaches at x c;
        cases = case_at at z;
        calls = x.notes.calls;
      }) y) ≡ summed_in (item_notes j (record i { calls = x.notes.calls ++ i.calls })) i.after
  case_alike at x c y None = refl
  case_alike at x c y (Some z) = refl

  pub if_alike : (at : ℕ) (x : Noted) (a b : Item) → a.cases ++ b.cases ≡ [] →
      item_notes j (followed (test_of at x).item (followed a b)) ≡ item_notes j (if_item at x a b)
  if_alike at x a b none =
      made_same _ _ _ _ _ _ _ _ _ _ _ _
      (ap (λ (bs : List Breach). least_of (bs ++ (a.breaches ++ b.breaches))) (append-nil (condition_breaches at x)))
      none refl refl refl refl

  -- without a step
  pub while_alike : (at : ℕ) (x : Noted) (a : Item) → a.cases ≡ [] →
      item_notes j (followed (test_of at x).item a)
      ≡ item_notes j (looped at (test_of at x) a (nothing a.after))
  while_alike at x a none =
      let t = (test_of at x).item in
      made_same _ _ _ _ _ _ _ _ _ _ _ _
      (ap (λ (bs : List Breach). least_of (t.breaches ++ bs)) (sym (append-nil a.breaches))) none
      (ap (λ cs. told_calls j.profile (level_in j) (t.calls ++ cs)) (sym (append-nil a.calls)))
      (ap (λ (cs : List Name). t.called ++ cs) (sym (append-nil a.called)))
      (ap (λ (xs : List Lasting). lasting_notes xs) (sym (append-nil a.lasting))) (sym (append-nil a.links))

  -- the value of a `switch`, the block of its cases, and what the cases break together
  pub switch_alike : (at : ℕ) (x : Noted) (n : ItemNotes) (y : Item) →
      let m = both n (item_notes j (tested x)) in
      taken_back (record { breach = m.breach; cases = m.cases }) (least_of (switch_breaches at x))
      (both (record m { breach = None; cases = [] }) (item_notes j y))
      ≡ both n (item_notes j (switch_item at x (closed y)))
  switch_alike at x n y =
      let a = switch_breaches at x in
      let b = repeated_cases [] y.cases in
      let rest = lesser (least_of a) (lesser (least_of b) (least_of y.breaches)) in
      made_same _ _ _ _ _ _ _ _ _ _ _ _
      (ap (λ (k : Option Breach). lesser k rest) (lesser_none n.breach)
      ∙ ap (lesser n.breach) (grouping (least_of a) (least_of b) (least_of y.breaches)
      ∙ ap (λ (k : Option Breach). lesser k (least_of y.breaches)) (sym (of_both a b)) ∙ sym (of_both (a ++ b) y.breaches)))
      refl
      (append_assoc n.calls (told_calls j.profile (level_in j) x.notes.calls) (told_calls j.profile (level_in j) y.calls)
      ∙ ap (λ (cs : List CallNote). n.calls ++ cs) (sym (told_both j.profile (level_in j) x.notes.calls y.calls)))
      (append_assoc n.called x.notes.called y.called)
      (ap (λ (xs : List LastingNote). xs ++ lasting_notes y.lasting) (append-nil n.lasting))
      (ap (λ (xs : List Name). xs ++ y.links) (append-nil n.links))
