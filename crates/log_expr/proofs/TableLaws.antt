-- Rows of a table, one more, and one more entry.
use Rattle.std.proofs.Common.{◌≡◌, ℕ, zero, suc, ◌<◌, Bool, true, false, cond, ◌⊎◌, inl, inr, eqb, List, [], ◌∷◌, ◌++◌, length, get_or, set, Some, None, refl, sym, ap, subst, ◌∙◌, arith}
use Rattle.std.proofs.lemmas.Bool.{and_parts, and_from, eqb-true, eq-eqb, cases_eq}
use Rattle.log_expr.specs.declared.table.Ends.{Ends}
use Rattle.log_expr.specs.declared.table.Entry.{Entry}
use Rattle.log_expr.specs.Tables.{is_of, found, ends_at, Grows, Puts}

pub row_more : (rows : List (List Entry)) (i : ℕ) → get_or (rows ++ [] ∷ []) i [] ≡ get_or rows i []
row_more [] zero = refl
row_more [] (suc i) = refl
row_more (r ∷ rows) zero = refl
row_more (r ∷ rows) (suc i) = row_more rows i

pub ends_more : (rows : List (List Entry)) (f d i : ℕ) → ends_at (rows ++ [] ∷ []) f d i ≡ ends_at rows f d i
ends_more rows f d i = ap (found f d) (row_more rows i)

-- ---- one more entry in a row

found_kept : (f d : ℕ) (row : List Entry) (x : Entry) (e : Ends) → found f d row ≡ Some e → found f d (row ++ x ∷ []) ≡ Some e
found_kept f d [] x e h = absurd cc
found_kept f d (y ∷ row) x e h = by (is_of f d y) h (found_kept f d row x e)
  where
    by : (b : Bool) → cond b (Some y.ends) (found f d row) ≡ Some e → (found f d row ≡ Some e → found f d (row ++ x ∷ []) ≡ Some e) → cond b (Some y.ends) (found f d (row ++ x ∷ [])) ≡ Some e
    by true h r = h
    by false h r = r h

found_new : (f d : ℕ) (row : List Entry) (x : Entry) → found f d row ≡ None → is_of f d x ≡ true → found f d (row ++ x ∷ []) ≡ Some x.ends
found_new f d [] x h i = ap (λ b. cond b (Some x.ends) None) i
found_new f d (y ∷ row) x h i = by (is_of f d y) h (λ g. found_new f d row x g i)
  where
    by : (b : Bool) → cond b (Some y.ends) (found f d row) ≡ None → (found f d row ≡ None → found f d (row ++ x ∷ []) ≡ Some x.ends) → cond b (Some y.ends) (found f d (row ++ x ∷ [])) ≡ Some x.ends
    by true h r = absurd cc
    by false h r = r h

found_other : (f d : ℕ) (row : List Entry) (x : Entry) (e : Ends) → found f d (row ++ x ∷ []) ≡ Some e → (found f d row ≡ Some e) ⊎ ((is_of f d x ≡ true) × (x.ends ≡ e))
found_other f d [] x e h = by (is_of f d x) refl h
  where
    by : (b : Bool) → is_of f d x ≡ b → cond b (Some x.ends) None ≡ Some e → (None ≡ Some e) ⊎ ((is_of f d x ≡ true) × (x.ends ≡ e))
    by true i h = inr (i, cc)
    by false i h = inl h
found_other f d (y ∷ row) x e h = by (is_of f d y) h (found_other f d row x e)
  where
    by : (b : Bool) → cond b (Some y.ends) (found f d (row ++ x ∷ [])) ≡ Some e
        → (found f d (row ++ x ∷ []) ≡ Some e → (found f d row ≡ Some e) ⊎ ((is_of f d x ≡ true) × (x.ends ≡ e)))
        → (cond b (Some y.ends) (found f d row) ≡ Some e) ⊎ ((is_of f d x ≡ true) × (x.ends ≡ e))
    by true h r = inl h
    by false h r = r h

-- ---- the row of a position

row_same : (rows : List (List Entry)) (i : ℕ) (row : List Entry) → i < length rows → get_or (set rows i row) i [] ≡ row
row_same [] i row h = absurd (omega arith)
row_same (r ∷ rows) zero row h = refl
row_same (r ∷ rows) (suc i) row h = row_same rows i row (omega arith)

row_other : (rows : List (List Entry)) (i j : ℕ) (row : List Entry) → (j ≡ i → ⊥) → get_or (set rows i row) j [] ≡ get_or rows j []
row_other [] i j row n = refl
row_other (r ∷ rows) zero zero row n = absurd (n refl)
row_other (r ∷ rows) zero (suc j) row n = refl
row_other (r ∷ rows) (suc i) zero row n = refl
row_other (r ∷ rows) (suc i) (suc j) row n = row_other rows i j row (λ e. n (ap suc e))

module _ (rows : List (List Entry)) (f d start : ℕ) (x : Entry) (h : start < length rows) (fx : x.function ≡ f) (dx : x.depth ≡ d) (none : ends_at rows f d start ≡ None) where
  abbrev now : List (List Entry)
  now = set rows start (get_or rows start [] ++ x ∷ [])

  here : (g c : ℕ) → ends_at now g c start ≡ found g c (get_or rows start [] ++ x ∷ [])
  here g c = ap (found g c) (row_same rows start (get_or rows start [] ++ x ∷ []) h)

  kept : Grows rows now
  kept g c i e m = by (cases_eq i start)
    where
      by : (i ≡ start) ⊎ (i ≡ start → ⊥) → ends_at now g c i ≡ Some e
      by (inl s) = ap (ends_at now g c) s ∙ here g c ∙ found_kept g c (get_or rows start []) x e (ap (ends_at rows g c) (sym s) ∙ m)
      by (inr n) = ap (found g c) (row_other rows start i (get_or rows start [] ++ x ∷ []) n) ∙ m

  others : (g c i : ℕ) (e : Ends) → ends_at now g c i ≡ Some e → (ends_at rows g c i ≡ Some e) ⊎ ((g ≡ f) × (c ≡ d) × (i ≡ start) × (e ≡ x.ends))
  others g c i e m = by (cases_eq i start)
    where
      of : (i ≡ start) → (found g c (get_or rows start []) ≡ Some e) ⊎ ((is_of g c x ≡ true) × (x.ends ≡ e)) → (ends_at rows g c i ≡ Some e) ⊎ ((g ≡ f) × (c ≡ d) × (i ≡ start) × (e ≡ x.ends))
      of s (inl o) = inl (ap (ends_at rows g c) s ∙ o)
      of s (inr q) =
          let p = and_parts (eqb x.function g) (eqb x.depth c) q.0 in
          inr (sym (eqb-true x.function g p.0) ∙ fx, sym (eqb-true x.depth c p.1) ∙ dx, s, sym q.1)

      by : (i ≡ start) ⊎ (i ≡ start → ⊥) → (ends_at rows g c i ≡ Some e) ⊎ ((g ≡ f) × (c ≡ d) × (i ≡ start) × (e ≡ x.ends))
      by (inl s) = of s (found_other g c (get_or rows start []) x e (sym (here g c) ∙ ap (ends_at now g c) (sym s) ∙ m))
      by (inr n) = inl (ap (found g c) (sym (row_other rows start i (get_or rows start [] ++ x ∷ []) n)) ∙ m)

  pub puts : Puts f d start x.ends rows now
  puts = record {
    grows = kept;
    there = here f d ∙ found_new f d (get_or rows start []) x none (and_from (eqb x.function f) (eqb x.depth d) (eq-eqb x.function f fx) (eq-eqb x.depth d dx));
    others = others;
  }

-- after rows were made
pub puts_after : (old mid new : List (List Entry)) (f d start : ℕ) (e : Ends) → ((g c i : ℕ) → ends_at mid g c i ≡ ends_at old g c i) → Puts f d start e mid new → Puts f d start e old new
puts_after old mid new f d start e s p = record {
  grows = λ g c i x m. p.grows g c i x (s g c i ∙ m);
  there = p.there;
  others = λ g c i x m. subst (λ o. (o ≡ Some x) ⊎ ((g ≡ f) × (c ≡ d) × (i ≡ start) × (x ≡ e))) (s g c i) (p.others g c i x m);
}

pub any_default : (rows : List (List Entry)) (i : ℕ) (a b : List Entry) → i < length rows → get_or rows i a ≡ get_or rows i b
any_default [] i a b h = absurd (omega arith)
any_default (r ∷ rows) zero a b h = refl
any_default (r ∷ rows) (suc i) a b h = any_default rows i a b (omega arith)
