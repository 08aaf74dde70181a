-- Sides that wait on a stack.
use Rattle.std.proofs.Common.{◌≡◌, ℕ, pos, List, [], ◌∷◌, ◌++◌, refl, sym, ap, subst, ◌∙◌}
use Rattle.core_tree.specs.declared.types.ValueType.TheVariants as vt
use Rattle.term_bank.specs.declared.shape.Shape.{Shape}
use Rattle.path_states.specs.declared.state.Walked.{Walked}
use Rattle.path_steps.specs.declared.leaf.Leaf.TheVariants as leaf
use Rattle.path_steps.specs.Leaves.{leaf_way}
use Rattle.path_forms.specs.declared.sides.Waiting.{Waiting}
use Rattle.path_forms.specs.Reaching.{Ready, Meets, TurnsTo, Closes}
use Rattle.path_forms.specs.Waits.{WaitsReady, Changes, MeetsWaiting, ClosesAnd, ClosesOr}

nil_last : {A : Type 0} (xs : List A) (x : A) → [] ≡ xs ++ x ∷ [] → ⊥
nil_last [] x e = cc
nil_last (y ∷ ys) x e = cc

tails : {A : Type 0} (x y : A) (xs ys : List A) → x ∷ xs ≡ y ∷ ys → xs ≡ ys
tails x y xs ys e = cc

heads : {A : Type 0} (x y : A) (xs ys : List A) → x ∷ xs ≡ y ∷ ys → x ≡ y
heads x y xs ys e = cc

same_front : {A : Type 0} (xs ys : List A) (x y : A) → xs ++ x ∷ [] ≡ ys ++ y ∷ [] → xs ≡ ys
same_front [] [] x y e = refl
same_front [] (b ∷ bs) x y e = absurd (nil_last bs y (tails x b [] (bs ++ y ∷ []) e))
same_front (a ∷ as') [] x y e = absurd (nil_last as' x (sym (tails a y (as' ++ x ∷ []) [] e)))
same_front (a ∷ as') (b ∷ bs) x y e =
    ap (λ h. h ∷ as') (heads a b (as' ++ x ∷ []) (bs ++ y ∷ []) e)
    ∙ ap (λ t. b ∷ t) (same_front as' bs x y (tails a b (as' ++ x ∷ []) (bs ++ y ∷ []) e))

same_last : {A : Type 0} (xs ys : List A) (x y : A) → xs ++ x ∷ [] ≡ ys ++ y ∷ [] → x ≡ y
same_last [] [] x y e = heads x y [] [] e
same_last [] (b ∷ bs) x y e = absurd (nil_last bs y (tails x b [] (bs ++ y ∷ []) e))
same_last (a ∷ as') [] x y e = absurd (nil_last as' x (sym (tails a y (as' ++ x ∷ []) [] e)))
same_last (a ∷ as') (b ∷ bs) x y e = same_last as' bs x y (tails a b (as' ++ x ∷ []) (bs ++ y ∷ []) e)

pub waits_ready : (b : List Shape) (now rest : List Waiting) (x : Waiting) → now ≡ rest ++ x ∷ [] → Ready b x.side → WaitsReady b now
waits_ready b now rest x is h = record {
  last = λ other y e.
      let P : Waiting → Type 0 = λ z. Ready b z.side in
      subst P (same_last rest other x y (sym is ∙ e)) h;
}

module _ (a b : List Shape) (w u : Walked) (before popped : List Waiting) (x : Waiting) (is : before ≡ popped ++ x ∷ []) where
  pub meets_by : Meets a b (record { yes = x.side; no = w; ended = x.ended }) u → MeetsWaiting a b w u before popped
  meets_by h = record {
    ready = h.ready;
    meets = λ rest y e.
        let P : Waiting → Type 0 = λ z. Meets a b (record { yes = z.side; no = w; ended = z.ended }) u in
        (same_front popped rest x y (sym is ∙ e), subst P (same_last popped rest x y (sym is ∙ e)) h);
  }

  pub closes_and : (room : ℕ) → Closes room a b (record { yes = w; no = x.side; ended = x.ended }) u
      (leaf_way (leaf.Convert vt.Truth)) (leaf_way (leaf.Constant (pos 0))) → ClosesAnd room a b w u before popped
  closes_and room h = record {
    ready = h.ready;
    closes = λ rest y e.
        let P : Waiting → Type 0 = λ z. Closes room a b (record { yes = w; no = z.side; ended = z.ended }) u
        (leaf_way (leaf.Convert vt.Truth)) (leaf_way (leaf.Constant (pos 0))) in
        (same_front popped rest x y (sym is ∙ e), subst P (same_last popped rest x y (sym is ∙ e)) h);
  }

  pub closes_or : (room : ℕ) → Closes room a b (record { yes = x.side; no = w; ended = x.ended }) u
      (leaf_way (leaf.Constant (pos 1))) (leaf_way (leaf.Convert vt.Truth)) → ClosesOr room a b w u before popped
  closes_or room h = record {
    ready = h.ready;
    closes = λ rest y e.
        let P : Waiting → Type 0 = λ z. Closes room a b (record { yes = z.side; no = w; ended = z.ended }) u
        (leaf_way (leaf.Constant (pos 1))) (leaf_way (leaf.Convert vt.Truth)) in
        (same_front popped rest x y (sym is ∙ e), subst P (same_last popped rest x y (sym is ∙ e)) h);
  }

  pub changes_by : (now : List Waiting) (last : Waiting) → now ≡ popped ++ last ∷ []
      → TurnsTo a b (record { yes = w; no = x.side; ended = x.ended }) (record { yes = last.side; no = u; ended = last.ended })
      → Changes a b w u before now
  changes_by now last to h = record {
    ready = h.ready;
    last = last;
    changes = λ rest y e.
        let P : Waiting → Type 0 = λ z. TurnsTo a b (record { yes = w; no = z.side; ended = z.ended })
        (record { yes = last.side; no = u; ended = last.ended }) in
        (to ∙ ap (λ l. l ++ last ∷ []) (same_front popped rest x y (sym is ∙ e)), subst P (same_last popped rest x y (sym is ∙ e)) h);
  }
