-- What was in force before a block is in force behind it.
use Rattle.std.proofs.Common.{◌≡◌, ℕ, Bool, true, false, cond, nat_eq, refl, sym, ap, ◌∙◌, arith}
use Rattle.std.proofs.Math.Path.{fun_ext}
use Rattle.c_store.specs.Store.{set_at}

pub put_back : (at n : ℕ) (f : ℕ → ℕ) → set_at at (f at) (set_at at n f) ≡ f
put_back at n f = fun_ext (λ i. one i)
  where
    eq_of : (i : ℕ) → nat_eq i at ≡ true → i ≡ at
    eq_of i h = grind arith

    by_side : (i : ℕ) (b : Bool) → nat_eq i at ≡ b → cond b (f at) (cond b n (f i)) ≡ f i
    by_side i true h = ap f (sym (eq_of i h))
    by_side i false h = refl

    one : (i : ℕ) → set_at at (f at) (set_at at n f) i ≡ f i
    one i = by_side i (nat_eq i at) refl

-- bound inside, unbound behind
pub unbound : (at n old : ℕ) (f g h z : ℕ → ℕ) → old ≡ f at → g ≡ set_at at n f → h ≡ g → z ≡ set_at at old h → z ≡ f
unbound at n old f g h z is bound kept freed =
    freed ∙ ap (set_at at old) (kept ∙ bound) ∙ ap (λ o. set_at at o (set_at at n f)) is ∙ put_back at n f
