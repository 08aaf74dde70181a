-- Tables of summaries.
use Rattle.std.proofs.Common.{◌≡◌, ℕ, zero, suc, ◌+◌, ◌<◌, List, [], ◌∷◌, ◌++◌, length, get_or, set, Some, refl, subst, arith}
use Rattle.std.specs.Prelude.{slice_get}
use Rattle.term_bank.specs.declared.shape.Shape.{Shape}
use Rattle.path_summaries.specs.declared.table.Kept.{Kept}
use Rattle.log_expr.specs.Tours.{Tour}
use Rattle.path_summaries.specs.Tours.{StandsFor}
use Rattle.path_summaries.specs.Tables.{RowStands, AllStand}

module _ (t : Tour) (b : List Shape) where
  pub row_joined : (start : ℕ) (xs ys : List Kept) → RowStands t b start xs → RowStands t b start ys → RowStands t b start (xs ++ ys)
  row_joined start [] ys h k = k
  row_joined start (x ∷ xs) ys h k = (h.0, row_joined start xs ys h.1 k)

  -- one more row, without summaries
  pub all_more : (start : ℕ) (rows : List (List Kept)) → AllStand t b start rows → AllStand t b start (rows ++ [] ∷ [])
  all_more start [] h = (tt, tt)
  all_more start (row ∷ rows) h = (h.0, all_more (suc start) rows h.1)

  pub row_at : (start i : ℕ) (rows : List (List Kept)) → AllStand t b start rows → i < length rows
      → RowStands t b (start + i) (get_or rows i [])
  row_at start i [] h k = absurd (omega (arith, k))
  row_at start zero (row ∷ rows) h k = subst (λ n. RowStands t b n row) (omega arith) h.0
  row_at start (suc i) (row ∷ rows) h k =
      subst (λ n. RowStands t b n (get_or rows i [])) (omega arith) (row_at (suc start) i rows h.1 (omega (arith, k)))

  pub row_set : (start i : ℕ) (rows : List (List Kept)) (row : List Kept) → AllStand t b start rows → i < length rows
      → RowStands t b (start + i) row → AllStand t b start (set rows i row)
  row_set start i [] row h k r = absurd (omega (arith, k))
  row_set start zero (x ∷ xs) row h k r = (subst (λ n. RowStands t b n row) (omega arith) r, h.1)
  row_set start (suc i) (x ∷ xs) row h k r =
      (h.0, row_set (suc start) i xs row h.1 (omega (arith, k)) (subst (λ n. RowStands t b n row) (omega arith) r))

  pub row_there : (i : ℕ) (rows : List (List Kept)) → AllStand t b 0 rows → i < length rows → RowStands t b i (get_or rows i [])
  row_there i rows h k = subst (λ n. RowStands t b n (get_or rows i [])) (omega arith) (row_at 0 i rows h k)

  got_at : (start i : ℕ) (rows : List (List Kept)) (row : List Kept) → AllStand t b start rows → slice_get rows i ≡ Some row
      → RowStands t b (start + i) row
  got_at start i [] row h is = absurd (cc)
  got_at start zero (x ∷ xs) row h is =
      let same : x ≡ row = cc in
      subst (λ r. RowStands t b (start + 0) r) same (subst (λ n. RowStands t b n x) (omega arith) h.0)
  got_at start (suc i) (x ∷ xs) row h is = subst (λ n. RowStands t b n row) (omega arith) (got_at (suc start) i xs row h.1 is)

  pub row_got : (i : ℕ) (rows : List (List Kept)) (row : List Kept) → AllStand t b 0 rows → slice_get rows i ≡ Some row → RowStands t b i row
  row_got i rows row h is = subst (λ n. RowStands t b n row) (omega arith) (got_at 0 i rows row h is)

  pub row_put : (i : ℕ) (rows : List (List Kept)) (row : List Kept) → AllStand t b 0 rows → i < length rows
      → RowStands t b i row → AllStand t b 0 (set rows i row)
  row_put i rows row h k r = row_set 0 i rows row h k (subst (λ n. RowStands t b n row) (omega arith) r)

  -- a summary of a row that is of this function and depth
  pub row_of : (start i : ℕ) (row : List Kept) (d : Kept) → RowStands t b start row → i < length row
      → StandsFor t b (get_or row i d).function (get_or row i d).left start (get_or row i d).summary
  row_of start i [] d h k = absurd (omega (arith, k))
  row_of start zero (x ∷ xs) d h k = h.0
  row_of start (suc i) (x ∷ xs) d h k = row_of start i xs d h.1 (omega (arith, k))

pub any_default : (rows : List (List Kept)) (i : ℕ) (a b : List Kept) → i < length rows → get_or rows i a ≡ get_or rows i b
any_default [] i a b h = absurd (omega (arith, h))
any_default (r ∷ rows) zero a b h = refl
any_default (r ∷ rows) (suc i) a b h = any_default rows i a b (omega (arith, h))
