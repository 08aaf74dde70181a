-- End tables: for a function, how many levels of calls are left with it, and the position at which it is called, the
-- positions at which it may come back, and those at which the run may end in it.
use Rattle.std.specs.Prelude.{◌≡◌, ◌⊎◌, ◌&&◌, ℕ, zero, suc, Bool, cond, nat_eq, List, [], ◌∷◌, Option, Some, None, slice_index_or}
use Rattle.log_expr.specs.declared.table.Ends.{Ends}
use Rattle.log_expr.specs.declared.table.Entry.{Entry}

-- the entry is that of the function, with so many levels left
abbrev pub is_of : ℕ → ℕ → Entry → Bool
is_of f d e = nat_eq e.function f && nat_eq e.depth d

abbrev pub found : ℕ → ℕ → List Entry → Option Ends
found f d [] = None
found f d (e ∷ es) = cond (is_of f d e) (Some e.ends) (found f d es)

-- the entry of a key, in a table by positions
abbrev pub ends_at : List (List Entry) → ℕ → ℕ → ℕ → Option Ends
ends_at rows f d i = found f d (slice_index_or rows i [])

-- what is known of calls with so many levels left: nothing, where none is left
abbrev pub Known : Type 0
Known = Option (ℕ → ℕ → Option Ends)

abbrev pub known_at : List (List Entry) → ℕ → Known
known_at rows zero = None
known_at rows (suc n) = Some (λ f i. ends_at rows f (suc n) i)

-- each entry stays
abbrev pub Grows : List (List Entry) → List (List Entry) → Type 0
Grows old now = (f d i : ℕ) (e : Ends) → ends_at old f d i ≡ Some e → ends_at now f d i ≡ Some e

-- the entry of one key was put in
pub record Puts (f d start : ℕ) (ends : Ends) (old now : List (List Entry)) : Type 0 where
  pub grows : Grows old now
  pub there : ends_at now f d start ≡ Some ends
  pub others : (g c i : ℕ) (e : Ends) → ends_at now g c i ≡ Some e
      → (ends_at old g c i ≡ Some e) ⊎ ((g ≡ f) × (c ≡ d) × (i ≡ start) × (e ≡ ends))
