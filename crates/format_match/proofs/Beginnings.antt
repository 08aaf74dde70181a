-- Positions from which a format spells a stretch that isn't empty.
use Rattle.std.proofs.Common.{◌≡◌, ℕ, ◌+◌, ◌<◌, ◌≤◌, ◌↔◌, ◌||◌, ◌&&◌, eqb, Bool, true, false, List, [], length, sym, subst, ◌∙◌, arith, inl, inr, ◌⊎◌}
use Rattle.std.proofs.lemmas.Bool.{or_cases, or_left, or_right, and_parts, and_from, eqb-true, eq-eqb}
use Rattle.std.proofs.Math.Nat.{eq-or-lt_of_le}
use Rattle.printf_text.specs.declared.piece.Piece.{Piece}
use Rattle.positions.specs.Sets.{has}
use Rattle.format_match.specs.Beginning.{IsBegun, BeginsExactly}

-- ---- all positions up to one

-- those before a position are exactly these
pub record BeginsBelow (pieces : List Piece) (log : List ℕ) (at : ℕ) (starts : List ℕ) : Type 0 where
  pub there : (from : ℕ) → has starts from ≡ true → IsBegun pieces log from
  pub back : (from : ℕ) → from < at → IsBegun pieces log from → has starts from ≡ true

pub none_below : (pieces : List Piece) (log : List ℕ) → BeginsBelow pieces log 0 []
none_below pieces log = record { there = λ from h. absurd (never h); back = λ from h b. absurd (omega arith) }
  where
    never : false ≡ true → ⊥
    never e = cc

pub one_below : (pieces : List Piece) (log : List ℕ) (at : ℕ) (old now : List ℕ) (wanted : Bool)
    → ((wanted ≡ true) ↔ IsBegun pieces log at) → ((y : ℕ) → has now y ≡ (has old y || (wanted && eqb at y)))
    → BeginsBelow pieces log at old → BeginsBelow pieces log (at + 1) now
one_below pieces log at old now wanted w is b = record {
  there = λ from h. elim (or_cases (has old from) (wanted && eqb at from) (sym (is from) ∙ h)) [
    | inl o ↦ b.there from o
    | inr n ↦ (let p = and_parts wanted (eqb at from) n in
        subst (λ x. IsBegun pieces log x) (eqb-true at from p.1) (w.0 p.0))
  ];
  back = λ from h s. is from ∙ elim (less from h) [
    | inl o ↦ or_left (has old from) (wanted && eqb at from) (b.back from o s)
    | inr e ↦ or_right (has old from) (wanted && eqb at from)
        (and_from wanted (eqb at from) (w.1 (subst (λ x. IsBegun pieces log x) e s)) (eq-eqb at from (sym e)))
  ];
}
  where
    below : (from : ℕ) → from < at + 1 → from ≤ at
    below from h = omega arith

    less : (from : ℕ) → from < at + 1 → (from < at) ⊎ (from ≡ at)
    less from h = elim (eq-or-lt_of_le (below from h)) [ inl e ↦ inr e | inr l ↦ inl l ]

-- a stretch that isn't empty begins before the log's end
pub all_below : (pieces : List Piece) (log : List ℕ) (at : ℕ) (starts : List ℕ) → length log ≤ at → BeginsBelow pieces log at starts
    → BeginsExactly pieces log starts
all_below pieces log at starts h b from = (b.there from, λ s. b.back from (omega (arith, s.behind, s.spelled.spells.within)) s)
