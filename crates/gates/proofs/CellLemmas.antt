-- Cells by the literals that they name.
use Rattle.std.proofs.Common.{◌≡◌, ℕ, Bool, true, false, arith, refl, sym, ap, subst, ◌∙◌, cond, Some}
use Rattle.gates.specs.contracts.cell.CellPartialEq.TheImpl.{ghosts}
use Rattle.gates.specs.declared.cell.Cell.{Cell}
use Rattle.gates.specs.declared.cell.Cell.TheVariants.{And, Xor, Majority, Choose}
use Rattle.gates.specs.Nets.{Net}
use Rattle.gates.specs.Cells.{Table, met_in, IsMet, AreMet, HasSame, Puts}

pub cell_true : (s t : Cell) → ghosts.eq s t ≡ true → s ≡ t
cell_true (And a b) (And a2 b2) h = grind arith
cell_true (And a b) t h = cc
cell_true (Xor a b) (Xor a2 b2) h = grind arith
cell_true (Xor a b) t h = cc
cell_true (Majority a b c) (Majority a2 b2 c2) h = grind arith
cell_true (Majority a b c) t h = cc
cell_true (Choose c a b) (Choose c2 a2 b2) h = grind arith
cell_true (Choose c a b) t h = cc

some_of : (x y : ℕ) → Some x ≡ Some y → x ≡ y
some_of x y e = cc

pub met_put : (net : Net) (old new : Table) (cell : Cell) (x : ℕ) → AreMet net old → IsMet net cell x → Puts old new cell x → AreMet net new
met_put net old new cell x met is puts = record { are = λ q y found. either (ghosts.eq cell q) q y refl found }
  where
    either : (b : Bool) (q : Cell) (y : ℕ) → ghosts.eq cell q ≡ b → met_in new q ≡ Some y → IsMet net q y
    either true q y e found = subst (λ s. IsMet net s y) (cell_true cell q e) (subst (λ z. IsMet net cell z) (some_of x y (sym (puts q ∙ ap (λ t. cond t (Some x) (met_in old q)) e) ∙ found)) is)
    either false q y e found = met.are q y (sym (puts q ∙ ap (λ t. cond t (Some x) (met_in old q)) e) ∙ found)

pub met_same : (net : Net) (old new : Table) → AreMet net old → HasSame old new → AreMet net new
met_same net old new met same = record { are = λ q y found. met.are q y (sym (same q) ∙ found) }
