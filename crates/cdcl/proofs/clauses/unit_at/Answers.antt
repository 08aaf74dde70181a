use Rattle.std.proofs.Common.{◌≡◌, ◌∷◌, [], ℕ, ◌+◌, ◌-◌, zero, suc, List, Some, take, drop, arith, refl}
use Rattle.std.specs.List.{slice_get}
use Rattle.cdcl.proofs.clauses.unit_at.Goals as goal

one : {X : Type 0} (xs : List X) (i : ℕ) (x : X) → slice_get xs i ≡ Some x → take 1 (drop i xs) ≡ x ∷ []
one [] i x e = absurd (cc)
one (y ∷ ys) zero x e = let s : y ≡ x = cc in rw s refl
one (y ∷ ys) (suc i) x e = one ys i x e

pub returns : goal.returns
returns c = λ l e. let n : c.args.index + 1 - c.args.index ≡ 1 = omega arith in rw n (one c.args.literals.now c.args.index l e)
