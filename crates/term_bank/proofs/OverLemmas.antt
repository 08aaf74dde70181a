-- Nodes under which each has a property.
use Rattle.std.proofs.Common.{◌≡◌, ◌+◌, ◌∷◌, [], ℕ, zero, suc, List, Some, Bool, true, refl, sym, ap, subst, ◌∙◌, arith}
use Rattle.std.specs.Prelude.{slice_get}
use Rattle.term_bank.specs.declared.sort.Node.{Node}
use Rattle.term_bank.specs.declared.shape.Shape.{Shape}
use Rattle.term_bank.specs.declared.shape.Shape.TheVariants.{Flag, Constant}
use Rattle.term_bank.specs.Shapes.{Each, parts}
use Rattle.term_bank.specs.Values.{Grows}
use Rattle.term_bank.specs.Under.{Only, IsOnly, IsOver}
use Rattle.term_bank.specs.Folds.{IsFixed}
use Rattle.term_bank.proofs.Worth.{each}

only_more : (q : Shape → Bool) (shapes : List Shape) (k n : ℕ) → Only q shapes k n → Only q shapes (suc k) n
only_more q shapes zero n h = absurd h
only_more q shapes (suc k) n h = record { shape = h.shape; is = h.is; has = h.has; below = each (λ p. Only q shapes k p.index) (λ p. Only q shapes (suc k) p.index) (parts h.shape) (λ p x. only_more q shapes k p.index x) h.below }

only_up : (q : Shape → Bool) (shapes : List Shape) (d k j n : ℕ) → j ≡ d + k → Only q shapes k n → Only q shapes j n
only_up q shapes zero k j n e h = subst (λ m. Only q shapes m n) (same k j e) h where
  same : (k j : ℕ) → j ≡ 0 + k → k ≡ j
  same k j e = omega (arith, e)
only_up q shapes (suc d) k zero n e h = absurd (omega (arith, e))
only_up q shapes (suc d) k (suc j) n e h = only_more q shapes j n (only_up q shapes d k j n (less d k j e) h) where
  less : (d k j : ℕ) → suc j ≡ suc d + k → j ≡ d + k
  less d k j e = omega (arith, e)

-- one depth for all parts
together : (q : Shape → Bool) (shapes : List Shape) (ps : List Node) → Each (λ p. IsOnly q shapes p.index) ps → (k : ℕ) × Each (λ p. Only q shapes k p.index) ps
together q shapes [] h = (0, tt)
together q shapes (p ∷ ps) h =
    let rest = together q shapes ps h.1 in
    let all = h.0.depth + rest.0 in
    (all, (only_up q shapes rest.0 h.0.depth all p.index (turned h.0.depth rest.0) h.0.is, each (λ p. Only q shapes rest.0 p.index) (λ p. Only q shapes all p.index) ps (λ p x. only_up q shapes h.0.depth rest.0 all p.index refl x) rest.1))
  where
    turned : (a b : ℕ) → a + b ≡ b + a
    turned a b = omega arith

-- a node whose shape has the property, and whose parts have it below them
pub only_at : (q : Shape → Bool) (shapes : List Shape) (n : ℕ) (s : Shape) → slice_get shapes n ≡ Some s → q s ≡ true → Each (λ p. IsOnly q shapes p.index) (parts s) → IsOnly q shapes n
only_at q shapes n s is has below = let all = together q shapes (parts s) below in record { depth = suc all.0; is = record { shape = s; is = is; has = has; below = all.1 } }

at_shape : (q : Shape → Bool) (shapes : List Shape) (k n : ℕ) (s : Shape) → slice_get shapes n ≡ Some s → Only q shapes k n → (q s ≡ true) × Each (λ p. IsOnly q shapes p.index) (parts s)
at_shape q shapes zero n s is h = absurd h
at_shape q shapes (suc k) n s is h =
    let same : h.shape ≡ s = of_some h.shape s (sym h.is ∙ is) in
    (sym (ap q same) ∙ h.has, subst (λ t. Each (λ p. IsOnly q shapes p.index) (parts t)) same (each (λ p. Only q shapes k p.index) (λ p. IsOnly q shapes p.index) (parts h.shape) (λ p x. record { depth = k; is = x }) h.below))
  where
    of_some : (s t : Shape) → Some s ≡ Some t → s ≡ t
    of_some s t e = cc

-- what the shape of such a node has
pub only_below : (q : Shape → Bool) (shapes : List Shape) (n : ℕ) (s : Shape) → slice_get shapes n ≡ Some s → IsOnly q shapes n → (q s ≡ true) × Each (λ p. IsOnly q shapes p.index) (parts s)
only_below q shapes n s is h = at_shape q shapes h.depth n s is h.is

only_longer : (q : Shape → Bool) (a b : List Shape) → Grows a b → (k n : ℕ) → Only q a k n → Only q b k n
only_longer q a b g zero n h = absurd h
only_longer q a b g (suc k) n h = record { shape = h.shape; is = g.kept n h.shape h.is; has = h.has; below = each (λ p. Only q a k p.index) (λ p. Only q b k p.index) (parts h.shape) (λ p x. only_longer q a b g k p.index x) h.below }

pub only_grown : (q : Shape → Bool) (a b : List Shape) (n : ℕ) → Grows a b → IsOnly q a n → IsOnly q b n
only_grown q a b n g h = record { depth = h.depth; is = only_longer q a b g h.depth n h.is }

pub over_itself : (shapes : List Shape) (shape : Shape) (node : Node) → slice_get shapes node.index ≡ Some shape → IsOver shapes shape node
over_itself shapes shape node is = record { under = λ b g q flag constant has below. only_at q b node.index shape (g.kept node.index shape is) has below }

-- a constant stands over nothing
pub over_fixed : (shapes : List Shape) (shape known : Shape) (node : Node) → IsFixed known → slice_get shapes node.index ≡ Some known → IsOver shapes shape node
over_fixed shapes shape (Flag b) node fixed is = record { under = λ l g q flag constant has below. only_at q l node.index (Flag b) (g.kept node.index (Flag b) is) (flag b) tt }
over_fixed shapes shape (Constant x w) node fixed is = record { under = λ l g q flag constant has below. only_at q l node.index (Constant x w) (g.kept node.index (Constant x w) is) (constant x w) tt }
over_fixed shapes shape _ node fixed is = absurd fixed
