-- The nodes under roots, as numbers.
use Rattle.std.specs.Prelude.{◌≡◌, ℕ, zero, suc, List, [], ◌∷◌, Bool, true, Some, ◌⊎◌, slice_get}
use Rattle.std.specs.Ordering.{nat_cmp}
use Rattle.std.specs.BTreeSet.{BTreeSet, contains}
use Rattle.term_bank.specs.declared.sort.Node.{Node}
use Rattle.term_bank.specs.declared.shape.Shape.{Shape}
use Rattle.plain_data.specs.declared.width.Width.{Width}
use Rattle.term_bank.specs.declared.shape.Shape.TheVariants.{Flag, Constant}
use Rattle.term_bank.specs.Shapes.{Each, parts}
use Rattle.term_bank.specs.Values.{Grows}

abbrev pub Among : ℕ → List ℕ → Type 0
Among x [] = ⊥
Among x (y ∷ ys) = (x ≡ y) ⊎ Among x ys

abbrev pub numbers_of : List Node → List ℕ
numbers_of [] = []
numbers_of (n ∷ ns) = n.index ∷ numbers_of ns

abbrev pub In : BTreeSet ℕ → ℕ → Type 0
In set x = contains nat_cmp set x ≡ true

-- the new set has the old one's numbers, those of the list, and no others
pub record Adds (old new : BTreeSet ℕ) (xs : List ℕ) : Type 0 where
  pub kept : (q : ℕ) → In old q → In new q
  pub added : (q : ℕ) → Among q xs → In new q
  pub only : (q : ℕ) → In new q → In old q ⊎ Among q xs

-- the node of this number has a shape each part of which is in the list or has the property
pub record StandsOver (shapes : List Shape) (P : ℕ → Type 0) (n : ℕ) (ns : List ℕ) : Type 0 where
  pub shape : Shape
  pub is : slice_get shapes n ≡ Some shape
  pub parts_in : Each (λ p. Among p.index ns ⊎ P p.index) (parts shape)

-- each part of a node of the list stands behind it or has the property
abbrev pub IsHeld : List Shape → (ℕ → Type 0) → List ℕ → Type 0
IsHeld shapes P [] = Unit {0}
IsHeld shapes P (n ∷ ns) = StandsOver shapes P n ns × IsHeld shapes P ns

-- the node of this number has a shape with the property, and P holds of its parts
pub record OnlyAt (q : Shape → Bool) (shapes : List Shape) (P : ℕ → Type 0) (n : ℕ) : Type 0 where
  pub shape : Shape
  pub is : slice_get shapes n ≡ Some shape
  pub has : q shape ≡ true
  pub below : Each (λ p. P p.index) (parts shape)

-- the node of this number, and each that stands under it, has a shape with the property; none is so many steps down
abbrev pub Only : (Shape → Bool) → List Shape → ℕ → ℕ → Type 0
Only q shapes zero n = ⊥
Only q shapes (suc k) n = OnlyAt q shapes (Only q shapes k) n

pub record IsOnly (q : Shape → Bool) (shapes : List Shape) (n : ℕ) : Type 0 where
  pub depth : ℕ
  pub is : Only q shapes depth n

-- what stands under the node stands under the shape or is a constant, as long as the list grows
pub record IsOver (shapes : List Shape) (shape : Shape) (node : Node) : Type 0 where
  pub under : (b : List Shape) → Grows shapes b → (q : Shape → Bool) → ((b : Bool) → q (Flag b) ≡ true) → ((x : ℕ) (w : Width) → q (Constant x w) ≡ true) → q shape ≡ true → Each (λ p. IsOnly q b p.index) (parts shape) → IsOnly q b node.index

-- what stands under one node stands under another
pub record IsUnder (shapes : List Shape) (other n : ℕ) : Type 0 where
  pub under : (b : List Shape) → Grows shapes b → (q : Shape → Bool) → IsOnly q b other → IsOnly q b n

-- what holds of all that stands under some nodes holds of all that stands under the node of this number
pub record IsBelow (shapes : List Shape) (roots : List Node) (n : ℕ) : Type 0 where
  pub below : (b : List Shape) → Grows shapes b → (q : Shape → Bool) → Each (λ r. IsOnly q b r.index) roots → IsOnly q b n

-- the list has the roots, behind each node its parts, and no node that isn't a root and doesn't stand under one
pub record IsCut (shapes : List Shape) (roots : List Node) (numbers : List ℕ) : Type 0 where
  pub rooted : Each (λ r. Among r.index numbers) roots
  pub held : IsHeld shapes (λ n. ⊥) numbers
  pub only : (n : ℕ) → Among n numbers → IsBelow shapes roots n
