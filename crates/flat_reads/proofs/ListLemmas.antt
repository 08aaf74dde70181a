-- The bytes of the initial memory that stand under nodes are the table's.
use Rattle.std.proofs.Common.{◌≡◌, ◌++◌, ◌∷◌, [], ℕ, zero, suc, List, Some, Bool, true, false, arith, refl, sym, ap, subst, ◌∙◌, nat_eq}
use Rattle.std.specs.Prelude.{slice_get, ◌&&◌, ◌||◌}
use Rattle.std.proofs.lemmas.Bool.Decides.{nat_tests}
use Rattle.term_bank.specs.declared.sort.Node.{Node}
use Rattle.term_bank.specs.declared.shape.Shape.{Shape}
use Rattle.term_bank.specs.declared.shape.Shape.TheVariants.{Flag, Constant, Parameter, Base, Entry, Initial, WorldWord, InitialByte, Binary, Test, Convert, Not, Connect, Choose, Write, ZeroRange, CopyRange, Made, Ended, Read, ObjectSize, IsLive, HasKind, NoEvents, BranchEvent, CallEvent, PrintEvent, EventsBehind, NoNumbers, NumberBehind}
use Rattle.term_bank.specs.Shapes.{Each, parts}
use Rattle.term_bank.specs.Values.{Grows}
use Rattle.term_bank.specs.Under.{IsHeld, Only, IsOnly, IsBelow}
use Rattle.term_bank.proofs.Worth.{each}
use Rattle.term_bank.proofs.BankLemmas.{grows_on}
use Rattle.term_bank.proofs.OverLemmas.{only_at, only_grown}
use Rattle.flat_reads.specs.declared.table.Row.{Row}
use Rattle.flat_reads.specs.Flats.{IsFlatOver, is_flat}
use Rattle.flat_reads.specs.Tables.{Lists, has_row, is_listed}

-- what stands under a node has a property that follows from one that it has
only_for : (p q : Shape → Bool) → ((s : Shape) → p s ≡ true → q s ≡ true) → (shapes : List Shape) (k n : ℕ) → Only p shapes k n → Only q shapes k n
only_for p q f shapes zero n h = absurd h
only_for p q f shapes (suc k) n h = record { shape = h.shape; is = h.is; has = f h.shape h.has; below = each (λ r. Only p shapes k r.index) (λ r. Only q shapes k r.index) (parts h.shape) (λ r x. only_for p q f shapes k r.index x) h.below }

-- a shape is listed if it is no byte of the initial memory, or one of the table's
shape_listed : (table : List Row) (s : Shape) → ((r a : ℕ) → s ≡ InitialByte r a → has_row table r a ≡ true) → is_listed table s ≡ true
shape_listed table (Flag b) h = refl
shape_listed table (Constant x w) h = refl
shape_listed table (Parameter k w) h = refl
shape_listed table Base h = refl
shape_listed table Entry h = refl
shape_listed table Initial h = refl
shape_listed table (WorldWord w p) h = refl
shape_listed table (InitialByte r a) h = h r a refl
shape_listed table (Binary op w x y) h = refl
shape_listed table (Test t w x y) h = refl
shape_listed table (Convert x from to a) h = refl
shape_listed table (Not a) h = refl
shape_listed table (Connect c a b) h = refl
shape_listed table (Choose s c a b) h = refl
shape_listed table (Write w m a x) h = refl
shape_listed table (ZeroRange m a n) h = refl
shape_listed table (CopyRange m to source from n) h = refl
shape_listed table (Made k m p n) h = refl
shape_listed table (Ended m p) h = refl
shape_listed table (Read w m a) h = refl
shape_listed table (ObjectSize m p) h = refl
shape_listed table (IsLive m a n) h = refl
shape_listed table (HasKind k m p) h = refl
shape_listed table NoEvents h = refl
shape_listed table (BranchEvent xs n at side) h = refl
shape_listed table (CallEvent xs n at) h = refl
shape_listed table (PrintEvent xs n at length seen) h = refl
shape_listed table (EventsBehind xs ys) h = refl
shape_listed table NoNumbers h = refl
shape_listed table (NumberBehind xs w s x) h = refl

more_listed : (old new : List Row) (s : Shape) → ((r a : ℕ) → has_row old r a ≡ true → has_row new r a ≡ true) → is_listed old s ≡ true → is_listed new s ≡ true
more_listed old new (Flag b) f h = refl
more_listed old new (Constant x w) f h = refl
more_listed old new (Parameter k w) f h = refl
more_listed old new Base f h = refl
more_listed old new Entry f h = refl
more_listed old new Initial f h = refl
more_listed old new (WorldWord w p) f h = refl
more_listed old new (InitialByte r a) f h = f r a h
more_listed old new (Binary op w x y) f h = refl
more_listed old new (Test t w x y) f h = refl
more_listed old new (Convert x from to a) f h = refl
more_listed old new (Not a) f h = refl
more_listed old new (Connect c a b) f h = refl
more_listed old new (Choose s c a b) f h = refl
more_listed old new (Write w m a x) f h = refl
more_listed old new (ZeroRange m a n) f h = refl
more_listed old new (CopyRange m to source from n) f h = refl
more_listed old new (Made k m p n) f h = refl
more_listed old new (Ended m p) f h = refl
more_listed old new (Read w m a) f h = refl
more_listed old new (ObjectSize m p) f h = refl
more_listed old new (IsLive m a n) f h = refl
more_listed old new (HasKind k m p) f h = refl
more_listed old new NoEvents f h = refl
more_listed old new (BranchEvent xs n at side) f h = refl
more_listed old new (CallEvent xs n at) f h = refl
more_listed old new (PrintEvent xs n at length seen) f h = refl
more_listed old new (EventsBehind xs ys) f h = refl
more_listed old new NoNumbers f h = refl
more_listed old new (NumberBehind xs w s x) f h = refl

-- a node is as listed over a longer list and a longer table
pub listed_more : (a b : List Shape) (old new : List Row) (n : ℕ) → Grows a b → ((r a : ℕ) → has_row old r a ≡ true → has_row new r a ≡ true) → IsOnly (is_listed old) a n → IsOnly (is_listed new) b n
listed_more a b old new n g f h = only_grown (is_listed new) a b n g (record { depth = h.depth; is = only_for (is_listed old) (is_listed new) (λ s k. more_listed old new s f k) a h.depth n h.is })

-- a node is listed once it was looked at, where its parts are
pub listed_here : (a b : List Shape) (old new : List Row) (k : ℕ) (s : Shape) → Grows a b → Lists a k old new → slice_get a k ≡ Some s → Each (λ p. IsOnly (is_listed old) a p.index) (parts s) → IsOnly (is_listed new) b k
listed_here a b old new k s g lists is below = only_at (is_listed new) b k s (g.kept k s is)
    (shape_listed new s (λ r x same. lists.here r x (is ∙ ap (λ t. Some t) same)))
    (each (λ p. IsOnly (is_listed old) a p.index) (λ p. IsOnly (is_listed new) b p.index) (parts s) (λ p h. listed_more a b old new p.index g lists.kept h) below)

pub held_grown : (a b : List Shape) (P : ℕ → Type 0) (ns : List ℕ) → Grows a b → IsHeld a P ns → IsHeld b P ns
held_grown a b P [] g h = tt
held_grown a b P (n ∷ ns) g h = (record { shape = h.0.shape; is = g.kept n h.0.shape h.0.is; parts_in = h.0.parts_in }, held_grown a b P ns g h.1)

pub below_grown : (a b : List Shape) (roots : List Node) (n : ℕ) → Grows a b → IsBelow a roots n → IsBelow b roots n
below_grown a b roots n g h = record { below = λ l k q x. h.below l (grows_on g k) q x }

pub below_flat : (shapes : List Shape) (roots : List Node) (n : ℕ) → IsBelow shapes roots n → IsFlatOver shapes roots n
below_flat shapes roots n h = record { flat = λ b g q x. h.below b g (is_flat q) x }

or_first : (a b : Bool) → a ≡ true → (a || b) ≡ true
or_first true b h = refl
or_first false b h = absurd (cc)

or_second : (a b : Bool) → b ≡ true → (a || b) ≡ true
or_second true b h = refl
or_second false b h = h

or_either : (a b c : Bool) → (b ≡ true → c ≡ true) → (a || b) ≡ true → (a || c) ≡ true
or_either true b c f h = refl
or_either false b c f h = f h

has_front : (table : List Row) (row : Row) (r a : ℕ) → has_row table r a ≡ true → has_row (table ++ row ∷ []) r a ≡ true
has_front [] row r a h = absurd (cc)
has_front (x ∷ xs) row r a h = or_either (nat_eq x.row r && nat_eq x.address a) (has_row xs r a) (has_row (xs ++ row ∷ []) r a) (λ k. has_front xs row r a k) h

has_last : (table : List Row) (row : Row) → has_row (table ++ row ∷ []) row.row row.address ≡ true
has_last [] row = or_first (nat_eq row.row row.row && nat_eq row.address row.address) false (both row.row row.address) where
  both : (r a : ℕ) → (nat_eq r r && nat_eq a a) ≡ true
  both r a = grind (arith, nat_tests)
has_last (x ∷ xs) row = or_second (nat_eq x.row row.row && nat_eq x.address row.address) (has_row (xs ++ row ∷ []) row.row row.address) (has_last xs row)

pub lists_row : (shapes : List Shape) (table : List Row) (row : Row) → slice_get shapes row.byte ≡ Some (InitialByte row.row row.address) → Lists shapes row.byte table (table ++ row ∷ [])
lists_row shapes table row is = record {
  kept = λ r a h. has_front table row r a h;
  here = λ r a same. same_row r a (of_some (InitialByte row.row row.address) (InitialByte r a) (sym is ∙ same));
} where
  of_some : (s t : Shape) → Some s ≡ Some t → s ≡ t
  of_some s t e = cc

  first : (a b c d : ℕ) → InitialByte a b ≡ InitialByte c d → a ≡ c
  first a b c d e = cc

  second : (a b c d : ℕ) → InitialByte a b ≡ InitialByte c d → b ≡ d
  second a b c d e = cc

  same_row : (r a : ℕ) → InitialByte row.row row.address ≡ InitialByte r a → has_row (table ++ row ∷ []) r a ≡ true
  same_row r a e = subst (λ x. has_row (table ++ row ∷ []) x a ≡ true) (first row.row row.address r a e) (subst (λ y. has_row (table ++ row ∷ []) row.row y ≡ true) (second row.row row.address r a e) (has_last table row))

pub lists_none : (shapes : List Shape) (n : ℕ) (table : List Row) → ((r a : ℕ) → slice_get shapes n ≡ Some (InitialByte r a) → ⊥) → Lists shapes n table table
lists_none shapes n table none = record { kept = λ r a h. h; here = λ r a is. absurd (none r a is) }
