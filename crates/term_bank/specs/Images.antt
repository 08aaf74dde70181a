-- Nodes that stand for nodes.
use Rattle.std.specs.Prelude.{◌≡◌, ℕ, List, [], ◌∷◌, Option, Some, None, cond, nat_eq, unwrap_or}
use Rattle.std.specs.HashMap.{HashMap, get}
use Rattle.std.specs.declared.hash.FoldHasher.{FoldHasher}
use Rattle.std.specs.declared.hash.BuildHasherDefault.{BuildHasherDefault}
use Rattle.term_bank.specs.declared.sort.Node.{Node}
use Rattle.term_bank.specs.declared.shape.Shape.{Shape}
use Rattle.term_bank.specs.declared.shape.Shape.TheVariants.{Flag, Constant, Parameter, Base, Entry, Initial, WorldWord, InitialByte, Binary, Test, Convert, Not, Connect, Choose, Write, ZeroRange, CopyRange, Made, Ended, Read, ObjectSize, IsLive, HasKind, NoEvents, BranchEvent, CallEvent, PrintEvent, EventsBehind, NoNumbers, NumberBehind}

abbrev pub Images : Type 0
Images = HashMap ℕ Node (BuildHasherDefault FoldHasher)

abbrev pub index_in : Option Node → ℕ
index_in None = 0
index_in (Some node) = node.index

-- the number of the node that stands for a node, 0 where none does
abbrev pub image_in : Images → ℕ → ℕ
image_in images n = index_in (get nat_eq images n)

-- the node that stands for a node, itself where none does
abbrev pub image_at : Images → Node → Node
image_at images node = unwrap_or (get nat_eq images node.index) node

-- a node now stands for a node
abbrev pub Puts : Images → Images → ℕ → Node → Type 0
Puts old new number node = (q : ℕ) → get nat_eq new q ≡ cond (nat_eq number q) (Some node) (get nat_eq old q)

-- a shape over other parts
abbrev pub over_images : (ℕ → ℕ) → Shape → Shape
over_images f (Flag b) = Flag b
over_images f (Constant x w) = Constant x w
over_images f (Parameter k w) = Parameter k w
over_images f Base = Base
over_images f Entry = Entry
over_images f Initial = Initial
over_images f (WorldWord w p) = WorldWord w (f p)
over_images f (InitialByte r a) = InitialByte r (f a)
over_images f (Binary op w x y) = Binary op w (f x) (f y)
over_images f (Test t w x y) = Test t w (f x) (f y)
over_images f (Convert x from to a) = Convert x from to (f a)
over_images f (Not a) = Not (f a)
over_images f (Connect c a b) = Connect c (f a) (f b)
over_images f (Choose s c a b) = Choose s (f c) (f a) (f b)
over_images f (Write w m a x) = Write w (f m) (f a) (f x)
over_images f (ZeroRange m a n) = ZeroRange (f m) (f a) (f n)
over_images f (CopyRange m to source from n) = CopyRange (f m) (f to) (f source) (f from) (f n)
over_images f (Made k m p n) = Made k (f m) (f p) (f n)
over_images f (Ended m p) = Ended (f m) (f p)
over_images f (Read w m a) = Read w (f m) (f a)
over_images f (ObjectSize m p) = ObjectSize (f m) (f p)
over_images f (IsLive m a n) = IsLive (f m) (f a) (f n)
over_images f (HasKind k m p) = HasKind k (f m) (f p)
over_images f NoEvents = NoEvents
over_images f (BranchEvent xs n at side) = BranchEvent (f xs) n at side
over_images f (CallEvent xs n at) = CallEvent (f xs) n at
over_images f (PrintEvent xs n at length seen) = PrintEvent (f xs) n at length (f seen)
over_images f (EventsBehind xs ys) = EventsBehind (f xs) (f ys)
over_images f NoNumbers = NoNumbers
over_images f (NumberBehind xs w s x) = NumberBehind (f xs) w s (f x)

-- a node stands for the node of this number, and P holds of both
pub record Imaged (P : ℕ → Node → Type 0) (images : Images) (n : ℕ) : Type 0 where
  pub node : Node
  pub found : get nat_eq images n ≡ Some node
  pub is : P n node

-- as many nodes as roots, and P holds of each root and its node
abbrev pub AreImages : (ℕ → Node → Type 0) → List Node → List Node → Type 0
AreImages P [] [] = Unit {0}
AreImages P [] (n ∷ ns) = ⊥
AreImages P (r ∷ rs) [] = ⊥
AreImages P (r ∷ rs) (n ∷ ns) = P r.index n × AreImages P rs ns
