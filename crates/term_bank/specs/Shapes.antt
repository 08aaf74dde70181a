-- What a shape asks of its parts: their sorts.
use Rattle.std.specs.Prelude.{◌≡◌, ◌<◌, ◌^◌, ℕ, List, [], ◌∷◌, Option, Some, slice_get}
use Rattle.std.specs.Option.{option_map}
use Rattle.plain_data.specs.Words.{bits}
use Rattle.plain_data.specs.declared.width.Width.{Width}
use Rattle.plain_data.specs.declared.width.Width.TheVariants.{W8, W64}
use Rattle.term_bank.specs.declared.sort.Sort.{Sort}
use Rattle.term_bank.specs.declared.sort.Sort.TheVariants.{Truth, Word, Memory, Events, Numbers}
use Rattle.term_bank.specs.declared.sort.Node.{Node}
use Rattle.term_bank.specs.declared.shape.Shape.{Shape}
use Rattle.term_bank.specs.declared.shape.Shape.TheVariants.{Flag, Constant, Parameter, Base, Entry, Initial, WorldWord, InitialByte, Binary, Test, Convert, Not, Connect, Choose, Write, ZeroRange, CopyRange, Made, Ended, Read, ObjectSize, IsLive, HasKind, NoEvents, BranchEvent, CallEvent, PrintEvent, EventsBehind, NoNumbers, NumberBehind}

-- the sort of a node of this shape
abbrev pub sort_of : Shape → Sort
sort_of (Flag b) = Truth
sort_of (Constant x w) = Word w
sort_of (Parameter k w) = Word w
sort_of Base = Word W64
sort_of Entry = Memory
sort_of Initial = Memory
sort_of (WorldWord w p) = Word w
sort_of (InitialByte r a) = Word W8
sort_of (Binary op w x y) = Word w
sort_of (Test t w x y) = Truth
sort_of (Convert x from to a) = Word to
sort_of (Not a) = Truth
sort_of (Connect c a b) = Truth
sort_of (Choose s c a b) = s
sort_of (Write w m a x) = Memory
sort_of (ZeroRange m a n) = Memory
sort_of (CopyRange m to source from n) = Memory
sort_of (Made k m p n) = Memory
sort_of (Ended m p) = Memory
sort_of (Read w m a) = Word w
sort_of (ObjectSize m p) = Word W64
sort_of (IsLive m a n) = Truth
sort_of (HasKind k m p) = Truth
sort_of NoEvents = Events
sort_of (BranchEvent xs n at side) = Events
sort_of (CallEvent xs n at) = Events
sort_of (PrintEvent xs n at length seen) = Events
sort_of (EventsBehind xs ys) = Events
sort_of NoNumbers = Numbers
sort_of (NumberBehind xs w s x) = Numbers

abbrev pub truth : ℕ → Node
truth n = record { index = n; sort = Truth }

abbrev pub word : Width → ℕ → Node
word w n = record { index = n; sort = Word w }

abbrev pub memory : ℕ → Node
memory n = record { index = n; sort = Memory }

abbrev pub events : ℕ → Node
events n = record { index = n; sort = Events }

abbrev pub numbers : ℕ → Node
numbers n = record { index = n; sort = Numbers }

-- a shape's parts, each with the sort that the operator asks for
abbrev pub parts : Shape → List Node
parts (Flag b) = []
parts (Constant x w) = []
parts (Parameter k w) = []
parts Base = []
parts Entry = []
parts Initial = []
parts (WorldWord w p) = word W64 p ∷ []
parts (InitialByte r a) = word W64 a ∷ []
parts (Binary op w x y) = word w x ∷ (word w y ∷ [])
parts (Test t w x y) = word w x ∷ (word w y ∷ [])
parts (Convert x from to a) = word from a ∷ []
parts (Not a) = truth a ∷ []
parts (Connect c a b) = truth a ∷ (truth b ∷ [])
parts (Choose s c a b) = truth c ∷ (record { index = a; sort = s } ∷ (record { index = b; sort = s } ∷ []))
parts (Write w m a x) = memory m ∷ (word W64 a ∷ (word w x ∷ []))
parts (ZeroRange m a n) = memory m ∷ (word W64 a ∷ (word W64 n ∷ []))
parts (CopyRange m to source from n) = memory m ∷ (word W64 to ∷ (memory source ∷ (word W64 from ∷ (word W64 n ∷ []))))
parts (Made k m p n) = memory m ∷ (word W64 p ∷ (word W64 n ∷ []))
parts (Ended m p) = memory m ∷ (word W64 p ∷ [])
parts (Read w m a) = memory m ∷ (word W64 a ∷ [])
parts (ObjectSize m p) = memory m ∷ (word W64 p ∷ [])
parts (IsLive m a n) = memory m ∷ (word W64 a ∷ (word W64 n ∷ []))
parts (HasKind k m p) = memory m ∷ (word W64 p ∷ [])
parts NoEvents = []
parts (BranchEvent xs n at side) = events xs ∷ []
parts (CallEvent xs n at) = events xs ∷ []
parts (PrintEvent xs n at length seen) = events xs ∷ (numbers seen ∷ [])
parts (EventsBehind xs ys) = events xs ∷ (events ys ∷ [])
parts NoNumbers = []
parts (NumberBehind xs w s x) = numbers xs ∷ (word w x ∷ [])

-- each node of a list has the property
abbrev pub Each : (Node → Type 0) → List Node → Type 0
Each P [] = Unit {0}
Each P (n ∷ ns) = P n × Each P ns

-- a constant is below 2^N of its width
abbrev pub IsInWidth : Shape → Type 0
IsInWidth (Constant x w) = x < 2 ^ bits w
IsInWidth _ = Unit {0}

-- the sort of the node of a number
abbrev pub sort_at : List Shape → ℕ → Option Sort
sort_at shapes n = option_map sort_of (slice_get shapes n)

-- the node stands in the list under its sort
pub record IsNode (shapes : List Shape) (node : Node) : Type 0 where
  pub sorted : sort_at shapes node.index ≡ Some node.sort

-- the shape may be added: its parts are nodes of the list, of the sorts that its operator asks for
pub record IsWell (shapes : List Shape) (shape : Shape) : Type 0 where
  pub parts_stand : Each (IsNode shapes) (parts shape)
  pub in_width : IsInWidth shape
