-- The derived `==` of shapes is equality.
use Rattle.std.proofs.Common.{◌≡◌, true, arith}
use Rattle.plain_data.specs.declared.width.Width.{Width}
use Rattle.plain_data.specs.declared.width.Width.TheVariants as width
use Rattle.plain_data.specs.declared.run.Side.{Side}
use Rattle.plain_data.specs.declared.run.Side.TheVariants as side
use Rattle.c_store.specs.declared.object.ObjectKind.{ObjectKind}
use Rattle.c_store.specs.declared.object.ObjectKind.TheVariants as kind
use Rattle.plain_data.specs.contracts.width.WidthPartialEq.TheImpl.{ghosts as width_ghosts}
use Rattle.plain_data.specs.contracts.run.SidePartialEq.TheImpl.{ghosts as side_ghosts}
use Rattle.c_store.specs.contracts.object.ObjectKindPartialEq.TheImpl.{ghosts as kind_ghosts}
use Rattle.term_bank.specs.contracts.sort.SortPartialEq.TheImpl.{ghosts as sort_ghosts}
use Rattle.term_bank.specs.contracts.shape.WordOperatorPartialEq.TheImpl.{ghosts as operator_ghosts}
use Rattle.term_bank.specs.contracts.shape.WordTestPartialEq.TheImpl.{ghosts as test_ghosts}
use Rattle.term_bank.specs.contracts.shape.ConnectivePartialEq.TheImpl.{ghosts as connective_ghosts}
use Rattle.term_bank.specs.contracts.shape.ExtensionPartialEq.TheImpl.{ghosts as extension_ghosts}
use Rattle.term_bank.specs.contracts.shape.ShapePartialEq.TheImpl.{ghosts}
use Rattle.term_bank.specs.declared.sort.Sort.{Sort}
use Rattle.term_bank.specs.declared.sort.Sort.TheVariants as sort
use Rattle.term_bank.specs.declared.shape.WordOperator.{WordOperator}
use Rattle.term_bank.specs.declared.shape.WordOperator.TheVariants as operator
use Rattle.term_bank.specs.declared.shape.WordTest.{WordTest}
use Rattle.term_bank.specs.declared.shape.WordTest.TheVariants as test
use Rattle.term_bank.specs.declared.shape.Connective.{Connective}
use Rattle.term_bank.specs.declared.shape.Connective.TheVariants as connective
use Rattle.term_bank.specs.declared.shape.Extension.{Extension}
use Rattle.term_bank.specs.declared.shape.Extension.TheVariants as extension
use Rattle.term_bank.specs.declared.shape.Shape.{Shape}
use Rattle.term_bank.specs.declared.shape.Shape.TheVariants.{Flag, Constant, Parameter, Base, Entry, Initial, WorldWord, InitialByte, Binary, Test, Convert, Not, Connect, Choose, Write, ZeroRange, CopyRange, Made, Ended, Read, ObjectSize, IsLive, HasKind, NoEvents, BranchEvent, CallEvent, PrintEvent, EventsBehind, NoNumbers, NumberBehind}

pub width_true : (a b : Width) → width_ghosts.eq a b ≡ true → a ≡ b
width_true width.W8 b h = grind arith
width_true width.W16 b h = grind arith
width_true width.W32 b h = grind arith
width_true width.W64 b h = grind arith

kind_true : (a b : ObjectKind) → kind_ghosts.eq a b ≡ true → a ≡ b
kind_true kind.Static b h = grind arith
kind_true kind.Automatic b h = grind arith
kind_true kind.Literal b h = grind arith
kind_true kind.Heap b h = grind arith
kind_true kind.Outside b h = grind arith

operator_true : (a b : WordOperator) → operator_ghosts.eq a b ≡ true → a ≡ b
operator_true operator.Add b h = grind arith
operator_true operator.Sub b h = grind arith
operator_true operator.Mul b h = grind arith
operator_true operator.Udiv b h = grind arith
operator_true operator.Urem b h = grind arith
operator_true operator.Sdiv b h = grind arith
operator_true operator.Srem b h = grind arith
operator_true operator.And b h = grind arith
operator_true operator.Or b h = grind arith
operator_true operator.Xor b h = grind arith
operator_true operator.Shl b h = grind arith
operator_true operator.Lshr b h = grind arith
operator_true operator.Ashr b h = grind arith

test_true : (a b : WordTest) → test_ghosts.eq a b ≡ true → a ≡ b
test_true test.Equal b h = grind arith
test_true test.Below b h = grind arith
test_true test.SignedBelow b h = grind arith
test_true test.AddOver b h = grind arith
test_true test.SubOver b h = grind arith
test_true test.MulOver b h = grind arith
test_true test.DivOver b h = grind arith
test_true test.ShlOver b h = grind arith

connective_true : (a b : Connective) → connective_ghosts.eq a b ≡ true → a ≡ b
connective_true connective.And b h = grind arith
connective_true connective.Or b h = grind arith

extension_true : (a b : Extension) → extension_ghosts.eq a b ≡ true → a ≡ b
extension_true extension.Zero b h = grind arith
extension_true extension.Sign b h = grind arith

pub sort_true : (a b : Sort) → sort_ghosts.eq a b ≡ true → a ≡ b
sort_true sort.Truth b h = grind arith
sort_true (sort.Word w) b h = grind (arith, width_true)
sort_true sort.Memory b h = grind arith
sort_true sort.Events b h = grind arith
sort_true sort.Numbers b h = grind arith

side_true : (a b : Side) → side_ghosts.eq a b ≡ true → a ≡ b
side_true side.Yes b h = grind arith
side_true side.No b h = grind arith
side_true (side.Case x) b h = grind arith
side_true side.Otherwise b h = grind arith

pub shape_true : (s t : Shape) → ghosts.eq s t ≡ true → s ≡ t
shape_true (Flag b) (Flag b2) h = grind arith
shape_true (Flag b) t h = cc
shape_true (Constant x w') (Constant x2 w2) h = grind (arith, width_true)
shape_true (Constant x w') t h = cc
shape_true (Parameter k w') (Parameter k2 w2) h = grind (arith, width_true)
shape_true (Parameter k w') t h = cc
shape_true Base t h = grind arith
shape_true Entry t h = grind arith
shape_true Initial t h = grind arith
shape_true (WorldWord w' p) (WorldWord w2 p2) h = grind (arith, width_true)
shape_true (WorldWord w' p) t h = cc
shape_true (InitialByte r a) (InitialByte r2 a2) h = grind arith
shape_true (InitialByte r a) t h = cc
shape_true (Binary op w' x y) (Binary op2 w2 x2 y2) h = grind (arith, width_true, operator_true)
shape_true (Binary op w' x y) t h = cc
shape_true (Test u w' x y) (Test u2 w2 x2 y2) h = grind (arith, width_true, test_true)
shape_true (Test u w' x y) t h = cc
shape_true (Convert x from to a) (Convert x2 from2 to2 a2) h = grind (arith, width_true, extension_true)
shape_true (Convert x from to a) t h = cc
shape_true (Not a) (Not a2) h = grind arith
shape_true (Not a) t h = cc
shape_true (Connect c a b) (Connect c2 a2 b2) h = grind (arith, connective_true)
shape_true (Connect c a b) t h = cc
shape_true (Choose s c a b) (Choose s2 c2 a2 b2) h = grind (arith, sort_true)
shape_true (Choose s c a b) t h = cc
shape_true (Write w' m a x) (Write w2 m2 a2 x2) h = grind (arith, width_true)
shape_true (Write w' m a x) t h = cc
shape_true (ZeroRange m a n) (ZeroRange m2 a2 n2) h = grind arith
shape_true (ZeroRange m a n) t h = cc
shape_true (CopyRange m to source from n) (CopyRange m2 to2 source2 from2 n2) h = grind arith
shape_true (CopyRange m to source from n) t h = cc
shape_true (Made k m p n) (Made k2 m2 p2 n2) h = grind (arith, kind_true)
shape_true (Made k m p n) t h = cc
shape_true (Ended m p) (Ended m2 p2) h = grind arith
shape_true (Ended m p) t h = cc
shape_true (Read w' m a) (Read w2 m2 a2) h = grind (arith, width_true)
shape_true (Read w' m a) t h = cc
shape_true (ObjectSize m p) (ObjectSize m2 p2) h = grind arith
shape_true (ObjectSize m p) t h = cc
shape_true (IsLive m a n) (IsLive m2 a2 n2) h = grind arith
shape_true (IsLive m a n) t h = cc
shape_true (HasKind k m p) (HasKind k2 m2 p2) h = grind (arith, kind_true)
shape_true (HasKind k m p) t h = cc
shape_true NoEvents t h = grind arith
shape_true (BranchEvent xs n at s) (BranchEvent xs2 n2 at2 s2) h = grind (arith, side_true)
shape_true (BranchEvent xs n at s) t h = cc
shape_true (CallEvent xs n at) (CallEvent xs2 n2 at2) h = grind arith
shape_true (CallEvent xs n at) t h = cc
shape_true (PrintEvent xs n at l seen) (PrintEvent xs2 n2 at2 l2 seen2) h = grind arith
shape_true (PrintEvent xs n at l seen) t h = cc
shape_true (EventsBehind xs ys) (EventsBehind xs2 ys2) h = grind arith
shape_true (EventsBehind xs ys) t h = cc
shape_true NoNumbers t h = grind arith
shape_true (NumberBehind xs w' s x) (NumberBehind xs2 w2 s2 x2) h = grind (arith, width_true)
shape_true (NumberBehind xs w' s x) t h = cc
