-- What nodes are worth in an environment.
use Rattle.std.specs.Prelude.{◌≡◌, ◌≤◌, ◌<◌, ◌/◌, ◌%◌, ◌^◌, ◌-◌, ◌++◌, [], ◌∷◌, ℕ, ℤ, pos, List, length, Some, Bool, true, false, not, cond, nat_eq, nat_lt, ◌&&◌, bit_and, bit_or, bit_xor, slice_get, slice_index}
use Rattle.plain_data.specs.Words.{bits, word, signed, add, sub, mul, sdiv, srem, shl, lshr, ashr, add_over, sub_over, mul_over, shl_over, ult, slt}
use Rattle.plain_data.specs.declared.width.Width.{Width}
use Rattle.plain_data.specs.declared.width.Width.TheVariants.{W8, W64}
use Rattle.plain_data.specs.declared.run.Event.{Event}
use Rattle.plain_data.specs.declared.run.Happening.TheVariants as happening
use Rattle.c_store.specs.Store.{Store, initial, make, end, object_size}
use Rattle.c_store.specs.Access.{is_live}
use Rattle.term_bank.specs.declared.sort.Sort.{Sort}
use Rattle.term_bank.specs.declared.sort.Sort.TheVariants as sort
use Rattle.term_bank.specs.declared.sort.Node.{Node}
use Rattle.term_bank.specs.declared.shape.WordOperator.{WordOperator}
use Rattle.term_bank.specs.declared.shape.WordOperator.TheVariants as operator
use Rattle.term_bank.specs.declared.shape.WordTest.{WordTest}
use Rattle.term_bank.specs.declared.shape.WordTest.TheVariants as test
use Rattle.term_bank.specs.declared.shape.Connective.{Connective}
use Rattle.term_bank.specs.declared.shape.Connective.TheVariants as connective
use Rattle.term_bank.specs.declared.shape.Extension.{Extension}
use Rattle.term_bank.specs.declared.shape.Extension.TheVariants as extension
use Rattle.term_bank.specs.declared.shape.Shape.{Shape}
use Rattle.term_bank.specs.declared.shape.Shape.TheVariants.{Flag, Constant, Parameter, Base, Entry, Initial, WorldWord, InitialByte, Binary, Test, Convert, Not, Connect, Choose, Write, ZeroRange, CopyRange, Made, Ended, Read, ObjectSize, IsLive, HasKind, NoEvents, BranchEvent, CallEvent, PrintEvent, EventsBehind, NoNumbers, NumberBehind}
use Rattle.term_bank.specs.Memories.{octets, write, zero_range, copy_range, read, has_kind}

-- What nodes depend on: the memory that the entry finds, the words of the parameters, the base of places, the world's
-- words by place and initial bytes by address. `rows` has the bytes of a table of initial bytes, by row and address; they
-- are the world's where the environment is honest.
pub record Environment : Type 0 where
  pub entry : Store
  pub parameters : List ℕ
  pub base : ℕ
  pub words : ℕ → ℕ
  pub bytes : ℕ → ℕ
  pub rows : ℕ → ℕ → ℕ

-- a truth, a word, a store, events and numbers: a node of one sort has fixed ones in the others
pub record Worth : Type 0 where
  pub truth : Bool
  pub word : ℕ
  pub store : Store
  pub events : List Event
  pub numbers : List ℤ

abbrev pub of_truth : Bool → Worth
of_truth b = record { truth = b; word = 0; store = initial (λ _. 0); events = []; numbers = [] }

abbrev pub of_word : ℕ → Worth
of_word x = record { truth = false; word = x; store = initial (λ _. 0); events = []; numbers = [] }

abbrev pub of_store : Store → Worth
of_store s = record { truth = false; word = 0; store = s; events = []; numbers = [] }

abbrev pub of_events : List Event → Worth
of_events xs = record { truth = false; word = 0; store = initial (λ _. 0); events = xs; numbers = [] }

abbrev pub of_numbers : List ℤ → Worth
of_numbers xs = record { truth = false; word = 0; store = initial (λ _. 0); events = []; numbers = xs }

-- what each node is worth, by its number
abbrev pub Values : Type 0
Values = ℕ → Worth

-- ---- operators

-- 0 where the divisor is 0
abbrev pub divided : ℕ → ℕ → ℕ
divided b q = cond (nat_eq b 0) 0 q

-- 0 where the shift is by the width or more
abbrev pub shifted : Width → ℕ → ℕ → ℕ
shifted w by x = cond (nat_lt by (bits w)) x 0

unfoldable pub result_of : WordOperator → Width → ℕ → ℕ → ℕ
result_of operator.Add w a b = add w a b
result_of operator.Sub w a b = sub w a b
result_of operator.Mul w a b = mul w a b
result_of operator.Udiv w a b = divided b (a / b)
result_of operator.Urem w a b = divided b (a % b)
result_of operator.Sdiv w a b = divided b (sdiv w a b)
result_of operator.Srem w a b = divided b (srem w a b)
result_of operator.And w a b = bit_and a b
result_of operator.Or w a b = bit_or a b
result_of operator.Xor w a b = bit_xor a b
result_of operator.Shl w a b = shifted w b (shl w a b)
result_of operator.Lshr w a b = shifted w b (lshr a b)
result_of operator.Ashr w a b = shifted w b (ashr w a b)

unfoldable pub outcome_of : WordTest → Width → ℕ → ℕ → Bool
outcome_of test.Equal w a b = nat_eq a b
outcome_of test.Below w a b = ult a b
outcome_of test.SignedBelow w a b = slt w a b
outcome_of test.AddOver w a b = add_over w a b
outcome_of test.SubOver w a b = sub_over w a b
outcome_of test.MulOver w a b = mul_over w a b
outcome_of test.DivOver w a b = nat_eq a (2 ^ (bits w - 1)) && nat_eq b (2 ^ bits w - 1)
outcome_of test.ShlOver w a b = shl_over w a b

abbrev pub connected : Connective → Bool → Bool → Bool
connected connective.And a b = cond a b false
connected connective.Or a b = cond a true b

-- a word of one width in another (C99 6.3.1.3)
unfoldable pub converted : Extension → Width → Width → ℕ → ℕ
converted extension.Zero from to x = x % 2 ^ bits to
converted extension.Sign from to x = word to (signed from x)

-- the number that a word is, signed or not (C99 6.2.6.2)
abbrev pub number : Bool → Width → ℕ → ℤ
number is_signed w x = cond is_signed (signed w x) (pos x)

-- ---- shapes

-- what a shape is worth, by what its parts are worth
abbrev pub worth : Environment → Values → Shape → Worth
worth e v (Flag b) = of_truth b
worth e v (Constant x w) = of_word x
worth e v (Parameter k w) = of_word (slice_index e.parameters k % 2 ^ bits w)
worth e v Base = of_word (e.base % 2 ^ bits W64)
worth e v Entry = of_store e.entry
worth e v Initial = of_store (initial e.bytes)
worth e v (WorldWord w p) = of_word (e.words (v p).word % 2 ^ bits w)
worth e v (InitialByte r a) = of_word (e.rows r (v a).word % 2 ^ bits W8)
worth e v (Binary op w x y) = of_word (result_of op w (v x).word (v y).word)
worth e v (Test t w x y) = of_truth (outcome_of t w (v x).word (v y).word)
worth e v (Convert x from to a) = of_word (converted x from to (v a).word)
worth e v (Not a) = of_truth (not (v a).truth)
worth e v (Connect c a b) = of_truth (connected c (v a).truth (v b).truth)
worth e v (Choose s c a b) = cond (v c).truth (v a) (v b)
worth e v (Write w m a x) = of_store (write (octets w) (v a).word (v x).word (v m).store)
worth e v (ZeroRange m a n) = of_store (zero_range (v a).word (v n).word (v m).store)
worth e v (CopyRange m to source from n) = of_store (copy_range (v to).word (v source).store (v from).word (v n).word (v m).store)
worth e v (Made k m p n) = of_store (make (v p).word (record { kind = k; size = (v n).word }) (v m).store)
worth e v (Ended m p) = of_store (end (v p).word (v m).store)
worth e v (Read w m a) = of_word (read (octets w) (v m).store (v a).word)
worth e v (ObjectSize m p) = of_word (object_size (v m).store (v p).word % 2 ^ bits W64)
worth e v (IsLive m a n) = of_truth (is_live (v m).store (v a).word (v n).word)
worth e v (HasKind k m p) = of_truth (has_kind k ((v m).store.objects (v p).word))
worth e v NoEvents = of_events []
worth e v (BranchEvent xs n at side) = of_events ((v xs).events ++ record { what = happening.Branch at side; printed = n } ∷ [])
worth e v (CallEvent xs n at) = of_events ((v xs).events ++ record { what = happening.Call at; printed = n } ∷ [])
worth e v (PrintEvent xs n at length seen) =
    of_events ((v xs).events ++ record { what = happening.Print at length (v seen).numbers; printed = n } ∷ [])
worth e v (EventsBehind xs ys) = of_events ((v xs).events ++ (v ys).events)
worth e v NoNumbers = of_numbers []
worth e v (NumberBehind xs w s x) = of_numbers ((v xs).numbers ++ number s w (v x).word ∷ [])

-- every node is worth what its shape says of its parts
pub record Models (shapes : List Shape) (e : Environment) (v : Values) : Type 0 where
  pub has : (n : ℕ) (shape : Shape) → slice_get shapes n ≡ Some shape → v n ≡ worth e v shape

-- the parts of a worth that its sort doesn't have are fixed, and a word is below 2^N
abbrev pub IsOfSort : Sort → Worth → Type 0
IsOfSort sort.Truth x = x ≡ of_truth x.truth
IsOfSort (sort.Word w) x = (x ≡ of_word x.word) × (x.word < 2 ^ bits w)
IsOfSort sort.Memory x = x ≡ of_store x.store
IsOfSort sort.Events x = x ≡ of_events x.events
IsOfSort sort.Numbers x = x ≡ of_numbers x.numbers

-- in every environment the node is worth what the shape is
pub record IsWorth (shapes : List Shape) (shape : Shape) (node : Node) : Type 0 where
  pub is : (e : Environment) (v : Values) → Models shapes e v → v node.index ≡ worth e v shape

-- the second list has the first one's nodes
pub record Grows (a b : List Shape) : Type 0 where
  pub kept : (n : ℕ) (shape : Shape) → slice_get a n ≡ Some shape → slice_get b n ≡ Some shape
  pub longer : length a ≤ length b
