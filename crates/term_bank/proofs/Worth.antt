-- A shape's value depends on its parts' values alone, and is of the shape's sort.
use Rattle.std.proofs.Common.{◌≡◌, ◌<◌, ◌/◌, ◌%◌, ◌^◌, [], ◌∷◌, ℕ, List, Bool, true, false, cond, nat_eq, nat_lt, arith, refl}
use Rattle.std.proofs.Math.Nat.{mod-lt, div-le_self, mod-le}
use Rattle.std.proofs.Math.Pow.{pow_pos}
use Rattle.std.proofs.lemmas.Nat.{and_le_l, or_lt, xor_lt}
use Rattle.plain_data.specs.Words.{bits}
use Rattle.plain_data.proofs.WordLaws.{word_below}
use Rattle.plain_data.specs.declared.width.Width.{Width}
use Rattle.plain_data.specs.declared.width.Width.TheVariants.{W8, W16, W32, W64}
use Rattle.c_store.specs.Store.{Store}
use Rattle.c_store.proofs.Laws.{spelt_below}
use Rattle.term_bank.specs.declared.sort.Sort.{Sort}
use Rattle.term_bank.specs.declared.sort.Node.{Node}
use Rattle.term_bank.specs.declared.shape.WordOperator.{WordOperator}
use Rattle.term_bank.specs.declared.shape.WordOperator.TheVariants as operator
use Rattle.term_bank.specs.declared.shape.Extension.{Extension}
use Rattle.term_bank.specs.declared.shape.Extension.TheVariants as extension
use Rattle.term_bank.specs.declared.shape.Shape.{Shape}
use Rattle.term_bank.specs.declared.shape.Shape.TheVariants.{Flag, Constant, Parameter, Base, Entry, Initial, WorldWord, InitialByte, Binary, Test, Convert, Not, Connect, Choose, Write, ZeroRange, CopyRange, Made, Ended, Read, ObjectSize, IsLive, HasKind, NoEvents, BranchEvent, CallEvent, PrintEvent, EventsBehind, NoNumbers, NumberBehind}
use Rattle.term_bank.specs.Memories.{octets, read, behind}
use Rattle.term_bank.specs.Shapes.{Each, IsInWidth, parts, sort_of}
use Rattle.term_bank.specs.Values.{Environment, Worth, Values, worth, IsOfSort, result_of, converted, divided, shifted}

pub each : (P Q : Node → Type 0) (ps : List Node) → ((p : Node) → P p → Q p) → Each P ps → Each Q ps
each P Q [] f h = tt
each P Q (p ∷ ps) f h = (f p h.0, each P Q ps f h.1)

-- a shape is worth the same where its parts are
pub worth_same : (e : Environment) (v w : Values) (s : Shape) → Each (λ p. v p.index ≡ w p.index) (parts s) → worth e v s ≡ worth e w s
worth_same e v w (Flag b) q = refl
worth_same e v w (Constant x w') q = refl
worth_same e v w (Parameter k w') q = refl
worth_same e v w Base q = refl
worth_same e v w Entry q = refl
worth_same e v w Initial q = refl
worth_same e v w (WorldWord w' p) q = rw q.0 refl
worth_same e v w (InitialByte r a) q = rw q.0 refl
worth_same e v w (Binary op w' x y) q = rw (q.0, q.1.0) refl
worth_same e v w (Test t w' x y) q = rw (q.0, q.1.0) refl
worth_same e v w (Convert x from to a) q = rw q.0 refl
worth_same e v w (Not a) q = rw q.0 refl
worth_same e v w (Connect c a b) q = rw (q.0, q.1.0) refl
worth_same e v w (Choose s c a b) q = rw (q.0, q.1.0, q.1.1.0) refl
worth_same e v w (Write w' m a x) q = rw (q.0, q.1.0, q.1.1.0) refl
worth_same e v w (ZeroRange m a n) q = rw (q.0, q.1.0, q.1.1.0) refl
worth_same e v w (CopyRange m to source from n) q = rw (q.0, q.1.0, q.1.1.0, q.1.1.1.0, q.1.1.1.1.0) refl
worth_same e v w (Made k m p n) q = rw (q.0, q.1.0, q.1.1.0) refl
worth_same e v w (Ended m p) q = rw (q.0, q.1.0) refl
worth_same e v w (Read w' m a) q = rw (q.0, q.1.0) refl
worth_same e v w (ObjectSize m p) q = rw (q.0, q.1.0) refl
worth_same e v w (IsLive m a n) q = rw (q.0, q.1.0, q.1.1.0) refl
worth_same e v w (HasKind k m p) q = rw (q.0, q.1.0) refl
worth_same e v w NoEvents q = refl
worth_same e v w (BranchEvent xs n at side) q = rw q.0 refl
worth_same e v w (CallEvent xs n at) q = rw q.0 refl
worth_same e v w (PrintEvent xs n at length seen) q = rw (q.0, q.1.0) refl
worth_same e v w (EventsBehind xs ys) q = rw (q.0, q.1.0) refl
worth_same e v w NoNumbers q = refl
worth_same e v w (NumberBehind xs w' s x) q = rw (q.0, q.1.0) refl

-- ---- words are below 2^N

pub mod_below : (x : ℕ) (w : Width) → x % 2 ^ bits w < 2 ^ bits w
mod_below x w = mod-lt x (pow_pos (bits w))

divided_below : (b q m : ℕ) → 0 < m → q < m → divided b q < m
divided_below b q m h k = elim (nat_eq b 0) as (λ t. cond t 0 q < m) [ true ↦ h | false ↦ k ]

shifted_below : (w : Width) (by x m : ℕ) → 0 < m → x < m → shifted w by x < m
shifted_below w by x m h k = elim (nat_lt by (bits w)) as (λ t. cond t x 0 < m) [ true ↦ k | false ↦ h ]

quotient_below : (a b m : ℕ) → a < m → a / b < m
quotient_below a b m h = omega (arith, div-le_self a b)

remainder_below : (a b m : ℕ) → a < m → a % b < m
remainder_below a b m h = omega (arith, mod-le a b)

pub result_below : (op : WordOperator) (w : Width) (a b : ℕ) → a < 2 ^ bits w → b < 2 ^ bits w → result_of op w a b < 2 ^ bits w
unfolding result_of
result_below operator.Add w a b h k = mod_below _ w
result_below operator.Sub w a b h k = mod_below _ w
result_below operator.Mul w a b h k = mod_below _ w
result_below operator.Udiv w a b h k = divided_below b _ _ (pow_pos (bits w)) (quotient_below a b _ h)
result_below operator.Urem w a b h k = divided_below b _ _ (pow_pos (bits w)) (remainder_below a b _ h)
result_below operator.Sdiv w a b h k = divided_below b _ _ (pow_pos (bits w)) (word_below w _)
result_below operator.Srem w a b h k = divided_below b _ _ (pow_pos (bits w)) (word_below w _)
result_below operator.And w a b h k = omega (arith, and_le_l a b)
result_below operator.Or w a b h k = or_lt (bits w) a b h k
result_below operator.Xor w a b h k = xor_lt (bits w) a b h k
result_below operator.Shl w a b h k = shifted_below w b _ _ (pow_pos (bits w)) (mod_below _ w)
result_below operator.Lshr w a b h k = shifted_below w b _ _ (pow_pos (bits w)) (quotient_below a (2 ^ b) _ h)
result_below operator.Ashr w a b h k = shifted_below w b _ _ (pow_pos (bits w)) (word_below w _)

pub converted_below : (x : Extension) (from to : Width) (a : ℕ) → converted x from to a < 2 ^ bits to
unfolding converted
converted_below extension.Zero from to a = mod_below _ to
converted_below extension.Sign from to a = word_below to _

pub read_below : (w : Width) (s : Store) (a : ℕ) → read (octets w) s a < 2 ^ bits w
unfolding read
read_below W8 s a = spelt_below 1 (λ i. s.bytes (behind a i)) 0
read_below W16 s a = spelt_below 2 (λ i. s.bytes (behind a i)) 0
read_below W32 s a = spelt_below 4 (λ i. s.bytes (behind a i)) 0
read_below W64 s a = spelt_below 8 (λ i. s.bytes (behind a i)) 0

chosen_sort : (s : Sort) (c : Bool) (x y : Worth) → IsOfSort s x → IsOfSort s y → IsOfSort s (cond c x y)
chosen_sort s true x y h k = h
chosen_sort s false x y h k = k

-- a shape's value is of its sort where its parts' values are of theirs
pub worth_of_sort : (e : Environment) (v : Values) (s : Shape) → Each (λ p. IsOfSort p.sort (v p.index)) (parts s) → IsInWidth s → IsOfSort (sort_of s) (worth e v s)
worth_of_sort e v (Flag b) q h = refl
worth_of_sort e v (Constant x w) q h = (refl, h)
worth_of_sort e v (Parameter k w) q h = (refl, mod_below _ w)
worth_of_sort e v Base q h = (refl, mod_below _ W64)
worth_of_sort e v Entry q h = refl
worth_of_sort e v Initial q h = refl
worth_of_sort e v (WorldWord w p) q h = (refl, mod_below _ w)
worth_of_sort e v (InitialByte r a) q h = (refl, mod_below _ W8)
worth_of_sort e v (Binary op w x y) q h = (refl, result_below op w _ _ q.0.1 q.1.0.1)
worth_of_sort e v (Test t w x y) q h = refl
worth_of_sort e v (Convert x from to a) q h = (refl, converted_below x from to _)
worth_of_sort e v (Not a) q h = refl
worth_of_sort e v (Connect c a b) q h = refl
worth_of_sort e v (Choose s c a b) q h = chosen_sort s _ _ _ q.1.0 q.1.1.0
worth_of_sort e v (Write w m a x) q h = refl
worth_of_sort e v (ZeroRange m a n) q h = refl
worth_of_sort e v (CopyRange m to source from n) q h = refl
worth_of_sort e v (Made k m p n) q h = refl
worth_of_sort e v (Ended m p) q h = refl
worth_of_sort e v (Read w m a) q h = (refl, read_below w _ _)
worth_of_sort e v (ObjectSize m p) q h = (refl, mod_below _ W64)
worth_of_sort e v (IsLive m a n) q h = refl
worth_of_sort e v (HasKind k m p) q h = refl
worth_of_sort e v NoEvents q h = refl
worth_of_sort e v (BranchEvent xs n at side) q h = refl
worth_of_sort e v (CallEvent xs n at) q h = refl
worth_of_sort e v (PrintEvent xs n at length seen) q h = refl
worth_of_sort e v (EventsBehind xs ys) q h = refl
worth_of_sort e v NoNumbers q h = refl
worth_of_sort e v (NumberBehind xs w s x) q h = refl
