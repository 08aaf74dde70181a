-- Words that are made bit by bit.
use Rattle.std.proofs.Common.{◌≡◌, ◌<◌, ◌≤◌, ◌++◌, ◌∷◌, [], ℕ, ◌+◌, ◌*◌, ◌/◌, ◌%◌, ◌^◌, suc, List, Bool, true, false, not, cond, refl, sym, ap, subst, ◌∙◌, arith, length, take, take_all, get_or, length-take-le}
use Rattle.std.specs.Prelude.{nat_eq}
use Rattle.std.proofs.Math.Nat.{mod-eq_of_lt, mod-lt}
use Rattle.std.proofs.lemmas.List.{take_more, map-append, length_push}
use Rattle.std.proofs.lemmas.List.Elements.{All-push, All-nil, All-head, All-tail}
use Rattle.cnf_core.specs.Truth.{Valuation}
use Rattle.gates.specs.declared.bit.Bit.{Bit}
use Rattle.gates.specs.declared.bit.Bit.TheVariants.{Known, Unknown}
use Rattle.gates.specs.Nets.{Net, IsModel, Agree, Extension, Grows, IsBit, IsGate, IsInput, bit_holds}
use Rattle.gates.proofs.BitLemmas.{same-grows, then-grows, bit-grown}
use Rattle.word_gates.specs.declared.operators.BitOperator.{BitOperator}
use Rattle.word_gates.specs.Spelling.{number, number_of, truths, spelled, AreBits, HasTruths, IsWord, IsInputWord, connected, each_two}
use Rattle.word_gates.proofs.NumberLemmas.{number_of-push, number_of-small, each_two-push, cond-push, digit-more, number-one, pow-pos}

pub bits-grown : (a b : Net) (word : List Bit) → Grows a b → AreBits a word → AreBits b word
bits-grown a b word g h k d l = bit-grown a b (get_or word k d) g (h k d l)

pub bits-push : (a b : Net) (word : List Bit) (x : Bit) → Grows a b → AreBits a word → IsBit b x → AreBits b (word ++ x ∷ [])
bits-push a b word x g h is = All-push (IsBit b) word x (bits-grown a b word g h) is

pub length-truths : (v : Valuation) (word : List Bit) → length (truths v word) ≡ length word
length-truths v [] = refl
length-truths v (x ∷ word) = ap suc (length-truths v word)

pub truths-push : (v : Valuation) (word : List Bit) (x : Bit) → truths v (word ++ x ∷ []) ≡ truths v word ++ bit_holds v x ∷ []
truths-push v word x = map-append (bit_holds v) word (x ∷ [])

pub truths-taken : (v : Valuation) (word : List Bit) (i : ℕ) (d : Bit) → i < length word → truths v (take (i + 1) word) ≡ truths v (take i word) ++ bit_holds v (get_or word i d) ∷ []
truths-taken v word i d h = ap (truths v) (take_more word i d h) ∙ truths-push v (take i word) (get_or word i d)

pub truths-so-far : (v : Valuation) (word : List Bit) (i : ℕ) (p : Bit) → i < length word → p ≡ get_or word i p → truths v (take (i + 1) word) ≡ truths v (take i word) ++ bit_holds v p ∷ []
truths-so-far v word i p h e = truths-taken v word i p h ∙ ap (λ x. truths v (take i word) ++ bit_holds v x ∷ []) (sym e)

pub length-taken : (v : Valuation) (word : List Bit) (i : ℕ) → i ≤ length word → length (truths v (take i word)) ≡ i
length-taken v word i h = length-truths v (take i word) ∙ length-take-le i word h

pub spelled-small : (v : Valuation) (word : List Bit) → spelled v word < 2 ^ length word
spelled-small v word = subst (λ n. spelled v word < 2 ^ n) (length-truths v word) (number_of-small (truths v word))

pub spelled-push : (v : Valuation) (word : List Bit) (x : Bit) → spelled v (word ++ x ∷ []) ≡ spelled v word + 2 ^ length word * number (bit_holds v x)
spelled-push v word x = ap number_of (truths-push v word x) ∙ number_of-push (truths v word) (bit_holds v x) ∙ ap (λ n. spelled v word + 2 ^ n * number (bit_holds v x)) (length-truths v word)

pub spelled-taken : (v : Valuation) (word : List Bit) (i : ℕ) (d : Bit) → i < length word → spelled v (take (i + 1) word) ≡ spelled v (take i word) + 2 ^ i * number (bit_holds v (get_or word i d))
spelled-taken v word i d h = ap (spelled v) (take_more word i d h) ∙ spelled-push v (take i word) (get_or word i d) ∙ ap (λ n. spelled v (take i word) + 2 ^ n * number (bit_holds v (get_or word i d))) (length-take-le i word (omega arith))

pub spelled-so-far : (v : Valuation) (word : List Bit) (i : ℕ) (p : Bit) → i < length word → p ≡ get_or word i p → spelled v (take (i + 1) word) ≡ spelled v (take i word) + 2 ^ i * number (bit_holds v p)
spelled-so-far v word i p h e = spelled-taken v word i p h ∙ ap (λ x. spelled v (take i word) + 2 ^ i * number (bit_holds v x)) (sym e)

pub taken-small : (v : Valuation) (word : List Bit) (i : ℕ) → i ≤ length word → spelled v (take i word) < 2 ^ i
taken-small v word i h = subst (λ n. spelled v (take i word) < 2 ^ n) (length-take-le i word h) (spelled-small v (take i word))

-- ---- truth values

truths-more : (old now next : Net) (i : ℕ) (f h : Valuation → List Bool) (g : Valuation → Bool) (word longer : List Bit) (x : Bit) → HasTruths old now i f word → IsGate now next g x → longer ≡ word ++ x ∷ [] → ((v : Valuation) → f v ++ g v ∷ [] ≡ h v) → HasTruths old next (i + 1) h longer
truths-more old now next i f h g word longer x w b is e = record {
  width = rw is (length_push word x ∙ ap (λ n. n + 1) w.width);
  grows = then-grows old now next w.grows b.grows;
  stand = rw is (bits-push now next word x b.grows w.stand b.stands);
  means = λ v m. rw (is, truths-push v word x, b.means v m, w.means v (b.grows.keeps v m)) (e v);
}

pub bitwise-more : (old now next : Net) (op : BitOperator) (a b : List Bit) (i : ℕ) (word longer : List Bit) (x p q : Bit) → length a ≡ length b → i < length a → p ≡ get_or a i p → q ≡ get_or b i q → HasTruths old now i (λ v. each_two op (truths v (take i a)) (truths v (take i b))) word → IsGate now next (λ v. connected op (bit_holds v p) (bit_holds v q)) x → longer ≡ word ++ x ∷ [] → HasTruths old next (i + 1) (λ v. each_two op (truths v (take (i + 1) a)) (truths v (take (i + 1) b))) longer
bitwise-more old now next op a b i word longer x p q same in_a is_p is_q w g is =
    let in_b : i < length b = omega (arith, same) in
    truths-more old now next i _ _ (λ v. connected op (bit_holds v p) (bit_holds v q)) word longer x w g is (λ v.
    rw (truths-so-far v a i p in_a is_p, truths-so-far v b i q in_b is_q) (sym (each_two-push op (truths v (take i a)) (truths v (take i b)) (bit_holds v p) (bit_holds v q) (length-taken v a i (omega arith) ∙ sym (length-taken v b i (omega arith))))))

pub choose-more : (old now next : Net) (c : Bit) (a b : List Bit) (i : ℕ) (word longer : List Bit) (x p q : Bit) → length a ≡ length b → i < length a → p ≡ get_or a i p → q ≡ get_or b i q → HasTruths old now i (λ v. cond (bit_holds v c) (truths v (take i a)) (truths v (take i b))) word → IsGate now next (λ v. cond (bit_holds v c) (bit_holds v p) (bit_holds v q)) x → longer ≡ word ++ x ∷ [] → HasTruths old next (i + 1) (λ v. cond (bit_holds v c) (truths v (take (i + 1) a)) (truths v (take (i + 1) b))) longer
choose-more old now next c a b i word longer x p q same in_a is_p is_q w g is =
    let in_b : i < length b = omega (arith, same) in
    truths-more old now next i _ _ (λ v. cond (bit_holds v c) (bit_holds v p) (bit_holds v q)) word longer x w g is (λ v.
    rw (truths-so-far v a i p in_a is_p, truths-so-far v b i q in_b is_q) (sym (cond-push (bit_holds v c) (truths v (take i a)) (truths v (take i b)) (bit_holds v p) (bit_holds v q))))

pub truths-as : (old now : Net) (n m : ℕ) (f g : Valuation → List Bool) (word : List Bit) → n ≡ m → HasTruths old now n f word → ((v : Valuation) → f v ≡ g v) → HasTruths old now m g word
truths-as old now n m f g word s w e = record { width = w.width ∙ s; grows = w.grows; stand = w.stand; means = λ v k. w.means v k ∙ e v }

pub bitwise-whole : (old now : Net) (op : BitOperator) (a b : List Bit) (i : ℕ) (word : List Bit) → length a ≡ length b → i ≡ length a → HasTruths old now i (λ v. each_two op (truths v (take i a)) (truths v (take i b))) word → HasTruths old now (length a) (λ v. each_two op (truths v a) (truths v b)) word
bitwise-whole old now op a b i word same h w = truths-as old now i (length a) _ _ word h w (λ v. rw (take_all i a (omega (arith, h)), take_all i b (omega (arith, same, h))) refl)

pub choose-whole : (old now : Net) (c : Bit) (a b : List Bit) (i : ℕ) (word : List Bit) → length a ≡ length b → i ≡ length a → HasTruths old now i (λ v. cond (bit_holds v c) (truths v (take i a)) (truths v (take i b))) word → HasTruths old now (length a) (λ v. cond (bit_holds v c) (truths v a) (truths v b)) word
choose-whole old now c a b i word same h w = truths-as old now i (length a) _ _ word h w (λ v. rw (take_all i a (omega (arith, h)), take_all i b (omega (arith, same, h))) refl)

-- ---- constants and inputs

pub constant-more : (net : Net) (value i : ℕ) (word longer : List Bit) (b : Bool) → IsWord net net i (λ v. value % 2 ^ i) word → number b ≡ value / 2 ^ i % 2 → longer ≡ word ++ Known b ∷ [] → IsWord net net (i + 1) (λ v. value % 2 ^ (i + 1)) longer
constant-more net value i word longer b w e is = record {
  width = rw is (length_push word (Known b) ∙ ap (λ n. n + 1) w.width);
  grows = same-grows net;
  stand = rw is (bits-push net net word (Known b) (same-grows net) w.stand tt);
  means = λ v m. rw is (spelled-push v word (Known b) ∙ rw (w.width, w.means v m, e) (digit-more value i));
}

pub input-start : (net : Net) → IsInputWord net net 0 []
input-start net = record {
  width = refl;
  grows = same-grows net;
  stand = All-nil (IsBit net);
  free = λ v x m h. (record { model = v; agrees = λ y l. refl; is = m }, omega (arith, h));
}

truths-agree : (net : Net) (v w : Valuation) (word : List Bit) → ((x : Bit) → IsBit net x → bit_holds v x ≡ bit_holds w x) → AreBits net word → truths v word ≡ truths w word
truths-agree net v w [] same h = refl
truths-agree net v w (x ∷ word) same h = rw (same x (All-head (IsBit net) x word h), truths-agree net v w word same (All-tail (IsBit net) x word h)) refl

bit-agree : (n : ℕ) (net : Net) (v w : Valuation) → n ≡ net.count + 1 → Agree n v w → (x : Bit) → IsBit net x → bit_holds v x ≡ bit_holds w x
bit-agree n net v w e a (Known b) h = refl
bit-agree n net v w e a (Unknown l) h = ap (λ t. cond l.positive t (not t)) (a l.variable (omega (arith, e, h)))

-- what bits of a net spell is the same in each extension
pub spelled-extended : (net new : Net) (v : Valuation) (word : List Bit) (e : Extension new (net.count + 1) v) → AreBits net word → spelled e.model word ≡ spelled v word
spelled-extended net new v word e h = ap number_of (sym (truths-agree net v e.model word (bit-agree (net.count + 1) net v e.model refl e.agrees) h))

pub input-more : (old now next : Net) (i : ℕ) (word longer : List Bit) (x : Bit) → IsInputWord old now i word → IsInput now next x → longer ≡ word ++ x ∷ [] → IsInputWord old next (i + 1) longer
input-more old now next i word longer x w b is = record {
  width = rw is (length_push word x ∙ ap (λ n. n + 1) w.width);
  grows = then-grows old now next w.grows b.grows;
  stand = rw is (bits-push now next word x b.grows w.stand b.stands);
  free = λ v n m h.
      let low = w.free v (n % 2 ^ i) m (small n) in
      let top = b.free low.0.model (nat_eq (n / 2 ^ i % 2) 1) low.0.is in
      let spelt : spelled top.0.model word ≡ n % 2 ^ i = spelled-extended now next low.0.model word top.0 w.stand ∙ low.1 in (
        record { model = top.0.model; agrees = λ y l. low.0.agrees y l ∙ top.0.agrees y (omega (arith, l, w.grows.more)); is = top.0.is },
        ap (spelled top.0.model) is ∙ spelled-push top.0.model word x ∙ rw (w.width, spelt, top.1, number-one (n / 2 ^ i % 2) (omega arith)) (digit-more n i ∙ mod-eq_of_lt h),
      );
}
  where
    small : (n : ℕ) → n % 2 ^ i < 2 ^ i
    small n = mod-lt n {m = 2 ^ i} (pow-pos i)

-- ---- numbers

pub word-as : (old now : Net) (n m : ℕ) (f g : Valuation → ℕ) (word : List Bit) → n ≡ m → IsWord old now n f word → ((v : Valuation) → f v ≡ g v) → IsWord old now m g word
word-as old now n m f g word s w e = record { width = w.width ∙ s; grows = w.grows; stand = w.stand; means = λ v k. w.means v k ∙ e v }

cond-number : (c : Bool) (xs ys : List Bool) → number_of (cond c xs ys) ≡ cond c (number_of xs) (number_of ys)
cond-number true xs ys = refl
cond-number false xs ys = refl

pub chosen-word : (old now : Net) (n : ℕ) (c : Bit) (a b word : List Bit) → HasTruths old now n (λ v. cond (bit_holds v c) (truths v a) (truths v b)) word → IsWord old now n (λ v. cond (bit_holds v c) (spelled v a) (spelled v b)) word
chosen-word old now n c a b word w = record { width = w.width; grows = w.grows; stand = w.stand; means = λ v m. ap number_of (w.means v m) ∙ cond-number (bit_holds v c) (truths v a) (truths v b) }

pub word-then : (old now next : Net) (n : ℕ) (f g : Valuation → ℕ) (word : List Bit) → Grows old now → IsWord now next n f word → ((v : Valuation) → IsModel now v → f v ≡ g v) → IsWord old next n g word
word-then old now next n f g word p w e = record { width = w.width; grows = then-grows old now next p w.grows; stand = w.stand; means = λ v m. w.means v m ∙ e v (w.grows.keeps v m) }
