-- Words and gates that are made one after another.
use Rattle.std.proofs.Common.{◌≡◌, ◌<◌, ◌≤◌, ◌++◌, ◌∷◌, [], ℕ, ◌+◌, ◌-◌, ◌*◌, ◌/◌, ◌%◌, ◌^◌, List, Bool, true, false, not, cond, ◌&&◌, refl, sym, ap, subst, ◌∙◌, arith, length, take, drop, replicate, get_or, take_all, map, ◌+ℤ◌, pos, ◌⊎◌, inl, inr}
use Rattle.std.specs.Prelude.{nat_eq, nat_le, nat_lt}
use Rattle.std.proofs.lemmas.Bool.{cases_lt}
use Rattle.std.proofs.lemmas.List.{length-append, length-take, length-take-le, length_push}
use Rattle.std.proofs.Math.Nat.{mod-eq_of_lt, add-mul-mod_self_left, mul-add, mul_assoc, pow-le-pow_right}
use Rattle.std.proofs.lemmas.Nat.{pow-add}
use Rattle.cnf_core.specs.Truth.{Valuation}
use Rattle.gates.specs.declared.bit.Bit.{Bit}
use Rattle.gates.specs.declared.bit.Bit.TheVariants.{Known}
use Rattle.gates.specs.Nets.{Net, IsModel, Grows, IsBit, IsGate, bit_holds, opposite, exclusive, majority}
use Rattle.gates.proofs.BitLemmas.{same-grows, then-grows, opposite-bit, opposite-holds}
use Rattle.plain_data.specs.Words.{bits, signed, is_signed, sdiv, srem, slt, shl, lshr, ashr, add_over, sub_over, mul_over, shl_over}
use Rattle.plain_data.specs.Words.{word as as_word}
use Rattle.plain_data.specs.declared.width.Width.{Width}
use Rattle.plain_data.specs.declared.width.Width.TheVariants.{W8, W16, W32, W64}
use Rattle.word_gates.specs.declared.quotients.Division.{Division}
use Rattle.word_gates.specs.declared.sums.Sum.{Sum}
use Rattle.word_gates.specs.Spelling.{number, truths, spelled, AreBits, HasTruths, IsWord, flipped}
use Rattle.word_gates.specs.Sums.{IsSum}
use Rattle.word_gates.specs.Quotients.{IsDivision}
use Rattle.word_gates.proofs.NumberLemmas.{number-small}
use Rattle.word_gates.proofs.WordLemmas.{bits-push, chosen-word, spelled-push, spelled-small, spelled-so-far, taken-small}
use Rattle.word_gates.proofs.WireLemmas.{bits-append, bits-replicate, bits-take, bits-opposite, spelled-append, spelled-replicate, spelled-zeros, spelled-opposite, spelled-split, length-replicated}
use Rattle.signed_gates.specs.Signs.{is_negative, magnitude, with_sign, divided, near, IsDivided}
use Rattle.signed_gates.proofs.HalfLemmas.{half, power, half-pos, not-le, top-bit}
use Rattle.signed_gates.proofs.WidthLemmas.{magnitude-word, sign-word, order-word, carry-word, add-word, subtract-word, product-word, product-small, quotient-word, remainder-word, shifted-word, overshift-word, narrowed-word, widened-word}

pub word-after : (old now next : Net) (n m : ℕ) (f g : Valuation → ℕ) (word : List Bit) → Grows old now → n ≡ m → IsWord now next n f word → ((v : Valuation) → IsModel next v → f v ≡ g v) → IsWord old next m g word
word-after old now next n m f g word p s w e = record { width = w.width ∙ s; grows = then-grows old now next p w.grows; stand = w.stand; means = λ v k. w.means v k ∙ e v k }

pub gate-after : (old now next : Net) (f g : Valuation → Bool) (x : Bit) → Grows old now → IsGate now next f x → ((v : Valuation) → IsModel next v → f v ≡ g v) → IsGate old next g x
gate-after old now next f g x p w e = record { grows = then-grows old now next p w.grows; stands = w.stands; means = λ v k. w.means v k ∙ e v k }

pub not-gate : (old new : Net) (f g : Valuation → Bool) (x y : Bit) → IsGate old new f x → y ≡ opposite x → ((v : Valuation) → not (f v) ≡ g v) → IsGate old new g y
not-gate old new f g x y w is e = record { grows = w.grows; stands = rw is (opposite-bit new x w.stands); means = λ v m. rw (is, opposite-holds v x, w.means v m) (e v) }

pub in-width : (v : Valuation) (a : List Bit) (n : ℕ) → length a ≡ n → spelled v a < 2 ^ n
in-width v a n e = subst (λ k. spelled v a < 2 ^ k) e (spelled-small v a)

-- ---- signs

one-less : (w : Width) → bits w - 1 + 1 ≡ bits w
one-less W8 = refl
one-less W16 = refl
one-less W32 = refl
one-less W64 = refl

-- a word by its bits below the sign bit, and the sign bit
pub parted : (v : Valuation) (w : Width) (a : List Bit) (p : Bit) → length a ≡ bits w → p ≡ get_or a (length a - 1) p → spelled v a ≡ spelled v (take (length a - 1) a) + half w * number (bit_holds v p)
parted v w a p n is =
    let t : length a - 1 ≡ bits w - 1 = ap (λ k. k - 1) n in
    let l = one-less w in
    let inside : length a - 1 < length a = omega (arith, n, l) in
    let whole : length a ≤ length a - 1 + 1 = omega (arith, n, l) in
    sym (ap (spelled v) (take_all (length a - 1 + 1) a whole)) ∙ spelled-so-far v a (length a - 1) p inside is ∙ ap (λ k. spelled v (take (length a - 1) a) + 2 ^ k * number (bit_holds v p)) t

pub low-small : (v : Valuation) (w : Width) (a : List Bit) → length a ≡ bits w → spelled v (take (length a - 1) a) < half w
low-small v w a n = let t : length a - 1 ≡ bits w - 1 = ap (λ k. k - 1) n in subst (λ k. spelled v (take (length a - 1) a) < 2 ^ k) t (taken-small v a (length a - 1) (omega arith))

pub sign-of : (net : Net) (w : Width) (a : List Bit) (p : Bit) → AreBits net a → length a ≡ bits w → p ≡ get_or a (length a - 1) p → IsGate net net (λ v. is_negative w (spelled v a)) p
sign-of net w a p h n is = record {
  grows = same-grows net;
  stands = let l = one-less w in subst (IsBit net) (sym is) (h (length a - 1) p (omega (arith, n, l)));
  means = λ v m. top-bit (half w) (spelled v (take (length a - 1) a)) (bit_holds v p) (low-small v w a n) ∙ ap (is_negative w) (sym (parted v w a p n is));
}

pub differ-of : (old new : Net) (w : Width) (a b : List Bit) (p q x : Bit) → IsGate old old (λ v. is_negative w (spelled v a)) p → IsGate old old (λ v. is_negative w (spelled v b)) q → IsGate old new (λ v. exclusive (bit_holds v p) (bit_holds v q)) x → IsGate old new (λ v. exclusive (is_negative w (spelled v a)) (is_negative w (spelled v b))) x
differ-of old new w a b p q x g h k = gate-after old old new _ _ x (same-grows old) k (λ v m. let o = k.grows.keeps v m in rw (g.means v o, h.means v o) refl)

pub negated-of : (old mid new : Net) (c : Bit) (a zeros z opposite o word : List Bit) → z ≡ zeros → zeros ≡ replicate (length a) (Known false) → IsWord old mid (length z) (λ v. (spelled v z + (2 ^ length z - spelled v a)) % 2 ^ length z) opposite → o ≡ opposite → HasTruths mid new (length o) (λ v. cond (bit_holds v c) (truths v o) (truths v a)) word → IsWord old new (length a) (λ v. cond (bit_holds v c) ((2 ^ length a - spelled v a) % 2 ^ length a) (spelled v a)) word
negated-of old mid new c a zeros z opposite o word is_z none d is_o choice =
    let r = chosen-word mid new (length o) c o a word choice in
    let zero_z : z ≡ replicate (length a) (Known false) = is_z ∙ none in
    let n : length z ≡ length a = ap length zero_z ∙ length-replicated (length a) (Known false) in
    word-after old mid new (length o) (length a) _ _ word d.grows (ap length is_o ∙ d.width ∙ n) r (λ v m.
    let s : spelled v z ≡ 0 = ap (spelled v) zero_z ∙ spelled-zeros v (length a) in
    let k = r.grows.keeps v m in
    let e : spelled v o ≡ (0 + (2 ^ length a - spelled v a)) % 2 ^ length a = ap (spelled v) is_o ∙ d.means v k ∙ (λ i. (s i + (2 ^ n i - spelled v a)) % 2 ^ n i) in
    let f : spelled v o ≡ (2 ^ length a - spelled v a) % 2 ^ length a = e ∙ ap (λ t. t % 2 ^ length a) (from-zero (2 ^ length a - spelled v a)) in
    ap (λ t. cond (bit_holds v c) t (spelled v a)) f)
  where
    from-zero : (x : ℕ) → 0 + x ≡ x
    from-zero x = omega arith

pub magnitude-of : (old new : Net) (w : Width) (a word : List Bit) (p : Bit) → length a ≡ bits w → IsGate old old (λ v. is_negative w (spelled v a)) p → IsWord old new (length a) (λ v. cond (bit_holds v p) ((2 ^ length a - spelled v a) % 2 ^ length a) (spelled v a)) word → IsWord old new (bits w) (λ v. magnitude w (spelled v a)) word
magnitude-of old new w a word p n g r =
    word-after old old new (length a) (bits w) _ _ word (same-grows old) n r (λ v m.
    (λ i. cond (g.means v (r.grows.keeps v m) i) ((2 ^ n i - spelled v a) % 2 ^ n i) (spelled v a)) ∙ magnitude-word w (spelled v a) (in-width v a (bits w) n))

pub signed-of : (old new : Net) (w : Width) (a word : List Bit) (p : Bit) → length a ≡ bits w → IsWord old new (length a) (λ v. cond (bit_holds v p) ((2 ^ length a - spelled v a) % 2 ^ length a) (spelled v a)) word → IsWord old new (bits w) (λ v. as_word w (with_sign (bit_holds v p) (spelled v a))) word
signed-of old new w a word p n r =
    word-after old old new (length a) (bits w) _ _ word (same-grows old) n r (λ v m.
    (λ i. cond (bit_holds v p) ((2 ^ n i - spelled v a) % 2 ^ n i) (spelled v a)) ∙ sign-word w (spelled v a) (bit_holds v p) (in-width v a (bits w) n))

-- ---- order

pub turned-of : (net : Net) (w : Width) (a low word : List Bit) (p x : Bit) → AreBits net a → length a ≡ bits w → p ≡ get_or a (length a - 1) p → low ≡ take (length a - 1) a → x ≡ opposite p → word ≡ low ++ x ∷ [] → IsWord net net (bits w) (λ v. (spelled v a + half w) % 2 ^ bits w) word
turned-of net w a low word p x h n is is_low is_x is_word =
    let l = one-less w in
    let s = sign-of net w a p h n is in
    let len : length low ≡ bits w - 1 = ap length is_low ∙ length-take-le (length a - 1) a (omega arith) ∙ ap (λ k. k - 1) n in
    record {
      width = ap length is_word ∙ length_push low x ∙ ap (λ k. k + 1) len ∙ l;
      grows = same-grows net;
      stand = rw is_word (bits-push net net low x (same-grows net) (rw is_low (bits-take net (length a - 1) a h)) (rw is_x (opposite-bit net p s.stands)));
      means = λ v m.
          let here : spelled v word ≡ spelled v (take (length a - 1) a) + half w * number (not (bit_holds v p)) = ap (spelled v) is_word ∙ spelled-push v low x ∙ (λ i. spelled v (is_low i) + 2 ^ len i * number (bit_holds v (is_x i))) ∙ ap (λ b. spelled v (take (length a - 1) a) + half w * number b) (opposite-holds v p) in
          here ∙ turned (half w) (spelled v (take (length a - 1) a)) (bit_holds v p) (low-small v w a n) ∙ (λ i. (sym (parted v w a p n is) i + half w) % sym (power w) i);
    }
  where
    turned : (h low : ℕ) (b : Bool) → low < h → low + h * number (not b) ≡ (low + h * number b + h) % (2 * h)
    turned h low true k =
        let e : low + h * 1 + h ≡ low + 2 * h * 1 = omega arith in
        let f : low + h * 0 ≡ low = omega arith in
        f ∙ sym (ap (λ t. t % (2 * h)) e ∙ add-mul-mod_self_left low (2 * h) 1 ∙ mod-eq_of_lt (omega (arith, k)))
    turned h low false k =
        let e : low + h * 0 + h ≡ low + h * 1 = omega arith in
        sym (ap (λ t. t % (2 * h)) e ∙ mod-eq_of_lt (omega (arith, k)))

pub less-of : (old new : Net) (a b : List Bit) (x y : Bit) → IsGate old new (λ v. nat_le (spelled v b) (spelled v a)) x → y ≡ opposite x → IsGate old new (λ v. nat_lt (spelled v a) (spelled v b)) y
less-of old new a b x y g is = not-gate old new _ _ x y g is (λ v. not-le (spelled v a) (spelled v b))

pub signed-less-of : (old new : Net) (w : Width) (a b one other p q : List Bit) (x : Bit) → length a ≡ bits w → length b ≡ bits w → p ≡ one → q ≡ other → IsWord old old (bits w) (λ v. (spelled v a + half w) % 2 ^ bits w) one → IsWord old old (bits w) (λ v. (spelled v b + half w) % 2 ^ bits w) other → IsGate old new (λ v. nat_lt (spelled v p) (spelled v q)) x → IsGate old new (λ v. slt w (spelled v a) (spelled v b)) x
signed-less-of old new w a b one other p q x na nb is_p is_q r s g =
    gate-after old old new _ _ x (same-grows old) g (λ v m.
    let k = g.grows.keeps v m in
    (λ i. nat_lt (spelled v (is_p i)) (spelled v (is_q i))) ∙ (λ i. nat_lt (r.means v k i) (s.means v k i)) ∙ order-word w (spelled v a) (spelled v b) (in-width v a (bits w) na) (in-width v b (bits w) nb))

-- ---- sums

pub sum-over-of : (old g1 g2 new : Net) (w : Width) (a b low_a low_b : List Bit) (c p q out x : Bit) (sum : Sum) → length a ≡ bits w → length b ≡ bits w → low_a ≡ take (length a - 1) a → low_b ≡ take (length a - 1) b → p ≡ get_or a (length a - 1) p → q ≡ get_or b (length a - 1) q → IsSum old g1 (length low_a) (λ v. spelled v low_a + spelled v low_b + number (bit_holds v c)) sum → IsGate g1 g2 (λ v. majority (bit_holds v p) (bit_holds v q) (bit_holds v sum.carry)) out → IsGate g2 new (λ v. exclusive (bit_holds v sum.carry) (bit_holds v out)) x → IsGate old new (λ v. not (is_signed w (signed w (spelled v a) +ℤ signed w (spelled v b) +ℤ pos (number (bit_holds v c))))) x
sum-over-of old g1 g2 new w a b low_a low_b c p q out x sum na nb is_a is_b is_p is_q s h g =
    gate-after old g2 new _ _ x (then-grows old g1 g2 s.grows h.grows) g (λ v m.
    let k2 = g.grows.keeps v m in
    let k1 = h.grows.keeps v k2 in
    let t : length a ≡ length b = na ∙ sym nb in
    let len : length low_a ≡ bits w - 1 = ap length is_a ∙ length-take-le (length a - 1) a (omega arith) ∙ ap (λ k. k - 1) na in
    let low : low_b ≡ take (length b - 1) b = is_b ∙ ap (λ k. take (k - 1) b) t in
    let is_q2 : q ≡ get_or b (length b - 1) q = is_q ∙ ap (λ k. get_or b (k - 1) q) t in
    let small : spelled v sum.word < half w = subst (λ k. spelled v sum.word < 2 ^ k) (s.width ∙ len) (spelled-small v sum.word) in
    let added : spelled v low_a + spelled v low_b + number (bit_holds v c) ≡ spelled v sum.word + half w * number (bit_holds v sum.carry) = sym (s.means v k1) ∙ ap (λ k. spelled v sum.word + 2 ^ k * number (bit_holds v sum.carry)) len in
    ap (exclusive (bit_holds v sum.carry)) (h.means v k2)
    ∙ carry-word w (spelled v low_a) (spelled v low_b) (spelled v sum.word) (number (bit_holds v c)) (bit_holds v p) (bit_holds v q) (bit_holds v sum.carry) (rw is_a (low-small v w a na)) (rw low (low-small v w b nb)) small (number-small (bit_holds v c)) added
    ∙ (λ i. not (is_signed w (signed w (whole-a v i) +ℤ signed w (whole-b v low is_q2 i) +ℤ pos (number (bit_holds v c))))))
  where
    whole-a : (v : Valuation) → spelled v low_a + half w * number (bit_holds v p) ≡ spelled v a
    whole-a v = ap (λ t. spelled v t + half w * number (bit_holds v p)) is_a ∙ sym (parted v w a p na is_p)

    whole-b : (v : Valuation) → low_b ≡ take (length b - 1) b → q ≡ get_or b (length b - 1) q → spelled v low_b + half w * number (bit_holds v q) ≡ spelled v b
    whole-b v low is_q2 = ap (λ t. spelled v t + half w * number (bit_holds v q)) low ∙ sym (parted v w b q nb is_q2)

pub add-over-of : (old new : Net) (w : Width) (a b : List Bit) (x : Bit) → IsGate old new (λ v. not (is_signed w (signed w (spelled v a) +ℤ signed w (spelled v b) +ℤ pos (number (bit_holds v (Known false)))))) x → IsGate old new (λ v. add_over w (spelled v a) (spelled v b)) x
add-over-of old new w a b x g = gate-after old old new _ _ x (same-grows old) g (λ v m. add-word w (spelled v a) (spelled v b))

pub opposites-stand : (net : Net) (b o opposites : List Bit) → AreBits net b → o ≡ opposites → opposites ≡ map opposite b → AreBits net o
opposites-stand net b o opposites h is_o e = rw (is_o, e) (bits-opposite net b h)

pub subtract-over-of : (old new : Net) (w : Width) (a b o opposites : List Bit) (x : Bit) → length b ≡ bits w → o ≡ opposites → opposites ≡ map opposite b → IsGate old new (λ v. not (is_signed w (signed w (spelled v a) +ℤ signed w (spelled v o) +ℤ pos (number (bit_holds v (Known true)))))) x → IsGate old new (λ v. sub_over w (spelled v a) (spelled v b)) x
subtract-over-of old new w a b o opposites x n is_o e g =
    gate-after old old new _ _ x (same-grows old) g (λ v m.
    let s : spelled v o + spelled v b + 1 ≡ 2 ^ bits w = ap (λ t. spelled v t + spelled v b + 1) (is_o ∙ e) ∙ spelled-opposite v b ∙ ap (λ k. 2 ^ k) n in
    subtract-word w (spelled v a) (spelled v b) (spelled v o) (in-width v b (bits w) n) s)

-- ---- products

pub greatest-of : (net : Net) (w : Width) (negative other : Bit) (low with_top zeros word : List Bit) (n : ℕ) → n ≡ bits w → IsBit net negative → other ≡ opposite negative → low ≡ replicate (n - 1) other → with_top ≡ low ++ negative ∷ [] → zeros ≡ replicate n (Known false) → word ≡ with_top ++ zeros → IsWord net net (2 * bits w) (λ v. half w - 1 + number (bit_holds v negative)) word
greatest-of net w negative other low with_top zeros word n is_n h is_other is_low is_top is_zeros is_word =
    let l = one-less w in
    let low_len : length low ≡ n - 1 = ap length is_low ∙ length-replicated (n - 1) other in
    let top_len : length with_top ≡ n = ap length is_top ∙ length_push low negative ∙ omega (arith, low_len, l, is_n) in
    record {
      width = ap length is_word ∙ length-append with_top zeros ∙ omega (arith, top_len, ap length is_zeros ∙ length-replicated n (Known false), is_n);
      grows = same-grows net;
      stand = rw is_word (bits-append net with_top zeros (rw is_top (bits-push net net low negative (same-grows net) (rw is_low (bits-replicate net (n - 1) other (rw is_other (opposite-bit net negative h)))) h)) (rw is_zeros (bits-replicate net n (Known false) tt)));
      means = λ v m.
          let low_is : spelled v low + number (not (bit_holds v negative)) ≡ half w * number (not (bit_holds v negative)) = (λ i. spelled v (is_low i) + number (sym (opposite-holds v negative) i)) ∙ ap (λ b. spelled v (replicate (n - 1) other) + number (bit_holds v b)) (sym is_other) ∙ spelled-replicate v (n - 1) other ∙ (λ i. 2 ^ (is_n i - 1) * number (bit_holds v (is_other i))) ∙ ap (λ b. half w * number b) (opposite-holds v negative) in
          let top_is : spelled v with_top ≡ spelled v low + half w * number (bit_holds v negative) = ap (spelled v) is_top ∙ spelled-push v low negative ∙ ap (λ k. spelled v low + 2 ^ k * number (bit_holds v negative)) (low_len ∙ ap (λ k. k - 1) is_n) in
          ap (spelled v) is_word ∙ spelled-append v with_top zeros ∙ ap (λ t. spelled v with_top + 2 ^ length with_top * t) (ap (spelled v) is_zeros ∙ spelled-zeros v n) ∙ none (spelled v with_top) (2 ^ length with_top) ∙ top_is ∙ either (half w) (spelled v low) (bit_holds v negative) low_is (half-pos w);
    }
  where
    none : (x p : ℕ) → x + p * 0 ≡ x
    none x p = omega arith

    either : (h low : ℕ) (b : Bool) → low + number (not b) ≡ h * number (not b) → 0 < h → low + h * number b ≡ h - 1 + number b
    either h low true e k = omega (arith, e, k)
    either h low false e k = omega (arith, e, k)

-- a word below zeros
pub wide-of : (v : Valuation) (n : ℕ) (a wide : List Bit) → length a ≤ n → wide ≡ take n a ++ replicate (n - length a) (Known false) → spelled v wide ≡ spelled v a
wide-of v n a wide h is =
    ap (spelled v) (is ∙ ap (λ t. t ++ replicate (n - length a) (Known false)) (take_all n a h)) ∙ spelled-append v a (replicate (n - length a) (Known false)) ∙ ap (λ t. spelled v a + 2 ^ length a * t) (spelled-zeros v (n - length a)) ∙ none (spelled v a) (2 ^ length a)
  where
    none : (x p : ℕ) → x + p * 0 ≡ x
    none x p = omega arith

pub wide-length : (n : ℕ) (a wide : List Bit) (fill : Bit) → wide ≡ take n a ++ replicate (n - length a) fill → length wide ≡ n
wide-length n a wide fill is = ap length is ∙ length-append (take n a) (replicate (n - length a) fill) ∙ omega (arith, length-take n a, length-replicated (n - length a) fill)

pub product-of : (old g1 g2 new : Net) (w : Width) (a b one other p q wide factor x y product : List Bit) (n : ℕ) → length a ≡ bits w → length b ≡ bits w → n ≡ 2 * bits w → IsWord old g1 (bits w) (λ v. magnitude w (spelled v a)) one → IsWord g1 g2 (bits w) (λ v. magnitude w (spelled v b)) other → p ≡ one → q ≡ other → wide ≡ take n p ++ replicate (n - length p) (Known false) → factor ≡ take n q ++ replicate (n - length q) (Known false) → x ≡ wide → y ≡ factor → IsWord g2 new (length x) (λ v. (spelled v x * spelled v y) % 2 ^ length x) product → IsWord old new (2 * bits w) (λ v. magnitude w (spelled v a) * magnitude w (spelled v b)) product
product-of old g1 g2 new w a b one other p q wide factor x y product n na nb is_n r s is_p is_q is_wide is_factor is_x is_y t =
    let len : length x ≡ 2 * bits w = ap length is_x ∙ wide-length n p wide (Known false) is_wide ∙ is_n in
    word-after old g2 new (length x) (2 * bits w) _ _ product (then-grows old g1 g2 r.grows s.grows) len t (λ v m.
    let k2 = t.grows.keeps v m in
    let k1 = s.grows.keeps v k2 in
    let lp : length p ≤ n = omega (arith, ap length is_p, r.width, is_n) in
    let lq : length q ≤ n = omega (arith, ap length is_q, s.width, is_n) in
    let ex : spelled v x ≡ magnitude w (spelled v a) = ap (spelled v) is_x ∙ wide-of v n p wide lp is_wide ∙ ap (spelled v) is_p ∙ r.means v k1 in
    let ey : spelled v y ≡ magnitude w (spelled v b) = ap (spelled v) is_y ∙ wide-of v n q factor lq is_factor ∙ ap (spelled v) is_q ∙ s.means v k2 in
    (λ i. (ex i * ey i) % 2 ^ len i) ∙ mod-eq_of_lt (product-small w (spelled v a) (spelled v b) (in-width v a (bits w) na) (in-width v b (bits w) nb)))

pub multiply-over-of : (old g1 g2 new : Net) (w : Width) (a b product greatest x y : List Bit) (negative fits z : Bit) → IsWord old g1 (2 * bits w) (λ v. magnitude w (spelled v a) * magnitude w (spelled v b)) product → IsGate g1 g2 (λ v. exclusive (is_negative w (spelled v a)) (is_negative w (spelled v b))) negative → IsWord g2 g2 (2 * bits w) (λ v. half w - 1 + number (bit_holds v negative)) greatest → x ≡ product → y ≡ greatest → IsGate g2 new (λ v. nat_le (spelled v x) (spelled v y)) fits → z ≡ opposite fits → IsGate old new (λ v. mul_over w (spelled v a) (spelled v b)) z
multiply-over-of old g1 g2 new w a b product greatest x y negative fits z r h s is_x is_y g is_z =
    let n = not-gate g2 new _ (λ v. not (nat_le (spelled v x) (spelled v y))) fits z g is_z (λ v. refl) in
    gate-after old g2 new _ _ z (then-grows old g1 g2 r.grows h.grows) n (λ v m.
    let k2 = g.grows.keeps v m in
    let k1 = h.grows.keeps v k2 in
    let ex : spelled v x ≡ magnitude w (spelled v a) * magnitude w (spelled v b) = ap (spelled v) is_x ∙ r.means v k1 in
    let ey : spelled v y ≡ half w - 1 + number (exclusive (is_negative w (spelled v a)) (is_negative w (spelled v b))) = ap (spelled v) is_y ∙ s.means v k2 ∙ ap (λ b. half w - 1 + number b) (h.means v k2) in
    (λ i. not (nat_le (ex i) (ey i))) ∙ product-word w (spelled v a) (spelled v b))

-- ---- quotients

pub divided-of : (old g1 g2 new : Net) (w : Width) (a b one other p q : List Bit) (division : Division) → IsWord old g1 (bits w) (λ v. magnitude w (spelled v a)) one → IsWord g1 g2 (bits w) (λ v. magnitude w (spelled v b)) other → p ≡ one → q ≡ other → IsDivision g2 new p q division → IsDivided old new w a b division
divided-of old g1 g2 new w a b one other p q division r s is_p is_q d =
    let len : length p ≡ bits w = ap length is_p ∙ r.width in
    record {
      grows = then-grows old g1 new r.grows (then-grows g1 g2 new s.grows d.grows);
      quotient_width = d.quotient_width ∙ len;
      remainder_width = d.remainder_width ∙ len;
      quotient_stands = d.quotient_stands;
      remainder_stands = d.remainder_stands;
      quotient_is = λ v m. d.quotient_is v m ∙ (λ i. divided (eq v m i) (ep v m i / eq v m i));
      remainder_is = λ v m. d.remainder_is v m ∙ (λ i. divided (eq v m i) (ep v m i % eq v m i));
    }
  where
    ep : (v : Valuation) → IsModel new v → spelled v p ≡ magnitude w (spelled v a)
    ep v m = ap (spelled v) is_p ∙ r.means v (s.grows.keeps v (d.grows.keeps v m))

    eq : (v : Valuation) → IsModel new v → spelled v q ≡ magnitude w (spelled v b)
    eq v m = ap (spelled v) is_q ∙ s.means v (d.grows.keeps v m)

pub signed-quotient-of : (old g1 g2 new : Net) (w : Width) (a b q word : List Bit) (division : Division) (negative : Bit) → length b ≡ bits w → IsDivided old g1 w a b division → IsGate g1 g2 (λ v. exclusive (is_negative w (spelled v a)) (is_negative w (spelled v b))) negative → q ≡ division.quotient → IsWord g2 new (bits w) (λ v. as_word w (with_sign (bit_holds v negative) (spelled v q))) word → IsWord old new (bits w) (λ v. divided (spelled v b) (sdiv w (spelled v a) (spelled v b))) word
signed-quotient-of old g1 g2 new w a b q word division negative nb d h is_q r =
    word-after old g2 new (bits w) (bits w) _ _ word (then-grows old g1 g2 d.grows h.grows) refl r (λ v m.
    let k2 = r.grows.keeps v m in
    let k1 = h.grows.keeps v k2 in
    let e : spelled v q ≡ divided (magnitude w (spelled v b)) (magnitude w (spelled v a) / magnitude w (spelled v b)) = ap (spelled v) is_q ∙ d.quotient_is v k1 in
    (λ i. as_word w (with_sign (h.means v k2 i) (e i))) ∙ quotient-word w (spelled v a) (spelled v b) (in-width v b (bits w) nb))

pub signed-remainder-of : (old g1 new : Net) (w : Width) (a b q word : List Bit) (division : Division) (negative : Bit) → length b ≡ bits w → IsDivided old g1 w a b division → IsGate g1 g1 (λ v. is_negative w (spelled v a)) negative → q ≡ division.remainder → IsWord g1 new (bits w) (λ v. as_word w (with_sign (bit_holds v negative) (spelled v q))) word → IsWord old new (bits w) (λ v. divided (spelled v b) (srem w (spelled v a) (spelled v b))) word
signed-remainder-of old g1 new w a b q word division negative nb d h is_q r =
    word-after old g1 new (bits w) (bits w) _ _ word d.grows refl r (λ v m.
    let k1 = r.grows.keeps v m in
    let e : spelled v q ≡ divided (magnitude w (spelled v b)) (magnitude w (spelled v a) % magnitude w (spelled v b)) = ap (spelled v) is_q ∙ d.remainder_is v k1 in
    (λ i. as_word w (with_sign (h.means v k1 i) (e i))) ∙ remainder-word w (spelled v a) (spelled v b) (in-width v b (bits w) nb))

-- the least word by -1
pub divide-over-of : (old g1 g2 new : Net) (w : Width) (a b least minus_one p q : List Bit) (x y z : Bit) (l o n m : ℕ) → n ≡ bits w → m ≡ bits w → l ≡ half w → o ≡ 2 ^ 64 - 1 → IsWord old old n (λ v. l % 2 ^ n) least → IsWord old old m (λ v. o % 2 ^ m) minus_one → p ≡ least → q ≡ minus_one → IsGate old g1 (λ v. nat_eq (spelled v a) (spelled v p)) x → IsGate g1 g2 (λ v. nat_eq (spelled v b) (spelled v q)) y → IsGate g2 new (λ v. bit_holds v x && bit_holds v y) z → IsGate old new (λ v. nat_eq (spelled v a) (half w) && nat_eq (spelled v b) (2 ^ bits w - 1)) z
divide-over-of old g1 g2 new w a b least minus_one p q x y z l o n m is_n is_m is_l is_o r s is_p is_q h k g =
    gate-after old g2 new _ _ z (then-grows old g1 g2 h.grows k.grows) g (λ v model.
    let k2 = g.grows.keeps v model in
    let k1 = k.grows.keeps v k2 in
    let k0 = h.grows.keeps v k1 in
    let ep : spelled v p ≡ half w = ap (spelled v) is_p ∙ r.means v k0 ∙ (λ i. is_l i % 2 ^ is_n i) ∙ low w in
    let eq : spelled v q ≡ 2 ^ bits w - 1 = ap (spelled v) is_q ∙ s.means v k0 ∙ (λ i. is_o i % 2 ^ is_m i) ∙ all w in
    (λ i. h.means v k1 i && k.means v k2 i) ∙ (λ i. nat_eq (spelled v a) (ep i) && nat_eq (spelled v b) (eq i)))
  where
    low : (w : Width) → half w % 2 ^ bits w ≡ half w
    low W8 = refl
    low W16 = refl
    low W32 = refl
    low W64 = refl

    all : (w : Width) → (2 ^ 64 - 1) % 2 ^ bits w ≡ 2 ^ bits w - 1
    all W8 = refl
    all W16 = refl
    all W32 = refl
    all W64 = refl

-- ---- shifts

pub shift-over-of : (old g1 new : Net) (w : Width) (a by least p bound q : List Bit) (x : Bit) (l n : ℕ) → n ≡ bits w → l ≡ half w → IsWord old old n (λ v. l % 2 ^ n) least → p ≡ least → IsWord old g1 (length p) (λ v. cond (nat_lt (spelled v by) (length p)) (flipped (length p) (bit_holds v (Known false)) (flipped (length p) (bit_holds v (Known false)) (spelled v p) / 2 ^ spelled v by)) 0) bound → q ≡ bound → IsGate g1 new (λ v. nat_le (spelled v q) (spelled v a)) x → IsGate old new (λ v. shl_over w (spelled v a) (spelled v by)) x
shift-over-of old g1 new w a by least p bound q x l n is_n is_l r is_p s is_q g =
    gate-after old g1 new _ _ x s.grows g (λ v m.
    let k1 = g.grows.keeps v m in
    let k0 = s.grows.keeps v k1 in
    let len : length p ≡ bits w = ap length is_p ∙ r.width ∙ is_n in
    let ep : spelled v p ≡ half w = ap (spelled v) is_p ∙ r.means v k0 ∙ (λ i. is_l i % 2 ^ is_n i) ∙ low w in
    let eq : spelled v q ≡ cond (nat_lt (spelled v by) (bits w)) (half w / 2 ^ spelled v by) 0 = ap (spelled v) is_q ∙ s.means v k1 ∙ (λ i. cond (nat_lt (spelled v by) (len i)) (ep i / 2 ^ spelled v by) 0) in
    ap (λ t. nat_le t (spelled v a)) eq ∙ overshift-word w (spelled v a) (spelled v by))
  where
    low : (w : Width) → half w % 2 ^ bits w ≡ half w
    low W8 = refl
    low W16 = refl
    low W32 = refl
    low W64 = refl

pub up-of : (old new : Net) (w : Width) (a by word : List Bit) → length a ≡ bits w → IsWord old new (length a) (λ v. cond (nat_lt (spelled v by) (length a)) ((spelled v a * 2 ^ spelled v by) % 2 ^ length a) 0) word → IsWord old new (bits w) (λ v. near w (spelled v by) (shl w (spelled v a) (spelled v by))) word
up-of old new w a by word n r = word-after old old new (length a) (bits w) _ _ word (same-grows old) n r (λ v m i. cond (nat_lt (spelled v by) (n i)) ((spelled v a * 2 ^ spelled v by) % 2 ^ n i) 0)

pub logical-of : (old new : Net) (w : Width) (a by word : List Bit) → length a ≡ bits w → IsWord old new (length a) (λ v. cond (nat_lt (spelled v by) (length a)) (flipped (length a) (bit_holds v (Known false)) (flipped (length a) (bit_holds v (Known false)) (spelled v a) / 2 ^ spelled v by)) 0) word → IsWord old new (bits w) (λ v. near w (spelled v by) (lshr (spelled v a) (spelled v by))) word
logical-of old new w a by word n r = word-after old old new (length a) (bits w) _ _ word (same-grows old) n r (λ v m i. cond (nat_lt (spelled v by) (n i)) (spelled v a / 2 ^ spelled v by) 0)

pub arithmetic-of : (old new : Net) (w : Width) (a by word : List Bit) (fill : Bit) → length a ≡ bits w → IsGate old old (λ v. is_negative w (spelled v a)) fill → IsWord old new (length a) (λ v. cond (nat_lt (spelled v by) (length a)) (flipped (length a) (bit_holds v fill) (flipped (length a) (bit_holds v fill) (spelled v a) / 2 ^ spelled v by)) 0) word → IsWord old new (bits w) (λ v. near w (spelled v by) (ashr w (spelled v a) (spelled v by))) word
arithmetic-of old new w a by word fill n g r =
    word-after old old new (length a) (bits w) _ _ word (same-grows old) n r (λ v m.
    let s = g.means v (r.grows.keeps v m) in
    (λ i. cond (nat_lt (spelled v by) (n i)) (flipped (n i) (s i) (flipped (n i) (s i) (spelled v a) / 2 ^ spelled v by)) 0)
    ∙ ap (λ t. near w (spelled v by) t) (shifted-word w (spelled v a) (2 ^ spelled v by) (in-width v a (bits w) n)))

-- ---- conversions

resized-stands : (net : Net) (n : ℕ) (a word : List Bit) (fill : Bit) → AreBits net a → IsBit net fill → word ≡ take n a ++ replicate (n - length a) fill → AreBits net word
resized-stands net n a word fill h f is = rw is (bits-append net (take n a) (replicate (n - length a) fill) (bits-take net n a h) (bits-replicate net (n - length a) fill f))

taken-only : (v : Valuation) (n : ℕ) (a word : List Bit) (fill : Bit) → n ≤ length a → word ≡ take n a ++ replicate (n - length a) fill → spelled v word ≡ spelled v a % 2 ^ n
taken-only v n a word fill h is =
    let e : n - length a ≡ 0 = omega arith in
    let s : spelled v a ≡ spelled v (take n a) + 2 ^ n * spelled v (drop n a) = spelled-split v n a in
    ap (spelled v) (is ∙ ap (λ k. take n a ++ replicate k fill) e) ∙ spelled-append v (take n a) [] ∙ none (spelled v (take n a)) (2 ^ length (take n a))
    ∙ sym (ap (λ t. t % 2 ^ n) s ∙ add-mul-mod_self_left (spelled v (take n a)) (2 ^ n) (spelled v (drop n a)) ∙ mod-eq_of_lt (taken-small v a n h))
  where
    none : (x p : ℕ) → x + p * 0 ≡ x
    none x p = omega arith

pub zero-extended-of : (net : Net) (from to : Width) (a word : List Bit) (n : ℕ) → n ≡ bits to → AreBits net a → word ≡ take n a ++ replicate (n - length a) (Known false) → IsWord net net (bits to) (λ v. spelled v a % 2 ^ bits to) word
zero-extended-of net from to a word n is_n h is = record {
  width = wide-length n a word (Known false) is ∙ is_n;
  grows = same-grows net;
  stand = resized-stands net n a word (Known false) h tt is;
  means = λ v m. either v (cases_lt (length a) n) ∙ ap (λ k. spelled v a % 2 ^ k) is_n;
}
  where
    either : (v : Valuation) → (length a < n) ⊎ (n ≤ length a) → spelled v word ≡ spelled v a % 2 ^ n
    either v (inl k) = wide-of v n a word (omega arith) is ∙ sym (mod-eq_of_lt (more v k))
      where
        more : (v : Valuation) → length a < n → spelled v a < 2 ^ n
        more v k = let p = pow-le-pow_right {n = 2} (omega arith) {i = length a} {j = n} (omega arith) in omega (arith, spelled-small v a, p)
    either v (inr k) = taken-only v n a word (Known false) k is

pub sign-extended-of : (net : Net) (from to : Width) (a word : List Bit) (n : ℕ) (fill : Bit) → n ≡ bits to → AreBits net a → length a ≡ bits from → IsGate net net (λ v. is_negative from (spelled v a)) fill → word ≡ take n a ++ replicate (n - length a) fill → IsWord net net (bits to) (λ v. as_word to (signed from (spelled v a))) word
sign-extended-of net from to a word n fill is_n h len g is = record {
  width = wide-length n a word fill is ∙ is_n;
  grows = same-grows net;
  stand = resized-stands net n a word fill h g.stands is;
  means = λ v m. either v m (cases_lt (length a) n);
}
  where
    widened : (v : Valuation) → IsModel net v → length a < n → spelled v word ≡ as_word to (signed from (spelled v a))
    widened v m k =
        let r : ℕ = 2 ^ length a * spelled v (replicate (n - length a) fill) in
        let whole : spelled v word ≡ spelled v a + r = ap (spelled v) (is ∙ ap (λ t. t ++ replicate (n - length a) fill) (take_all n a (omega arith))) ∙ spelled-append v a (replicate (n - length a) fill) in
        let spread : 2 ^ length a * (spelled v (replicate (n - length a) fill) + number (bit_holds v fill)) ≡ 2 ^ length a * (2 ^ (n - length a) * number (bit_holds v fill)) = ap (λ t. 2 ^ length a * t) (spelled-replicate v (n - length a) fill) in
        let left : 2 ^ length a * (spelled v (replicate (n - length a) fill) + number (bit_holds v fill)) ≡ r + 2 ^ length a * number (bit_holds v fill) = mul-add (2 ^ length a) (spelled v (replicate (n - length a) fill)) (number (bit_holds v fill)) in
        let powers : 2 ^ length a * (2 ^ (n - length a) * number (bit_holds v fill)) ≡ 2 ^ n * number (bit_holds v fill) = sym (mul_assoc (2 ^ length a) (2 ^ (n - length a)) (number (bit_holds v fill))) ∙ ap (λ p. p * number (bit_holds v fill)) (sym (pow-add 2 (length a) (n - length a)) ∙ ap (λ k. 2 ^ k) (omega arith)) in
        let total : r + 2 ^ length a * number (bit_holds v fill) ≡ 2 ^ n * number (bit_holds v fill) = sym left ∙ spread ∙ powers in
        let s = g.means v m in
        let at_widths : r + 2 ^ bits from * number (is_negative from (spelled v a)) ≡ 2 ^ bits to * number (is_negative from (spelled v a)) = (λ i. r + 2 ^ sym len i * number (sym s i)) ∙ total ∙ (λ i. 2 ^ is_n i * number (s i)) in
        whole ∙ widened-word from to (spelled v a) r (in-width v a (bits from) len) (omega (arith, len, is_n, k)) at_widths

    either : (v : Valuation) → IsModel net v → (length a < n) ⊎ (n ≤ length a) → spelled v word ≡ as_word to (signed from (spelled v a))
    either v m (inl k) = widened v m k
    either v m (inr k) = taken-only v n a word fill k is ∙ ap (λ t. spelled v a % 2 ^ t) is_n ∙ narrowed-word from to (spelled v a) (in-width v a (bits from) len) (omega (arith, len, is_n, k))

-- 1 moved up below the sign bit
pub least-of : (w : Width) (n : ℕ) → n ≡ bits w → (1 * 2 ^ (n - 1)) % 2 ^ 64 ≡ half w
least-of w n e = ap (λ k. (1 * 2 ^ (k - 1)) % 2 ^ 64) e ∙ at w
  where
    at : (w : Width) → (1 * 2 ^ (bits w - 1)) % 2 ^ 64 ≡ half w
    at W8 = refl
    at W16 = refl
    at W32 = refl
    at W64 = refl
