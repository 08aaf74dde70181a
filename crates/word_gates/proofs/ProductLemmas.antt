-- Sums, differences and products of words.
use Rattle.std.proofs.Common.{◌≡◌, ◌<◌, ◌≤◌, ◌++◌, ℕ, ◌+◌, ◌-◌, ◌*◌, ◌%◌, ◌^◌, List, Bool, true, false, cond, refl, sym, ap, subst, ◌∙◌, arith, length, take, drop, replicate, get_or, take_all, map}
use Rattle.std.proofs.lemmas.Nat.{pow-add}
use Rattle.std.proofs.lemmas.List.{length-append, length-take-le}
use Rattle.std.proofs.Math.Nat.{mul_assoc, mul-add, mul_comm, mod-eq_of_lt, add-mul-mod_self_left, mod-add-mod}
use Rattle.cnf_core.specs.Truth.{Valuation}
use Rattle.gates.specs.declared.bit.Bit.{Bit}
use Rattle.gates.specs.declared.bit.Bit.TheVariants.{Known}
use Rattle.gates.specs.Nets.{Net, bit_holds, opposite}
use Rattle.gates.proofs.BitLemmas.{same-grows}
use Rattle.word_gates.specs.declared.sums.Sum.{Sum}
use Rattle.word_gates.specs.Spelling.{number, truths, spelled, AreBits, HasTruths, IsWord}
use Rattle.word_gates.specs.Sums.{IsSum}
use Rattle.word_gates.proofs.NumberLemmas.{pow-pos}
use Rattle.word_gates.proofs.WordLemmas.{chosen-word, spelled-small, spelled-so-far, word-as, word-then}
use Rattle.word_gates.proofs.WireLemmas.{bits-append, bits-replicate, bits-take, bits-opposite, spelled-append, spelled-zeros, spelled-opposite, spelled-split, length-replicated}

-- the word of a sum, without its carry
pub sum-word : (old now : Net) (n : ℕ) (f : Valuation → ℕ) (sum : Sum) → IsSum old now n f sum → IsWord old now n (λ v. f v % 2 ^ n) sum.word
sum-word old now n f sum s = record {
  width = s.width;
  grows = s.grows;
  stand = s.stand;
  means = λ v m.
      let small : spelled v sum.word < 2 ^ n = subst (λ k. spelled v sum.word < 2 ^ k) s.width (spelled-small v sum.word) in
      rw (← s.means v m, add-mul-mod_self_left (spelled v sum.word) (2 ^ n) (number (bit_holds v sum.carry))) (sym (mod-eq_of_lt small));
}

pub sum-of : (old now : Net) (a b : List Bit) (sum : Sum) → IsSum old now (length a) (λ v. spelled v a + spelled v b + number (bit_holds v (Known false))) sum → IsWord old now (length a) (λ v. (spelled v a + spelled v b) % 2 ^ length a) sum.word
sum-of old now a b sum s = word-as old now (length a) (length a) _ _ sum.word refl (sum-word old now (length a) _ sum s) (λ v. ap (λ t. t % 2 ^ length a) (plus-none (spelled v a + spelled v b)))
  where
    plus-none : (x : ℕ) → x + 0 ≡ x
    plus-none x = omega arith

pub opposites-stand : (net : Net) (b opposites : List Bit) → opposites ≡ map opposite b → AreBits net b → AreBits net opposites
opposites-stand net b opposites e h = rw e (bits-opposite net b h)

pub difference-of : (old now : Net) (a b opposites : List Bit) (sum : Sum) → length a ≡ length b → opposites ≡ map opposite b → IsSum old now (length a) (λ v. spelled v a + spelled v opposites + number (bit_holds v (Known true))) sum → IsWord old now (length a) (λ v. (spelled v a + (2 ^ length a - spelled v b)) % 2 ^ length a) sum.word
difference-of old now a b opposites sum same e s =
    word-as old now (length a) (length a) _ _ sum.word refl (sum-word old now (length a) _ sum s) (λ v.
    let o : spelled v opposites + spelled v b + 1 ≡ 2 ^ length a = rw (e, same) (spelled-opposite v b) in
    let t : spelled v a + spelled v opposites + 1 ≡ spelled v a + (2 ^ length a - spelled v b) = omega (arith, o) in
    ap (λ x. x % 2 ^ length a) t)

-- a word moved up
pub up-width : (a moved : List Bit) (by : ℕ) → by ≤ length a → moved ≡ replicate by (Known false) ++ take (length a - by) a → length moved ≡ length a
up-width a moved by h e =
    let l = length-append (replicate by (Known false)) (take (length a - by) a) in
    let r = length-replicated by (Known false) in
    let t = length-take-le (length a - by) a (omega arith) in
    rw e (omega (arith, l, r, t, h))

pub up-stands : (net : Net) (a moved : List Bit) (by : ℕ) → moved ≡ replicate by (Known false) ++ take (length a - by) a → AreBits net a → AreBits net moved
up-stands net a moved by e h = rw e (bits-append net (replicate by (Known false)) (take (length a - by) a) (bits-replicate net by (Known false) tt) (bits-take net (length a - by) a h))

pub up-spelled : (v : Valuation) (a moved : List Bit) (by : ℕ) → by ≤ length a → moved ≡ replicate by (Known false) ++ take (length a - by) a → spelled v a * 2 ^ by ≡ spelled v moved + 2 ^ length a * spelled v (drop (length a - by) a)
up-spelled v a moved by h e =
    let k : ℕ = length a - by in
    let low : spelled v moved ≡ 2 ^ by * spelled v (take k a) = rw e (spelled-append v (replicate by (Known false)) (take k a) ∙ rw (spelled-zeros v by, length-replicated by (Known false)) (from-zero (2 ^ by * spelled v (take k a)))) in
    let whole = spelled-split v k a in
    let power : 2 ^ length a ≡ 2 ^ by * 2 ^ k = ap (λ n. 2 ^ n) (sum-back (length a) by h) ∙ pow-add 2 by k in
    rw (whole, low, power) (spread (2 ^ by) (2 ^ k) (spelled v (take k a)) (spelled v (drop k a)))
  where
    from-zero : (x : ℕ) → 0 + x ≡ x
    from-zero x = omega arith

    sum-back : (n b : ℕ) → b ≤ n → n ≡ b + (n - b)
    sum-back n b h = omega arith

    spread : (p q x y : ℕ) → (x + q * y) * p ≡ p * x + p * q * y
    spread p q x y = mul_comm (x + q * y) p ∙ mul-add p x (q * y) ∙ ap (λ t. p * x + t) (sym (mul_assoc p q y))

pub row-width : (a moved : List Bit) (by : ℕ) (sum row : List Bit) → length sum ≡ length a → length row ≡ length moved → by ≤ length a → moved ≡ replicate by (Known false) ++ take (length a - by) a → length sum ≡ length row
row-width a moved by sum row s r h e = s ∙ sym (up-width a moved by h e) ∙ sym r

pub row-of : (old mid new : Net) (sum a moved zeros row chosen total : List Bit) (by : ℕ) (factor : Bit) → length sum ≡ length a → by ≤ length a → moved ≡ replicate by (Known false) ++ take (length a - by) a → zeros ≡ replicate (length a) (Known false) → HasTruths old mid (length moved) (λ v. cond (bit_holds v factor) (truths v moved) (truths v zeros)) chosen → row ≡ chosen → IsWord mid new (length sum) (λ v. (spelled v sum + spelled v row) % 2 ^ length sum) total → IsWord old new (length a) (λ v. (spelled v sum + spelled v a * (2 ^ by * number (bit_holds v factor))) % 2 ^ length a) total
row-of old mid new sum a moved zeros row chosen total by factor same h up none choice is w =
    let r = chosen-word old mid (length moved) factor moved zeros chosen choice in
    word-as old new (length sum) (length a) _ _ total same (word-then old mid new (length sum) _ (λ v. (spelled v sum + spelled v a * (2 ^ by * number (bit_holds v factor))) % 2 ^ length sum) total r.grows w (λ v m.
    rw (is, r.means v m, same) (either (bit_holds v factor) v)))
    (λ v. rw same refl)
  where
    none-of : (n p s x : ℕ) → (s + 0) % n ≡ (s + x * (p * 0)) % n
    none-of n p s x = let e : x * (p * 0) ≡ 0 = omega arith in rw e refl

    whole : (n p s x y z : ℕ) → x * p ≡ y + n * z → (s + y) % n ≡ (s + x * (p * 1)) % n
    whole n p s x y z e =
        let f : x * (p * 1) ≡ y + n * z = ap (λ t. x * t) (one p) ∙ e in
        rw f (sym (add-mul-mod_self_left (s + y) n z) ∙ ap (λ t. t % n) (regroup s y (n * z)))
      where
        one : (p : ℕ) → p * 1 ≡ p
        one p = omega arith

        regroup : (a b c : ℕ) → a + b + c ≡ a + (b + c)
        regroup a b c = omega arith

    either : (b : Bool) (v : Valuation) → (spelled v sum + cond b (spelled v moved) (spelled v zeros)) % 2 ^ length a ≡ (spelled v sum + spelled v a * (2 ^ by * number b)) % 2 ^ length a
    either true v = whole (2 ^ length a) (2 ^ by) (spelled v sum) (spelled v a) (spelled v moved) (spelled v (drop (length a - by) a)) (up-spelled v a moved by h up)
    either false v = rw (none, spelled-zeros v (length a)) (none-of (2 ^ length a) (2 ^ by) (spelled v sum) (spelled v a))

-- ---- the loop of a product

pub product-start : (net : Net) (a b product : List Bit) → product ≡ replicate (length a) (Known false) → IsWord net net (length a) (λ v. (spelled v a * spelled v (take 0 b)) % 2 ^ length a) product
product-start net a b product e = record {
  width = rw e (length-replicated (length a) (Known false));
  grows = same-grows net;
  stand = rw e (bits-replicate net (length a) (Known false) tt);
  means = λ v m. rw e (spelled-zeros v (length a) ∙ sym (mod-eq_of_lt (pow-pos (length a))) ∙ ap (λ t. t % 2 ^ length a) (none (spelled v a)));
}
  where
    none : (x : ℕ) → 0 ≡ x * 0
    none x = omega arith

pub product-more : (old now next : Net) (a b before sum after : List Bit) (i : ℕ) (q : Bit) → length a ≡ length b → i < length a → q ≡ get_or b i q → IsWord old now (length a) (λ v. (spelled v a * spelled v (take i b)) % 2 ^ length a) before → sum ≡ before → IsWord now next (length a) (λ v. (spelled v sum + spelled v a * (2 ^ i * number (bit_holds v q))) % 2 ^ length a) after → IsWord old next (length a) (λ v. (spelled v a * spelled v (take (i + 1) b)) % 2 ^ length a) after
product-more old now next a b before sum after i q same in_a is_q w is r =
    word-then old now next (length a) _ _ after w.grows r (λ v m.
    let in_b : i < length b = omega (arith, same) in
    rw (is, w.means v m, spelled-so-far v b i q in_b is_q)
    (mod-add-mod (spelled v a * spelled v (take i b)) (2 ^ length a) (spelled v a * (2 ^ i * number (bit_holds v q))) ∙ ap (λ t. t % 2 ^ length a) (sym (mul-add (spelled v a) (spelled v (take i b)) (2 ^ i * number (bit_holds v q))))))

pub product-whole : (old now : Net) (a b product : List Bit) (i : ℕ) → length a ≡ length b → length a ≤ i → IsWord old now (length a) (λ v. (spelled v a * spelled v (take i b)) % 2 ^ length a) product → IsWord old now (length a) (λ v. (spelled v a * spelled v b) % 2 ^ length a) product
product-whole old now a b product i same h w = word-as old now (length a) (length a) _ _ product refl w (λ v. rw (take_all i b (omega (arith, same))) refl)

pub product-turned : (old now : Net) (a b product : List Bit) → length a ≡ length b → IsWord old now (length b) (λ v. (spelled v b * spelled v a) % 2 ^ length b) product → IsWord old now (length a) (λ v. (spelled v a * spelled v b) % 2 ^ length a) product
product-turned old now a b product same w = word-as old now (length b) (length a) _ _ product (sym same) w (λ v. rw (mul_comm (spelled v b) (spelled v a), same) refl)
