-- Shifts by bits.
use Rattle.std.proofs.Common.{◌≡◌, ◌<◌, ◌≤◌, ◌++◌, ℕ, ◌+◌, ◌-◌, ◌*◌, ◌/◌, ◌%◌, ◌^◌, zero, suc, List, Bool, true, false, cond, refl, sym, ap, subst, ◌∙◌, arith, length, take, drop, replicate, get_or}
use Rattle.std.specs.Prelude.{nat_eq, nat_lt}
use Rattle.std.proofs.lemmas.Bool.{ne_eqb, lt-ltb, le-ltb}
use Rattle.std.proofs.lemmas.Nat.{pow-add, pow_below}
use Rattle.std.proofs.lemmas.List.{length-append, length-drop}
use Rattle.std.proofs.Math.Nat.{mul_assoc, mul-add, mul_comm, mod-eq_of_lt, add-mul-mod_self_left, add-mul-div_left, div-eq_of_lt, div-div-eq-div-mul, div-le_self, mod-add-div}
use Rattle.cnf_core.specs.Truth.{Valuation}
use Rattle.gates.specs.declared.bit.Bit.{Bit}
use Rattle.gates.specs.declared.bit.Bit.TheVariants.{Known}
use Rattle.gates.specs.Nets.{Net, IsBit, IsGate, bit_holds}
use Rattle.gates.proofs.BitLemmas.{same-grows}
use Rattle.word_gates.specs.Spelling.{number, truths, spelled, AreBits, HasTruths, IsWord, flipped}
use Rattle.word_gates.proofs.WordLemmas.{chosen-word, spelled-small, taken-small, spelled-so-far, word-as, word-then}
use Rattle.word_gates.proofs.WireLemmas.{bits-append, bits-replicate, bits-drop, spelled-append, spelled-replicate, spelled-zeros, spelled-split, length-replicated}
use Rattle.word_gates.proofs.ProductLemmas.{up-width, up-spelled}

-- ---- up

pub up-if-of : (old new : Net) (a moved chosen : List Bit) (by : ℕ) (c : Bit) → by ≤ length a → moved ≡ replicate by (Known false) ++ take (length a - by) a → HasTruths old new (length moved) (λ v. cond (bit_holds v c) (truths v moved) (truths v a)) chosen → IsWord old new (length a) (λ v. (spelled v a * 2 ^ (by * number (bit_holds v c))) % 2 ^ length a) chosen
up-if-of old new a moved chosen by c h is choice =
    let r = chosen-word old new (length moved) c moved a chosen choice in
    word-as old new (length moved) (length a) _ _ chosen (up-width a moved by h is) r (λ v. either (bit_holds v c) v)
  where
    once : (b : ℕ) → b * 1 ≡ b
    once b = omega arith

    never : (b : ℕ) → b * 0 ≡ 0
    never b = omega arith

    either : (b : Bool) (v : Valuation) → cond b (spelled v moved) (spelled v a) ≡ (spelled v a * 2 ^ (by * number b)) % 2 ^ length a
    either true v =
        let small : spelled v moved < 2 ^ length a = subst (λ k. spelled v moved < 2 ^ k) (up-width a moved by h is) (spelled-small v moved) in
        let p : spelled v a * 2 ^ (by * 1) ≡ spelled v moved + 2 ^ length a * spelled v (drop (length a - by) a) = ap (λ n. spelled v a * 2 ^ n) (once by) ∙ up-spelled v a moved by h is in
        sym (ap (λ t. t % 2 ^ length a) p ∙ add-mul-mod_self_left (spelled v moved) (2 ^ length a) (spelled v (drop (length a - by) a)) ∙ mod-eq_of_lt small)
    either false v =
        let p : spelled v a * 2 ^ (by * 0) ≡ spelled v a = ap (λ n. spelled v a * 2 ^ n) (never by) ∙ once (spelled v a) in
        sym (ap (λ t. t % 2 ^ length a) p ∙ mod-eq_of_lt (spelled-small v a))

-- ---- down

pub down-width : (a moved : List Bit) (by : ℕ) (fill : Bit) → by ≤ length a → moved ≡ drop by a ++ replicate by fill → length moved ≡ length a
down-width a moved by fill h is =
    let l = length-append (drop by a) (replicate by fill) in
    let d = length-drop by a in
    let r = length-replicated by fill in
    rw is (omega (arith, l, d, r, h))

pub down-stands : (net : Net) (a moved : List Bit) (by : ℕ) (fill : Bit) → moved ≡ drop by a ++ replicate by fill → AreBits net a → IsBit net fill → AreBits net moved
down-stands net a moved by fill is h f = rw is (bits-append net (drop by a) (replicate by fill) (bits-drop net by a h) (bits-replicate net by fill f))

halved : (p r q : ℕ) → r < p → (r + p * q) / p ≡ q
halved p r q h = add-mul-div_left r q {y = p} (omega (arith, h)) ∙ ap (λ t. t + q) (div-eq_of_lt h) ∙ from-zero q
  where
    from-zero : (q : ℕ) → 0 + q ≡ q
    from-zero q = omega arith

-- m is the high part q of x below s ones, which spell p - 1
down-ones : (n p k q r x m s : ℕ) → n ≡ p * k → r < p → q < k → x ≡ r + p * q → m ≡ q + k * s → s + 1 ≡ p → n - 1 - m ≡ (n - 1 - x) / p
down-ones n p k q r x m s is_n small_r small_q is_x is_m is_p =
    let t : ℕ = k - 1 - q in
    let by_s : p * k ≡ k * s + k * 1 = mul_comm p k ∙ ap (λ y. k * y) (sym is_p) ∙ mul-add k s 1 in
    let left : n - 1 - m ≡ k - 1 - q = omega (arith, is_n, by_s, is_m, small_q) in
    let e : k ≡ t + (1 + q) = omega (arith, small_q) in
    let by_t : p * k ≡ p * t + (p * 1 + p * q) = ap (λ y. p * y) e ∙ mul-add p t (1 + q) ∙ ap (λ y. p * t + y) (mul-add p 1 q) in
    let rest : n - 1 - x ≡ (p - 1 - r) + p * t = omega (arith, is_n, by_t, is_x, small_r) in
    left ∙ sym (ap (λ y. y / p) rest ∙ halved p (p - 1 - r) t (omega (arith, small_r)))

-- m is the high part q of x below zeros
down-zeros : (p k q r x m s : ℕ) → r < p → x ≡ r + p * q → m ≡ q + k * s → s ≡ 0 → m ≡ x / p
down-zeros p k q r x m s small_r is_x is_m is_s =
    let none : k * s ≡ k * 0 = ap (λ y. k * y) is_s in
    let here : m ≡ q = omega (arith, is_m, none) in
    here ∙ sym (ap (λ y. y / p) is_x ∙ halved p r q small_r)

pub down-spelled : (v : Valuation) (a moved : List Bit) (by : ℕ) (fill : Bit) → by ≤ length a → moved ≡ drop by a ++ replicate by fill → flipped (length a) (bit_holds v fill) (spelled v moved) ≡ flipped (length a) (bit_holds v fill) (spelled v a) / 2 ^ by
down-spelled v a moved by fill h is = either (bit_holds v fill) (spelled-replicate v by fill)
  where
    small_q : spelled v (drop by a) < 2 ^ (length a - by)
    small_q = subst (λ n. spelled v (drop by a) < 2 ^ n) (length-drop by a) (spelled-small v (drop by a))

    small_r : spelled v (take by a) < 2 ^ by
    small_r = taken-small v a by h

    power : 2 ^ length a ≡ 2 ^ by * 2 ^ (length a - by)
    power = let e : length a ≡ by + (length a - by) = omega (arith, h) in ap (λ n. 2 ^ n) e ∙ pow-add 2 by (length a - by)

    is_moved : spelled v moved ≡ spelled v (drop by a) + 2 ^ (length a - by) * spelled v (replicate by fill)
    is_moved = ap (spelled v) is ∙ spelled-append v (drop by a) (replicate by fill) ∙ ap (λ n. spelled v (drop by a) + 2 ^ n * spelled v (replicate by fill)) (length-drop by a)

    either : (b : Bool) → spelled v (replicate by fill) + number b ≡ 2 ^ by * number b → flipped (length a) b (spelled v moved) ≡ flipped (length a) b (spelled v a) / 2 ^ by
    either true e = down-ones (2 ^ length a) (2 ^ by) (2 ^ (length a - by)) (spelled v (drop by a)) (spelled v (take by a)) (spelled v a) (spelled v moved) (spelled v (replicate by fill)) power small_r small_q (spelled-split v by a) is_moved (omega (arith, e))
    either false e = down-zeros (2 ^ by) (2 ^ (length a - by)) (spelled v (drop by a)) (spelled v (take by a)) (spelled v a) (spelled v moved) (spelled v (replicate by fill)) small_r (spelled-split v by a) is_moved (omega (arith, e))

pub flip-back : (n : ℕ) (b : Bool) (x : ℕ) → x < 2 ^ n → flipped n b (flipped n b x) ≡ x
flip-back n true x h = omega (arith, h)
flip-back n false x h = refl

pub flip-small : (n : ℕ) (b : Bool) (x : ℕ) → x < 2 ^ n → flipped n b x < 2 ^ n
flip-small n true x h = omega (arith, h)
flip-small n false x h = h

pub down-if-of : (old new : Net) (a moved chosen : List Bit) (by : ℕ) (c fill : Bit) → by ≤ length a → moved ≡ drop by a ++ replicate by fill → HasTruths old new (length moved) (λ v. cond (bit_holds v c) (truths v moved) (truths v a)) chosen → IsWord old new (length a) (λ v. flipped (length a) (bit_holds v fill) (flipped (length a) (bit_holds v fill) (spelled v a) / 2 ^ (by * number (bit_holds v c)))) chosen
down-if-of old new a moved chosen by c fill h is choice =
    let r = chosen-word old new (length moved) c moved a chosen choice in
    word-as old new (length moved) (length a) _ _ chosen (down-width a moved by fill h is) r (λ v. either (bit_holds v c) v)
  where
    once : (b : ℕ) → b * 1 ≡ b
    once b = omega arith

    never : (b : ℕ) → b * 0 ≡ 0
    never b = omega arith

    by-one : (x : ℕ) → x / 1 ≡ x
    by-one x = omega arith

    either : (b : Bool) (v : Valuation) → cond b (spelled v moved) (spelled v a) ≡ flipped (length a) (bit_holds v fill) (flipped (length a) (bit_holds v fill) (spelled v a) / 2 ^ (by * number b))
    either true v =
        let small : spelled v moved < 2 ^ length a = subst (λ k. spelled v moved < 2 ^ k) (down-width a moved by fill h is) (spelled-small v moved) in
        let f : ℕ → ℕ = λ t. flipped (length a) (bit_holds v fill) t in
        sym (ap (λ t. f (f (spelled v a) / 2 ^ t)) (once by) ∙ ap f (sym (down-spelled v a moved by fill h is)) ∙ flip-back (length a) (bit_holds v fill) (spelled v moved) small)
    either false v =
        let f : ℕ → ℕ = λ t. flipped (length a) (bit_holds v fill) t in
        sym (ap (λ t. f (f (spelled v a) / 2 ^ t)) (never by) ∙ ap f (by-one (f (spelled v a))) ∙ flip-back (length a) (bit_holds v fill) (spelled v a) (spelled-small v a))

-- ---- the stages

pub copy-word : (net : Net) (a word : List Bit) (f : Valuation → ℕ) → word ≡ a → AreBits net a → ((v : Valuation) → spelled v a ≡ f v) → IsWord net net (length a) f word
copy-word net a word f is h e = record { width = ap length is; grows = same-grows net; stand = rw is h; means = λ v m. ap (spelled v) is ∙ e v }

pub up-start : (net : Net) (a by word : List Bit) → word ≡ a → AreBits net a → IsWord net net (length a) (λ v. (spelled v a * 2 ^ spelled v (take 0 by)) % 2 ^ length a) word
up-start net a by word is h = copy-word net a word _ is h (λ v. sym (mod-eq_of_lt (spelled-small v a)) ∙ ap (λ t. t % 2 ^ length a) (once (spelled v a)))
  where
    once : (x : ℕ) → x ≡ x * 1
    once x = omega arith

mod-mul-mod : (x n y : ℕ) → (x % n * y) % n ≡ (x * y) % n
mod-mul-mod x n y =
    let e : x * y ≡ x % n * y + n * (x / n * y) = ap (λ t. t * y) (sym (mod-add-div x n)) ∙ right (x % n) (n * (x / n)) y ∙ ap (λ t. x % n * y + t) (mul_assoc n (x / n) y) in
    sym (ap (λ t. t % n) e ∙ add-mul-mod_self_left (x % n * y) n (x / n * y))
  where
    right : (a b c : ℕ) → (a + b) * c ≡ a * c + b * c
    right a b c = mul_comm (a + b) c ∙ mul-add c a b ∙ ap (λ t. t + c * b) (mul_comm c a) ∙ ap (λ t. a * c + t) (mul_comm c b)

-- a power of 2 by a bit that is put above
power-more : (v : Valuation) (by : List Bit) (i : ℕ) (q : Bit) → i < length by → q ≡ get_or by i q → 2 ^ spelled v (take (i + 1) by) ≡ 2 ^ spelled v (take i by) * 2 ^ (2 ^ i * number (bit_holds v q))
power-more v by i q h is = ap (λ n. 2 ^ n) (spelled-so-far v by i q h is) ∙ pow-add 2 (spelled v (take i by)) (2 ^ i * number (bit_holds v q))

pub up-more : (old now next : Net) (a by before word after : List Bit) (i step : ℕ) (q : Bit) → i < length by → q ≡ get_or by i q → step ≡ 2 ^ i → IsWord old now (length a) (λ v. (spelled v a * 2 ^ spelled v (take i by)) % 2 ^ length a) before → word ≡ before → IsWord now next (length word) (λ v. (spelled v word * 2 ^ (step * number (bit_holds v q))) % 2 ^ length word) after → IsWord old next (length a) (λ v. (spelled v a * 2 ^ spelled v (take (i + 1) by)) % 2 ^ length a) after
up-more old now next a by before word after i step q h is_q is_step w is r =
    let wide : length word ≡ length a = ap length is ∙ w.width in
    word-then old now next (length a) _ _ after w.grows (word-as now next (length word) (length a) _ (λ v. (spelled v word * 2 ^ (step * number (bit_holds v q))) % 2 ^ length a) after wide r (λ v. rw wide refl)) (λ v m.
    rw (is, is_step, w.means v m, power-more v by i q h is_q)
    (mod-mul-mod (spelled v a * 2 ^ spelled v (take i by)) (2 ^ length a) (2 ^ (2 ^ i * number (bit_holds v q))) ∙ ap (λ t. t % 2 ^ length a) (mul_assoc (spelled v a) (2 ^ spelled v (take i by)) (2 ^ (2 ^ i * number (bit_holds v q))))))

pub down-start : (net : Net) (a by word : List Bit) (fill : Bit) → word ≡ a → AreBits net a → IsWord net net (length a) (λ v. flipped (length a) (bit_holds v fill) (flipped (length a) (bit_holds v fill) (spelled v a) / 2 ^ spelled v (take 0 by))) word
down-start net a by word fill is h = copy-word net a word _ is h (λ v. sym (flip-back (length a) (bit_holds v fill) (spelled v a) (spelled-small v a)) ∙ ap (λ t. flipped (length a) (bit_holds v fill) t) (once (flipped (length a) (bit_holds v fill) (spelled v a))))
  where
    once : (x : ℕ) → x ≡ x / 1
    once x = omega arith

pub down-more : (old now next : Net) (a by before word after : List Bit) (fill : Bit) (i step : ℕ) (q : Bit) → i < length by → q ≡ get_or by i q → step ≡ 2 ^ i → IsWord old now (length a) (λ v. flipped (length a) (bit_holds v fill) (flipped (length a) (bit_holds v fill) (spelled v a) / 2 ^ spelled v (take i by))) before → word ≡ before → IsWord now next (length word) (λ v. flipped (length word) (bit_holds v fill) (flipped (length word) (bit_holds v fill) (spelled v word) / 2 ^ (step * number (bit_holds v q)))) after → IsWord old next (length a) (λ v. flipped (length a) (bit_holds v fill) (flipped (length a) (bit_holds v fill) (spelled v a) / 2 ^ spelled v (take (i + 1) by))) after
down-more old now next a by before word after fill i step q h is_q is_step w is r =
    let wide : length word ≡ length a = ap length is ∙ w.width in
    word-then old now next (length a) _ _ after w.grows (word-as now next (length word) (length a) _ (λ v. flipped (length a) (bit_holds v fill) (flipped (length a) (bit_holds v fill) (spelled v word) / 2 ^ (step * number (bit_holds v q)))) after wide r (λ v. rw wide refl)) (λ v m.
    let f : ℕ → ℕ = λ t. flipped (length a) (bit_holds v fill) t in
    let s : ℕ = 2 ^ spelled v (take i by) in
    let t : ℕ = 2 ^ (2 ^ i * number (bit_holds v q)) in
    let y : ℕ = flipped (length a) (bit_holds v fill) (spelled v a) / 2 ^ spelled v (take i by) in
    let small : y < 2 ^ length a = below (flipped (length a) (bit_holds v fill) (spelled v a)) s (2 ^ length a) (flip-small (length a) (bit_holds v fill) (spelled v a) (spelled-small v a)) in
    let here : spelled v word ≡ f y = ap (spelled v) is ∙ w.means v m in
    let back : f (spelled v word) ≡ y = ap f here ∙ flip-back (length a) (bit_holds v fill) y small in
    let divided : y / t ≡ flipped (length a) (bit_holds v fill) (spelled v a) / 2 ^ spelled v (take (i + 1) by) = div-div-eq-div-mul (flipped (length a) (bit_holds v fill) (spelled v a)) s t ∙ ap (λ p. flipped (length a) (bit_holds v fill) (spelled v a) / p) (sym (power-more v by i q h is_q)) in
    ap (λ z. f (z / 2 ^ (step * number (bit_holds v q)))) back ∙ ap (λ z. f (y / 2 ^ (z * number (bit_holds v q)))) is_step ∙ ap f divided)
  where
    below : (x s n : ℕ) → x < n → x / s < n
    below x s n g = omega (arith, div-le_self x s, g)

-- ---- too far

near-table : (low high p : ℕ) → low < p → nat_eq high 0 ≡ nat_lt (low + p * high) p
near-table low zero p h = let e : low + p * 0 ≡ low = omega arith in sym (ap (λ x. nat_lt x p) e ∙ lt-ltb low p h)
near-table low (suc n) p h =
    let m = mul-add p 1 n in
    let e : p * suc n ≡ p * (1 + n) = ap (λ t. p * t) (one n) in
    ne_eqb (suc n) 0 (λ z. omega (arith, z)) ∙ sym (le-ltb (low + p * suc n) p (omega (arith, e, m)))
  where
    one : (n : ℕ) → suc n ≡ 1 + n
    one n = omega arith

pub near-of : (old mid new : Net) (word by high zeros kept : List Bit) (stages n : ℕ) (near : Bit) → 2 ^ stages ≡ length word → stages ≤ length by → high ≡ drop stages by → zeros ≡ replicate n (Known false) → IsGate old mid (λ v. nat_eq (spelled v high) 0) near → HasTruths mid new (length word) (λ v. cond (bit_holds v near) (truths v word) (truths v zeros)) kept → IsWord old new (length word) (λ v. cond (nat_lt (spelled v by) (length word)) (spelled v word) 0) kept
near-of old mid new word by high zeros kept stages n near wide enough is_high none g choice =
    word-then old mid new (length word) _ _ kept g.grows (chosen-word mid new (length word) near word zeros kept choice) (λ v m.
    let table = near-table (spelled v (take stages by)) (spelled v (drop stages by)) (2 ^ stages) (taken-small v by stages enough) in
    let e : bit_holds v near ≡ nat_lt (spelled v by) (length word) = g.means v m ∙ ap (λ h. nat_eq (spelled v h) 0) is_high ∙ table ∙ ap (λ x. nat_lt x (2 ^ stages)) (sym (spelled-split v stages by)) ∙ ap (λ x. nat_lt (spelled v by) x) wide in
    ap (λ b. cond b (spelled v word) (spelled v zeros)) e ∙ ap (λ x. cond (nat_lt (spelled v by) (length word)) (spelled v word) x) (ap (spelled v) none ∙ spelled-zeros v n))

-- a shift by the lowest bits is one by the whole number where that is not too far
pub far-or-near : (p low high : ℕ) (f : ℕ → ℕ) → low < p → cond (nat_lt (low + p * high) p) (f low) 0 ≡ cond (nat_lt (low + p * high) p) (f (low + p * high)) 0
far-or-near p low zero f h = let e : low ≡ low + p * 0 = omega arith in ap (λ x. cond (nat_lt (low + p * 0) p) (f x) 0) e
far-or-near p low (suc n) f h = let e : nat_lt (low + p * suc n) p ≡ false = sym (near-table low (suc n) p h) ∙ ne_eqb (suc n) 0 (λ z. omega (arith, z)) in ap (λ b. cond b (f low) 0) e ∙ sym (ap (λ b. cond b (f (low + p * suc n)) 0) e)

pub shifted-of : (old mid new : Net) (a by moved word chosen : List Bit) (stages : ℕ) (f : Valuation → ℕ → ℕ) → 2 ^ stages ≡ length a → stages ≤ length by → IsWord old mid (length a) (λ v. f v (spelled v (take stages by))) moved → word ≡ moved → IsWord mid new (length word) (λ v. cond (nat_lt (spelled v by) (length word)) (spelled v word) 0) chosen → IsWord old new (length a) (λ v. cond (nat_lt (spelled v by) (length a)) (f v (spelled v by)) 0) chosen
shifted-of old mid new a by moved word chosen stages f wide enough w is r =
    let same : length word ≡ length a = ap length is ∙ w.width in
    word-then old mid new (length a) _ _ chosen w.grows (word-as mid new (length word) (length a) _ (λ v. cond (nat_lt (spelled v by) (length a)) (spelled v word) 0) chosen same r (λ v. rw same refl)) (λ v m.
    ap (λ x. cond (nat_lt (spelled v by) (length a)) x 0) (ap (spelled v) is ∙ w.means v m)
    ∙ rw (← wide, spelled-split v stages by) (far-or-near (2 ^ stages) (spelled v (take stages by)) (spelled v (drop stages by)) (f v) (taken-small v by stages enough)))

-- ---- the loops' ends

pub stage-fits : (step i stages n m : ℕ) → step ≡ 2 ^ i → i < stages → 2 ^ stages ≡ n → m ≡ n → step ≤ m
stage-fits step i stages n m is h e f = let p = pow_below i stages h in omega (arith, p, is, e, f)

pub up-whole : (old now : Net) (a by word : List Bit) (i stages : ℕ) → i ≡ stages → IsWord old now (length a) (λ v. (spelled v a * 2 ^ spelled v (take i by)) % 2 ^ length a) word → IsWord old now (length a) (λ v. (spelled v a * 2 ^ spelled v (take stages by)) % 2 ^ length a) word
up-whole old now a by word i stages e w = word-as old now (length a) (length a) _ _ word refl w (λ v. ap (λ n. (spelled v a * 2 ^ spelled v (take n by)) % 2 ^ length a) e)

pub down-whole : (old now : Net) (a by word : List Bit) (fill : Bit) (i stages : ℕ) → i ≡ stages → IsWord old now (length a) (λ v. flipped (length a) (bit_holds v fill) (flipped (length a) (bit_holds v fill) (spelled v a) / 2 ^ spelled v (take i by))) word → IsWord old now (length a) (λ v. flipped (length a) (bit_holds v fill) (flipped (length a) (bit_holds v fill) (spelled v a) / 2 ^ spelled v (take stages by))) word
down-whole old now a by word fill i stages e w = word-as old now (length a) (length a) _ _ word refl w (λ v. ap (λ n. flipped (length a) (bit_holds v fill) (flipped (length a) (bit_holds v fill) (spelled v a) / 2 ^ spelled v (take n by))) e)
