-- Restoring division.
use Rattle.std.proofs.Common.{◌≡◌, ◌<◌, ◌++◌, ◌∷◌, [], ℕ, ◌+◌, ◌-◌, ◌*◌, ◌/◌, ◌%◌, ◌^◌, zero, suc, List, Bool, true, false, cond, refl, sym, ap, subst, ◌∙◌, arith, length, take, drop, replicate, get_or, map}
use Rattle.std.specs.Prelude.{nat_eq}
use Rattle.std.proofs.lemmas.List.{append-nil, drop_more, length-append, length-take-le, take_all}
use Rattle.std.proofs.lemmas.List.Elements.{All-nil, All-cons}
use Rattle.std.proofs.lemmas.Bool.{ne_eqb}
use Rattle.std.proofs.lemmas.Nat.{mod-mul-add}
use Rattle.std.proofs.Math.Nat.{mul_assoc, mul-add, mul_comm, add-mul-div_left, div-eq_of_lt}
use Rattle.cnf_core.specs.Truth.{Valuation}
use Rattle.gates.specs.declared.bit.Bit.{Bit}
use Rattle.gates.specs.declared.bit.Bit.TheVariants.{Known}
use Rattle.gates.specs.Nets.{Net, IsModel, Grows, IsBit, IsGate, bit_holds, opposite}
use Rattle.gates.proofs.BitLemmas.{same-grows, then-grows, bit-grown}
use Rattle.word_gates.specs.declared.sums.Sum.{Sum}
use Rattle.word_gates.specs.declared.quotients.Division.{Division}
use Rattle.word_gates.specs.Spelling.{number, truths, spelled, AreBits, HasTruths}
use Rattle.word_gates.specs.Sums.{IsSum}
use Rattle.word_gates.specs.Quotients.{Divides, DividesOn, IsQuotient, IsDivision}
use Rattle.word_gates.proofs.NumberLemmas.{number-small}
use Rattle.word_gates.proofs.WordLemmas.{bits-grown, chosen-word, spelled-small}
use Rattle.word_gates.proofs.WireLemmas.{bits-append, bits-replicate, bits-take, bits-opposite, spelled-append, spelled-zeros, spelled-opposite, spelled-split, length-replicated, length-opposite}

-- ---- widths

pub widened : (d : List Bit) (n : ℕ) (wide : List Bit) → n ≡ length d + 1 → wide ≡ take n d ++ replicate (n - length d) (Known false) → (length wide ≡ length d + 1) × ((v : Valuation) → spelled v wide ≡ spelled v d) × ((net : Net) → AreBits net d → AreBits net wide)
widened d n wide e is =
    let whole : take n d ≡ d = take_all n d (omega (arith, e)) in
    let one : n - length d ≡ 1 = omega (arith, e) in
    let here : wide ≡ d ++ Known false ∷ [] = is ∙ ap (λ t. t ++ replicate (n - length d) (Known false)) whole ∙ ap (λ k. d ++ replicate k (Known false)) one in (
      rw here (length-append d (Known false ∷ [])),
      λ v. rw here (spelled-append v d (Known false ∷ []) ∙ none (spelled v d) (2 ^ length d)),
      λ net h. rw here (bits-append net d (Known false ∷ []) h (bits-replicate net 1 (Known false) tt)),
    )
  where
    none : (x p : ℕ) → x + p * (0 + 2 * 0) ≡ x
    none x p = omega arith

pub narrowed : (kept : List Bit) (n : ℕ) (low : List Bit) → length kept ≡ n + 1 → low ≡ take n kept ++ replicate (n - length kept) (Known false) → (length low ≡ n) × ((v : Valuation) → spelled v kept < 2 ^ n → spelled v low ≡ spelled v kept) × ((net : Net) → AreBits net kept → AreBits net low)
narrowed kept n low e is =
    let none : n - length kept ≡ 0 = omega (arith, e) in
    let here : low ≡ take n kept = is ∙ ap (λ k. take n kept ++ replicate k (Known false)) none ∙ append-nil (take n kept) in (
      rw here (length-take-le n kept (omega (arith, e))),
      λ v h. rw here (sym (small-part (spelled v kept) (spelled v (take n kept)) (2 ^ n) (spelled v (drop n kept)) h (spelled-split v n kept))),
      λ net h. rw here (bits-take net n kept h),
    )
  where
    small-part : (x low p high : ℕ) → x < p → x ≡ low + p * high → x ≡ low
    small-part x low p zero h e = omega (arith, e)
    small-part x low p (suc k) h e = let m = mul-add p 1 k in let f : p * suc k ≡ p * (1 + k) = ap (λ t. p * t) (one k) in absurd (omega (arith, h, e, m, f))
      where
        one : (k : ℕ) → suc k ≡ 1 + k
        one k = omega arith

-- ---- one step

pub stands-as : (net : Net) (x y : List Bit) → x ≡ y → AreBits net y → AreBits net x
stands-as net x y e h = rw e h

pub shifted-stands : (net : Net) (bit : Bit) (r shifted : List Bit) → shifted ≡ bit ∷ r → IsBit net bit → AreBits net r → AreBits net shifted
shifted-stands net bit r shifted e b h = rw e (All-cons (IsBit net) bit r b h)

pub opposites-of-wide : (net : Net) (d wide opposites : List Bit) (n : ℕ) → n ≡ length d + 1 → wide ≡ take n d ++ replicate (n - length d) (Known false) → opposites ≡ map opposite wide → AreBits net d → AreBits net opposites
opposites-of-wide net d wide opposites n e is opp h = rw opp (bits-opposite net wide ((widened d n wide e is).2 net h))

pub step-width : (bit : Bit) (r d shifted wide opposites : List Bit) (n : ℕ) → length r ≡ length d → shifted ≡ bit ∷ r → n ≡ length d + 1 → wide ≡ take n d ++ replicate (n - length d) (Known false) → opposites ≡ map opposite wide → length shifted ≡ length opposites
step-width bit r d shifted wide opposites n same is e is_wide opp = ap length is ∙ ap suc same ∙ one-more (length d) ∙ sym (widened d n wide e is_wide).0 ∙ sym (ap length opp ∙ length-opposite wide)
  where
    one-more : (a : ℕ) → suc a ≡ a + 1
    one-more a = omega arith

-- d is taken away from s, if it is not more: c says so
step-kept : (n w s d o : ℕ) (c : Bool) → w + n * number c ≡ s + o + 1 → o + d + 1 ≡ n → w < n → s < n → (cond c w s + d * number c ≡ s) × (c ≡ false → s < d)
step-kept n w s d o true e f h g = (omega (arith, e, f), λ b. absurd cc)
step-kept n w s d o false e f h g = (omega arith, λ _. omega (arith, e, f, h))

pub step-divides : (x d q r t s k : ℕ) (c : Bool) → Divides x d q r → s ≡ t + 2 * r → t < 2 → k + d * number c ≡ s → (c ≡ false → s < d) → Divides (t + 2 * x) d (number c + 2 * q) k
step-divides x d q r t s k true h is small e below = record {
  whole =
      let m : 2 * (q * d + r) ≡ 2 * (q * d) + 2 * r = mul-add 2 (q * d) r in
      let n : (1 + 2 * q) * d ≡ d + 2 * (q * d) = mul_comm (1 + 2 * q) d ∙ mul-add d 1 (2 * q) ∙ ap (λ y. d * 1 + y) (mul_comm d (2 * q) ∙ mul_assoc 2 q d) ∙ first d (2 * (q * d)) in
      let w = h.whole in
      omega (arith, m, n, w, is, e);
  less = let l = h.less in omega (arith, l, is, small, e);
}
  where
    first : (a b : ℕ) → a * 1 + b ≡ a + b
    first a b = omega arith
step-divides x d q r t s k false h is small e below = record {
  whole =
      let m : 2 * (q * d + r) ≡ 2 * (q * d) + 2 * r = mul-add 2 (q * d) r in
      let n : (0 + 2 * q) * d ≡ 2 * (q * d) = ap (λ y. y * d) (from-zero (2 * q)) ∙ mul_assoc 2 q d in
      let w = h.whole in
      omega (arith, m, n, w, is, e);
  less = let b = below refl in omega (arith, b, e);
}
  where
    from-zero : (y : ℕ) → 0 + y ≡ y
    from-zero y = omega arith

pub divides-on : (old mid new : Net) (before : Division) (bit : Bit) (d : List Bit) (shifted wide opposites shifted2 word kept kept2 remainder quotient : List Bit) (sum : Sum) (n : ℕ) → length before.remainder ≡ length d → AreBits old before.quotient → AreBits old before.remainder → IsBit old bit → AreBits old d
    → shifted ≡ bit ∷ before.remainder → n ≡ length d + 1 → wide ≡ take n d ++ replicate (n - length d) (Known false) → opposites ≡ map opposite wide
    → IsSum old mid (length shifted) (λ v. spelled v shifted + spelled v opposites + number (bit_holds v (Known true))) sum → word ≡ sum.word → shifted2 ≡ shifted
    → HasTruths mid new (length word) (λ v. cond (bit_holds v sum.carry) (truths v word) (truths v shifted2)) kept → kept2 ≡ kept
    → remainder ≡ take (length d) kept2 ++ replicate (length d - length kept2) (Known false) → quotient ≡ sum.carry ∷ before.quotient
    → DividesOn old new before bit d (record { quotient = quotient; remainder = remainder })
divides-on old mid new before bit d shifted wide opposites shifted2 word kept kept2 remainder quotient sum n same in_q in_r in_bit in_d is_shifted is_n is_wide is_opp s is_word again choice is_kept is_r is_q = record {
  grows = then-grows old mid new s.grows choice.grows;
  quotient_width = rw is_q (one-more (length before.quotient));
  remainder_width = low.0;
  quotient_stands = rw is_q (All-cons (IsBit new) sum.carry before.quotient (bit-grown mid new sum.carry choice.grows s.carry_stands) (bits-grown old new before.quotient (then-grows old mid new s.grows choice.grows) in_q));
  remainder_stands = low.2 new (rw is_kept choice.stand);
  means = λ v m x h.
      let m1 = choice.grows.keeps v m in
      let k : ℕ = length shifted in
      let o : spelled v opposites + spelled v wide + 1 ≡ 2 ^ k = rw is_opp (spelled-opposite v wide ∙ ap (λ t. 2 ^ t) (w.0 ∙ sym wide_shifted)) in
      let od : spelled v opposites + spelled v d + 1 ≡ 2 ^ k = ap (λ t. spelled v opposites + t + 1) (sym (w.1 v)) ∙ o in
      let small_w : spelled v sum.word < 2 ^ k = subst (λ t. spelled v sum.word < 2 ^ t) s.width (spelled-small v sum.word) in
      let step = step-kept (2 ^ k) (spelled v sum.word) (spelled v shifted) (spelled v d) (spelled v opposites) (bit_holds v sum.carry) (s.means v m1) od small_w (spelled-small v shifted) in
      let r = chosen-word mid new (length word) sum.carry word shifted2 kept choice in
      let spelt : spelled v kept ≡ cond (bit_holds v sum.carry) (spelled v sum.word) (spelled v shifted) = r.means v m ∙ ap (λ t. cond (bit_holds v sum.carry) (spelled v t) (spelled v shifted2)) is_word ∙ ap (λ t. cond (bit_holds v sum.carry) (spelled v sum.word) (spelled v t)) again in
      let e : spelled v kept + spelled v d * number (bit_holds v sum.carry) ≡ spelled v shifted = ap (λ t. t + spelled v d * number (bit_holds v sum.carry)) spelt ∙ step.0 in
      let is_s : spelled v shifted ≡ number (bit_holds v bit) + 2 * spelled v before.remainder = ap (spelled v) is_shifted in
      let on = step-divides x (spelled v d) (spelled v before.quotient) (spelled v before.remainder) (number (bit_holds v bit)) (spelled v shifted) (spelled v kept) (bit_holds v sum.carry) h is_s (number-small (bit_holds v bit)) e step.1 in
      let fits : spelled v kept2 < 2 ^ length d = let l = on.less in let z = spelled-small v d in rw is_kept (omega (arith, l, z)) in
      let is_low : spelled v remainder ≡ spelled v kept = low.1 v fits ∙ ap (spelled v) is_kept in
      let is_quotient : spelled v quotient ≡ number (bit_holds v sum.carry) + 2 * spelled v before.quotient = ap (spelled v) is_q in
      rw (is_low, is_quotient) on;
}
  where
    one-more : (a : ℕ) → suc a ≡ a + 1
    one-more a = omega arith

    w : (length wide ≡ length d + 1) × ((v : Valuation) → spelled v wide ≡ spelled v d) × ((net : Net) → AreBits net d → AreBits net wide)
    w = widened d n wide is_n is_wide

    wide_shifted : length shifted ≡ length d + 1
    wide_shifted = ap length is_shifted ∙ ap suc same ∙ one-more (length d)

    low : (length remainder ≡ length d) × ((v : Valuation) → spelled v kept2 < 2 ^ length d → spelled v remainder ≡ spelled v kept2) × ((net : Net) → AreBits net kept2 → AreBits net remainder)
    low = narrowed kept2 (length d) remainder (ap length is_kept ∙ choice.width ∙ ap length is_word ∙ s.width ∙ wide_shifted) is_r

-- ---- the loop

pub record Dividing (old now : Net) (a b : List Bit) (i : ℕ) (division : Division) : Type 0 where
  pub grows : Grows old now
  pub quotient_width : length division.quotient ≡ i
  pub remainder_width : length division.remainder ≡ length b
  pub quotient_stands : AreBits now division.quotient
  pub remainder_stands : AreBits now division.remainder
  pub means : (v : Valuation) → IsModel now v → 0 < spelled v b → Divides (spelled v (drop (length a - i) a)) (spelled v b) (spelled v division.quotient) (spelled v division.remainder)

pub dividing-start : (net : Net) (a b remainder quotient : List Bit) → remainder ≡ replicate (length b) (Known false) → quotient ≡ [] → Dividing net net a b 0 (record { quotient = quotient; remainder = remainder })
dividing-start net a b remainder quotient is none = record {
  grows = same-grows net;
  quotient_width = ap length none;
  remainder_width = rw is (length-replicated (length b) (Known false));
  quotient_stands = rw none (All-nil (IsBit net));
  remainder_stands = rw is (bits-replicate net (length b) (Known false) tt);
  means = λ v m h.
      let r : spelled v remainder ≡ 0 = ap (spelled v) is ∙ spelled-zeros v (length b) in
      let q : spelled v quotient ≡ 0 = ap (spelled v) none in
      let z : length a - 0 ≡ length a = omega arith in
      let rest : spelled v (drop (length a - 0) a) ≡ 0 = ap (λ n. spelled v (drop n a)) z ∙ nothing v a in
      record {
        whole = rest ∙ zero-times (spelled v b) ∙ ap (λ t. t * spelled v b + 0) (sym q) ∙ ap (λ t. spelled v quotient * spelled v b + t) (sym r);
        less = subst (λ t. t < spelled v b) (sym r) h;
      };
}
  where
    zero-times : (x : ℕ) → 0 ≡ 0 * x + 0
    zero-times x = omega arith

    nothing : (v : Valuation) (xs : List Bit) → spelled v (drop (length xs) xs) ≡ 0
    nothing v [] = refl
    nothing v (x ∷ xs) = nothing v xs

pub dividing-more : (old now next : Net) (a b : List Bit) (i place : ℕ) (before after : Division) (p : Bit) → i < length a → place ≡ length a - 1 - i → p ≡ get_or a place p → Dividing old now a b i before → DividesOn now next before p b after → Dividing old next a b (i + 1) after
dividing-more old now next a b i place before after p in_a is_place is_p s d = record {
  grows = then-grows old now next s.grows d.grows;
  quotient_width = d.quotient_width ∙ ap (λ n. n + 1) s.quotient_width;
  remainder_width = d.remainder_width;
  quotient_stands = d.quotient_stands;
  remainder_stands = d.remainder_stands;
  means = λ v m h.
      let from : length a - (i + 1) ≡ place = omega (arith, is_place) in
      let behind : place + 1 ≡ length a - i = omega (arith, is_place, in_a) in
      let here : drop (length a - (i + 1)) a ≡ p ∷ drop (length a - i) a = ap (λ n. drop n a) from ∙ drop_more a place p (omega (arith, is_place, in_a)) ∙ ap (λ x. x ∷ drop (place + 1) a) (sym is_p) ∙ ap (λ n. p ∷ drop n a) behind in
      rw here (d.means v m (spelled v (drop (length a - i) a)) (s.means v (d.grows.keeps v m) h));
}

pub dividing-end : (old now : Net) (a b : List Bit) (i : ℕ) (division : Division) → length a ≡ length b → i ≡ length a → Dividing old now a b i division → IsQuotient old now a b division
dividing-end old now a b i division same is s = record {
  grows = s.grows;
  quotient_width = s.quotient_width ∙ is;
  remainder_width = s.remainder_width ∙ sym same;
  quotient_stands = s.quotient_stands;
  remainder_stands = s.remainder_stands;
  means = λ v m h. let e : length a - i ≡ 0 = omega (arith, is) in subst (λ n. Divides (spelled v (drop n a)) (spelled v b) (spelled v division.quotient) (spelled v division.remainder)) e (s.means v m h);
}

-- ---- where the divisor is 0

quotient-is : (x d q r : ℕ) → Divides x d q r → x / d ≡ q
quotient-is x d q r h =
    let w = h.whole in
    let e : x ≡ r + d * q = omega (arith, w, mul_comm q d) in
    ap (λ t. t / d) e ∙ add-mul-div_left r q {y = d} (let l = h.less in omega (arith, l)) ∙ ap (λ t. t + q) (div-eq_of_lt h.less) ∙ from-zero q
  where
    from-zero : (q : ℕ) → 0 + q ≡ q
    from-zero q = omega arith

remainder-is : (x d q r : ℕ) → Divides x d q r → x % d ≡ r
remainder-is x d q r h = ap (λ t. t % d) h.whole ∙ mod-mul-add q d r h.less

either-zero : (d k f : ℕ) → (0 < d → k ≡ f) → cond (nat_eq d 0) 0 k ≡ cond (nat_eq d 0) 0 f
either-zero zero k f h = refl
either-zero (suc d) k f h =
    let e : nat_eq (suc d) 0 ≡ false = ne_eqb (suc d) 0 (λ z. omega (arith, z)) in
    ap (λ b. cond b 0 k) e ∙ h (omega arith) ∙ sym (ap (λ b. cond b 0 f) e)

pub division-of : (old g1 g2 g3 new : Net) (a b : List Bit) (division : Division) (none : Bit) (zeros zeros2 zeros3 q1 r1 quotient remainder : List Bit) → length a ≡ length b → IsQuotient old g1 a b division → IsGate g1 g2 (λ v. nat_eq (spelled v b) 0) none → zeros ≡ replicate (length b) (Known false) → zeros2 ≡ zeros → zeros3 ≡ zeros → q1 ≡ division.quotient → r1 ≡ division.remainder
    → HasTruths g2 g3 (length zeros2) (λ v. cond (bit_holds v none) (truths v zeros2) (truths v q1)) quotient
    → HasTruths g3 new (length zeros3) (λ v. cond (bit_holds v none) (truths v zeros3) (truths v r1)) remainder
    → IsDivision old new a b (record { quotient = quotient; remainder = remainder })
division-of old g1 g2 g3 new a b division none zeros zeros2 zeros3 q1 r1 quotient remainder same s g is two three is_q is_r cq cr = record {
  grows = then-grows old g1 new s.grows (then-grows g1 g2 new g.grows (then-grows g2 g3 new cq.grows cr.grows));
  quotient_width = cq.width ∙ ap length (two ∙ is) ∙ length-replicated (length b) (Known false) ∙ sym same;
  remainder_width = cr.width ∙ ap length (three ∙ is) ∙ length-replicated (length b) (Known false) ∙ sym same;
  quotient_stands = bits-grown g3 new quotient cr.grows cq.stand;
  remainder_stands = cr.stand;
  quotient_is = λ v m.
      let m3 = cr.grows.keeps v m in
      let m2 = cq.grows.keeps v m3 in
      let m1 = g.grows.keeps v m2 in
      let c = chosen-word g2 g3 (length zeros2) none zeros2 q1 quotient cq in
      c.means v m3 ∙ ap (λ t. cond (bit_holds v none) t (spelled v q1)) (ap (spelled v) (two ∙ is) ∙ spelled-zeros v (length b)) ∙ ap (λ t. cond (bit_holds v none) 0 (spelled v t)) is_q ∙ ap (λ t. cond t 0 (spelled v division.quotient)) (g.means v m2)
      ∙ either-zero (spelled v b) (spelled v division.quotient) (spelled v a / spelled v b) (λ h. sym (quotient-is (spelled v a) (spelled v b) (spelled v division.quotient) (spelled v division.remainder) (s.means v m1 h)));
  remainder_is = λ v m.
      let m3 = cr.grows.keeps v m in
      let m2 = cq.grows.keeps v m3 in
      let m1 = g.grows.keeps v m2 in
      let c = chosen-word g3 new (length zeros3) none zeros3 r1 remainder cr in
      c.means v m ∙ ap (λ t. cond (bit_holds v none) t (spelled v r1)) (ap (spelled v) (three ∙ is) ∙ spelled-zeros v (length b)) ∙ ap (λ t. cond (bit_holds v none) 0 (spelled v t)) is_r ∙ ap (λ t. cond t 0 (spelled v division.remainder)) (g.means v m2)
      ∙ either-zero (spelled v b) (spelled v division.remainder) (spelled v a % spelled v b) (λ h. sym (remainder-is (spelled v a) (spelled v b) (spelled v division.quotient) (spelled v division.remainder) (s.means v m1 h)));
}
