-- Places of a call, and memories that are changed at them.
use Rattle.std.proofs.Common.{◌≡◌, ℕ, ◌+◌, ◌*◌, ◌%◌, ◌^◌, ◌<◌, ◌≤◌, List, ap, ◌∙◌, arith}
use Rattle.std.specs.Prelude.{Ok}
use Rattle.std.proofs.Math.Nat.{mod-eq_of_lt}
use Rattle.plain_data.specs.declared.width.Width.TheVariants.{W64}
use Rattle.plain_data.specs.Words.{shl}
use Rattle.c_store.specs.declared.object.ObjectKind.TheVariants.{Outside}
use Rattle.c_store.specs.Store.{start, make}
use Rattle.c_store.specs.Store as stores
use Rattle.term_bank.specs.declared.shape.WordOperator.TheVariants as operator
use Rattle.term_bank.specs.declared.shape.Shape.{Shape}
use Rattle.term_bank.specs.declared.shape.Shape.TheVariants.{Base, Constant, Binary, Made, ZeroRange}
use Rattle.term_bank.specs.declared.sort.Node.{Node}
use Rattle.term_bank.specs.Memories as wrapping
use Rattle.term_bank.specs.Terms.{Makes}
use Rattle.term_bank.specs.Values.{Worth, result_of, shifted}
use Rattle.term_bank.proofs.BankLemmas.{weaken, grows_on}
use Rattle.mem_terms.proofs.Space.{zero_store}
use Rattle.path_calls.specs.Places.{Tells, Changes}
use Rattle.path_calls.proofs.OutsideLemmas.{placed}

-- ---- places

pub tells_place : (place : ℕ) (a b c d : List Shape) (base more n : Node) → Makes a b Base (Ok base) → Makes b c (Constant place W64) (Ok more)
    → Makes c d (Binary operator.Add W64 base.index more.index) (Ok n) → Tells a d place (λ p. p) n
unfolding result_of
tells_place place a b c d base more n hb hm hp = record {
  grows = grows_on hb.grows (grows_on hm.grows hp.grows);
  term = hp.node;
  is = λ room within e v m r.
      let mc = weaken hp.grows m in
      ap (λ (w : Worth). w.word) (hp.value.is e v m)
      ∙ ap (λ k. (k + (v more.index).word) % 2 ^ 64) (ap (λ (w : Worth). w.word) (hb.value.is e v (weaken hm.grows mc)))
      ∙ ap (λ k. ((e.base % 2 ^ 64) + k) % 2 ^ 64) (ap (λ (w : Worth). w.word) (hm.value.is e v mc))
      ∙ placed e.base place room r.places within;
}

started : (p : ℕ) → p < 2 ^ 32 → shifted W64 32 ((p * 2 ^ 32) % 2 ^ 64) ≡ start p
started p h = let small : p * 2 ^ 32 < 2 ^ 64 = omega arith in mod-eq_of_lt small

pub tells_start : (place : ℕ) (a b c d : List Shape) (number by n : Node) → Tells a b place (λ p. p) number
    → Makes b c (Constant 32 W64) (Ok by) → Makes c d (Binary operator.Shl W64 number.index by.index) (Ok n) → Tells a d place start n
unfolding result_of
tells_start place a b c d number by n h hy hn = record {
  grows = grows_on h.grows (grows_on hy.grows hn.grows);
  term = hn.node;
  is = λ room within e v m r.
      let mc = weaken hn.grows m in
      let low : e.base + place < 2 ^ 32 = omega (arith, r.places, within) in
      ap (λ (w : Worth). w.word) (hn.value.is e v m)
      ∙ ap (λ k. shifted W64 k (shl W64 (v number.index).word k)) (ap (λ (w : Worth). w.word) (hy.value.is e v mc))
      ∙ ap (λ k. shifted W64 32 (shl W64 k 32)) (h.is room within e v (weaken hy.grows mc) r)
      ∙ started (e.base + place) low;
}

-- ---- memories

pub changes_made : (place size : ℕ) (a b c d : List Shape) (m number length n : Node) → Tells a b place (λ p. p) number
    → Makes b c (Constant size W64) (Ok length) → Makes c d (Made Outside m.index number.index length.index) (Ok n)
    → Changes a d place m n (λ q s. make q (record { kind = Outside; size = size }) s)
changes_made place size a b c d m number length n hp hs hm = record {
  grows = grows_on hp.grows (grows_on hs.grows hm.grows);
  term = hm.node;
  is = λ room within e v k r.
      let kc = weaken hm.grows k in
      ap (λ (w : Worth). w.store) (hm.value.is e v k)
      ∙ ap (λ p. make p (record { kind = Outside; size = (v length.index).word }) (v m.index).store)
      (hp.is room within e v (weaken hs.grows kc) r)
      ∙ ap (λ z. make (e.base + place) (record { kind = Outside; size = z }) (v m.index).store)
      (ap (λ (w : Worth). w.word) (hs.value.is e v kc));
}

address_below : (p last : ℕ) → p < 2 ^ 32 → last < 2 ^ 32 → start p + last < 2 ^ 64
address_below p last h k = omega arith

last_address : (p last : ℕ) → p < 2 ^ 32 → last < 2 ^ 32 → (start p + last) % 2 ^ 64 ≡ start p + last
last_address p last h k = mod-eq_of_lt (address_below p last h k)

last_end : (p last : ℕ) → p < 2 ^ 32 → last < 2 ^ 32 → start p + last + 1 ≤ 2 ^ 64
last_end p last h k = let below = address_below p last h k in omega (arith, below)

pub changes_ended : (place last : ℕ) (a b c d f g : List Shape) (m first behind address length n : Node) → last < 2 ^ 32
    → Tells a b place start first → Makes b c (Constant last W64) (Ok behind)
    → Makes c d (Binary operator.Add W64 first.index behind.index) (Ok address) → Makes d f (Constant 1 W64) (Ok length)
    → Makes f g (ZeroRange m.index address.index length.index) (Ok n)
    → Changes a g place m n (λ q s. stores.zero_range (start q + last) 1 s)
unfolding result_of
changes_ended place last a b c d f g m first behind address length n small hf hb ha hl hn = record {
  grows = grows_on hf.grows (grows_on hb.grows (grows_on ha.grows (grows_on hl.grows hn.grows)));
  term = hn.node;
  is = λ room within e v k r.
      let kf = weaken hn.grows k in let kd = weaken hl.grows kf in let kc = weaken ha.grows kd in
      let low : e.base + place < 2 ^ 32 = omega (arith, r.places, within) in
      let here : (v address.index).word ≡ start (e.base + place) + last =
      ap (λ (w : Worth). w.word) (ha.value.is e v kd)
      ∙ ap (λ q. (q + (v behind.index).word) % 2 ^ 64) (hf.is room within e v (weaken hb.grows kc) r)
      ∙ ap (λ q. (start (e.base + place) + q) % 2 ^ 64) (ap (λ (w : Worth). w.word) (hb.value.is e v kc))
      ∙ last_address (e.base + place) last low small in
      ap (λ (w : Worth). w.store) (hn.value.is e v k)
      ∙ ap (λ q. wrapping.zero_range q (v length.index).word (v m.index).store) here
      ∙ ap (λ q. wrapping.zero_range (start (e.base + place) + last) q (v m.index).store) (ap (λ (w : Worth). w.word) (hl.value.is e v kf))
      ∙ zero_store (start (e.base + place) + last) 1 (v m.index).store (last_end (e.base + place) last low small);
}
