-- The world's word at a place.
use Rattle.std.proofs.Common.{◌≡◌, ℕ, ◌+◌, ◌%◌, ◌^◌, ◌<◌, ◌≤◌, pos, List, false, ap, ◌∙◌, arith}
use Rattle.std.specs.Prelude.{Ok}
use Rattle.std.proofs.Math.Nat.{mod-eq_of_lt}
use Rattle.plain_data.specs.declared.width.Width.TheVariants.{W64}
use Rattle.term_bank.specs.declared.shape.WordOperator.TheVariants as operator
use Rattle.term_bank.specs.declared.shape.Shape.{Shape}
use Rattle.term_bank.specs.declared.shape.Shape.TheVariants.{Base, Constant, Binary, WorldWord}
use Rattle.term_bank.specs.declared.sort.Node.{Node}
use Rattle.term_bank.specs.Terms.{Makes}
use Rattle.term_bank.specs.Values.{Worth, result_of}
use Rattle.term_bank.proofs.BankLemmas.{weaken, grows_on}
use Rattle.path_calls.specs.Outside.{AsksAt}

pub placed : (base offset room : ℕ) → base + room ≤ 2 ^ 32 → offset < room → ((base % 2 ^ 64) + offset) % 2 ^ 64 ≡ base + offset
placed base offset room h k =
    let small : base < 2 ^ 64 = omega arith in
    let sum : base + offset < 2 ^ 64 = omega arith in
    ap (λ n. (n + offset) % 2 ^ 64) (mod-eq_of_lt small) ∙ mod-eq_of_lt sum

pub asks_at : (place : ℕ) (a b c d f : List Shape) (base more at n : Node) → Makes a b Base (Ok base) → Makes b c (Constant place W64) (Ok more)
    → Makes c d (Binary operator.Add W64 base.index more.index) (Ok at) → Makes d f (WorldWord W64 at.index) (Ok n)
    → AsksAt a f place (record { node = n; word = record { width = W64; is_signed = false } })
unfolding result_of
asks_at place a b c d f base more at n hb hm hp hn = record {
  grows = grows_on hb.grows (grows_on hm.grows (grows_on hp.grows hn.grows));
  number = record { term = hn.node };
  is = λ room within e v m r.
      let md = weaken hn.grows m in let mc = weaken hp.grows md in let mb = weaken hm.grows mc in
      let here : (v at.index).word ≡ e.base + place =
      ap (λ (w : Worth). w.word) (hp.value.is e v md)
      ∙ ap (λ k. (k + (v more.index).word) % 2 ^ 64) (ap (λ (w : Worth). w.word) (hb.value.is e v mb))
      ∙ ap (λ k. ((e.base % 2 ^ 64) + k) % 2 ^ 64) (ap (λ (w : Worth). w.word) (hm.value.is e v mc))
      ∙ placed e.base place room r.places within in
      ap pos (ap (λ (w : Worth). w.word) (hn.value.is e v m) ∙ ap (λ k. e.words k % 2 ^ 64) here);
}
