-- The values of watched variables.
use Rattle.std.proofs.Common.{◌≡◌, ℕ, ◌+◌, ◌*◌, ◌%◌, ◌^◌, ◌<◌, ◌≤◌, List, [], ◌∷◌, ◌++◌, refl, sym, ap, ◌∙◌, arith, append-nil, append_assoc}
use Rattle.std.specs.Prelude.{Ok}
use Rattle.std.proofs.Math.Nat.{mod-eq_of_lt}
use Rattle.plain_data.specs.declared.width.Width.{Width}
use Rattle.plain_data.specs.declared.width.Width.TheVariants as width
use Rattle.plain_data.specs.declared.width.Width.TheVariants.{W64}
use Rattle.plain_data.specs.Words.{shl}
use Rattle.c_store.specs.Store.{start}
use Rattle.core_tree.specs.declared.expr.Holder.TheVariants as holder
use Rattle.core_tree.specs.declared.expr.Watched.{Watched}
use Rattle.core_tree.specs.Callees.{number_held, seen, seen_all}
use Rattle.core_tree.specs.Numbers.{size_of, value_of_bytes}
use Rattle.term_bank.specs.Memories as wrapping
use Rattle.term_bank.specs.Memories.{octets}
use Rattle.term_bank.specs.declared.shape.WordOperator.TheVariants as operator
use Rattle.term_bank.specs.declared.shape.Shape.{Shape}
use Rattle.term_bank.specs.declared.shape.Shape.TheVariants.{Base, Constant, Binary, Read}
use Rattle.term_bank.specs.declared.sort.Node.{Node}
use Rattle.term_bank.specs.Terms.{Makes}
use Rattle.term_bank.specs.Values.{Environment, Worth, Values, result_of, shifted}
use Rattle.term_bank.proofs.BankLemmas.{weaken, stays, grows_on}
use Rattle.mem_terms.proofs.Space.{read_store}
use Rattle.path_states.specs.declared.state.Number.{Number}
use Rattle.path_states.specs.States.{AreNumbers, number_in, numbers_in}
use Rattle.path_numbers.specs.Answers.{Numbered}
use Rattle.path_steps.specs.Memories.{IsScalar, width_of}
use Rattle.path_steps.proofs.AccessLemmas.{size_octets}
use Rattle.path_forms.specs.declared.frame.Placed.{Placed}
use Rattle.path_forms.specs.Around.{env_at, IsPlace}
use Rattle.path_prints.specs.Watches.{IsBehind, StandsAt, Sees, SeesAll}

-- ---- addresses

placed : (base offset room : ℕ) → base + room ≤ 2 ^ 32 → offset < room → ((base % 2 ^ 64) + offset) % 2 ^ 64 ≡ base + offset
placed base offset room h k =
    let small : base < 2 ^ 64 = omega arith in
    let sum : base + offset < 2 ^ 64 = omega arith in
    ap (λ n. (n + offset) % 2 ^ 64) (mod-eq_of_lt small) ∙ mod-eq_of_lt sum

started : (p : ℕ) → p < 2 ^ 32 → shifted W64 32 ((p * 2 ^ 32) % 2 ^ 64) ≡ start p
started p h = let small : p * 2 ^ 32 < 2 ^ 64 = omega arith in mod-eq_of_lt small

pub is_behind : (offset : ℕ) (a b c d f g : List Shape) (base more place by n : Node) → Makes a b Base (Ok base)
    → Makes b c (Constant offset W64) (Ok more) → Makes c d (Binary operator.Add W64 base.index more.index) (Ok place)
    → Makes d f (Constant 32 W64) (Ok by) → Makes f g (Binary operator.Shl W64 place.index by.index) (Ok n) → IsBehind a g offset n
unfolding result_of
is_behind offset a b c d f g base more place by n hb hm hp hy hn = record {
  grows = grows_on hb.grows (grows_on hm.grows (grows_on hp.grows (grows_on hy.grows hn.grows)));
  term = hn.node;
  is = λ room within e v m r.
      let mf = weaken hn.grows m in let md = weaken hy.grows mf in let mc = weaken hp.grows md in let mb = weaken hm.grows mc in
      let here : (v place.index).word ≡ e.base + offset =
      ap (λ (w : Worth). w.word) (hp.value.is e v md)
      ∙ ap (λ k. (k + (v more.index).word) % 2 ^ 64) (ap (λ (w : Worth). w.word) (hb.value.is e v mb))
      ∙ ap (λ k. ((e.base % 2 ^ 64) + k) % 2 ^ 64) (ap (λ (w : Worth). w.word) (hm.value.is e v mc))
      ∙ placed e.base offset room r.places within in
      let low : e.base + offset < 2 ^ 32 = omega (arith, r.places, within) in
      ap (λ (w : Worth). w.word) (hn.value.is e v m)
      ∙ ap (λ k. shifted W64 k (shl W64 (v place.index).word k)) (ap (λ (w : Worth). w.word) (hy.value.is e v mf))
      ∙ ap (λ k. shifted W64 32 (shl W64 k 32)) here
      ∙ started (e.base + offset) low;
}

pub stands_behind : (a b : List Shape) (frame : List Placed) (room offset : ℕ) (x : Watched) (n : Node) → x.holder ≡ holder.Local
    → IsPlace frame room x.at offset → IsBehind a b offset n → StandsAt a b frame room x n
stands_behind a b frame room offset x n local place h =
    let held : (e : Environment) → number_held (env_at frame e) x.at x.holder ≡ e.base + offset =
    λ e. ap (number_held (env_at frame e) x.at) local ∙ place.is e in
    record {
      grows = h.grows;
      term = h.term;
      is = λ e v m r. h.is room place.within e v m r ∙ ap start (sym (held e));
      low = λ e r. omega (arith, held e, r.places, place.within);
    }

pub stands_fixed : (a b : List Shape) (frame : List Placed) (room place k : ℕ) (x : Watched) (n : Node) → x.holder ≡ holder.Fixed place
    → place < 2 ^ 32 → k ≡ start place → Makes a b (Constant k W64) (Ok n) → StandsAt a b frame room x n
stands_fixed a b frame room place k x n fixed small same h =
    let held : (e : Environment) → number_held (env_at frame e) x.at x.holder ≡ place =
    λ e. ap (number_held (env_at frame e) x.at) fixed in
    record {
      grows = h.grows;
      term = h.node;
      is = λ e v m r. ap (λ (w : Worth). w.word) (h.value.is e v m) ∙ same ∙ ap start (sym (held e));
      low = λ e r. omega (arith, held e, small);
    }

-- ---- what stands there

small_size : (w : Width) → octets w ≤ 2 ^ 32
small_size width.W8 = omega arith
small_size width.W16 = omega arith
small_size width.W32 = omega arith
small_size width.W64 = omega arith

near : (p n : ℕ) → p < 2 ^ 32 → n ≤ 2 ^ 32 → p * 2 ^ 32 + n ≤ 2 ^ 64
near p n h k = omega (arith, h, k)

pub sees : (a b c d : List Shape) (frame : List Placed) (room : ℕ) (memory address n : Node) (w : Width) (x : Watched) (y : Number)
    → IsScalar x.stored → w ≡ width_of x.stored → StandsAt a b frame room x address
    → Makes b c (Read w memory.index address.index) (Ok n)
    → Numbered c d y (λ v. value_of_bytes x.stored (v n.index).word) → Sees a d frame room memory x y
sees a b c d frame room memory address n w x y scalar same h i j = record {
  grows = grows_on h.grows (grows_on i.grows j.grows);
  number = j.number;
  is = λ e v m r.
      let mc = weaken j.grows m in let mb = weaken i.grows mc in
      let p = number_held (env_at frame e) x.at x.holder in
      let size : octets w ≡ size_of x.stored = ap octets same ∙ sym (size_octets x.stored scalar) in
      let small : size_of x.stored ≤ 2 ^ 32 = omega (arith, size, small_size w) in
      j.is e v m
      ∙ ap (value_of_bytes x.stored)
      (ap (λ (q : Worth). q.word) (i.value.is e v mc)
      ∙ ap (λ k. wrapping.read k (v memory.index).store (v address.index).word) size
      ∙ ap (λ k. wrapping.read (size_of x.stored) (v memory.index).store k) (h.is e v mb r)
      ∙ read_store (size_of x.stored) (start p) (v memory.index).store (near p (size_of x.stored) (h.low e r) small));
}

-- ---- all

numbers_pushed : (v : Values) (xs : List Number) (x : Number) → numbers_in v (xs ++ x ∷ []) ≡ numbers_in v xs ++ number_in v x ∷ []
numbers_pushed v [] x = refl
numbers_pushed v (y ∷ ys) x = ap (λ l. number_in v y ∷ l) (numbers_pushed v ys x)

pub sees_none : (a : List Shape) (frame : List Placed) (room : ℕ) (memory : Node) (before : List Number) → AreNumbers a before
    → SeesAll a a frame room memory [] before before
sees_none a frame room memory before are = record {
  grows = stays;
  numbers = are;
  are = λ e v m r. sym (append-nil (numbers_in v before));
}

pub sees_more : (a b c : List Shape) (frame : List Placed) (room : ℕ) (memory : Node) (x : Watched) (xs : List Watched) (y : Number)
    (before after : List Number) → Sees a b frame room memory x y → SeesAll b c frame room memory xs (before ++ y ∷ []) after
    → SeesAll a c frame room memory (x ∷ xs) before after
sees_more a b c frame room memory x xs y before after h i = record {
  grows = grows_on h.grows i.grows;
  numbers = i.numbers;
  are = λ e v m r.
      i.are e v m r
      ∙ ap (λ l. l ++ seen_all (env_at frame e) (v memory.index).store xs)
      (numbers_pushed v before y ∙ ap (λ z. numbers_in v before ++ z ∷ []) (h.is e v (weaken i.grows m) r))
      ∙ append_assoc (numbers_in v before) (seen (env_at frame e) (v memory.index).store x ∷ []) (seen_all (env_at frame e) (v memory.index).store xs);
}
