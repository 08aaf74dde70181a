-- The arguments of `main` as terms.
use Rattle.std.proofs.Common.{◌≡◌, ◌<◌, ◌≤◌, ◌+◌, ◌*◌, ◌%◌, ◌^◌, ℕ, zero, suc, List, [], ◌∷◌, map}
use Rattle.std.proofs.Common.{Bool, true, false, cond, nat_eq, nat_lt, refl, sym, ap, subst, ◌∙◌, arith}
use Rattle.std.specs.Prelude.{Ok}
use Rattle.std.proofs.lemmas.Bool.Decides.{nat_tests}
use Rattle.std.proofs.Math.Nat.{mod-eq_of_lt, mod-lt}
use Rattle.plain_data.specs.declared.bounds.Bounds.{Bounds}
use Rattle.plain_data.specs.declared.width.Width.TheVariants.{W64}
use Rattle.c_store.specs.Store.{Store, start, byte_of, zero_range}
use Rattle.c_means.specs.Parts.{World, Limits}
use Rattle.c_means.specs.Units.{limits_of}
use Rattle.core_tree.specs.Programs.{argument_count}
use Rattle.term_bank.specs.declared.binding.Binding.{Binding}
use Rattle.term_bank.specs.declared.sort.Sort.TheVariants.{Memory, Word}
use Rattle.term_bank.specs.declared.sort.Node.{Node}
use Rattle.term_bank.specs.declared.shape.Shape.{Shape}
use Rattle.term_bank.specs.declared.shape.Shape.TheVariants as shape
use Rattle.term_bank.specs.declared.shape.WordOperator.TheVariants as operator
use Rattle.term_bank.specs.declared.shape.WordTest.TheVariants as test
use Rattle.term_bank.specs.Memories as wrapping
use Rattle.term_bank.specs.Terms.{IsTerm, Makes}
use Rattle.term_bank.specs.Values.{Environment, Grows, Values, Models, Worth, outcome_of, result_of}
use Rattle.term_bank.proofs.BankLemmas.{weaken, stays, grows_on}
use Rattle.term_bank.proofs.TermLemmas.{node_of, term_grown}
use Rattle.mem_terms.proofs.Space.{write_store}
use Rattle.path_states.specs.States.{IsSized}
use Rattle.summary_compose.specs.Summaries.{world_in}
use Rattle.run_formula.specs.declared.arguments.Furnished.{Furnished}
use Rattle.run_formula.specs.Starts.{Becomes}
use Rattle.run_formula.specs.Arguments.{BecomesBy, Binds, Chooses, Counts, Furnishes, arguments_in, array_in, chosen_in, count_in}
use Rattle.run_formula.specs.Arguments.{outside_in, points_at, string_in, strings_in, words_given}
use Rattle.run_formula.proofs.ArgumentLaws.{arguments_chosen, arguments_sized, count_below, strings_more}
use Rattle.run_formula.proofs.Started.{becomes_as, becomes_same, becomes_then, lay_sized}

-- ---- the count

counted_word : (x most : ℕ) → 1 ≤ most → most ≤ 8 → result_of operator.Add W64 (result_of operator.Urem W64 x most) 1 ≡ suc (x % most)
unfolding result_of
counted_word x most some few =
    let low : x % most < most = mod-lt x some in
    let not_none : nat_eq most 0 ≡ false = grind (arith, nat_tests, some) in
    ap (λ t. (cond t 0 (x % most) + 1) % 2 ^ 64) not_none ∙ more (x % most) (omega (arith, low, few))
  where
    more : (r : ℕ) → r < 8 → (r + 1) % 2 ^ 64 ≡ suc r
    more r h = omega (arith, h)

pub counts : (a b c d f g h : List Shape) (at word limit more one count : Node) (place most : ℕ) → 1 ≤ most → most ≤ 8
    → Makes a b (shape.Constant place W64) (Ok at) → Makes b c (shape.WorldWord W64 at.index) (Ok word)
    → Makes c d (shape.Constant most W64) (Ok limit) → Makes d f (shape.Binary operator.Urem W64 word.index limit.index) (Ok more)
    → Makes f g (shape.Constant 1 W64) (Ok one) → Makes g h (shape.Binary operator.Add W64 more.index one.index) (Ok count)
    → Counts a h count place most
counts a b c d f g h at word limit more one count place most some few ha hw hl hm ho hc = record {
  grows = grows_on ha.grows (grows_on hw.grows (grows_on hl.grows (grows_on hm.grows (grows_on ho.grows hc.grows))));
  term = hc.node;
  is = λ e v k.
      let kg = weaken hc.grows k in
      let kf = weaken ho.grows kg in
      let kd = weaken hm.grows kf in
      let kc = weaken hl.grows kd in
      ap (λ (w : Worth). w.word) (hc.value.is e v k)
      ∙ ap (λ (w : Worth). result_of operator.Add W64 (v more.index).word w.word) (ho.value.is e v kg)
      ∙ ap (λ (w : Worth). result_of operator.Add W64 w.word 1) (hm.value.is e v kf)
      ∙ ap (λ (w : Worth). result_of operator.Add W64 (result_of operator.Urem W64 (v word.index).word w.word) 1) (hl.value.is e v kd)
      ∙ ap (λ (w : Worth). result_of operator.Add W64 (result_of operator.Urem W64 w.word most) 1) (hw.value.is e v kc)
      ∙ ap (λ (w : Worth). result_of operator.Add W64 (result_of operator.Urem W64 (e.words w.word % 2 ^ 64) most) 1)
      (ha.value.is e v (weaken hw.grows kc))
      ∙ counted_word (e.words place % 2 ^ 64) most some few;
}

-- ---- strings

pub string_made : (a b c : List Shape) (m n p : Node) (outside place size end : ℕ) → size ≡ suc outside → end ≡ start place + outside
    → Becomes a b m n (outside_in place size) → Becomes b c n p (zero_range end 1) → Becomes a c m p (string_in outside place)
string_made a b c m n p outside place size end is there h k =
    becomes_then a b c m n p (outside_in place (suc outside)) (zero_range (start place + outside) 1)
    (subst (λ x. Becomes a b m n (outside_in place x)) is h) (subst (λ x. Becomes b c n p (zero_range x 1)) there k)

pub strings_none : (a : List Shape) (m : Node) (outside place : ℕ) → IsTerm a Memory m → Becomes a a m m (strings_in outside place 0)
strings_none a m outside place h = becomes_same a m h

pub strings_next : (a b c : List Shape) (m n p : Node) (outside place k : ℕ) → Becomes a b m n (strings_in outside place k)
    → Becomes b c n p (string_in outside (place + k)) → Becomes a c m p (strings_in outside place (k + 1))
strings_next a b c m n p outside place k h i =
    let next : suc k ≡ k + 1 = omega arith in
    subst (λ j. Becomes a c m p (strings_in outside place j)) next
    (becomes_as a c m p (λ s. string_in outside (place + k) (strings_in outside place k s)) (strings_in outside place (suc k))
    (λ s. strings_more outside place k s) (becomes_then a b c m n p _ _ h i))

-- the array, behind the strings
pub array_made : (a b c d : List Shape) (m n p q : Node) (most outside place size first second : ℕ) → size ≡ 8 * suc most
    → first ≡ suc place → second ≡ suc (suc place) → Becomes a b m n (strings_in outside second most)
    → Becomes b c n p (outside_in first size) → Becomes c d p q (zero_range (start first) size)
    → Becomes a d m q (array_in most outside place)
array_made a b c d m n p q most outside place size first second long one two h k l =
    let n8 = 8 * suc most in
    let strings = subst (λ x. Becomes a b m n (strings_in outside x most)) two h in
    let made = subst (λ x. Becomes b c n p (outside_in x n8)) one (subst (λ y. Becomes b c n p (outside_in first y)) long k) in
    let zeroed = subst (λ x. Becomes c d p q (zero_range (start x) n8)) one (subst (λ y. Becomes c d p q (zero_range (start first) y)) long l) in
    becomes_then a c d m p q (λ s. outside_in (suc place) n8 (strings_in outside (suc (suc place)) most s)) (zero_range (start (suc place)) n8)
    (becomes_then a b c m n p (strings_in outside (suc (suc place)) most) (outside_in (suc place) n8) strings made) zeroed

-- ---- pointers

chosen_word : (t : Bool) (x y z : Worth) (at : ℕ) → z ≡ cond t x y → x.word ≡ at → y.word ≡ 0 → z.word ≡ cond t at 0
chosen_word true x y z at is h k = ap (λ (w : Worth). w.word) is ∙ h
chosen_word false x y z at is h k = ap (λ (w : Worth). w.word) is ∙ k

below_is : (i n : ℕ) → outcome_of test.Below W64 i n ≡ nat_lt i n
unfolding outcome_of
below_is i n = refl

pub pointer_chosen : (a b c d f g : List Shape) (count number given string null n : Node) (index at : ℕ)
    → Makes a b (shape.Constant index W64) (Ok number) → Makes b c (shape.Test test.Below W64 number.index count.index) (Ok given)
    → Makes c d (shape.Constant at W64) (Ok string) → Makes d f (shape.Constant 0 W64) (Ok null)
    → Makes f g (shape.Choose (Word W64) given.index string.index null.index) (Ok n) → Chooses a g count n index at
pointer_chosen a b c d f g count number given string null n index at hn hg hs hz hc = record {
  grows = grows_on hn.grows (grows_on hg.grows (grows_on hs.grows (grows_on hz.grows hc.grows)));
  term = hc.node;
  is = λ e v k.
      let kf = weaken hc.grows k in
      let kd = weaken hz.grows kf in
      let kc = weaken hs.grows kd in
      let told : (v given.index).truth ≡ nat_lt index (v count.index).word =
      ap (λ (w : Worth). w.truth) (hg.value.is e v kc)
      ∙ ap (λ (w : Worth). outcome_of test.Below W64 w.word (v count.index).word) (hn.value.is e v (weaken hg.grows kc))
      ∙ below_is index (v count.index).word in
      chosen_word (v given.index).truth (v string.index) (v null.index) (v n.index) at (hc.value.is e v k)
      (ap (λ (w : Worth). w.word) (hs.value.is e v kd)) (ap (λ (w : Worth). w.word) (hz.value.is e v kf))
      ∙ ap (λ t. cond t at 0) told;
}

pub pointed : (a b c d : List Shape) (m count pointer to n : Node) (from place index there : ℕ) → (from + 8 * index) + 8 ≤ 2 ^ 64
    → there ≡ place + index → Chooses a b count pointer index (start there) → Makes b c (shape.Constant (from + 8 * index) W64) (Ok to)
    → Makes c d (shape.Write W64 m.index to.index pointer.index) (Ok n) → BecomesBy a d count m n (points_at from place index)
pointed a b c d m count pointer to n from place index there within same hp ht hn = record {
  grows = grows_on hp.grows (grows_on ht.grows hn.grows);
  term = hn.node;
  is = λ e v k.
      let kc = weaken hn.grows k in
      let s = (v m.index).store in
      let at = from + 8 * index in
      ap (λ (w : Worth). w.store) (hn.value.is e v k)
      ∙ ap (λ (w : Worth). wrapping.write 8 w.word (v pointer.index).word s) (ht.value.is e v kc)
      ∙ ap (λ x. wrapping.write 8 at x s) (hp.is e v (weaken ht.grows kc))
      ∙ ap (λ q. wrapping.write 8 at (cond (nat_lt index (v count.index).word) (start q) 0) s) same
      ∙ write_store 8 at (cond (nat_lt index (v count.index).word) (start (place + index)) 0) s within;
  sized = λ j s h. lay_sized (from + 8 * index) 8 (byte_of (cond (nat_lt index j) (start (place + index)) 0)) s h;
}

pub pointed_none : (a : List Shape) (count m : Node) (from place : ℕ) → IsTerm a Memory m → BecomesBy a a count m m (chosen_in from place 0)
pointed_none a count m from place h = record { grows = stays; term = h; is = λ e v k. refl; sized = λ j s i. i }

pub pointed_next : (a b c : List Shape) (count m n p : Node) (from place k : ℕ) → BecomesBy a b count m n (chosen_in from place k)
    → BecomesBy b c count n p (points_at from place k) → BecomesBy a c count m p (chosen_in from place (k + 1))
pointed_next a b c count m n p from place k h i =
    let next : suc k ≡ k + 1 = omega arith in
    subst (λ j. BecomesBy a c count m p (chosen_in from place j)) next
    (record {
      grows = grows_on h.grows i.grows;
      term = i.term;
      is = λ e v l. i.is e v l ∙ ap (points_at from place k (v count.index).word) (h.is e v (weaken i.grows l));
      sized = λ j s l. i.sized j (chosen_in from place k j s) (h.sized j s l);
    })

-- ---- all arguments

pub furnishes : (a b c d : List Shape) (m array count n : Node) (most outside p first : ℕ) → 1 ≤ most → most ≤ 8 → outside ≤ 256
    → first ≡ suc p → Becomes a b m array (array_in most outside p) → Counts b c count p most
    → BecomesBy c d count array n (chosen_in (start first) (suc first) most)
    → Furnishes a d m most outside p (record { memory = n; count = count })
furnishes a b c d m array count n most outside p first some few small one ha hc hn = record {
  grows = grows_on ha.grows (grows_on hc.grows hn.grows);
  term = hn.term;
  counted = term_grown c d (Word W64) count hn.grows hc.term;
  is = λ e v k.
      let kc = weaken hn.grows k in
      let j = count_in most e p in
      let all : ℕ → Store → Store = chosen_in (start (suc p)) (suc (suc p)) most in
      hn.is e v k
      ∙ ap (λ q. chosen_in (start q) (suc q) most (v count.index).word (v array.index).store) one
      ∙ ap (λ i. all i (v array.index).store) (hc.is e v kc)
      ∙ ap (all j) (ha.is e v (weaken hc.grows kc))
      ∙ arguments_chosen most outside p j (v m.index).store (count_below (e.words p % 2 ^ 64) most some);
  count_is = λ e v k. hc.is e v (weaken hn.grows k);
  sized = λ j s h. arguments_sized most outside p j s few small h;
}

pub binds_true : (a b c d : List Shape) (m array base : Node) (x : Furnished) (put : Binding) (bounds : Bounds) (p first : ℕ)
    → p + 10 < 2 ^ 32 → first ≡ suc p
    → put ≡ record { entry = x.memory; parameters = x.count ∷ array ∷ []; base = base }
    → Furnishes a b m bounds.arguments bounds.outside p x → Makes b c (shape.Constant (start first) W64) (Ok array)
    → Makes c d (shape.Constant (p + (2 + bounds.arguments)) W64) (Ok base) → Binds true (limits_of bounds) p a d m put
binds_true a b c d m array base x put bounds p first low one same hx ha hb =
    subst (λ q. Binds true (limits_of bounds) p a d m q) (sym same)
    (record {
      grows = grows_on hx.grows bd;
      bank = hb.bank;
      low = omega (arith, low);
      stands = record {
        entry = node_of d Memory x.memory memory;
        entry_sort = memory.same;
        parameters = (
          node_of d (Word W64) x.count (term_grown b d (Word W64) x.count bd hx.counted),
          (node_of d (Word W64) array (term_grown c d (Word W64) array hb.grows ha.node), tt),
        );
        base = node_of d (Word W64) base hb.node;
        base_sort = hb.node.same;
      };
      entry = λ e v k. hx.is e v (weaken bd k);
      parameters = λ e v k.
          ap (λ n. n ∷ (v array.index).word ∷ []) (hx.count_is e v (weaken bd k))
          ∙ ap (λ (w : Worth). count_in bounds.arguments e p ∷ w.word ∷ []) (ha.value.is e v (weaken hb.grows k))
          ∙ ap (λ q. count_in bounds.arguments e p ∷ start q ∷ []) one;
      base = λ e v k. ap (λ (w : Worth). w.word) (hb.value.is e v k);
      sized = λ w s h. hx.sized (argument_count w (limits_of bounds) p) s h;
    })
  where
    bd : Grows b d
    bd = grows_on ha.grows hb.grows

    memory : IsTerm d Memory x.memory
    memory = term_grown b d Memory x.memory bd hx.term

pub binds_false : (a b : List Shape) (m base : Node) (put : Binding) (l : Limits) (p : ℕ) → p + 10 < 2 ^ 32 → IsTerm a Memory m
    → put ≡ record { entry = m; parameters = []; base = base } → Makes a b (shape.Constant p W64) (Ok base) → Binds false l p a b m put
binds_false a b m base put l p low h same hb =
    subst (λ q. Binds false l p a b m q) (sym same)
    (record {
      grows = hb.grows;
      bank = hb.bank;
      low = omega (arith, low);
      stands = record {
        entry = node_of b Memory m (term_grown a b Memory m hb.grows h);
        entry_sort = h.same;
        parameters = tt;
        base = node_of b (Word W64) base hb.node;
        base_sort = hb.node.same;
      };
      entry = λ e v k. refl;
      parameters = λ e v k. refl;
      base = λ e v k. ap (λ (w : Worth). w.word) (hb.value.is e v k) ∙ none p;
      sized = λ w s i. i;
    })
  where
    none : (n : ℕ) → n ≡ n + 0
    none n = omega arith
