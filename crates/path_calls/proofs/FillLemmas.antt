-- Buffers that functions outside fill.
use Rattle.std.proofs.Common.{◌≡◌, ℕ, ◌+◌, ◌%◌, ◌^◌, ◌<◌, ◌≤◌, pos, negsuc, min, List, Bool, true, false, not, cond, nat_lt, nat_eq, refl, sym, ap, ◌∙◌, arith}
use Rattle.std.specs.Prelude.{Ok, bit_and, ◌&&◌}
use Rattle.std.proofs.lemmas.Nat.{and_mask}
use Rattle.std.proofs.lemmas.Bool.Decides.{nat_tests}
use Rattle.plain_data.specs.Words.{signed, word}
use Rattle.plain_data.specs.declared.bounds.Bounds.{Bounds}
use Rattle.plain_data.specs.declared.width.Width.TheVariants.{W64}
use Rattle.plain_data.proofs.WordLaws.{signed-word}
use Rattle.c_store.specs.Store.{Store, start, initial, lay}
use Rattle.c_store.specs.Access.{can_access, can_write}
use Rattle.c_store.proofs.Laws.{lay_same}
use Rattle.c_means.specs.Values.{address}
use Rattle.core_tree.specs.declared.expr.Fill.{Fill}
use Rattle.core_tree.specs.declared.expr.OutsideAnswer.{OutsideAnswer}
use Rattle.core_tree.specs.Callees.{value_or_zero, is_odd}
use Rattle.term_bank.specs.Memories as wrapping
use Rattle.term_bank.specs.declared.shape.WordOperator.TheVariants as operator
use Rattle.term_bank.specs.declared.shape.WordTest.TheVariants as test
use Rattle.term_bank.specs.declared.shape.Connective.TheVariants as connective
use Rattle.term_bank.specs.declared.sort.Sort.TheVariants as sort
use Rattle.term_bank.specs.declared.sort.Node.{Node}
use Rattle.term_bank.specs.declared.shape.Shape.{Shape}
use Rattle.term_bank.specs.declared.shape.Shape.TheVariants.{Initial, Constant, Binary, Test, Choose, Connect, Not, CopyRange}
use Rattle.term_bank.specs.Terms.{Makes}
use Rattle.term_bank.specs.Values.{Worth, of_truth, result_of, outcome_of}
use Rattle.term_bank.proofs.BankLemmas.{weaken, grows_on}
use Rattle.term_bank.proofs.TermLemmas.{term_grown}
use Rattle.mem_terms.specs.Truths.{Gives}
use Rattle.mem_terms.proofs.Space.{lay_store}
use Rattle.path_states.specs.declared.state.Number.{Number}
use Rattle.path_states.specs.States.{number_in, numbers_in}
use Rattle.path_numbers.specs.Answers.{Numbered, Truthful, Worded}
use Rattle.path_numbers.proofs.Nodes.{term_below}
use Rattle.path_numbers.proofs.WordSums.{word-pos}
use Rattle.path_steps.proofs.AccessLemmas.{access_small}
use Rattle.path_calls.specs.declared.outside_pointers.Reply.{Reply}
use Rattle.path_calls.specs.declared.fills.Filling.{Filling}
use Rattle.path_calls.specs.Outside.{AsksAt}
use Rattle.path_calls.specs.Places.{Tells}
use Rattle.path_calls.specs.Replies.{Replies, word_in, value_by, store_by}
use Rattle.path_calls.specs.Fills.{Asks, IsOdd, Counts, Lays, Fills, CountsOrFails, RepliesFilled, buffer_by, count_by, laid_by}

-- ---- words

word_below : (x : ℕ) → x % 2 ^ 64 < 2 ^ 64
word_below x = omega arith

pub asks : (place : ℕ) (a b c : List Shape) (x : Number) (n : Node) → AsksAt a b place x → Worded b c W64 n (λ v. address (number_in v x))
    → Asks a c place n
asks place a b c x n h w = record {
  grows = grows_on h.grows w.grows;
  term = w.term;
  is = λ room within e v m r.
      w.is e v m ∙ ap address (h.is room within e v (weaken w.grows m) r)
      ∙ word-pos W64 (word_in e (e.base + place)) (word_below (e.words (e.base + place)));
}

pub address_worded : (a b c : List Shape) (xs : List Number) (i : ℕ) (x : Number) (n : Node)
    → Numbered a b x (λ v. value_or_zero (numbers_in v xs) i) → Worded b c W64 n (λ v. address (number_in v x))
    → Worded a c W64 n (λ v. address (value_or_zero (numbers_in v xs) i))
address_worded a b c xs i x n h w = record {
  grows = grows_on h.grows w.grows;
  bank = w.bank;
  term = w.term;
  is = λ e v m. w.is e v m ∙ ap address (h.is e v (weaken w.grows m));
}

least_by : (c : Bool) (x y z : Worth) → nat_lt x.word y.word ≡ c → z ≡ cond c x y → z.word ≡ min x.word y.word
least_by true x y z h e = ap (λ (w : Worth). w.word) e ∙ low x.word y.word h
  where
    low : (m n : ℕ) → nat_lt m n ≡ true → m ≡ min m n
    low m n h = grind (arith, nat_tests)
least_by false x y z h e = ap (λ (w : Worth). w.word) e ∙ high x.word y.word h
  where
    high : (m n : ℕ) → nat_lt m n ≡ false → n ≡ min m n
    high m n h = grind (arith, nat_tests)

pub least_word : (a b c : List Shape) (left right below n : Node) → Makes a b (Test test.Below W64 left.index right.index) (Ok below)
    → Makes b c (Choose (sort.Word W64) below.index left.index right.index) (Ok n)
    → Worded a c W64 n (λ v. min (v left.index).word (v right.index).word)
unfolding outcome_of
least_word a b c left right below n h i = record {
  grows = grows_on h.grows i.grows;
  bank = i.bank;
  term = i.node;
  is = λ e v m.
      least_by (v below.index).truth (v left.index) (v right.index) (v n.index)
      (sym (ap (λ (w : Worth). w.truth) (h.value.is e v (weaken i.grows m)))) (i.value.is e v m);
}

pub counts : (most place : ℕ) (a b c d f : List Shape) (length word bound least n : Node) → Asks a b place word
    → Makes b c (Constant most W64) (Ok bound) → Worded c d W64 least (λ v. min (v length.index).word (v bound.index).word)
    → Worded d f W64 n (λ v. min (v word.index).word (v least.index).word) → Counts a f most place length n
counts most place a b c d f length word bound least n h i j k = record {
  grows = grows_on h.grows (grows_on i.grows (grows_on j.grows k.grows));
  term = k.term;
  is = λ room within e v m r.
      let md = weaken k.grows m in let mc = weaken j.grows md in
      k.is e v m
      ∙ ap (λ q. min q (v least.index).word) (h.is room within e v (weaken i.grows mc) r)
      ∙ ap (λ q. min (word_in e (e.base + place)) q)
      (j.is e v md ∙ ap (λ q. min (v length.index).word q) (ap (λ (w : Worth). w.word) (i.value.is e v mc)));
}

pub odd_truth : (place : ℕ) (a b c d f : List Shape) (word one bit n : Node) → Asks a b place word → Makes b c (Constant 1 W64) (Ok one)
    → Makes c d (Binary operator.And W64 word.index one.index) (Ok bit) → Makes d f (Test test.Equal W64 bit.index one.index) (Ok n)
    → IsOdd a f place n
unfolding result_of outcome_of
odd_truth place a b c d f word one bit n h i j k = record {
  grows = grows_on h.grows (grows_on i.grows (grows_on j.grows k.grows));
  term = k.node;
  is = λ room within e v m r.
      let md = weaken k.grows m in let mc = weaken j.grows md in
      let w = word_in e (e.base + place) in
      let unit : (v one.index).word ≡ 1 = ap (λ (q : Worth). q.word) (i.value.is e v mc) in
      ap (λ (q : Worth). q.truth) (k.value.is e v m)
      ∙ ap (λ q. nat_eq q (v one.index).word) (ap (λ (q : Worth). q.word) (j.value.is e v md))
      ∙ ap (λ q. nat_eq (bit_and (v word.index).word q) q) unit
      ∙ ap (λ q. nat_eq (bit_and q 1) 1) (h.is room within e v (weaken i.grows mc) r)
      ∙ ap (λ q. nat_eq q 1) (and_mask w 1);
}

-- ---- memories

pub lays : (place : ℕ) (a b c d : List Shape) (m to count source from n : Node) → Makes a b Initial (Ok source) → Tells b c place start from
    → Makes c d (CopyRange m.index to.index source.index from.index count.index) (Ok n) → Lays a d place m to count n
lays place a b c d m to count source from n h i j = record {
  grows = grows_on h.grows (grows_on i.grows j.grows);
  term = j.node;
  is = λ room within e v k r.
      let kc = weaken j.grows k in
      ap (λ (w : Worth). w.store) (j.value.is e v k)
      ∙ ap (λ q. wrapping.copy_range (v to.index).word q (v from.index).word (v count.index).word (v m.index).store)
      (ap (λ (w : Worth). w.store) (h.value.is e v (weaken i.grows kc)))
      ∙ ap (λ q. wrapping.copy_range (v to.index).word (initial e.bytes) q (v count.index).word (v m.index).store)
      (i.is room within e v kc r);
}

behind_start : (q i n : ℕ) → q < 2 ^ 32 → n ≤ 2 ^ 32 → i < n → wrapping.behind (start q) i ≡ start q + i
unfolding wrapping.behind
behind_start q i n low few less = omega (arith, low, few, less)

-- the first bytes of an object, as the world has them
pub laid : (a n q : ℕ) (bytes : ℕ → ℕ) (s : Store) → q < 2 ^ 32 → n ≤ 2 ^ 32 → a + n ≤ 2 ^ 64
    → wrapping.copy_range a (initial bytes) (start q) n s ≡ lay a n (λ i. bytes (start q + i)) s
unfolding wrapping.copy_range
laid a n q bytes s low few within =
    lay_store a n (λ i. bytes (wrapping.behind (start q) i)) s within
    ∙ lay_same a n (λ i. bytes (wrapping.behind (start q) i)) (λ i. bytes (start q + i)) s
    (λ i less. ap bytes (behind_start q i n low few less))

-- ---- what is filled

further : (base place k : ℕ) → base + (place + k) ≡ base + place + k
further base place k = omega arith

few_bytes : (w n most : ℕ) → most ≤ 4096 → min w (min n most) ≤ 4096
few_bytes w n most h = omega (arith, h)

module _ (heap : ℕ) (fill : Fill) (place : ℕ) (a b c d f g h : List Shape) (xs : List Number)
    (m buffer length count accessible writable memory : Node) (few : heap ≤ 4096)
    (hb : Worded a b W64 buffer (λ v. address (value_or_zero (numbers_in v xs) fill.buffer)))
    (hl : Worded b c W64 length (λ v. address (value_or_zero (numbers_in v xs) fill.length)))
    (hc : Counts c d heap (place + 1) length count)
    (ha : Gives d f sort.Truth (λ v. of_truth (can_access (v m.index).store (v buffer.index).word (v count.index).word)) (Ok accessible))
    (hw : Gives f g sort.Truth (λ v. of_truth (can_write (v m.index).store (v buffer.index).word (v count.index).word)) (Ok writable))
    (hm : Lays g h (place + 2) m buffer count memory) where
  pub fills : Fills a h heap fill place xs m (record { count = count; memory = memory; accessible = accessible; writable = writable })
  fills =
      let fh = grows_on hw.grows hm.grows in let dh = grows_on ha.grows fh in let ch = grows_on hc.grows dh in let bh = grows_on hl.grows ch in
      record {
        grows = grows_on hb.grows bh;
        count_term = term_grown d h (sort.Word W64) count dh hc.term;
        accessible_term = term_grown f h sort.Truth accessible fh ha.node;
        writable_term = term_grown g h sort.Truth writable hm.grows hw.node;
        memory_term = hm.term;
        is = λ room within e v k r.
            let q = e.base + place in let zs = numbers_in v xs in let s = (v m.index).store in
            let kg = weaken hm.grows k in let kf = weaken fh k in let kd = weaken dh k in let kc = weaken ch k in let kb = weaken bh k in
            let at : (v buffer.index).word ≡ buffer_by fill zs = hb.is e v kb in
            let long : (v length.index).word ≡ address (value_or_zero zs fill.length) = hl.is e v kc in
            let first : place + 1 < room = omega (arith, within) in
            let second : place + 2 < room = omega (arith, within) in
            let many : (v count.index).word ≡ count_by heap fill e q zs =
            hc.is room first e v kd r
            ∙ ap (λ p. min (word_in e p) (min (v length.index).word heap)) (further e.base place 1)
            ∙ ap (λ n. min (word_in e (q + 1)) (min n heap)) long in
            let n = count_by heap fill e q zs in
            let low : q + 2 < 2 ^ 32 = omega (arith, within, r.places) in
            let least : n ≤ 4096 = few_bytes (word_in e (q + 1)) (address (value_or_zero zs fill.length)) heap few in
            let below : buffer_by fill zs < 2 ^ 64 = rw (← at) (term_below b W64 buffer e v hb.bank hb.term kb) in
            record {
              count = many;
              accessible = ap (λ (w : Worth). w.truth) (ha.value.is e v kf) ∙ ap (λ p. can_access s p (v count.index).word) at
                  ∙ ap (λ p. can_access s (buffer_by fill zs) p) many;
              writable = ap (λ (w : Worth). w.truth) (hw.value.is e v kg) ∙ ap (λ p. can_write s p (v count.index).word) at
                  ∙ ap (λ p. can_write s (buffer_by fill zs) p) many;
              store = λ sized is_so.
                  hm.is room second e v k r
                  ∙ ap (λ p. wrapping.copy_range p (initial e.bytes) (start (e.base + (place + 2))) (v count.index).word s) at
                  ∙ ap (λ p. wrapping.copy_range (buffer_by fill zs) (initial e.bytes) (start p) (v count.index).word s) (further e.base place 2)
                  ∙ ap (λ p. wrapping.copy_range (buffer_by fill zs) (initial e.bytes) (start (q + 2)) p s) many
                  ∙ laid (buffer_by fill zs) n (q + 2) e.bytes s low (omega (arith, least)) (access_small s (buffer_by fill zs) n sized below is_so);
            };
      }

-- ---- what is answered where nothing may be filled

minus_one : signed W64 18446744073709551615 ≡ negsuc 0
minus_one = refl

small_count : (n : ℕ) → n < 2 ^ 63 → signed W64 n ≡ pos n
small_count n h =
    ap (signed W64) (sym (word-pos W64 n (omega (arith, h)))) ∙ signed-word W64 (pos n) (less n h)
  where
    less : (n : ℕ) → n < 2 ^ 63 → nat_lt n (2 ^ 63) ≡ true
    less n h = grind (arith, nat_tests)

number_by : (c : Bool) (x y z : Worth) → z ≡ cond c x y → x.word ≡ 18446744073709551615 → y.word < 2 ^ 63
    → signed W64 z.word ≡ cond c (negsuc 0) (pos y.word)
number_by true x y z e h i = ap (λ (w : Worth). signed W64 w.word) e ∙ ap (signed W64) h ∙ minus_one
number_by false x y z e h i = ap (λ (w : Worth). signed W64 w.word) e ∙ small_count y.word i

store_chosen : (c : Bool) (x y z : Worth) → z ≡ cond c x y → z.store ≡ cond c x.store y.store
store_chosen true x y z e = ap (λ (w : Worth). w.store) e
store_chosen false x y z e = ap (λ (w : Worth). w.store) e

pub counts_or_fails : (a b c d : List Shape) (fails m minus n memory : Node) (g : Filling)
    → Makes a b (Constant 18446744073709551615 W64) (Ok minus)
    → Makes b c (Choose (sort.Word W64) fails.index minus.index g.count.index) (Ok n)
    → Makes c d (Choose sort.Memory fails.index m.index g.memory.index) (Ok memory)
    → CountsOrFails a d fails g m (record { number = record { node = n; word = record { width = W64; is_signed = true } }; memory = memory })
counts_or_fails a b c d fails m minus n memory g h i j = record {
  grows = grows_on h.grows (grows_on i.grows j.grows);
  number = record { term = term_grown c d (sort.Word W64) n j.grows i.node };
  term = j.node;
  value = λ e v k small.
      let kc = weaken j.grows k in
      number_by (v fails.index).truth (v minus.index) (v g.count.index) (v n.index) (i.value.is e v kc)
      (ap (λ (w : Worth). w.word) (h.value.is e v (weaken i.grows kc))) small;
  store = λ e v k. store_chosen (v fails.index).truth (v m.index) (v g.memory.index) (v memory.index) (j.value.is e v k);
}

not_either : (x y : Bool) → not (cond x true y) ≡ cond x false (not y)
not_either true y = refl
not_either false y = refl

pub neither_truth : (a b c : List Shape) (first second either n : Node) → Makes a b (Connect connective.Or first.index second.index) (Ok either)
    → Makes b c (Not either.index) (Ok n)
    → Truthful a c n (λ v. cond (v first.index).truth false (not (v second.index).truth))
neither_truth a b c first second either n h i = record {
  grows = grows_on h.grows i.grows;
  bank = i.bank;
  term = i.node;
  is = λ e v m.
      ap (λ (w : Worth). w.truth) (i.value.is e v m) ∙ ap not (ap (λ (w : Worth). w.truth) (h.value.is e v (weaken i.grows m)))
      ∙ not_either (v first.index).truth (v second.index).truth;
}

-- ---- answers with a buffer that is filled

pub replies_filled : (bounds : Bounds) (fill : Fill) (x : OutsideAnswer) (place : ℕ) (a b c d f : List Shape) (xs : List Number)
    (m no_access no_write : Node) (g : Filling) (r : Reply) → fill.counts ≡ false → Fills a b bounds.heap fill place xs m g
    → Makes b c (Not g.accessible.index) (Ok no_access) → Makes c d (Not g.writable.index) (Ok no_write)
    → Replies d f bounds.outside x place g.memory r
    → RepliesFilled a f bounds fill x place xs m (record { reply = r; no_access = no_access; no_write = no_write })
replies_filled bounds fill x place a b c d f xs m no_access no_write g r plain h i j k =
    let cf = grows_on j.grows k.grows in let bf = grows_on i.grows cf in
    record {
      grows = grows_on h.grows bf;
      number = k.number;
      term = k.term;
      access_term = term_grown c f sort.Truth no_access cf i.node;
      write_term = term_grown d f sort.Truth no_write k.grows j.node;
      small = λ so. k.small;
      is = λ room within e v w y.
          let wd = weaken k.grows w in let wc = weaken cf w in let wb = weaken bf w in
          let q = e.base + place in let zs = numbers_in v xs in let s = (v m.index).store in
          let first : place < room = omega (arith, within) in
          let odd = is_odd (word_in e (q + 3)) in
          let given = h.is room within e v wb y in
          let can = can_access s (buffer_by fill zs) (count_by bounds.heap fill e q zs) in
          let may = can_write s (buffer_by fill zs) (count_by bounds.heap fill e q zs) in
          record {
            access = ap (λ (z : Worth). z.truth) (i.value.is e v wc) ∙ ap not given.accessible
                ∙ ap (λ t. cond (t && odd) false (not can)) (sym plain);
            write = ap (λ (z : Worth). z.truth) (j.value.is e v wd) ∙ ap not given.writable
                ∙ ap (λ t. cond (t && odd) false (not may)) (sym plain);
            value = k.value room first e v w y
                ∙ ap (λ t. cond t (cond odd (negsuc 0) (pos (count_by bounds.heap fill e q zs))) (value_by x (word_in e q) q)) (sym plain);
            store = λ sized is_so.
                let is_accessible : can ≡ true = ap (λ t. cond (t && odd) true can) (sym plain) ∙ is_so in
                k.store room first e v w y
                ∙ ap (λ z. store_by bounds.outside x (word_in e q) q z) (given.store sized is_accessible)
                ∙ ap (λ t. cond t (cond odd s (laid_by bounds.heap fill e q zs s))
                (store_by bounds.outside x (word_in e q) q (laid_by bounds.heap fill e q zs s))) (sym plain);
          };
    }

count_small : (n m : ℕ) → m ≤ 4096 → n ≡ m → n < 2 ^ 63
count_small n m h e = omega (arith, h, e)

store_either : (c : Bool) (s x y : Store) → (cond c true false ≡ false → x ≡ y) → cond c s x ≡ cond c s y
store_either true s x y h = refl
store_either false s x y h = h refl

second_true : (c x : Bool) → c ≡ false → cond c true x ≡ true → x ≡ true
second_true true x h k = cc
second_true false x h k = k

as_itself : (c : Bool) → cond c true false ≡ c
as_itself true = refl
as_itself false = refl

pub replies_counted : (bounds : Bounds) (fill : Fill) (x : OutsideAnswer) (place : ℕ) (a b c d f h : List Shape) (xs : List Number)
    (m fails no_access no_write : Node) (g : Filling) (r : Reply) → bounds.heap ≤ 4096 → fill.counts ≡ true
    → Fills a b bounds.heap fill place xs m g → IsOdd b c (place + 3) fails
    → Truthful c d no_access (λ v. cond (v fails.index).truth false (not (v g.accessible.index).truth))
    → Truthful d f no_write (λ v. cond (v fails.index).truth false (not (v g.writable.index).truth))
    → CountsOrFails f h fails g m r
    → RepliesFilled a h bounds fill x place xs m (record { reply = r; no_access = no_access; no_write = no_write })
replies_counted bounds fill x place a b c d f h xs m fails no_access no_write g r few counting i j k l n =
    let dh = grows_on l.grows n.grows in let ch = grows_on k.grows dh in let bh = grows_on j.grows ch in
    record {
      grows = grows_on i.grows bh;
      number = n.number;
      term = n.term;
      access_term = term_grown d h sort.Truth no_access dh k.term;
      write_term = term_grown f h sort.Truth no_write n.grows l.term;
      small = λ plain. absurd (cc);
      is = λ room within e v w y.
          let wf = weaken n.grows w in let wd = weaken dh w in let wc = weaken ch w in let wb = weaken bh w in
          let q = e.base + place in let zs = numbers_in v xs in let s = (v m.index).store in
          let odd = is_odd (word_in e (q + 3)) in
          let given = i.is room within e v wb y in
          let count = count_by bounds.heap fill e q zs in
          let can = can_access s (buffer_by fill zs) count in
          let may = can_write s (buffer_by fill zs) count in
          let is_failing : (v fails.index).truth ≡ odd =
          j.is room within e v wc y ∙ ap (λ p. is_odd (word_in e p)) (further e.base place 3) in
          let least : count ≤ 4096 = few_bytes (word_in e (q + 1)) (address (value_or_zero zs fill.length)) bounds.heap few in
          record {
            access = k.is e v wd ∙ ap (λ t. cond t false (not (v g.accessible.index).truth)) is_failing
                ∙ ap (λ t. cond odd false (not t)) given.accessible ∙ ap (λ t. cond (t && odd) false (not can)) (sym counting);
            write = l.is e v wf ∙ ap (λ t. cond t false (not (v g.writable.index).truth)) is_failing
                ∙ ap (λ t. cond odd false (not t)) given.writable ∙ ap (λ t. cond (t && odd) false (not may)) (sym counting);
            value = n.value e v w (count_small (v g.count.index).word count least given.count)
                ∙ ap (λ t. cond t (negsuc 0) (pos (v g.count.index).word)) is_failing
                ∙ ap (λ z. cond odd (negsuc 0) (pos z)) given.count
                ∙ ap (λ t. cond t (cond odd (negsuc 0) (pos count)) (value_by x (word_in e q) q)) (sym counting);
            store = λ sized is_so.
                let so : cond odd true can ≡ true = ap (λ t. cond (t && odd) true can) (sym counting) ∙ is_so in
                n.store e v w ∙ ap (λ t. cond t s (v g.memory.index).store) is_failing
                ∙ store_either odd s (v g.memory.index).store (laid_by bounds.heap fill e q zs s)
                (λ even. given.store sized (second_true odd can (sym (as_itself odd) ∙ even) so))
                ∙ ap (λ t. cond t (cond odd s (laid_by bounds.heap fill e q zs s))
                (store_by bounds.outside x (word_in e q) q (laid_by bounds.heap fill e q zs s))) (sym counting);
          };
    }
