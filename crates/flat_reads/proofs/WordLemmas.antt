-- Words joined of bytes.
use Rattle.std.proofs.Common.{◌≡◌, ◌<◌, ◌+◌, ◌-◌, ◌*◌, ◌%◌, ◌^◌, ◌∷◌, [], ℕ, zero, suc, List, true, arith, bit_or, refl, sym, ap, subst, ◌∙◌, cond}
use Rattle.std.specs.Prelude.{nat_lt, Result, Ok, Err, IfOk}
use Rattle.std.proofs.Math.Nat.{mod-eq_of_lt}
use Rattle.std.proofs.lemmas.Nat.{or_shifted}
use Rattle.plain_data.specs.Words.{bits}
use Rattle.plain_data.specs.declared.width.Width.{Width}
use Rattle.plain_data.specs.declared.width.Width.TheVariants.{W8, W16, W32, W64}
use Rattle.c_store.specs.Store.{Store, spelt}
use Rattle.c_store.proofs.Laws.{spelt_below}
use Rattle.term_bank.specs.declared.sort.Sort.{Sort}
use Rattle.term_bank.specs.declared.sort.Sort.TheVariants.{Word}
use Rattle.term_bank.specs.declared.sort.Node.{Node}
use Rattle.term_bank.specs.declared.bank.BankFault.{BankFault}
use Rattle.term_bank.specs.declared.shape.Shape.{Shape}
use Rattle.term_bank.specs.declared.shape.Shape.TheVariants.{Read}
use Rattle.term_bank.specs.declared.shape.WordOperator.TheVariants as operator
use Rattle.term_bank.specs.declared.shape.Extension.TheVariants as extension
use Rattle.term_bank.specs.Memories.{behind, octets, read}
use Rattle.term_bank.specs.Shapes.{IsNode, memory, parts, sort_of, word}
use Rattle.term_bank.specs.Values.{Environment, Worth, Values, Models, Grows, of_word, result_of, converted}
use Rattle.term_bank.specs.Terms.{IsTerm}
use Rattle.term_bank.specs.Banks.{IsBank}
use Rattle.term_bank.proofs.Worth.{each}
use Rattle.term_bank.proofs.BankLemmas.{stays, weaken, grows_on, node_grown}
use Rattle.term_bank.proofs.BindingLemmas.{node_sorted}
use Rattle.term_bank.proofs.TermLemmas.{part_of}
use Rattle.flat_reads.specs.declared.choices.Found.TheVariants.{Asked}
use Rattle.flat_reads.specs.Flats.{IsHonest, IsFlatOver, HasWorth, Gives}
use Rattle.flat_reads.specs.Parts.{joined_of}
use Rattle.flat_reads.specs.Choices.{Asks}
use Rattle.flat_reads.specs.Answers.{IsAnswer}
use Rattle.flat_reads.proofs.FlatLemmas.{flat_first, flat_second, flat_grown, flat_through, word_at}
use Rattle.flat_reads.proofs.ChoiceLemmas.{asks_found, asks_worth, copied_worth}

-- ---- a byte below a word

joined_value : (w : Width) (x b : ℕ) → nat_lt 8 (bits w) ≡ true → x * 2 ^ 8 < 2 ^ bits w → b < 2 ^ 8 → joined_of w x b ≡ b + 256 * x
unfolding result_of
joined_value w x b wide small byte = ap (λ t. bit_or (cond t ((x * 2 ^ 8) % 2 ^ bits w) 0) b) wide ∙ ap (λ t. bit_or t b) (mod-eq_of_lt small) ∙ or_shifted x 8 b byte ∙ turned x b where
  turned : (x b : ℕ) → x * 2 ^ 8 + b ≡ b + 256 * x
  turned x b = omega arith

room : (w : Width) (k x : ℕ) → 0 < k → k < octets w → x < 256 ^ k → (nat_lt 8 (bits w) ≡ true) × (x * 2 ^ 8 < 2 ^ bits w)
room w zero x p l h = absurd (omega (arith, p))
room W8 (suc k) x p l h = absurd (omega (arith, l))
room W16 (suc zero) x p l h = (refl, omega (arith, h))
room W16 (suc (suc k)) x p l h = absurd (omega (arith, l))
room W32 (suc zero) x p l h = (refl, omega (arith, h))
room W32 (suc (suc zero)) x p l h = (refl, omega (arith, h))
room W32 (suc (suc (suc zero))) x p l h = (refl, omega (arith, h))
room W32 (suc (suc (suc (suc k)))) x p l h = absurd (omega (arith, l))
room W64 (suc zero) x p l h = (refl, omega (arith, h))
room W64 (suc (suc zero)) x p l h = (refl, omega (arith, h))
room W64 (suc (suc (suc zero))) x p l h = (refl, omega (arith, h))
room W64 (suc (suc (suc (suc zero)))) x p l h = (refl, omega (arith, h))
room W64 (suc (suc (suc (suc (suc zero))))) x p l h = (refl, omega (arith, h))
room W64 (suc (suc (suc (suc (suc (suc zero)))))) x p l h = (refl, omega (arith, h))
room W64 (suc (suc (suc (suc (suc (suc (suc zero))))))) x p l h = (refl, omega (arith, h))
room W64 (suc (suc (suc (suc (suc (suc (suc (suc k)))))))) x p l h = absurd (omega (arith, l))

joined_spelt : (w : Width) (k a : ℕ) (f : ℕ → ℕ) → 0 < k → k < octets w → joined_of w (spelt k f (suc a)) (f a % 256) ≡ spelt (suc k) f a
joined_spelt w k a f p l =
    let r = room w k (spelt k f (suc a)) p l (spelt_below k f (suc a)) in
    joined_value w (spelt k f (suc a)) (f a % 256) r.0 r.1 (byte (f a))
  where
    byte : (x : ℕ) → x % 256 < 2 ^ 8
    byte x = omega arith

pub first_spelt : (n left : ℕ) (f : ℕ → ℕ) → 0 < n → left ≡ n - 1 → f left % 256 ≡ spelt (n - left) f left
first_spelt n left f p h = more (f left % 256) ∙ ap (λ k. spelt k f left) (one n left p h) where
  more : (x : ℕ) → x ≡ x + 256 * 0
  more x = omega arith

  one : (n left : ℕ) → 0 < n → left ≡ n - 1 → 1 ≡ n - left
  one n left p h = omega (arith, p, h)

pub next_spelt : (w : Width) (left next : ℕ) (f : ℕ → ℕ) → left ≡ suc next → left < octets w → joined_of w (spelt (octets w - left) f left) (f next % 256) ≡ spelt (octets w - next) f next
next_spelt w left next f same l =
    ap (λ i. joined_of w (spelt (octets w - i) f i) (f next % 256)) same ∙ joined_spelt w (octets w - suc next) next f (some (octets w) left next same l) (less (octets w) left next same l) ∙ ap (λ k. spelt k f next) (up (octets w) left next same l)
  where
    some : (n left next : ℕ) → left ≡ suc next → left < n → 0 < n - suc next
    some n left next h l = omega (arith, h, l)

    less : (n left next : ℕ) → left ≡ suc next → left < n → n - suc next < n
    less n left next h l = omega (arith, h, l)

    up : (n left next : ℕ) → left ≡ suc next → left < n → suc (n - suc next) ≡ n - next
    up n left next h l = omega (arith, h, l)

pub some_octets : (w : Width) → 0 < octets w
some_octets W8 = omega arith
some_octets W16 = omega arith
some_octets W32 = omega arith
some_octets W64 = omega arith

pub read_spelt : (n left : ℕ) (s : Store) (a : ℕ) → left ≡ 0 → spelt (n - left) (λ i. s.bytes (behind a i)) left ≡ read n s a
unfolding read
read_spelt n left s a h = ap (λ i. spelt (n - i) (λ i. s.bytes (behind a i)) i) h ∙ ap (λ k. spelt k (λ i. s.bytes (behind a i)) 0) (all n) where
  all : (n : ℕ) → n - 0 ≡ n
  all n = omega arith

pub joined_steps : (w : Width) (high byte eight up low : ℕ) → eight ≡ 8 → up ≡ result_of operator.Shl w high eight → low ≡ byte → of_word (result_of operator.Or w up low) ≡ of_word (joined_of w high byte)
joined_steps w high byte eight up low he hu hl = rw (hl, hu, he) refl

-- ---- a byte in another width

widen_is : (w : Width) (x : ℕ) → x < 2 ^ bits W8 → converted extension.Zero W8 w x ≡ x
unfolding converted
widen_is W8 x h = mod-eq_of_lt h
widen_is W16 x h = omega (arith, h)
widen_is W32 x h = omega (arith, h)
widen_is W64 x h = omega (arith, h)

pub widen_worth : (old new : List Shape) (w : Width) (n : Node) → Grows old new → IsBank new → IsTerm old (Word W8) n → (e : Environment) (v : Values) → IsHonest e → Models new e v → of_word (converted extension.Zero W8 w (v n.index).word) ≡ of_word (v n.index).word
widen_worth old new w n g bank h e v honest m = ap of_word (widen_is w (v n.index).word (node_sorted new e v (word W8 n.index) bank (node_grown old new (word W8 n.index) g (part_of old (Word W8) n h)) m).1)

pub widen_none : (shapes : List Shape) (w : Width) (n : Node) → IsBank shapes → w ≡ W8 → IsTerm shapes (Word W8) n → Gives shapes shapes (word W8 n.index ∷ []) (Word w) (λ v. of_word (v n.index).word) (Ok n)
widen_none shapes w n bank same h = record {
  node = subst (λ u. IsTerm shapes (Word u) n) (sym same) h;
  value = record { is = λ e v honest m. (node_sorted shapes e v (word W8 n.index) bank (part_of shapes (Word W8) n h) m).0 };
  flat = flat_first shapes (word W8 n.index) [];
  grows = stays;
  bank = bank;
}

-- ---- places

behind_none : (a far : ℕ) → far ≡ 0 → a < 2 ^ bits W64 → a ≡ behind a far
unfolding behind
behind_none a far h l = omega (arith, h, l)

pub place_none : (shapes : List Shape) (a far : ℕ) → IsBank shapes → far ≡ 0 → IsNode shapes (word W64 a) → Gives shapes shapes (word W64 a ∷ []) (Word W64) (λ v. of_word (behind (v a).word far)) (Ok (word W64 a))
place_none shapes a far bank none is = record {
  node = record { stands = is.sorted; same = refl };
  value = record { is = λ e v honest m. let h = node_sorted shapes e v (word W64 a) bank is m in h.0 ∙ ap of_word (behind_none (v a).word far none h.1) };
  flat = flat_first shapes (word W64 a) [];
  grows = stays;
  bank = bank;
}

-- ---- the answer for a byte

pub byte_gives : (old mid new : List Shape) (m a far : ℕ) (place : Node) (question : Shape) (r : Result Node BankFault) → Grows old mid → Grows mid new → IsBank mid → IsBank new → IsTerm mid (Word W64) place → HasWorth mid (λ v. of_word (behind (v a).word far)) place → IsFlatOver mid (word W64 a ∷ []) place.index → Asks mid m (word W64 place.index) (Asked question) → IfOk r (IsAnswer new question) → Gives old new (memory m ∷ (word W64 a ∷ [])) (Word W8) (λ v. of_word ((v m).store.bytes (behind (v a).word far) % 256)) r
byte_gives old mid new m a far place question r before g start bank term is flat asks answer = record {
  node = nodes r answer;
  value = values r answer;
  flat = flats r answer;
  grows = grows_on before g;
  bank = bank;
} where
  same : (q s : Shape) → Asked q ≡ Asked s → q ≡ s
  same q s h = cc

  reads : question ≡ Read W8 asks.seen place.index
  reads = same question (Read W8 asks.seen place.index) asks.is

  nodes : (r : Result Node BankFault) → IfOk r (IsAnswer new question) → IfOk r (IsTerm new (Word W8))
  nodes (Ok n) h = subst (λ q. IsTerm new (sort_of q) n) reads h.term
  nodes (Err e) h = tt

  values : (r : Result Node BankFault) → IfOk r (IsAnswer new question) → IfOk r (HasWorth new (λ v. of_word ((v m).store.bytes (behind (v a).word far) % 256)))
  values (Ok n) h = record {
    is = λ e v honest k.
        let old = weaken g k in
        h.value e v honest k ∙ asks_worth mid m (word W64 place.index) (Asked question) asks e v old
        ∙ copied_worth (v m).store (v a).word far far (v place.index).word (word_at mid new (λ v. behind (v a).word far) place is g e v honest k) refl
        (node_sorted mid e v (word W64 place.index) start (part_of mid (Word W64) place term) old).1;
  }
  values (Err e) h = tt

  flats : (r : Result Node BankFault) → IfOk r (IsAnswer new question) → IfOk r (λ n. IsFlatOver new (memory m ∷ (word W64 a ∷ [])) n.index)
  flats (Ok n) h =
      let asked = asks_found mid m (word W64 place.index) (Asked question) (suc m) (memory m ∷ (word W64 a ∷ [])) asks (part_of mid (Word W64) place term) (omega arith) (flat_first mid (memory m) (word W64 a ∷ []))
      (flat_through mid (memory m ∷ (word W64 a ∷ [])) (word W64 a ∷ []) place.index flat (flat_second mid (memory m) (word W64 a) [], tt)) in
      flat_through new (memory m ∷ (word W64 a ∷ [])) (parts question) n.index h.flat (each (λ p. IsFlatOver mid (memory m ∷ (word W64 a ∷ [])) p.index) (λ p. IsFlatOver new (memory m ∷ (word W64 a ∷ [])) p.index) (parts question) (λ p y. flat_grown mid new (memory m ∷ (word W64 a ∷ [])) p.index g y) asked.flat)
  flats (Err e) h = tt

-- ---- the loop

pub first_less : (n left : ℕ) → 0 < n → left ≡ n - 1 → left < n
first_less n left p h = omega (arith, p, h)

pub next_less : (n left : ℕ) → left < n → left - 1 < n
next_less n left h = omega (arith, h)

pub joined_both : (w : Width) (x y high byte z : ℕ) → x ≡ high → y ≡ byte → joined_of w high byte ≡ z → of_word (joined_of w x y) ≡ of_word z
joined_both w x y high byte z h k e = ap (λ n. of_word (joined_of w n y)) h ∙ ap (λ n. of_word (joined_of w high n)) k ∙ ap of_word e

pub gives_failed : (old new : List Shape) (ps : List Node) (s : Sort) (x : Values → Worth) (r : Result Node BankFault) (e : BankFault) → r ≡ Err e → Grows old new → IsBank new → Gives old new ps s x r
gives_failed old new ps s x r e is g bank = subst (Gives old new ps s x) (sym is) (record { node = tt; value = tt; flat = tt; grows = g; bank = bank })
