-- Clauses and inputs that are added, and what bits are worth in their models.
use Rattle.std.proofs.Common.{◌≡◌, ◌<◌, ◌≤◌, ◌++◌, ◌∷◌, [], ℕ, ◌+◌, ◌-◌, ◌*◌, ◌%◌, ◌^◌, List, Bool, true, false, not, cond, refl, sym, ap, subst, ◌∙◌, arith, length, take, replicate, get_or, pos}
use Rattle.std.proofs.Math.Nat.{mod-eq_of_lt}
use Rattle.cnf_core.specs.Truth.{Valuation}
use Rattle.gates.specs.declared.bit.Bit.{Bit}
use Rattle.gates.specs.declared.bit.Bit.TheVariants.{Known}
use Rattle.gates.specs.Nets.{Net, Extension, Grows, IsBit, IsGate, bit_holds, opposite}
use Rattle.gates.proofs.BitLemmas.{same-grows, then-grows, opposite-bit, opposite-holds}
use Rattle.plain_data.specs.Words.{bits}
use Rattle.plain_data.specs.declared.width.Width.{Width}
use Rattle.plain_data.specs.declared.width.Width.TheVariants.{W8, W16, W32, W64}
use Rattle.plain_data.proofs.WordLaws.{word-word}
use Rattle.word_gates.specs.Spelling.{AreBits, HasTruths, IsWord, number, spelled, truths}
use Rattle.word_gates.proofs.WordLemmas.{bits-push, chosen-word}
use Rattle.signed_gates.proofs.NetLemmas.{word-after, zero-extended-of}
use Rattle.input_tables.specs.declared.table.Table.{Table}
use Rattle.input_tables.specs.Rows.{AllFollow, Follows}
use Rattle.input_tables.specs.Tables.{Asked, IsTable, rows_of}
use Rattle.input_tables.proofs.RowLemmas.{follows-extended}
use Rattle.input_tables.proofs.TableLemmas.{empty-table, table-grown}
use Rattle.term_bank.specs.declared.shape.Connective.{Connective}
use Rattle.term_bank.specs.declared.shape.Extension.{Extension as Reading}
use Rattle.term_bank.specs.declared.shape.WordOperator.{WordOperator}
use Rattle.term_bank.specs.declared.shape.WordTest.{WordTest}
use Rattle.term_bank.specs.declared.shape.Shape.{Shape}
use Rattle.term_bank.specs.declared.shape.Shape.TheVariants.{Flag, Constant, WorldWord, InitialByte, Binary, Test, Convert, Not, Connect, Choose}
use Rattle.term_bank.specs.declared.sort.Sort.{Sort}
use Rattle.term_bank.specs.Shapes.{Each, parts, sort_of}
use Rattle.term_bank.specs.Values.{Environment, Values, Worth, connected, converted, outcome_of, result_of, worth}
use Rattle.bitvectors.specs.declared.inputs.Inputs.{Inputs}
use Rattle.bitvectors.specs.Amounts.{Signals, amount, bits_at, is_one, size}
use Rattle.bitvectors.specs.Leaves.{IsByteSignal, IsEmptyInputs, IsWordSignal}
use Rattle.bitvectors.specs.Signals.{AreInputs, Extends, HasBits, IsSignal, IsSpelled}

-- ---- steps

follow-on : (old new : Net) (t : Table) (f : ℕ → ℕ) (v : Valuation) (x : Extension new (old.count + 1) v) → IsTable old t → AllFollow v t.bits f (rows_of t) → AllFollow x.model t.bits f (rows_of t)
follow-on old new t f v x h all row m = follows-extended old new t.bits f v row x (h.rows row m) (all row m)

pub gate-steps : (old new : Net) (inputs : Inputs) → AreInputs old inputs → Grows old new → Extends old new inputs inputs
gate-steps old new inputs h g = record {
  grows = g;
  inputs = record { words = table-grown old new inputs.words g h.words; bytes = table-grown old new inputs.bytes g h.bytes; words_bits = h.words_bits; bytes_bits = h.bytes_bits };
  kept = λ v e k. k;
  extends = λ v e m k.
      let x = g.extends v m in
      record { extension = x; are_of = record { words = follow-on old new inputs.words e.words v x h.words k.words; bytes = follow-on old new inputs.bytes e.bytes v x h.bytes k.bytes } };
}

rows-before : (v : Valuation) (old new : Net) (before after : Table) (key value : List Bit) (f : ℕ → ℕ) → Asked old new before after key value → AllFollow v after.bits f (rows_of after) → AllFollow v before.bits f (rows_of before)
rows-before v old new before after key value f a all row m = subst (λ n. Follows v n f row) a.same_width (all row (a.kept row m))

pub word-steps : (old new : Net) (before after : Inputs) (key value : List Bit) → AreInputs old before → Asked old new before.words after.words key value → after.bytes ≡ before.bytes → Extends old new before after
word-steps old new before after key value h a same = record {
  grows = a.grows;
  inputs = record { words = a.table; bytes = subst (IsTable new) (sym same) (table-grown old new before.bytes a.grows h.bytes); words_bits = a.same_width ∙ h.words_bits; bytes_bits = ap (λ t. t.bits) same ∙ h.bytes_bits };
  kept = λ v e k. record { words = rows-before v old new before.words after.words key value e.words a k.words; bytes = subst (λ t. AllFollow v t.bits e.bytes (rows_of t)) same k.bytes };
  extends = λ v e m k.
      let x = a.extends v e.words m k.words in
      record { extension = x.extension; are_of = record { words = x.follow; bytes = subst (λ t. AllFollow x.extension.model t.bits e.bytes (rows_of t)) (sym same) (follow-on old new before.bytes e.bytes v x.extension h.bytes k.bytes) } };
}

pub byte-steps : (old new : Net) (before after : Inputs) (key value : List Bit) → AreInputs old before → Asked old new before.bytes after.bytes key value → after.words ≡ before.words → Extends old new before after
byte-steps old new before after key value h a same = record {
  grows = a.grows;
  inputs = record { words = subst (IsTable new) (sym same) (table-grown old new before.words a.grows h.words); bytes = a.table; words_bits = ap (λ t. t.bits) same ∙ h.words_bits; bytes_bits = a.same_width ∙ h.bytes_bits };
  kept = λ v e k. record { words = subst (λ t. AllFollow v t.bits e.words (rows_of t)) same k.words; bytes = rows-before v old new before.bytes after.bytes key value e.bytes a k.bytes };
  extends = λ v e m k.
      let x = a.extends v e.bytes m k.bytes in
      record { extension = x.extension; are_of = record { words = subst (λ t. AllFollow x.extension.model t.bits e.words (rows_of t)) (sym same) (follow-on old new before.words e.words v x.extension h.words k.words); bytes = x.follow } };
}

pub steps-then : (a b c : Net) (x y z : Inputs) → Extends a b x y → Extends b c y z → Extends a c x z
steps-then a b c x y z p q = record {
  grows = then-grows a b c p.grows q.grows;
  inputs = q.inputs;
  kept = λ v e k. p.kept v e (q.kept v e k);
  extends = λ v e m k.
      let r = p.extends v e m k in
      let s = q.extends r.extension.model e r.extension.is r.are_of in
      record { extension = record { model = s.extension.model; agrees = λ n l. r.extension.agrees n l ∙ s.extension.agrees n (omega (arith, l, p.grows.more)); is = s.extension.is }; are_of = s.are_of };
}

pub steps-none : (net : Net) (inputs : Inputs) → AreInputs net inputs → Extends net net inputs inputs
steps-none net inputs h = gate-steps net net inputs h (same-grows net)

pub empty-inputs : (net : Net) (inputs : Inputs) → IsEmptyInputs inputs → AreInputs net inputs
empty-inputs net inputs e = record { words = empty-table net 64 inputs.words e.words; bytes = empty-table net 8 inputs.bytes e.bytes; words_bits = e.words.width; bytes_bits = e.bytes.width }

-- ---- what is asked of the world

narrow : (w : Width) → bits w ≤ bits W64
narrow W8 = omega arith
narrow W16 = omega arith
narrow W32 = omega arith
narrow W64 = omega arith

pub world-word-of : (old new : Net) (before after : Inputs) (place whole x word : List Bit) (w : Width) (n : ℕ) → AreInputs old before → Asked old new before.words after.words place whole → after.bytes ≡ before.bytes → n ≡ bits w → x ≡ whole → word ≡ take n x ++ replicate (n - length x) (Known false) → IsWordSignal old new before after place w word
world-word-of old new before after place whole x word w n h a same is_n is_x is =
    let stands : AreBits new x = subst (AreBits new) (sym is_x) a.stands in
    let z = zero-extended-of new W64 w x word n is_n stands is in
    record {
      steps = word-steps old new before after place whole h a same;
      width = z.width;
      stands = z.stand;
      means = λ v e m k.
          let c : spelled v x ≡ e.words (spelled v place) % 2 ^ 64 = ap (spelled v) is_x ∙ sym (a.is v e.words m k.words) ∙ ap (λ b. e.words (spelled v place) % 2 ^ b) (a.same_width ∙ h.words_bits) in
          z.means v m ∙ ap (λ t. t % 2 ^ bits w) c ∙ word-word w W64 (pos (e.words (spelled v place))) (narrow w);
    }

pub initial-byte-of : (old new : Net) (before after : Inputs) (address byte : List Bit) → AreInputs old before → Asked old new before.bytes after.bytes address byte → after.words ≡ before.words → IsByteSignal old new before after address byte
initial-byte-of old new before after address byte h a same = record {
  steps = byte-steps old new before after address byte h a same;
  width = a.width ∙ a.same_width ∙ h.bytes_bits;
  stands = a.stands;
  means = λ v e m k. sym (a.is v e.bytes m k.bytes) ∙ ap (λ b. e.bytes (spelled v address) % 2 ^ b) (a.same_width ∙ h.bytes_bits);
}

-- ---- truths

pub one-bit-of : (net : Net) (bit : Bit) (none word : List Bit) → IsBit net bit → none ≡ [] → word ≡ none ++ bit ∷ [] → IsWord net net 1 (λ v. number (bit_holds v bit)) word
one-bit-of net bit none word h e is =
    let whole : word ≡ bit ∷ [] = is ∙ ap (λ t. t ++ bit ∷ []) e in
    record {
      width = ap length whole;
      grows = same-grows net;
      stand = subst (AreBits net) (sym is) (bits-push net net none bit (same-grows net) (subst (AreBits net) (sym e) (λ k d l. absurd (omega arith))) h);
      means = λ v m. ap (spelled v) whole ∙ alone (number (bit_holds v bit));
    }
  where
    alone : (x : ℕ) → x + 2 * 0 ≡ x
    alone x = omega arith

one-table : (b : Bool) → b ≡ is_one (number b + 2 * 0)
one-table true = refl
one-table false = refl

pub bit-of : (net : Net) (word : List Bit) (x : Bit) → AreBits net word → length word ≡ 1 → x ≡ get_or word 0 x → IsGate net net (λ v. is_one (spelled v word)) x
bit-of net [] x h n is = absurd (omega arith)
bit-of net (y ∷ []) x h n is = record { grows = same-grows net; stands = subst (IsBit net) (sym is) (h 0 x (omega arith)); means = λ v m. ap (bit_holds v) is ∙ one-table (bit_holds v y) }
bit-of net (y ∷ (z ∷ zs)) x h n is = absurd (omega arith)

pub negate-of : (net : Net) (a word : List Bit) (bit other : Bit) → IsGate net net (λ v. is_one (spelled v a)) bit → other ≡ opposite bit → IsWord net net 1 (λ v. number (bit_holds v other)) word → IsWord net net 1 (λ v. number (not (is_one (spelled v a)))) word
negate-of net a word bit other g is w = word-after net net net 1 1 _ _ word (same-grows net) refl w (λ v m. ap number (ap (bit_holds v) is ∙ opposite-holds v bit ∙ ap not (g.means v m)))

pub opposite-stands : (net : Net) (bit other : Bit) (f : Valuation → Bool) → IsGate net net f bit → other ≡ opposite bit → IsBit net other
opposite-stands net bit other f g is = subst (IsBit net) (sym is) (opposite-bit net bit g.stands)

pub connect-of : (old new : Net) (c : Connective) (a b word : List Bit) (one other bit : Bit) → IsGate old old (λ v. is_one (spelled v a)) one → IsGate old old (λ v. is_one (spelled v b)) other → IsGate old new (λ v. connected c (bit_holds v one) (bit_holds v other)) bit → IsWord new new 1 (λ v. number (bit_holds v bit)) word → IsWord old new 1 (λ v. number (connected c (is_one (spelled v a)) (is_one (spelled v b)))) word
connect-of old new c a b word one other bit p q g w =
    word-after old new new 1 1 _ _ word g.grows refl w (λ v m.
    let k = g.grows.keeps v m in
    ap number (g.means v m ∙ (λ i. connected c (p.means v k i) (q.means v k i))))

pub select-of : (old new : Net) (condition a b word : List Bit) (bit : Bit) → IsGate old old (λ v. is_one (spelled v condition)) bit → HasTruths old new (length a) (λ v. cond (bit_holds v bit) (truths v a) (truths v b)) word → IsWord old new (length a) (λ v. cond (is_one (spelled v condition)) (spelled v a) (spelled v b)) word
select-of old new condition a b word bit g h =
    let r = chosen-word old new (length a) bit a b word h in
    word-after old old new (length a) (length a) _ _ word (same-grows old) refl r (λ v m. ap (λ t. cond t (spelled v a) (spelled v b)) (g.means v (r.grows.keeps v m)))

-- ---- shapes

-- a word that depends on the parts' bits alone
pub signal-of : (old new : Net) (inputs : Inputs) (signals : Signals) (shape : Shape) (word : List Bit) (n : ℕ) (f : Valuation → ℕ) → AreInputs old inputs → n ≡ size (sort_of shape) → IsWord old new n f word → ((v : Valuation) (e : Environment) (values : Values) → Each (IsSpelled v values signals) (parts shape) → f v ≡ amount (sort_of shape) (worth e values shape)) → IsSignal old new inputs inputs signals shape word
signal-of old new inputs signals shape word n f h is_n w s = record {
  steps = gate-steps old new inputs h w.grows;
  width = w.width ∙ is_n;
  stands = w.stand;
  means = λ v e values m k honest each. w.means v m ∙ s v e values each;
}

pub flag-of : (net : Net) (inputs : Inputs) (signals : Signals) (truth : Bool) (word : List Bit) → AreInputs net inputs → IsWord net net 1 (λ v. number (bit_holds v (Known truth))) word → IsSignal net net inputs inputs signals (Flag truth) word
flag-of net inputs signals truth word h w = signal-of net net inputs signals (Flag truth) word 1 _ h refl w (λ v e values each. refl)

pub constant-of : (net : Net) (inputs : Inputs) (signals : Signals) (value n : ℕ) (w : Width) (word : List Bit) → AreInputs net inputs → value < 2 ^ bits w → n ≡ bits w → IsWord net net n (λ v. value % 2 ^ n) word → IsSignal net net inputs inputs signals (Constant value w) word
constant-of net inputs signals value n w word h small is_n r = signal-of net net inputs signals (Constant value w) word n _ h is_n r (λ v e values each. ap (λ k. value % 2 ^ k) is_n ∙ mod-eq_of_lt small)

pub world-of : (old new : Net) (before after : Inputs) (signals : Signals) (w : Width) (place : ℕ) (p word : List Bit) → p ≡ bits_at signals place → IsWordSignal old new before after p w word → IsSignal old new before after signals (WorldWord w place) word
world-of old new before after signals w place p word is s = record {
  steps = s.steps;
  width = s.width;
  stands = s.stands;
  means = λ v e values m k honest each. s.means v e m k ∙ ap (λ t. e.words t % 2 ^ bits w) (ap (spelled v) is ∙ each.0.is);
}

pub byte-of : (old new : Net) (before after : Inputs) (signals : Signals) (row address : ℕ) (p word : List Bit) → p ≡ bits_at signals address → IsByteSignal old new before after p word → IsSignal old new before after signals (InitialByte row address) word
byte-of old new before after signals row address p word is s = record {
  steps = s.steps;
  width = s.width;
  stands = s.stands;
  means = λ v e values m k honest each. s.means v e m k ∙ ap (λ t. e.bytes t % 2 ^ bits W8) (ap (spelled v) is ∙ each.0.is) ∙ ap (λ t. t % 2 ^ bits W8) (sym (honest.same row (values address).word));
}

pub binary-of : (old new : Net) (inputs : Inputs) (signals : Signals) (op : WordOperator) (w : Width) (left right : ℕ) (a b word : List Bit) → AreInputs old inputs → a ≡ bits_at signals left → b ≡ bits_at signals right → IsWord old new (bits w) (λ v. result_of op w (spelled v a) (spelled v b)) word → IsSignal old new inputs inputs signals (Binary op w left right) word
binary-of old new inputs signals op w left right a b word h is_a is_b r =
    signal-of old new inputs signals (Binary op w left right) word (bits w) _ h refl r (λ v e values each.
    let p : spelled v a ≡ (values left).word = ap (spelled v) is_a ∙ each.0.is in
    let q : spelled v b ≡ (values right).word = ap (spelled v) is_b ∙ each.1.0.is in
    (λ i. result_of op w (p i) (q i)))

pub test-of : (old new : Net) (inputs : Inputs) (signals : Signals) (t : WordTest) (w : Width) (left right : ℕ) (a b word : List Bit) (bit : Bit) → AreInputs old inputs → a ≡ bits_at signals left → b ≡ bits_at signals right → IsGate old new (λ v. outcome_of t w (spelled v a) (spelled v b)) bit → IsWord new new 1 (λ v. number (bit_holds v bit)) word → IsSignal old new inputs inputs signals (Test t w left right) word
test-of old new inputs signals t w left right a b word bit h is_a is_b g r =
    let whole : IsWord old new 1 (λ v. number (outcome_of t w (spelled v a) (spelled v b))) word = word-after old new new 1 1 _ _ word g.grows refl r (λ v m. ap number (g.means v m)) in
    signal-of old new inputs signals (Test t w left right) word 1 _ h refl whole (λ v e values each.
    let p : spelled v a ≡ (values left).word = ap (spelled v) is_a ∙ each.0.is in
    let q : spelled v b ≡ (values right).word = ap (spelled v) is_b ∙ each.1.0.is in
    (λ i. number (outcome_of t w (p i) (q i))))

pub convert-of : (net : Net) (inputs : Inputs) (signals : Signals) (x : Reading) (from to : Width) (operand : ℕ) (a word : List Bit) → AreInputs net inputs → a ≡ bits_at signals operand → IsWord net net (bits to) (λ v. converted x from to (spelled v a)) word → IsSignal net net inputs inputs signals (Convert x from to operand) word
convert-of net inputs signals x from to operand a word h is_a r =
    signal-of net net inputs signals (Convert x from to operand) word (bits to) _ h refl r (λ v e values each.
    let p : spelled v a ≡ (values operand).word = ap (spelled v) is_a ∙ each.0.is in
    ap (converted x from to) p)

one-number : (b : Bool) → is_one (number b) ≡ b
one-number true = refl
one-number false = refl

truth-part : (v : Valuation) (a bits : List Bit) (b : Bool) → a ≡ bits → spelled v bits ≡ number b → is_one (spelled v a) ≡ b
truth-part v a bits b is e = ap is_one (ap (spelled v) is ∙ e) ∙ one-number b

pub not-of : (net : Net) (inputs : Inputs) (signals : Signals) (operand : ℕ) (a word : List Bit) → AreInputs net inputs → a ≡ bits_at signals operand → IsWord net net 1 (λ v. number (not (is_one (spelled v a)))) word → IsSignal net net inputs inputs signals (Not operand) word
not-of net inputs signals operand a word h is_a r =
    signal-of net net inputs signals (Not operand) word 1 _ h refl r (λ v e values each.
    ap (λ t. number (not t)) (truth-part v a (bits_at signals operand) (values operand).truth is_a each.0.is))

pub connective-of : (old new : Net) (inputs : Inputs) (signals : Signals) (c : Connective) (left right : ℕ) (a b word : List Bit) → AreInputs old inputs → a ≡ bits_at signals left → b ≡ bits_at signals right → IsWord old new 1 (λ v. number (connected c (is_one (spelled v a)) (is_one (spelled v b)))) word → IsSignal old new inputs inputs signals (Connect c left right) word
connective-of old new inputs signals c left right a b word h is_a is_b r =
    signal-of old new inputs signals (Connect c left right) word 1 _ h refl r (λ v e values each.
    let p = truth-part v a (bits_at signals left) (values left).truth is_a each.0.is in
    let q = truth-part v b (bits_at signals right) (values right).truth is_b each.1.0.is in
    (λ i. number (connected c (p i) (q i))))

chosen-amount : (s : Sort) (b : Bool) (x y : Worth) → cond b (amount s x) (amount s y) ≡ amount s (cond b x y)
chosen-amount s true x y = refl
chosen-amount s false x y = refl

pub choice-of : (old new : Net) (inputs : Inputs) (signals : Signals) (s : Sort) (condition yes_arm no_arm : ℕ) (c a b word : List Bit) → AreInputs old inputs → HasBits old signals (record { index = yes_arm; sort = s }) → c ≡ bits_at signals condition → a ≡ bits_at signals yes_arm → b ≡ bits_at signals no_arm → IsWord old new (length a) (λ v. cond (is_one (spelled v c)) (spelled v a) (spelled v b)) word → IsSignal old new inputs inputs signals (Choose s condition yes_arm no_arm) word
choice-of old new inputs signals s condition yes_arm no_arm c a b word h has is_c is_a is_b r =
    signal-of old new inputs signals (Choose s condition yes_arm no_arm) word (length a) _ h (ap length is_a ∙ has.width) r (λ v e values each.
    let t = truth-part v c (bits_at signals condition) (values condition).truth is_c each.0.is in
    let p : spelled v a ≡ amount s (values yes_arm) = ap (spelled v) is_a ∙ each.1.0.is in
    let q : spelled v b ≡ amount s (values no_arm) = ap (spelled v) is_b ∙ each.1.1.0.is in
    (λ i. cond (t i) (p i) (q i)) ∙ chosen-amount s (values condition).truth (values yes_arm) (values no_arm))
