-- The walk over the nodes under roots.
use Rattle.std.proofs.Common.{◌≡◌, ◌++◌, ◌∷◌, [], ℕ, List, Bool, true, false, cond, refl, sym, ap, subst, ◌∙◌, length, Option, Some, None}
use Rattle.std.specs.Map.{lookup}
use Rattle.std.specs.Prelude.{nat_eq, slice_get, unwrap_or}
use Rattle.std.specs.Option.{option_map}
use Rattle.std.specs.HashMap.{get}
use Rattle.std.proofs.lemmas.Bool.{eqb-true, eq-eqb}
use Rattle.cnf_core.specs.Truth.{Valuation}
use Rattle.gates.specs.declared.bit.Bit.{Bit}
use Rattle.gates.specs.Nets.{Net, IsModel}
use Rattle.word_gates.specs.Spelling.{AreBits, spelled}
use Rattle.word_gates.proofs.WordLemmas.{bits-grown}
use Rattle.term_bank.specs.declared.sort.Sort.{Sort}
use Rattle.term_bank.specs.declared.sort.Node.{Node}
use Rattle.term_bank.specs.declared.shape.Shape.{Shape}
use Rattle.term_bank.specs.Banks.{IsBank, IsPart}
use Rattle.term_bank.specs.Shapes.{Each, IsInWidth, IsNode, parts, sort_at, sort_of}
use Rattle.term_bank.specs.Under.{Among, IsCut, IsOnly}
use Rattle.term_bank.specs.Values.{Environment, Grows, Models, Values}
use Rattle.term_bank.proofs.BankLemmas.{stays, weaken}
use Rattle.term_bank.proofs.OverLemmas.{only_below}
use Rattle.term_bank.proofs.TermLemmas.{term_grown}
use Rattle.term_bank.proofs.UnderLemmas.{among_front, among_last}
use Rattle.flat_reads.specs.Flats.{IsHonest}
use Rattle.bitvectors.specs.declared.inputs.Inputs.{Inputs}
use Rattle.bitvectors.specs.Amounts.{Signals, amount, bits_at, size}
use Rattle.bitvectors.specs.Signals.{AreInputs, AreKnown, AreOf, Extends, HasBits, IsSignal, IsSignalled, IsSpelled, IsWordOf, Puts, Spells, is_plain}
use Rattle.bitvectors.proofs.SignalLemmas.{steps-none}

-- ---- parts that have bits

bits-found : (signals : Signals) (n : ℕ) (word : List Bit) → get nat_eq signals n ≡ Some word → bits_at signals n ≡ word
bits-found signals n word e = ap (λ o. unwrap_or o []) e

same-sort : (s t : Sort) → Some s ≡ Some t → s ≡ t
same-sort s t e = cc

part-has : (shapes : List Shape) (net : Net) (inputs : Inputs) (signals : Signals) (part : Node) → IsNode shapes part → IsSignalled shapes net inputs signals part.index → HasBits net signals part
part-has shapes net inputs signals part stands h =
    let e = bits-found signals part.index h.word h.found in
    let s = same-sort h.is.sort part.sort (sym h.is.sorted ∙ stands.sorted) in
    record { width = ap length e ∙ h.is.width ∙ ap size s; stand = subst (AreBits net) (sym e) h.is.stands }

pub part-spelled : (shapes : List Shape) (net : Net) (inputs : Inputs) (signals : Signals) (part : Node) (v : Valuation) (e : Environment) (values : Values) → IsNode shapes part → IsModel net v → AreOf v inputs e → IsHonest e → Models shapes e values → IsSignalled shapes net inputs signals part.index → IsSpelled v values signals part
part-spelled shapes net inputs signals part v e values stands m k honest models h =
    let found = bits-found signals part.index h.word h.found in
    let s = same-sort h.is.sort part.sort (sym h.is.sorted ∙ stands.sorted) in
    record { is = ap (spelled v) found ∙ h.is.means v e values m k honest models ∙ ap (λ t. amount t (values part.index)) s }

both : (P Q R : Node → Type 0) (ns : List Node) → ((n : Node) → P n → Q n → R n) → Each P ns → Each Q ns → Each R ns
both P Q R [] f p q = tt
both P Q R (n ∷ ns) f p q = (f n p.0 q.0, both P Q R ns f p.1 q.1)

pub parts-have : (shapes : List Shape) (net : Net) (inputs : Inputs) (signals : Signals) (k : ℕ) (shape : Shape) → IsBank shapes → slice_get shapes k ≡ Some shape → Each (λ p. IsSignalled shapes net inputs signals p.index) (parts shape) → Each (HasBits net signals) (parts shape)
parts-have shapes net inputs signals k shape bank is h = both (IsPart shapes k) (λ p. IsSignalled shapes net inputs signals p.index) (HasBits net signals) (parts shape) (λ p a b. part-has shapes net inputs signals p a.stands b) (bank.well k shape is).each_part h

parts-spelled : (shapes : List Shape) (net : Net) (inputs : Inputs) (signals : Signals) (k : ℕ) (shape : Shape) (v : Valuation) (e : Environment) (values : Values) → IsBank shapes → slice_get shapes k ≡ Some shape → IsModel net v → AreOf v inputs e → IsHonest e → Models shapes e values → Each (λ p. IsSignalled shapes net inputs signals p.index) (parts shape) → Each (IsSpelled v values signals) (parts shape)
parts-spelled shapes net inputs signals k shape v e values bank is m o honest models h = both (IsPart shapes k) (λ p. IsSignalled shapes net inputs signals p.index) (IsSpelled v values signals) (parts shape) (λ p a b. part-spelled shapes net inputs signals p v e values a.stands m o honest models b) (bank.well k shape is).each_part h

pub in-width : (shapes : List Shape) (k : ℕ) (shape : Shape) → IsBank shapes → slice_get shapes k ≡ Some shape → IsInWidth shape
in-width shapes k shape bank is = (bank.well k shape is).in_width

-- ---- one more node

-- by new clauses, over the bits of its parts
pub spelled-anew : (shapes : List Shape) (old new : Net) (before after : Inputs) (signals : Signals) (k : ℕ) (shape : Shape) (word : List Bit) → IsBank shapes → slice_get shapes k ≡ Some shape → Each (λ p. IsSignalled shapes old before signals p.index) (parts shape) → IsSignal old new before after signals shape word → Spells shapes old new before after k word
spelled-anew shapes old new before after signals k shape word bank is h s = record {
  steps = s.steps;
  is = record {
    sort = sort_of shape;
    sorted = ap (option_map sort_of) is;
    width = s.width;
    stands = s.stands;
    means = λ v e values m o honest models. s.means v e values m o honest (parts-spelled shapes old before signals k shape v e values bank is (s.steps.grows.keeps v m) (s.steps.kept v e o) honest models h) ∙ ap (amount (sort_of shape)) (sym (models.has k shape is));
  };
}

-- by bits that it has already
pub spelled-known : (shapes : List Shape) (net : Net) (inputs : Inputs) (known : Signals) (k : ℕ) (found word : List Bit) → AreInputs net inputs → AreKnown shapes net inputs known → get nat_eq known k ≡ Some found → word ≡ found → Spells shapes net net inputs inputs k word
spelled-known shapes net inputs known k found word stand h is same =
    record { steps = steps-none net inputs stand; is = subst (IsWordOf shapes net inputs k) (sym same) (h.are k found is) }

word-grown : (shapes : List Shape) (old new : Net) (before after : Inputs) (k : ℕ) (word : List Bit) → Extends old new before after → IsWordOf shapes old before k word → IsWordOf shapes new after k word
word-grown shapes old new before after k word s h = record {
  sort = h.sort;
  sorted = h.sorted;
  width = h.width;
  stands = bits-grown old new word s.grows h.stands;
  means = λ v e values m o honest models. h.means v e values (s.grows.keeps v m) (s.kept v e o) honest models;
}

pub known-grown : (shapes : List Shape) (old new : Net) (before after : Inputs) (known : Signals) → Extends old new before after → AreKnown shapes old before known → AreKnown shapes new after known
known-grown shapes old new before after known s h = record { are = λ n word is. word-grown shapes old new before after n word s (h.are n word is) }

pub signalled-here : (shapes : List Shape) (net : Net) (inputs : Inputs) (signals next : Signals) (k : ℕ) (word : List Bit) → IsWordOf shapes net inputs k word → Puts signals next k word → IsSignalled shapes net inputs next k
signalled-here shapes net inputs signals next k word is puts =
    record { word = word; found = puts k ∙ ap (λ b. cond b (Some word) (get nat_eq signals k)) (eq-eqb k k refl); is = is }

pub signalled-more : (shapes : List Shape) (old new : Net) (before after : Inputs) (signals next : Signals) (k : ℕ) (word : List Bit) → Extends old new before after → Puts signals next k word → IsSignalled shapes new after next k → (q : ℕ) → IsSignalled shapes old before signals q → IsSignalled shapes new after next q
signalled-more shapes old new before after signals next k word s puts here q h = split (nat_eq k q) refl
  where
    split : (b : Bool) → nat_eq k q ≡ b → IsSignalled shapes new after next q
    split true is = subst (IsSignalled shapes new after next) (eqb-true k q is) here
    split false is = record {
      word = h.word;
      found = puts q ∙ ap (λ b. cond b (Some word) (get nat_eq signals q)) is ∙ h.found;
      is = word-grown shapes old new before after q h.word s h.is;
    }

pub known-none : (shapes : List Shape) (net : Net) (inputs : Inputs) (signals : Signals) → signals.entries ≡ [] → AreKnown shapes net inputs signals
known-none shapes net inputs signals none = record {
  are = λ n word is. let wrong : ◌≡◌ {A = Option (List Bit)} None (Some word) = sym (ap (λ es. lookup (nat_eq n) es) none) ∙ is in absurd (cc);
}

pub known-more : (shapes : List Shape) (old new : Net) (before after : Inputs) (signals next : Signals) (k : ℕ) (word : List Bit) → Extends old new before after → Puts signals next k word → IsWordOf shapes new after k word → AreKnown shapes old before signals → AreKnown shapes new after next
known-more shapes old new before after signals next k word s puts here h = record { are = λ n found is. split n found is (nat_eq k n) refl }
  where
    one : {x y : List Bit} → Some x ≡ Some y → x ≡ y
    one e = cc

    split : (n : ℕ) (found : List Bit) → get nat_eq next n ≡ Some found → (b : Bool) → nat_eq k n ≡ b → IsWordOf shapes new after n found
    split n found is true e =
        let same : word ≡ found = one (sym (ap (λ b. cond b (Some word) (get nat_eq signals n)) e) ∙ sym (puts n) ∙ is) in
        subst (λ w. IsWordOf shapes new after n w) same (subst (λ q. IsWordOf shapes new after q word) (eqb-true k n e) here)
    split n found is false e =
        word-grown shapes old new before after n found s
        (h.are n found (sym (ap (λ b. cond b (Some word) (get nat_eq signals n)) e) ∙ sym (puts n) ∙ is))

sort_grown : (a b : List Shape) (n : ℕ) (s : Sort) → Grows a b → sort_at a n ≡ Some s → sort_at b n ≡ Some s
sort_grown a b n s g h = (term_grown a b s (record { index = n; sort = s }) g (record { stands = h; same = refl })).stands

-- what is known stays so as the bank grows
pub known-later : (a b : List Shape) (net : Net) (inputs : Inputs) (signals : Signals) → Grows a b → AreKnown a net inputs signals → AreKnown b net inputs signals
known-later a b net inputs signals g h = record {
  are = λ n word is.
      let k = h.are n word is in
      record {
        sort = k.sort;
        sorted = sort_grown a b n k.sort g k.sorted;
        width = k.width;
        stands = k.stands;
        means = λ v e values m o honest models. k.means v e values m o honest (weaken g models);
      };
}

-- ---- plain shapes alone

pub all-plain : (shapes : List Shape) (roots : List Node) (numbers : List ℕ) → IsCut shapes roots numbers → Each (λ r. IsOnly is_plain shapes r.index) roots → (n : ℕ) → Among n numbers → IsOnly is_plain shapes n
all-plain shapes roots numbers cut plain n m = (cut.only n m).below shapes stays is_plain plain

pub plain-here : (shapes : List Shape) (k : ℕ) (shape : Shape) → slice_get shapes k ≡ Some shape → IsOnly is_plain shapes k → is_plain shape ≡ true
plain-here shapes k shape is h = (only_below is_plain shapes k shape is h).0

pub plain-less : (shapes : List Shape) (numbers left : List ℕ) (k : ℕ) → numbers ≡ left ++ k ∷ [] → ((n : ℕ) → Among n numbers → IsOnly is_plain shapes n) → (n : ℕ) → Among n left → IsOnly is_plain shapes n
plain-less shapes numbers left k e h n m = h n (subst (Among n) (sym e) (among_front n left (k ∷ []) m))

pub plain-last : (shapes : List Shape) (numbers left : List ℕ) (k : ℕ) → numbers ≡ left ++ k ∷ [] → ((n : ℕ) → Among n numbers → IsOnly is_plain shapes n) → IsOnly is_plain shapes k
plain-last shapes numbers left k e h = h k (subst (Among k) (sym e) (among_last left k))
