-- What bytes are asked for.
use Rattle.std.proofs.Common.{◌≡◌, ◌<◌, ◌+◌, ◌*◌, ◌%◌, ◌^◌, ◌∷◌, [], ℕ, zero, suc, List, Some, Bool, true, false, arith, refl, sym, ap, subst, ◌∙◌, cond}
use Rattle.std.specs.Prelude.{slice_get, nat_lt}
use Rattle.std.specs.Option.{option_map}
use Rattle.std.proofs.lemmas.Bool.Decides.{nat_tests}
use Rattle.plain_data.specs.Words.{bits}
use Rattle.plain_data.specs.declared.width.Width.{Width}
use Rattle.plain_data.specs.declared.width.Width.TheVariants.{W8, W16, W32, W64}
use Rattle.c_store.specs.Store.{Store, byte_of, spelt, initial}
use Rattle.c_store.specs.declared.object.ObjectKind.{ObjectKind}
use Rattle.term_bank.specs.Memories.{octets, behind, distance, is_within, lay, write, zero_range, copy_range, read}
use Rattle.term_bank.specs.declared.sort.Sort.{Sort}
use Rattle.term_bank.specs.declared.sort.Sort.TheVariants.{Truth, Word, Memory}
use Rattle.term_bank.specs.declared.sort.Node.{Node}
use Rattle.term_bank.specs.declared.shape.Shape.{Shape}
use Rattle.term_bank.specs.declared.shape.Shape.TheVariants.{Flag, Constant, Parameter, Base, Entry, Initial, WorldWord, InitialByte, Binary, Test, Convert, Not, Connect, Choose, Write, ZeroRange, CopyRange, Made, Ended, Read, ObjectSize, IsLive, HasKind, NoEvents, BranchEvent, CallEvent, PrintEvent, EventsBehind, NoNumbers, NumberBehind}
use Rattle.term_bank.specs.Shapes.{Each, IsNode, IsWell, memory, word, parts, sort_of}
use Rattle.term_bank.specs.Values.{Environment, Worth, Values, Models, Grows, IsWorth, worth, of_truth, of_word}
use Rattle.term_bank.specs.Terms.{IsTerm}
use Rattle.term_bank.specs.Under.{IsOver, IsOnly}
use Rattle.term_bank.proofs.OverLemmas.{only_below}
use Rattle.term_bank.specs.Values.{result_of, converted}
use Rattle.flat_reads.specs.Parts.{octet_of}
use Rattle.term_bank.specs.Banks.{IsBank}
use Rattle.term_bank.proofs.Worth.{each}
use Rattle.term_bank.proofs.BankLemmas.{weaken, node_grown}
use Rattle.term_bank.proofs.BindingLemmas.{node_sorted}
use Rattle.term_bank.proofs.TermLemmas.{term_of, term_grown}
use Rattle.flat_reads.specs.declared.choices.Found.{Found}
use Rattle.flat_reads.specs.declared.choices.Found.TheVariants.{Known, Asked}
use Rattle.flat_reads.specs.declared.choices.Choice.{Choice}
use Rattle.flat_reads.specs.Flats.{IsHonest, IsFlatOver, HasWorth, is_flat}
use Rattle.flat_reads.specs.Choices.{rank, found_worth, IsFound, IsChoice, Leads, Asks, IsLaid}
use Rattle.flat_reads.proofs.FlatLemmas.{flat_grown, flat_through, flat_over, flat_second}

pub well_grown : (a b : List Shape) (s : Shape) → Grows a b → IsWell a s → IsWell b s
well_grown a b s g h = record { parts_stand = each (IsNode a) (IsNode b) (parts s) (λ p k. node_grown a b p g k) h.parts_stand; in_width = h.in_width }

pub found_grown : (a b : List Shape) (most : ℕ) (s : Sort) (ps : List Node) (found : Found) → Grows a b → IsFound a most s ps found → IsFound b most s ps found
found_grown a b most s ps (Known n) g h = record { term = term_grown a b s n g h.term; flat = flat_grown a b ps n.index g h.flat }
found_grown a b most s ps (Asked q) g h = record { well = well_grown a b q g h.well; asks = h.asks; sort = h.sort; less = h.less; flat = each (λ p. IsFlatOver a ps p.index) (λ p. IsFlatOver b ps p.index) (parts q) (λ p k. flat_grown a b ps p.index g k) h.flat }

-- ---- a byte of a memory in which something was laid

read_byte : (s : Store) (a : ℕ) → a < 2 ^ 64 → read 1 s a ≡ s.bytes a % 256
unfolding read behind
read_byte s a h = zero_more (s.bytes ((a + 0) % 2 ^ 64) % 256) ∙ ap (λ x. s.bytes x % 256) (place a h) where
  zero_more : (x : ℕ) → x + 256 * 0 ≡ x
  zero_more x = omega arith

  place : (a : ℕ) → a < 2 ^ 64 → (a + 0) % 2 ^ 64 ≡ a
  place a h = omega (arith, h)

laid_byte : (t n : ℕ) (f : ℕ → ℕ) (s : Store) (a : ℕ) → a < 2 ^ 64 → (lay t n f s).bytes a ≡ cond (nat_lt (distance t a) n) (f (distance t a)) (s.bytes a)
unfolding lay is_within
laid_byte t n f s a h = ap (λ b. cond (cond b (nat_lt (distance t a) n) false) (f (distance t a)) (s.bytes a)) (below a h) where
  below : (a : ℕ) → a < 2 ^ 64 → nat_lt a (2 ^ 64) ≡ true
  below a h = grind (arith, nat_tests)

pub read_laid : (t n : ℕ) (f : ℕ → ℕ) (s : Store) (a : ℕ) → a < 2 ^ 64 → read 1 (lay t n f s) a ≡ cond (nat_lt (distance t a) n) (f (distance t a) % 256) (read 1 s a)
read_laid t n f s a h = read_byte (lay t n f s) a h ∙ ap (λ x. x % 256) (laid_byte t n f s a h) ∙ through (nat_lt (distance t a) n) (f (distance t a)) (s.bytes a) ∙ ap (cond (nat_lt (distance t a) n) (f (distance t a) % 256)) (sym (read_byte s a h)) where
  through : (b : Bool) (x y : ℕ) → cond b x y % 256 ≡ cond b (x % 256) (y % 256)
  through true x y = refl
  through false x y = refl

-- ---- choices

chosen : (b : Bool) (x y z : ℕ) (one other : Worth) → z ≡ cond b x y → (b ≡ true → one ≡ of_word x) → other ≡ of_word y → of_word z ≡ cond b one other
chosen true x y z one other e h k = ap of_word e ∙ sym (h refl)
chosen false x y z one other e h k = ap of_word e ∙ sym k

pub choice_laid : (shapes : List Shape) (m a to old : ℕ) (n : Values → ℕ) (f : Values → ℕ → ℕ) (choice : Choice) → IsBank shapes → IsNode shapes (word W64 a) → IsLaid shapes m to old n f
    → IsTerm shapes Truth choice.condition → HasWorth shapes (λ v. of_truth (nat_lt (distance (v to).word (v a).word) (n v))) choice.condition → IsFlatOver shapes (parts (Read W8 m a)) choice.condition.index
    → IsFound shapes m (Word W8) (parts (Read W8 m a)) choice.yes → IsFound shapes m (Word W8) (parts (Read W8 m a)) choice.no
    → ((e : Environment) (v : Values) → IsHonest e → Models shapes e v → nat_lt (distance (v to).word (v a).word) (n v) ≡ true → found_worth e v choice.yes ≡ of_word (f v (distance (v to).word (v a).word) % 256))
    → ((e : Environment) (v : Values) → Models shapes e v → found_worth e v choice.no ≡ of_word (read 1 (v old).store (v a).word))
    → IsChoice shapes (Read W8 m a) choice
choice_laid shapes m a to old n f choice bank stands laid condition worth_is flat one other yes_is other_is = record {
  condition = condition;
  flat = flat;
  yes = one;
  no = other;
  value = λ e v honest k.
      let below = (node_sorted shapes e v (word W64 a) bank stands k).1 in
      let far = distance (v to).word (v a).word in
      chosen (nat_lt far (n v)) (f v far % 256) (read 1 (v old).store (v a).word) (read 1 (v m).store (v a).word) (found_worth e v choice.yes) (found_worth e v choice.no)
      (ap (λ s. read 1 s (v a).word) (laid.is e v k) ∙ read_laid (v to).word (n v) (f v) (v old).store (v a).word below)
      (yes_is e v honest k) (other_is e v k)
      ∙ ap (λ b. cond b (found_worth e v choice.yes) (found_worth e v choice.no)) (sym (ap (λ (y : Worth). y.truth) (worth_is.is e v honest k)));
}

pub laid_write : (shapes : List Shape) (m : ℕ) (w : Width) (old to x : ℕ) → slice_get shapes m ≡ Some (Write w old to x) → IsLaid shapes m to old (λ v. octets w) (λ v. byte_of (v x).word)
unfolding write
laid_write shapes m w old to x is = record { is = λ e v k. ap (λ (y : Worth). y.store) (k.has m (Write w old to x) is) }

pub laid_zero : (shapes : List Shape) (m old from n : ℕ) → slice_get shapes m ≡ Some (ZeroRange old from n) → IsLaid shapes m from old (λ v. (v n).word) (λ v _. 0)
unfolding zero_range
laid_zero shapes m old from n is = record { is = λ e v k. ap (λ (y : Worth). y.store) (k.has m (ZeroRange old from n) is) }

pub laid_copy : (shapes : List Shape) (m old to source from n : ℕ) → slice_get shapes m ≡ Some (CopyRange old to source from n) → IsLaid shapes m to old (λ v. (v n).word) (λ v i. (v source).store.bytes (behind (v from).word i))
unfolding copy_range
laid_copy shapes m old to source from n is = record { is = λ e v k. ap (λ (y : Worth). y.store) (k.has m (CopyRange old to source from n) is) }

-- ---- questions for bytes

pub asks_found : (shapes : List Shape) (m : ℕ) (a : Node) (found : Found) (most : ℕ) (ps : List Node) → Asks shapes m a found → IsNode shapes (word W64 a.index) → m < most → IsFlatOver shapes ps m → IsFlatOver shapes ps a.index → IsFound shapes most (Word W8) ps found
asks_found shapes m a found most ps h place less flat there = subst (λ f. IsFound shapes most (Word W8) ps f) (sym h.is) (record {
  well = record { parts_stand = (h.stands, (place, tt)); in_width = tt };
  asks = tt;
  sort = refl;
  less = omega (arith, h.most, less);
  flat = (record { flat = λ l g q x. h.under.under l g (is_flat q) (flat.flat l g q x) }, (there, tt));
})

pub asks_worth : (shapes : List Shape) (m : ℕ) (a : Node) (found : Found) → Asks shapes m a found → (e : Environment) (v : Values) → Models shapes e v → found_worth e v found ≡ of_word (read 1 (v m).store (v a.index).word)
asks_worth shapes m a found h e v k = ap (found_worth e v) h.is ∙ ap of_word (sym (h.alike.alike e v k))

-- ---- parts of a memory

pub picked : (shapes : List Shape) (m a : ℕ) (ps : List Node) → ((b : List Shape) → Grows shapes b → (q : Shape → Bool) → IsOnly (is_flat q) b m → Each (λ p. IsOnly (is_flat q) b p.index) ps) → Each (λ p. IsFlatOver shapes (memory m ∷ (word W64 a ∷ [])) p.index) ps
picked shapes m a [] f = tt
picked shapes m a (p ∷ ps) f = (record { flat = λ b g q x. (f b g q x.0).0 }, picked shapes m a ps (λ b g q h. (f b g q h).1))

pub parts_flat : (shapes : List Shape) (m a : ℕ) (s : Shape) → slice_get shapes m ≡ Some s → Each (λ p. IsFlatOver shapes (memory m ∷ (word W64 a ∷ [])) p.index) (parts s)
parts_flat shapes m a s is = picked shapes m a (parts s) (λ b g q h. (only_below (is_flat q) b m s (g.kept m s is) h).1)

pub inside_is : (shapes : List Shape) (a b c d : ℕ) (x : Worth) → x ≡ of_truth (nat_lt a c) → a ≡ b → c ≡ d → x ≡ of_truth (nat_lt b d)
inside_is shapes a b c d x h k l = h ∙ ap (λ y. of_truth (nat_lt y c)) k ∙ ap (λ y. of_truth (nat_lt b y)) l

-- ---- octets

below_none : (d : ℕ) → nat_lt (suc d) 1 ≡ true → ⊥
below_none d h = grind (arith, nat_tests)

pub octet_is : (w : Width) (x d : ℕ) → nat_lt d (octets w) ≡ true → x < 2 ^ bits w → octet_of w x d ≡ byte_of x d % 256
unfolding result_of converted
octet_is W8 x zero h k = omega (arith, k)
octet_is W8 x (suc d) h k = absurd (below_none d h)
octet_is W16 x zero h k = omega arith
octet_is W16 x (suc zero) h k = omega arith
octet_is W16 x (suc (suc d)) h k = absurd (grind (arith, nat_tests))
octet_is W32 x zero h k = omega arith
octet_is W32 x (suc zero) h k = omega arith
octet_is W32 x (suc (suc zero)) h k = omega arith
octet_is W32 x (suc (suc (suc zero))) h k = omega arith
octet_is W32 x (suc (suc (suc (suc d)))) h k = absurd (grind (arith, nat_tests))
octet_is W64 x zero h k = omega arith
octet_is W64 x (suc zero) h k = omega arith
octet_is W64 x (suc (suc zero)) h k = omega arith
octet_is W64 x (suc (suc (suc zero))) h k = omega arith
octet_is W64 x (suc (suc (suc (suc zero)))) h k = omega arith
octet_is W64 x (suc (suc (suc (suc (suc zero))))) h k = omega arith
octet_is W64 x (suc (suc (suc (suc (suc (suc zero)))))) h k = omega arith
octet_is W64 x (suc (suc (suc (suc (suc (suc (suc zero))))))) h k = omega arith
octet_is W64 x (suc (suc (suc (suc (suc (suc (suc (suc d)))))))) h k = absurd (grind (arith, nat_tests))

-- the byte that was written, by the octet's node
pub octet_worth : (w : Width) (x d far : ℕ) (byte : Worth) → byte ≡ of_word (octet_of w x far) → far ≡ d → nat_lt d (octets w) ≡ true → x < 2 ^ bits w → byte ≡ of_word (byte_of x d % 256)
octet_worth w x d far byte h same lt small = h ∙ ap (λ y. of_word (octet_of w x y)) same ∙ ap of_word (octet_is w x d lt small)

-- the byte of the source at the same distance
pub copied_worth : (s : Store) (from far d place : ℕ) → place ≡ behind from far → far ≡ d → place < 2 ^ 64 → of_word (read 1 s place) ≡ of_word (s.bytes (behind from d) % 256)
copied_worth s from far d place h same small = ap of_word (read_byte s place small ∙ ap (λ y. s.bytes y % 256) (h ∙ ap (behind from) same))

-- ---- what is certain

pub certain_choice : (old new : List Shape) (question : Shape) (found : Found) (condition : Node) → Leads old question found → Grows old new → IsNode new condition → condition.sort ≡ Truth → IsWorth new (Flag true) condition → IsOver new (Flag true) condition → IsChoice new question (record { condition = condition; yes = found; no = found })
certain_choice old new question found condition leads g is sort h over =
    let stands = found_grown old new (rank question) (sort_of question) (parts question) found g leads.found_stands in
    record {
      condition = term_of new Truth condition is sort;
      flat = flat_over new (parts question) (Flag true) condition over (record { plain = λ q. refl }) tt;
      yes = stands;
      no = stands;
      value = λ e v honest m. leads.value e v honest (weaken g m) ∙ either (v condition.index).truth (found_worth e v found);
    }
  where
    either : (c : Bool) (x : Worth) → x ≡ cond c x x
    either true x = refl
    either false x = refl

truth_is : (shapes : List Shape) (e : Environment) (v : Values) (n : ℕ) (b : Bool) → Models shapes e v → slice_get shapes n ≡ Some (Flag b) → (v n).truth ≡ b
truth_is shapes e v n b m h = ap (λ (y : Worth). y.truth) (m.has n (Flag b) h)

known : (c b : Bool) (x y z : Worth) → c ≡ b → z ≡ cond c x y → z ≡ cond c (cond b x y) (cond b x y)
known true true x y z h k = k
known false false x y z h k = k
known true false x y z h k = absurd (cc)
known false true x y z h k = absurd (cc)

pub choice_yes : (shapes : List Shape) (question : Shape) (choice : Choice) → slice_get shapes choice.condition.index ≡ Some (Flag true) → IsChoice shapes question choice → IsChoice shapes question (record { condition = choice.condition; yes = choice.yes; no = choice.yes })
choice_yes shapes question choice is h = record { condition = h.condition; flat = h.flat; yes = h.yes; no = h.yes; value = λ e v honest m. known (v choice.condition.index).truth true (found_worth e v choice.yes) (found_worth e v choice.no) (worth e v question) (truth_is shapes e v choice.condition.index true m is) (h.value e v honest m) }

pub choice_no : (shapes : List Shape) (question : Shape) (choice : Choice) → slice_get shapes choice.condition.index ≡ Some (Flag false) → IsChoice shapes question choice → IsChoice shapes question (record { condition = choice.condition; yes = choice.no; no = choice.no })
choice_no shapes question choice is h = record { condition = h.condition; flat = h.flat; yes = h.no; no = h.no; value = λ e v honest m. known (v choice.condition.index).truth false (found_worth e v choice.yes) (found_worth e v choice.no) (worth e v question) (truth_is shapes e v choice.condition.index false m is) (h.value e v honest m) }

-- ---- the memories in which nothing is laid

same_bytes : (s t : Store) (a : ℕ) → s.bytes ≡ t.bytes → read 1 s a ≡ read 1 t a
unfolding read
same_bytes s t a h = ap (λ f. spelt 1 (λ i. f (behind a i)) 0) h

pub leads_made : (shapes : List Shape) (m a : ℕ) (k : ObjectKind) (old p z : ℕ) (found : Found) → IsBank shapes → slice_get shapes m ≡ Some (Made k old p z) → IsNode shapes (word W64 a) → Asks shapes old (word W64 a) found → Leads shapes (Read W8 m a) found
leads_made shapes m a k old p z found bank is place h = record {
  found_stands = asks_found shapes old (word W64 a) found m (memory m ∷ (word W64 a ∷ [])) h place (bank.well m (Made k old p z) is).each_part.0.before (parts_flat shapes m a (Made k old p z) is).0 (flat_second shapes (memory m) (word W64 a) []);
  value = λ e v honest t. ap (λ (y : Worth). of_word (read 1 y.store (v a).word)) (t.has m (Made k old p z) is) ∙ ap of_word (same_bytes _ (v old).store (v a).word refl) ∙ sym (asks_worth shapes old (word W64 a) found h e v t);
}

pub leads_ended : (shapes : List Shape) (m a old p : ℕ) (found : Found) → IsBank shapes → slice_get shapes m ≡ Some (Ended old p) → IsNode shapes (word W64 a) → Asks shapes old (word W64 a) found → Leads shapes (Read W8 m a) found
leads_ended shapes m a old p found bank is place h = record {
  found_stands = asks_found shapes old (word W64 a) found m (memory m ∷ (word W64 a ∷ [])) h place (bank.well m (Ended old p) is).each_part.0.before (parts_flat shapes m a (Ended old p) is).0 (flat_second shapes (memory m) (word W64 a) []);
  value = λ e v honest t. ap (λ (y : Worth). of_word (read 1 y.store (v a).word)) (t.has m (Ended old p) is) ∙ ap of_word (same_bytes _ (v old).store (v a).word refl) ∙ sym (asks_worth shapes old (word W64 a) found h e v t);
}

pub leads_initial : (old shapes : List Shape) (m a : ℕ) (byte : Node) → Grows old shapes → IsBank old → slice_get old m ≡ Some Initial → IsNode old (word W64 a) → IsTerm shapes (Word W8) byte → IsFlatOver shapes (word W64 a ∷ []) byte.index → IsWorth shapes (InitialByte a a) byte → Leads shapes (Read W8 m a) (Known byte)
leads_initial old shapes m a byte g bank is place term flat h = record {
  found_stands = record { term = term; flat = flat_through shapes (memory m ∷ (word W64 a ∷ [])) (word W64 a ∷ []) byte.index flat (flat_second shapes (memory m) (word W64 a) [], tt) };
  value = λ e v honest t.
      let below = (node_sorted old e v (word W64 a) bank place (weaken g t)).1 in
      ap (λ (y : Worth). of_word (read 1 y.store (v a).word)) (t.has m Initial (g.kept m Initial is)) ∙ ap of_word (read_byte (initial e.bytes) (v a).word below) ∙ ap (λ x. of_word (x % 256)) (sym (honest.same a (v a).word)) ∙ sym (h.is e v t);
}

-- of the shapes of a memory, the one that is left
pub entry_left : (s : Shape) → sort_of s ≡ Memory → ((w : Width) (m a x : ℕ) → s ≡ Write w m a x → ⊥) → ((m a n : ℕ) → s ≡ ZeroRange m a n → ⊥) → ((m to x a n : ℕ) → s ≡ CopyRange m to x a n → ⊥) → ((t : Sort) (c x y : ℕ) → s ≡ Choose t c x y → ⊥) → ((k : ObjectKind) (m p n : ℕ) → s ≡ Made k m p n → ⊥) → ((m p : ℕ) → s ≡ Ended m p → ⊥) → (s ≡ Initial → ⊥) → s ≡ Entry
entry_left (Flag b) h a1 a2 a3 a4 a5 a6 a7 = absurd (cc)
entry_left (Constant x w) h a1 a2 a3 a4 a5 a6 a7 = absurd (cc)
entry_left (Parameter k w) h a1 a2 a3 a4 a5 a6 a7 = absurd (cc)
entry_left Base h a1 a2 a3 a4 a5 a6 a7 = absurd (cc)
entry_left Entry h a1 a2 a3 a4 a5 a6 a7 = refl
entry_left Initial h a1 a2 a3 a4 a5 a6 a7 = absurd (a7 refl)
entry_left (WorldWord w p) h a1 a2 a3 a4 a5 a6 a7 = absurd (cc)
entry_left (InitialByte r a) h a1 a2 a3 a4 a5 a6 a7 = absurd (cc)
entry_left (Binary op w x y) h a1 a2 a3 a4 a5 a6 a7 = absurd (cc)
entry_left (Test t w x y) h a1 a2 a3 a4 a5 a6 a7 = absurd (cc)
entry_left (Convert x from to a) h a1 a2 a3 a4 a5 a6 a7 = absurd (cc)
entry_left (Not a) h a1 a2 a3 a4 a5 a6 a7 = absurd (cc)
entry_left (Connect c a b) h a1 a2 a3 a4 a5 a6 a7 = absurd (cc)
entry_left (Choose s c a b) h a1 a2 a3 a4 a5 a6 a7 = absurd (a4 s c a b refl)
entry_left (Write w m a x) h a1 a2 a3 a4 a5 a6 a7 = absurd (a1 w m a x refl)
entry_left (ZeroRange m a n) h a1 a2 a3 a4 a5 a6 a7 = absurd (a2 m a n refl)
entry_left (CopyRange m to source from n) h a1 a2 a3 a4 a5 a6 a7 = absurd (a3 m to source from n refl)
entry_left (Made k m p n) h a1 a2 a3 a4 a5 a6 a7 = absurd (a5 k m p n refl)
entry_left (Ended m p) h a1 a2 a3 a4 a5 a6 a7 = absurd (a6 m p refl)
entry_left (Read w m a) h a1 a2 a3 a4 a5 a6 a7 = absurd (cc)
entry_left (ObjectSize m p) h a1 a2 a3 a4 a5 a6 a7 = absurd (cc)
entry_left (IsLive m a n) h a1 a2 a3 a4 a5 a6 a7 = absurd (cc)
entry_left (HasKind k m p) h a1 a2 a3 a4 a5 a6 a7 = absurd (cc)
entry_left NoEvents h a1 a2 a3 a4 a5 a6 a7 = absurd (cc)
entry_left (BranchEvent xs n at side) h a1 a2 a3 a4 a5 a6 a7 = absurd (cc)
entry_left (CallEvent xs n at) h a1 a2 a3 a4 a5 a6 a7 = absurd (cc)
entry_left (PrintEvent xs n at length seen) h a1 a2 a3 a4 a5 a6 a7 = absurd (cc)
entry_left (EventsBehind xs ys) h a1 a2 a3 a4 a5 a6 a7 = absurd (cc)
entry_left NoNumbers h a1 a2 a3 a4 a5 a6 a7 = absurd (cc)
entry_left (NumberBehind xs w s x) h a1 a2 a3 a4 a5 a6 a7 = absurd (cc)

-- a read of the entry memory is left
pub leads_entry : (old shapes : List Shape) (m a : ℕ) (byte : Node) → Grows old shapes → slice_get old m ≡ Some Entry → IsNode shapes byte → byte.sort ≡ Word W8 → IsWorth shapes (Read W8 m a) byte → IsOver shapes (Read W8 m a) byte → Leads shapes (Read W8 m a) (Known byte)
leads_entry old shapes m a byte g is stands sort h over = record {
  found_stands = record {
    term = term_of shapes (Word W8) byte stands sort;
    flat = record { flat = λ l k q x. over.under l k (is_flat q) (λ b. refl) (λ y w. refl) (only_below (is_flat q) l m Entry (k.kept m Entry (g.kept m Entry is)) x.0).0 x };
  };
  value = λ e v honest t. sym (h.is e v t);
}

pub choice_chosen : (shapes : List Shape) (m a : ℕ) (s : Sort) (c x y : ℕ) (yes_found no_found : Found) → IsBank shapes → slice_get shapes m ≡ Some (Choose s c x y) → sort_of (Choose s c x y) ≡ Memory → IsNode shapes (word W64 a) → Asks shapes x (word W64 a) yes_found → Asks shapes y (word W64 a) no_found → IsChoice shapes (Read W8 m a) (record { condition = record { index = c; sort = Truth }; yes = yes_found; no = no_found })
choice_chosen shapes m a s c x y yes_found no_found bank is sort place one other =
    let below = (bank.well m (Choose s c x y) is).each_part in
    let flats = parts_flat shapes m a (Choose s c x y) is in
    let there = flat_second shapes (memory m) (word W64 a) [] in
    record {
      condition = record { stands = below.0.stands.sorted; same = refl };
      flat = flats.0;
      yes = asks_found shapes x (word W64 a) yes_found m (memory m ∷ (word W64 a ∷ [])) one place below.1.0.before flats.1.0 there;
      no = asks_found shapes y (word W64 a) no_found m (memory m ∷ (word W64 a ∷ [])) other place below.1.1.0.before flats.1.1.0 there;
      value = λ e v honest t. ap (λ (z : Worth). of_word (read 1 z.store (v a).word)) (t.has m (Choose s c x y) is) ∙ through (v c).truth (v x) (v y) (v a).word
          ∙ ap (λ z. cond (v c).truth z (of_word (read 1 (v y).store (v a).word))) (sym (asks_worth shapes x (word W64 a) yes_found one e v t)) ∙ ap (λ z. cond (v c).truth (found_worth e v yes_found) z) (sym (asks_worth shapes y (word W64 a) no_found other e v t));
    }
  where
    through : (b : Bool) (p r : Worth) (d : ℕ) → of_word (read 1 (cond b p r).store d) ≡ cond b (of_word (read 1 p.store d)) (of_word (read 1 r.store d))
    through true p r d = refl
    through false p r d = refl

pub sort_memory : (shapes : List Shape) (m : ℕ) (s : Shape) → IsNode shapes (memory m) → slice_get shapes m ≡ Some s → sort_of s ≡ Memory
sort_memory shapes m s node is = let both : Some (sort_of s) ≡ Some Memory = sym (ap (option_map sort_of) is) ∙ node.sorted in cc

-- both arms of a chosen memory are memories
pub arms : (shapes : List Shape) (m : ℕ) (s : Sort) (c x y : ℕ) → IsBank shapes → IsNode shapes (memory m) → slice_get shapes m ≡ Some (Choose s c x y) → IsNode shapes (memory x) × IsNode shapes (memory y)
arms shapes m s c x y bank node is =
    let below = (bank.well m (Choose s c x y) is).each_part in
    let same : s ≡ Memory = sort_memory shapes m (Choose s c x y) node is in
    (subst (λ t. IsNode shapes (record { index = x; sort = t })) same below.1.0.stands, subst (λ t. IsNode shapes (record { index = y; sort = t })) same below.1.1.0.stands)

pub memory_is : (shapes : List Shape) (m : ℕ) (s t : Shape) → slice_get shapes m ≡ Some s → s ≡ t → slice_get shapes m ≡ Some t
memory_is shapes m s t is same = is ∙ ap (λ u. Some u) same
