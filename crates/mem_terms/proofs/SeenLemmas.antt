-- Changes of a memory that don't reach what is read.
use Rattle.std.proofs.Common.{◌≡◌, ◌<◌, ◌^◌, ℕ, List, Some, arith, refl, sym, ap, subst, ◌∙◌}
use Rattle.std.specs.Prelude.{slice_get, Result, Ok, Err, IfOk}
use Rattle.term_bank.specs.declared.bank.BankFault.{BankFault}
use Rattle.term_bank.specs.Terms.{Makes}
use Rattle.plain_data.specs.declared.width.Width.{Width}
use Rattle.plain_data.specs.declared.width.Width.TheVariants.{W8, W16, W32, W64}
use Rattle.c_store.specs.declared.object.ObjectKind.{ObjectKind}
use Rattle.c_store.specs.Store.{Store, byte_of, spelt}
use Rattle.term_bank.specs.declared.sort.Sort.TheVariants.{Word}
use Rattle.term_bank.specs.declared.sort.Node.{Node}
use Rattle.term_bank.specs.declared.shape.Shape.{Shape}
use Rattle.term_bank.specs.declared.shape.Shape.TheVariants.{Constant, Write, Made, Ended, Read}
use Rattle.term_bank.specs.Memories.{octets, read, write, behind}
use Rattle.term_bank.specs.Shapes.{IsNode, word}
use Rattle.term_bank.specs.Values.{Environment, Worth, Values, Models, Grows, IsWorth, of_word}
use Rattle.term_bank.specs.Banks.{IsBank}
use Rattle.term_bank.specs.Folds.{IsConstant}
use Rattle.term_bank.proofs.BankLemmas.{weaken, stays}
use Rattle.term_bank.proofs.BindingLemmas.{node_sorted}
use Rattle.term_bank.specs.Under.{IsUnder}
use Rattle.term_bank.proofs.OverLemmas.{only_below}
use Rattle.plain_data.specs.Words.{bits}
use Rattle.mem_terms.specs.Reads.{IsApart, AreApart, ReadsAlike, IsBefore}
use Rattle.mem_terms.proofs.Space.{read_apart, read_written}

word_is : (shapes : List Shape) (e : Environment) (v : Values) (n : ℕ) (w : Width) (x : ℕ) → Models shapes e v → IsConstant shapes n w x → (v n).word ≡ x
word_is shapes e v n w x m h = ap (λ (y : Worth). y.word) (m.has n (Constant x w) h.is)

pub constants_apart : (shapes : List Shape) (from n other m a b : ℕ) → IsConstant shapes from W64 a → IsConstant shapes other W64 b → IsApart a n b m → AreApart shapes from n other m
constants_apart shapes from n other m a b h k apart = record {
  are = λ e v model. subst (λ y. IsApart (v from).word n y m) (sym (word_is shapes e v other W64 b model k)) (subst (λ x. IsApart x n b m) (sym (word_is shapes e v from W64 a model h)) apart);
}

written_apart : (k m a b x : ℕ) (s : Store) → IsApart a k b m → read m (write k a x s) b ≡ read m s b
unfolding write
written_apart k m a b x s h = read_apart m b k a (byte_of x) s h.first h.second h.beside

pub before_write : (shapes : List Shape) (n : ℕ) (address : Node) (now : ℕ) (w : Width) (old to x : ℕ) → IsBank shapes → slice_get shapes now ≡ Some (Write w old to x) → AreApart shapes to (octets w) address.index n → IsBefore shapes n address now old
before_write shapes n address now w old to x bank is apart =
    let parts = (bank.well now (Write w old to x) is).each_part in
    record {
      under = record { under = λ b g q h. (only_below q b now (Write w old to x) (g.kept now (Write w old to x) is) h).1.0 };
      smaller = parts.0.before;
      stands = parts.0.stands;
      alike = record {
        alike = λ e v m. ap (λ (y : Worth). read n y.store (v address.index).word) (m.has now (Write w old to x) is)
            ∙ written_apart (octets w) n (v to).word (v address.index).word (v x).word (v old).store (apart.are e v m);
      };
    }

same_bytes : (n : ℕ) (s t : Store) (a : ℕ) → s.bytes ≡ t.bytes → read n s a ≡ read n t a
unfolding read
same_bytes n s t a h = ap (λ f. spelt n (λ i. f (behind a i)) 0) h

pub before_made : (shapes : List Shape) (n : ℕ) (address : Node) (now : ℕ) (k : ObjectKind) (old p z : ℕ) → IsBank shapes → slice_get shapes now ≡ Some (Made k old p z) → IsBefore shapes n address now old
before_made shapes n address now k old p z bank is =
    let parts = (bank.well now (Made k old p z) is).each_part in
    record {
      under = record { under = λ b g q h. (only_below q b now (Made k old p z) (g.kept now (Made k old p z) is) h).1.0 };
      smaller = parts.0.before;
      stands = parts.0.stands;
      alike = record { alike = λ e v m. ap (λ (y : Worth). read n y.store (v address.index).word) (m.has now (Made k old p z) is) ∙ same_bytes n _ (v old).store (v address.index).word refl };
    }

pub before_ended : (shapes : List Shape) (n : ℕ) (address : Node) (now old p : ℕ) → IsBank shapes → slice_get shapes now ≡ Some (Ended old p) → IsBefore shapes n address now old
before_ended shapes n address now old p bank is =
    let parts = (bank.well now (Ended old p) is).each_part in
    record {
      under = record { under = λ b g q h. (only_below q b now (Ended old p) (g.kept now (Ended old p) is) h).1.0 };
      smaller = parts.0.before;
      stands = parts.0.stands;
      alike = record { alike = λ e v m. ap (λ (y : Worth). read n y.store (v address.index).word) (m.has now (Ended old p) is) ∙ same_bytes n _ (v old).store (v address.index).word refl };
    }

pub alike_on : (shapes : List Shape) (n : ℕ) (address : Node) (a b c : ℕ) → ReadsAlike shapes n address a b → ReadsAlike shapes n address b c → ReadsAlike shapes n address a c
alike_on shapes n address a b c h k = record { alike = λ e v m. h.alike e v m ∙ k.alike e v m }

pub under_itself : (shapes : List Shape) (n : ℕ) → IsUnder shapes n n
under_itself shapes n = record { under = λ b g q h. h }

pub under_on : (shapes : List Shape) (a b c : ℕ) → IsUnder shapes a b → IsUnder shapes b c → IsUnder shapes a c
under_on shapes a b c h k = record { under = λ l g q x. k.under l g q (h.under l g q x) }

-- ---- the word that was written last

read_word : (w : Width) (a x : ℕ) (s : Store) → a < 2 ^ 64 → x < 2 ^ bits w → read (octets w) (write (octets w) a x s) a ≡ x
read_word W8 a x s h k = read_written 1 a x s h (omega arith) k
read_word W16 a x s h k = read_written 2 a x s h (omega arith) k
read_word W32 a x s h k = read_written 4 a x s h (omega arith) k
read_word W64 a x s h k = read_written 8 a x s h (omega arith) k

pub last_written : (shapes : List Shape) (w : Width) (a : ℕ) (address : Node) (seen now x : ℕ) → IsBank shapes → ReadsAlike shapes (octets w) address now seen → (old : ℕ) → slice_get shapes seen ≡ Some (Write w old a x) → a ≡ address.index → IsWorth shapes (Read w now address.index) (record { index = x; sort = Word w })
last_written shapes w a address seen now x bank alike old is same = record {
  is = λ e v m.
      let parts = (bank.well seen (Write w old a x) is).each_part in
      let to = node_sorted shapes e v (record { index = a; sort = Word W64 }) bank parts.1.0.stands m in
      let value = node_sorted shapes e v (record { index = x; sort = Word w }) bank parts.1.1.0.stands m in
      let found : read (octets w) (v seen).store (v a).word ≡ (v x).word =
      ap (λ (y : Worth). read (octets w) y.store (v a).word) (m.has seen (Write w old a x) is) ∙ read_word w (v a).word (v x).word (v old).store to.1 value.1 in
      value.0 ∙ ap of_word (sym found ∙ ap (λ i. read (octets w) (v seen).store (v i).word) same ∙ sym (alike.alike e v m));
}

pub read_alike : (shapes new : List Shape) (w : Width) (address : Node) (now seen : ℕ) (node : Node) → Grows shapes new → ReadsAlike shapes (octets w) address now seen → IsWorth new (Read w seen address.index) node → IsWorth new (Read w now address.index) node
read_alike shapes new w address now seen node g alike h = record { is = λ e v m. h.is e v m ∙ ap of_word (sym (alike.alike e v (weaken g m))) }

pub written_at : (shapes : List Shape) (now : ℕ) (w : Width) (old to x : ℕ) → IsBank shapes → slice_get shapes now ≡ Some (Write w old to x) → IsNode shapes (word W64 to)
written_at shapes now w old to x bank is = (bank.well now (Write w old to x) is).each_part.1.0.stands

pub read_mapped : (shapes new : List Shape) (w : Width) (address : Node) (now seen : ℕ) (r : Result Node BankFault) → Grows shapes new → ReadsAlike shapes (octets w) address now seen → IfOk r (IsWorth new (Read w seen address.index)) → IfOk r (IsWorth new (Read w now address.index))
read_mapped shapes new w address now seen (Ok n) g alike h = read_alike shapes new w address now seen n g alike h
read_mapped shapes new w address now seen (Err e) g alike h = tt

-- the answer where the word was written last
pub forwarded : (shapes : List Shape) (w written : Width) (to : ℕ) (address : Node) (seen now old x : ℕ) → IsBank shapes → ReadsAlike shapes (octets w) address now seen → slice_get shapes seen ≡ Some (Write written old to x) → written ≡ w → to ≡ address.index → Makes shapes shapes (Read w now address.index) (Ok (record { index = x; sort = Word w }))
forwarded shapes w written to address seen now old x bank alike is same place =
    let here : slice_get shapes seen ≡ Some (Write w old to x) = is ∙ ap (λ u. Some (Write u old to x)) same in
    record {
      node = record { stands = (bank.well seen (Write w old to x) here).each_part.1.1.0.stands.sorted; same = refl };
      value = last_written shapes w to address seen now x bank alike old here place;
      grows = stays;
      err = tt;
      bank = bank;
    }
