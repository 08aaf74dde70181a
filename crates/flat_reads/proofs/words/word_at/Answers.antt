use Rattle.std.proofs.lemmas.Result.{err_from_is_err_and}
use Rattle.std.proofs.Common.{◌≡◌, ◌-◌, ◌%◌, ◌∷◌, [], ℕ, suc, arith, ap, ◌∙◌}
use Rattle.plain_data.specs.declared.width.Width.TheVariants.{W8, W64}
use Rattle.c_store.specs.Store.{spelt}
use Rattle.term_bank.specs.declared.sort.Sort.TheVariants.{Word}
use Rattle.term_bank.specs.Memories.{behind, octets}
use Rattle.term_bank.specs.Shapes.{memory, word}
use Rattle.term_bank.specs.Values.{of_word}
use Rattle.term_bank.proofs.BankLemmas.{grows_on, node_grown}
use Rattle.term_bank.proofs.TermLemmas.{term_grown}
use Rattle.flat_reads.proofs.FlatLemmas.{flat_grown, flat_through, word_at}
use Rattle.flat_reads.proofs.AnswerLemmas.{answers_grown}
use Rattle.flat_reads.proofs.WordLemmas.{first_spelt, next_spelt, some_octets, read_spelt, first_less, next_less, joined_both, gives_failed}
use Rattle.flat_reads.proofs.words.word_at.Goals as goal

pub octets-init : goal.octets-init
octets-init c =
    let w = c.args.width in
    let m = c.args.memory in
    let a = c.args.address in
    let s1 = c.byte_at.new.bank in
    let s2 = c.widened.new.bank in
    let left = c.octets-left.result - 1 in
    let top = c.in_ok-top.top in
    let e1 = c.in_ok-top.ensures in
    let e2 = c.in_ok-word.ensures in
    let ps = memory m ∷ (word W64 a ∷ []) in
    let is : left ≡ octets w - 1 = ap (λ n. n - 1) c.octets-left.ensures in
    record {
      bank = e2.bank;
      grows = grows_on e1.byte.grows e2.grows;
      answers_are = answers_grown s1 s2 c.byte_at.new.answers e2.grows e1.answers;
      less = first_less (octets w) left (some_octets w) is;
      term = e2.node;
      value = record {
        is = λ e v honest k. e2.value.is e v honest k ∙ ap of_word (word_at s1 s2 (λ v. (v m).store.bytes (behind (v a).word left) % 256) top e1.byte.value e2.grows e v honest k
            ∙ first_spelt (octets w) left (λ i. (v m).store.bytes (behind (v a).word i)) (some_octets w) is);
      };
      flat = flat_through s2 ps (word W8 top.index ∷ []) c.in_ok-word.word.index e2.flat (flat_grown s1 s2 ps top.index e2.grows e1.byte.flat, tt);
    }

pub byte_at-requires-in-octets-clause-address : goal.byte_at-requires-in-octets-clause-address
byte_at-requires-in-octets-clause-address c = node_grown c.args.bank.now c.octets.bank (word W64 c.args.address) c.octets.invariant.grows c.requires.address

pub returns-in_err-byte-clause-word : goal.returns-in_err-byte-clause-word
returns-in_err-byte-clause-word c =
    let p = err_from_is_err_and c.from_residual-in_err-byte.result c.from_residual-in_err-byte.ensures.1 in
    gives_failed _ _ _ _ _ _ p.0 p.1 (grows_on c.octets.invariant.grows c.in_err-byte.ensures.byte.grows) c.in_err-byte.ensures.byte.bank

pub joined-requires-clause-high : goal.joined-requires-clause-high
joined-requires-clause-high c = term_grown c.octets.bank c.byte_at-in-octets.new.bank (Word c.args.width) c.octets.word c.in_ok-byte.ensures.byte.grows c.octets.invariant.term

pub returns-in_err-word-2-clause-word : goal.returns-in_err-word-2-clause-word
returns-in_err-word-2-clause-word c =
    let p = err_from_is_err_and c.from_residual-in_err-word-2.result c.from_residual-in_err-word-2.ensures.1 in
    gives_failed _ _ _ _ _ _ p.0 p.1 (grows_on c.octets.invariant.grows (grows_on c.in_ok-byte.ensures.byte.grows c.in_err-word-2.ensures.grows)) c.in_err-word-2.ensures.bank

pub octets-preserved : goal.octets-preserved
octets-preserved c =
    let w = c.args.width in
    let m = c.args.memory in
    let a = c.args.address in
    let l = c.octets in
    let h = l.invariant in
    let s1 = c.byte_at-in-octets.new.bank in
    let s2 = c.joined.new.bank in
    let byte = c.in_ok-byte.byte in
    let e1 = c.in_ok-byte.ensures in
    let e2 = c.in_ok-word-2.ensures in
    let ps = memory m ∷ (word W64 a ∷ []) in
    let up : l.left ≡ suc (l.left - 1) = omega arith in
    record {
      bank = e2.bank;
      grows = grows_on h.grows (grows_on e1.byte.grows e2.grows);
      answers_are = answers_grown s1 s2 c.byte_at-in-octets.new.answers e2.grows e1.answers;
      less = next_less (octets w) l.left h.less;
      term = e2.node;
      value = record {
        is = λ e v honest k.
            let f : ℕ → ℕ = λ i. (v m).store.bytes (behind (v a).word i) in
            e2.value.is e v honest k ∙ joined_both w (v l.word.index).word (v byte.index).word (spelt (octets w - l.left) f l.left) (f (l.left - 1) % 256) (spelt (octets w - (l.left - 1)) f (l.left - 1))
            (word_at l.bank s2 (λ v. spelt (octets w - l.left) (λ i. (v m).store.bytes (behind (v a).word i)) l.left) l.word h.value (grows_on e1.byte.grows e2.grows) e v honest k)
            (word_at s1 s2 (λ v. (v m).store.bytes (behind (v a).word (l.left - 1)) % 256) byte e1.byte.value e2.grows e v honest k)
            (next_spelt w l.left (l.left - 1) f up h.less);
      };
      flat = flat_through s2 ps (word w l.word.index ∷ (word W8 byte.index ∷ [])) c.in_ok-word-2.word.index e2.flat (flat_grown l.bank s2 ps l.word.index (grows_on e1.byte.grows e2.grows) h.flat, (flat_grown s1 s2 ps byte.index e2.grows e1.byte.flat, tt));
    }

pub returns-clause-word : goal.returns-clause-word
returns-clause-word c =
    let w = c.args.width in
    let h = c.octets.invariant in
    let none : c.octets.left ≡ 0 = omega arith in
    record {
      node = h.term;
      value = record { is = λ e v honest k. h.value.is e v honest k ∙ ap of_word (read_spelt (octets w) c.octets.left (v c.args.memory).store (v c.args.address).word none) };
      flat = h.flat;
      grows = h.grows;
      bank = h.bank;
    }

pub byte_at-requires-in-octets-clause-memory : goal.byte_at-requires-in-octets-clause-memory
byte_at-requires-in-octets-clause-memory c = node_grown c.args.bank.now c.octets.bank (memory c.args.memory) c.octets.invariant.grows c.requires.memory
