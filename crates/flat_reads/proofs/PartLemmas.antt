-- What the nodes are worth of which a byte is made.
use Rattle.std.proofs.Common.{◌≡◌, ℕ, refl, sym, ap, ◌∙◌}
use Rattle.std.proofs.Common.{◌∷◌, [], List, Some}
use Rattle.std.specs.Prelude.{nat_lt, Ok}
use Rattle.term_bank.specs.declared.sort.Sort.TheVariants.{Word}
use Rattle.term_bank.specs.declared.shape.Shape.{Shape}
use Rattle.term_bank.specs.Shapes.{IsNode, word}
use Rattle.term_bank.specs.Banks.{IsBank}
use Rattle.term_bank.proofs.BankLemmas.{stays}
use Rattle.term_bank.proofs.BindingLemmas.{node_sorted}
use Rattle.flat_reads.specs.Flats.{Gives}
use Rattle.flat_reads.proofs.FlatLemmas.{flat_first}
use Rattle.plain_data.specs.declared.width.Width.{Width}
use Rattle.plain_data.specs.declared.width.Width.TheVariants.{W8, W16, W32, W64}
use Rattle.term_bank.specs.declared.shape.WordOperator.TheVariants as operator
use Rattle.term_bank.specs.declared.shape.WordTest.TheVariants as test
use Rattle.term_bank.specs.Memories.{behind, distance}
use Rattle.term_bank.specs.Values.{of_word, of_truth, result_of, outcome_of, converted}
use Rattle.term_bank.specs.declared.shape.Extension.TheVariants as extension
use Rattle.flat_reads.specs.Parts.{moved, octet_of}

pub behind_added : (a i : ℕ) → of_word (result_of operator.Add W64 a i) ≡ of_word (behind a i)
unfolding result_of behind
behind_added a i = refl

pub distance_taken : (a b : ℕ) → of_word (result_of operator.Sub W64 b a) ≡ of_word (distance a b)
unfolding result_of distance
distance_taken a b = refl

pub inside_tested : (a b : ℕ) → of_truth (outcome_of test.Below W64 a b) ≡ of_truth (nat_lt a b)
unfolding outcome_of
inside_tested a b = refl

-- the steps of an octet, each by its value
pub moved_steps : (w : Width) (x d three shift by low : ℕ) → three ≡ 3 → shift ≡ result_of operator.Shl W64 d three → by ≡ converted extension.Zero W64 w shift → low ≡ result_of operator.Lshr w x by → of_word (converted extension.Zero w W8 low) ≡ of_word (moved w x d)
moved_steps w x d three shift by low h3 hs hb hl = rw (hl, hb, hs, h3) refl

pub octet_more : (w : Width) (x d : ℕ) → (w ≡ W8 → ⊥) → of_word (moved w x d) ≡ of_word (octet_of w x d)
octet_more W8 x d other = absurd (other refl)
octet_more W16 x d other = refl
octet_more W32 x d other = refl
octet_more W64 x d other = refl

pub octet_alone : (shapes : List Shape) (value : ℕ) (w : Width) (far : ℕ) → IsBank shapes → w ≡ W8 → IsNode shapes (word w value) → Gives shapes shapes (word w value ∷ (word W64 far ∷ [])) (Word W8) (λ v. of_word (octet_of w (v value).word (v far).word)) (Ok (record { index = value; sort = Word W8 }))
octet_alone shapes value w far bank same is = record {
  node = record { stands = is.sorted ∙ ap (λ u. Some (Word u)) same; same = refl };
  value = record { is = λ e v honest m. (node_sorted shapes e v (word w value) bank is m).0 ∙ ap of_word (sym (alone w (v value).word (v far).word same)) };
  flat = flat_first shapes (word w value) (word W64 far ∷ []);
  grows = stays;
  bank = bank;
} where
  alone : (w : Width) (x d : ℕ) → w ≡ W8 → octet_of w x d ≡ x
  alone w x d same = ap (λ u. octet_of u x d) same
