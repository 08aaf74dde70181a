-- Types of the core whose values are numbers, as classes of C.
use Rattle.std.proofs.Common.{◌≡◌, ℕ, pos, false, cond, refl, ap, ◌∙◌}
use Rattle.std.specs.Prelude.{not, nat_eq}
use Rattle.plain_data.specs.Words.{signed}
use Rattle.c_language.specs.declared.class.Class.TheVariants as class
use Rattle.c_language.specs.declared.ctype.IntegerKind.{IntegerKind}
use Rattle.c_language.specs.declared.ctype.IntegerKind.TheVariants as k
use Rattle.c_language.specs.Integers as integers
use Rattle.c_store.specs.Store.{read}
use Rattle.core_tree.specs.declared.types.ValueType.TheVariants as v
use Rattle.core_tree.specs.declared.types.WordType.{WordType}
use Rattle.core_tree.specs.Numbers.{value_of_bytes}
use Rattle.run_callees.specs.Watched.{ClassOf}

pub of_truth : ClassOf v.Truth (class.Integer k.Bool)
of_truth = record { scalar = tt; size = refl; value = λ n s a. refl }

pub of_pointer : ClassOf v.Pointer class.Pointer
of_pointer = record { scalar = tt; size = refl; value = λ n s a. refl }

word_read : (kind : IntegerKind) (t : WordType) (n : ℕ) → integers.width_of kind ≡ t.width
    → integers.is_signed kind ≡ t.is_signed → integers.is_bool kind ≡ false
    → integers.value_of_word kind n ≡ value_of_bytes (v.Word t) n
word_read kind t n width sign integer =
    ap (λ b. cond b (integers.number_of (not (nat_eq n 0)))
    (cond (integers.is_signed kind) (signed (integers.width_of kind) n) (pos n))) integer
    ∙ ap (λ s. cond s (signed (integers.width_of kind) n) (pos n)) sign
    ∙ ap (λ w. cond t.is_signed (signed w n) (pos n)) width

pub of_word : (kind : IntegerKind) (t : WordType) → integers.width_of kind ≡ t.width
    → integers.is_signed kind ≡ t.is_signed → integers.is_bool kind ≡ false → ClassOf (v.Word t) (class.Integer kind)
of_word kind t width sign integer = record {
  scalar = tt;
  size = ap integers.bytes_in width;
  value = λ n s a. word_read kind t (read n s a) width sign integer;
}
