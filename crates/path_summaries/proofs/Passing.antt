-- Values converted to the types of parameters.
use Rattle.std.proofs.Common.{◌≡◌, ℕ, suc, ℤ, pos, List, [], ◌∷◌, ◌++◌, length, Bool, true, false, not, refl, sym, ap, ◌∙◌, arith}
use Rattle.std.specs.Prelude.{slice_index, unsigned_abs}
use Rattle.std.proofs.Math.Nat.{mod-eq_of_lt}
use Rattle.plain_data.specs.Words.{word}
use Rattle.plain_data.specs.declared.width.Width.TheVariants.{W64}
use Rattle.plain_data.proofs.WordLaws.{word_below, word-word}
use Rattle.c_language.specs.Integers.{is_zero, number_of}
use Rattle.c_means.specs.Values.{address}
use Rattle.core_tree.specs.declared.program.Parameter.{Parameter}
use Rattle.core_tree.specs.declared.types.ValueType.{ValueType}
use Rattle.core_tree.specs.declared.types.ValueType.TheVariants as v
use Rattle.core_tree.specs.declared.types.WordType.{WordType}
use Rattle.core_tree.specs.Numbers.{value_of_word, wrapped, converted_to, size_of, bytes_of_value}
use Rattle.core_tree.specs.Memory.{stored}
use Rattle.core_tree.specs.States.{Done, with_store}
use Rattle.core_tree.specs.Programs.{passed}
use Rattle.c_store.specs.Store.{start, write}
use Rattle.term_bank.specs.Values.{Environment}
use Rattle.path_numbers.proofs.WordSums.{word_of_value, wrapped_is}
use Rattle.path_steps.specs.Memories.{IsScalar}
use Rattle.summary_compose.specs.Summaries.{read_as, entry_values, given}
use Rattle.path_summaries.specs.Tours.{types_of, AreScalar}

-- ---- once more is the same

flag_again : (b : Bool) → number_of (not (is_zero (number_of b))) ≡ number_of b
flag_again true = refl
flag_again false = refl

word_again : (t : WordType) (z : ℤ) → wrapped t (wrapped t z) ≡ wrapped t z
word_again t z =
    wrapped_is t (wrapped t z)
    ∙ ap (λ y. value_of_word t (word t.width y)) (wrapped_is t z)
    ∙ ap (value_of_word t) (word_of_value t.is_signed t.width (word t.width z) (word_below t.width z))
    ∙ sym (wrapped_is t z)

converted_again : (t : ValueType) (z : ℤ) → converted_to t (converted_to t z) ≡ converted_to t z
converted_again v.Void z = refl
converted_again v.Truth z = flag_again (not (is_zero z))
converted_again (v.Word t) z = word_again t z
converted_again v.Pointer z = ap pos (word-word W64 W64 z (omega arith))
converted_again (v.Block bytes) z = refl

-- what is passed is converted there
pub passed_given : (base : ℕ) (ps : List Parameter) (vs : List ℤ) (d : Done ℕ)
    → passed base ps (given (types_of ps) vs) d ≡ passed base ps vs d
passed_given base [] vs d = refl
passed_given base (p ∷ ps) [] d = refl
passed_given base (p ∷ ps) (z ∷ zs) d =
    ap (λ y. passed (suc base) ps (given (types_of ps) zs)
    (with_store (write (size_of p.stored) (start base) (bytes_of_value p.stored y) d.store) d)) (converted_again p.stored z)
    ∙ passed_given (suc base) ps zs (stored p.stored (start base) z d)

-- ---- words of parameters

abbrev pub word_for : ValueType → ℤ → ℕ
word_for v.Truth z = unsigned_abs (number_of (not (is_zero z)))
word_for (v.Word t) z = word t.width z
word_for v.Pointer z = address z
word_for v.Void z = 0
word_for (v.Block bytes) z = 0

read_flag : (b : Bool) → read_as v.Truth (unsigned_abs (number_of b)) ≡ number_of b
read_flag true = refl
read_flag false = refl

read_word : (t : ValueType) → IsScalar t → (z : ℤ) → read_as t (word_for t z) ≡ converted_to t z
read_word v.Void h z = absurd h
read_word v.Truth h z = read_flag (not (is_zero z))
read_word (v.Word t) h z = ap (value_of_word t) (mod-eq_of_lt (word_below t.width z)) ∙ sym (wrapped_is t z)
read_word v.Pointer h z = ap pos (mod-eq_of_lt (word_below W64 z))
read_word (v.Block bytes) h z = absurd h

abbrev pub words_for : List ValueType → List ℤ → List ℕ
words_for [] vs = []
words_for (t ∷ ts) [] = []
words_for (t ∷ ts) (z ∷ zs) = word_for t z ∷ words_for ts zs

abbrev with_words : Environment → List ℕ → Environment
with_words e ws = record e { parameters = ws }

index_behind : (xs ys : List ℕ) (y : ℕ) → slice_index (xs ++ y ∷ ys) (length xs) ≡ y
index_behind [] ys y = refl
index_behind (x ∷ xs) ys y = index_behind xs ys y

behind_one : (xs ys : List ℕ) (y : ℕ) → xs ++ (y ∷ ys) ≡ (xs ++ y ∷ []) ++ ys
behind_one [] ys y = refl
behind_one (x ∷ xs) ys y = ap (λ l. x ∷ l) (behind_one xs ys y)

one_longer : (xs : List ℕ) (y : ℕ) → length (xs ++ y ∷ []) ≡ suc (length xs)
one_longer [] y = refl
one_longer (x ∷ xs) y = ap suc (one_longer xs y)

entered : (e : Environment) (before : List ℕ) (ts : List ValueType) (vs : List ℤ) → AreScalar ts → length vs ≡ length ts
    → entry_values (with_words e (before ++ words_for ts vs)) (length before) ts ≡ given ts vs
entered e before [] vs h long = refl
entered e before (t ∷ ts) [] h long = absurd (cc)
entered e before (t ∷ ts) (z ∷ zs) h long =
    let more : List ℕ = words_for ts zs in
    let rest : entry_values (with_words e (before ++ (word_for t z ∷ more))) (suc (length before)) ts ≡ given ts zs =
    ap (λ l. entry_values (with_words e l) (suc (length before)) ts) (behind_one before more (word_for t z))
    ∙ ap (λ n. entry_values (with_words e ((before ++ word_for t z ∷ []) ++ more)) n ts) (sym (one_longer before (word_for t z)))
    ∙ entered e (before ++ word_for t z ∷ []) ts zs h.1 (cc) in
    rw (index_behind before more (word_for t z), read_word t h.0 z, rest) refl

-- the environment whose parameters are these values
pub entries_for : (e : Environment) (ts : List ValueType) (vs : List ℤ) → AreScalar ts → length vs ≡ length ts
    → entry_values (record e { parameters = words_for ts vs }) 0 ts ≡ given ts vs
entries_for e ts vs h long = entered e [] ts vs h long
