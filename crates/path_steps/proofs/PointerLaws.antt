-- Pointers that are moved, compared and subtracted, by words of 64 bits (C99 6.5.6, 6.5.8).
use Rattle.std.proofs.Common.{◌≡◌, ℕ, zero, suc, ◌+◌, ◌-◌, ◌*◌, ◌/◌, ◌%◌, ◌^◌, ◌<◌, ◌≤◌, ℤ, pos, negsuc, neg_ℤ, ◌+ℤ◌, ◌-ℤ◌, ◌*ℤ◌, Bool, true, false, not, cond, ◌&&◌, eqb, refl, sym, ap, ◌∙◌, arith}
use Rattle.std.specs.Prelude.{nat_eq, nat_lt, nat_le, unsigned_abs, int_div, Ok, Err, ◌||◌}
use Rattle.std.proofs.lemmas.Bool.Decides.{nat_tests}
use Rattle.std.proofs.lemmas.Int.{ints, unsigned_abs-mul, quot_fits}
use Rattle.std.proofs.Math.Nat.{mod-eq_of_lt, div-lt_iff_lt-mul, div-eq_of_lt}
use Rattle.plain_data.specs.declared.run.Undefined.TheVariants.{PointerRange, Overflow, ZeroDivisor}
use Rattle.plain_data.specs.declared.width.Width.TheVariants.{W64}
use Rattle.plain_data.specs.Words.{word, signed, is_signed, machine}
use Rattle.plain_data.proofs.WordLaws.{word_below, word-add, word-sub, word-mul, word-word, signed-word, fits_of_test}
use Rattle.c_store.specs.Store.{Store, object_of}
use Rattle.c_store.specs.Access.{in_one_object, is_live}
use Rattle.c_means.specs.Values.{address}
use Rattle.c_means.specs.Pointers.{elements_in}
use Rattle.c_language.specs.Integers.{is_zero}
use Rattle.c_language.specs.Operators.{Answer}
use Rattle.core_tree.specs.declared.types.Arithmetic.TheVariants as o
use Rattle.core_tree.specs.declared.types.WordType.{WordType}
use Rattle.core_tree.specs.Memory.{moved, moved_to}
use Rattle.core_tree.specs.Numbers.{worked, wrapped, exact, is_in}
use Rattle.core_tree.specs.States.{Done, Outcome, found, stop}
use Rattle.term_bank.specs.Values.{Values}
use Rattle.path_numbers.specs.declared.tested.Tested.{Tested}
use Rattle.path_numbers.specs.Answers.{answer_in}
use Rattle.path_numbers.proofs.DivisionLaws.{is_fit}
use Rattle.path_numbers.proofs.WordSums.{in_signed, wrapped_is, word-pos}
use Rattle.path_states.specs.States.{number_in}
use Rattle.path_steps.specs.Operators.{is_measured, is_near, directed, by_direction}
use Rattle.path_steps.proofs.OperatorLemmas.{surely_number}

-- ---- objects

both_false : (x y : Bool) → (x && (y && false)) ≡ false
both_false true true = refl
both_false true false = refl
both_false false y = refl

pub other : (a b : ℕ) → (a ≡ b → ⊥) → nat_eq a b ≡ false
other a b h = grind (arith, nat_tests)

-- addresses of two objects aren't in one
pub of_two : (s : Store) (a b : ℕ) → (object_of a ≡ object_of b → ⊥) → in_one_object s a b ≡ false
of_two s a b h =
    ap (λ c. is_live s a 0 && (is_live s b 0 && c)) (other (object_of a) (object_of b) h) ∙ both_false (is_live s a 0) (is_live s b 0)

last_of : (x y z : Bool) → (x && (y && z)) ≡ true → z ≡ true
last_of true true z h = h
last_of true false z h = cc
last_of false y z h = cc

same_number : (a b : ℕ) → nat_eq a b ≡ true → a ≡ b
same_number a b h = grind (arith, nat_tests)

pub of_one : (s : Store) (a b : ℕ) → in_one_object s a b ≡ true → object_of a ≡ object_of b
of_one s a b h = same_number (object_of a) (object_of b) (last_of (is_live s a 0) (is_live s b 0) _ h)

-- ---- near: fewer bytes than 2^32 further or back

above : (a b : ℕ) → nat_lt a b ≡ false → b ≤ a
above a b h = grind (arith, nat_tests)

below : (a b : ℕ) → nat_lt a b ≡ true → a < b
below a b h = grind (arith, nat_tests)

module _ (s : Store) (at a : ℕ) (d : Done ℕ) (small : a < 2 ^ 64) (here : d.store ≡ s) where
  -- where the sum is this number
  abbrev by_word : ℤ → Outcome ℕ ℤ
  by_word z = cond (in_one_object s a (address z)) (found (pos (address z)) d) (stop at PointerRange d)

  stopped : (to : ℕ) → (object_of a ≡ object_of to → ⊥)
      → cond (in_one_object s a to) (found (pos to) d) (stop at PointerRange d) ≡ stop at PointerRange d
  stopped to h = ap (λ c. cond c (found (pos to) d) (stop at PointerRange d)) (of_two s a to h)

  in_store : (to : ℕ) → cond (in_one_object s a to) (found (pos to) d) (stop at PointerRange d) ≡ moved_to at a (pos to) d
  in_store to = ap (λ q. cond (in_one_object q a to) (found (pos to) d) (stop at PointerRange d)) (sym here)

  near_by : (z t : ℤ) → z ≡ pos a +ℤ t → unsigned_abs t < 2 ^ 32 → by_word z ≡ moved_to at a z d
  near_by (pos to) t e h = by (nat_lt to (2 ^ 64)) refl
    where
      by : (c : Bool) → nat_lt to (2 ^ 64) ≡ c → by_word (pos to) ≡ moved_to at a (pos to) d
      by true l =
          ap (λ n. cond (in_one_object s a n) (found (pos n) d) (stop at PointerRange d)) (mod-eq_of_lt (below to (2 ^ 64) l)) ∙ in_store to
      by false l =
          let big : 2 ^ 64 ≤ to = above to (2 ^ 64) l in
          stopped (to % 2 ^ 64) (λ q. omega (arith, ints, e, h, big, q, small))
          ∙ sym (stopped to (λ q. omega (arith, ints, e, h, big, q, small))) ∙ in_store to
  near_by (negsuc n) t e h = stopped (address (negsuc n)) (λ q. omega (arith, ints, e, h, q, small))

  far_by : (z t : ℤ) → z ≡ pos a +ℤ t → 2 ^ 32 ≤ unsigned_abs t → stop at PointerRange d ≡ moved_to at a z d
  far_by (pos to) t e h = sym (stopped to (λ q. omega (arith, ints, e, h, q))) ∙ in_store to
  far_by (negsuc n) t e h = refl

-- ---- so many elements of a size

abs_neg : (z : ℤ) → unsigned_abs (neg_ℤ z) ≡ unsigned_abs z
abs_neg (pos zero) = refl
abs_neg (pos (suc n)) = refl
abs_neg (negsuc n) = refl

abs_directed : (back : Bool) (z : ℤ) → unsigned_abs (directed back z) ≡ unsigned_abs z
abs_directed true z = abs_neg z
abs_directed false z = refl

bytes_of : (back : Bool) (z : ℤ) (size : ℕ) → unsigned_abs (directed back z *ℤ pos size) ≡ unsigned_abs z * size
bytes_of back z size = unsigned_abs-mul (directed back z) (pos size) ∙ ap (λ n. n * size) (abs_directed back z)

few : (n size : ℕ) → not (nat_lt ((2 ^ 32 - 1) / suc size) n) ≡ true → n * suc size < 2 ^ 32
few n size h = grind (arith, nat_tests, div-lt_iff_lt-mul {k = suc size} {x = 2 ^ 32 - 1} {y = n} (omega arith))

many : (n size : ℕ) → not (nat_lt ((2 ^ 32 - 1) / suc size) n) ≡ false → 2 ^ 32 ≤ n * suc size
many n size h = grind (arith, nat_tests, div-lt_iff_lt-mul {k = suc size} {x = 2 ^ 32 - 1} {y = n} (omega arith))

not_none : (n : ℕ) → nat_eq (suc n) 0 ≡ false
not_none n = grind (arith, nat_tests)

near_where : (size : ℕ) (z : ℤ) → is_near (suc size) z ≡ not (nat_lt ((2 ^ 32 - 1) / suc size) (unsigned_abs z))
near_where size z = ap (λ c. cond c true (not (nat_lt ((2 ^ 32 - 1) / suc size) (unsigned_abs z)))) (not_none size)

few_bytes : (size : ℕ) (back : Bool) (z : ℤ) → is_near size z ≡ true → unsigned_abs (directed back z *ℤ pos size) < 2 ^ 32
few_bytes zero back z h = omega (arith, bytes_of back z 0)
few_bytes (suc size) back z h = omega (arith, bytes_of back z (suc size), few (unsigned_abs z) size (sym (near_where size z) ∙ h))

many_bytes : (size : ℕ) (back : Bool) (z : ℤ) → is_near size z ≡ false → 2 ^ 32 ≤ unsigned_abs (directed back z *ℤ pos size)
many_bytes zero back z h = cc
many_bytes (suc size) back z h = omega (arith, bytes_of back z (suc size), many (unsigned_abs z) size (sym (near_where size z) ∙ h))

-- a pointer is moved as the core moves it
pub moved_by : (s : Store) (at a size : ℕ) (back : Bool) (z : ℤ) (d : Done ℕ) → a < 2 ^ 64 → d.store ≡ s
    → cond (is_near size z && in_one_object s a (address (pos a +ℤ directed back z *ℤ pos size)))
    (found (pos (address (pos a +ℤ directed back z *ℤ pos size))) d) (stop at PointerRange d)
    ≡ moved at size (directed back z) a d
moved_by s at a size back z d small here = by (is_near size z) refl
  where
    to : ℤ
    to = pos a +ℤ directed back z *ℤ pos size

    by : (c : Bool) → is_near size z ≡ c
        → cond (c && in_one_object s a (address to)) (found (pos (address to)) d) (stop at PointerRange d)
        ≡ moved_to at a to d
    by true h = near_by s at a d small here to (directed back z *ℤ pos size) refl (few_bytes size back z h)
    by false h = far_by s at a d small here to (directed back z *ℤ pos size) refl (many_bytes size back z h)

-- ---- sums modulo 2^64

abbrev pub pointer : WordType
pointer = record { width = W64; is_signed = false }

abbrev pub distance : WordType
distance = record { width = W64; is_signed = true }

again : (z : ℤ) → word W64 (pos (word W64 z)) ≡ word W64 z
again z = word-word W64 W64 z (omega arith)

abbrev pub wide : ℤ → ℤ
wide z = pos (word W64 z)

pub product_number : (v : Values) (q : Tested) (i : ℤ) (size : ℕ) → answer_in v q ≡ worked o.Multiply pointer i (pos size)
    → number_in v q.number ≡ wide (wide i *ℤ wide (pos size))
unfolding exact wrapped
product_number v q i size h = surely_number v q (wide (wide i *ℤ wide (pos size))) h

pub sum_number : (v : Values) (q : Tested) (back : Bool) (x b : ℤ) → answer_in v q ≡ worked (by_direction back) pointer x b
    → number_in v q.number ≡ cond back (wide (wide x -ℤ wide b)) (wide (wide x +ℤ wide b))
unfolding exact wrapped
sum_number v q true x b h = surely_number v q (wide (wide x -ℤ wide b)) h
sum_number v q false x b h = surely_number v q (wide (wide x +ℤ wide b)) h

product_word : (i : ℤ) (size : ℕ) → word W64 (wide (wide i *ℤ wide (pos size))) ≡ word W64 (i *ℤ pos size)
product_word i size =
    again (wide i *ℤ wide (pos size)) ∙ word-mul W64 (wide i) (wide (pos size))
    ∙ (λ k. (again i k * again (pos size) k) % 2 ^ 64) ∙ sym (word-mul W64 i (pos size))

twice_neg : (z : ℤ) → neg_ℤ (neg_ℤ z) ≡ z
twice_neg (pos zero) = refl
twice_neg (pos (suc n)) = refl
twice_neg (negsuc n) = refl

neg_times : (z : ℤ) (n : ℕ) → neg_ℤ z *ℤ pos n ≡ neg_ℤ (z *ℤ pos n)
neg_times (pos zero) n = let none : 0 * n ≡ 0 = omega arith in ap pos none ∙ sym (ap (λ k. neg_ℤ (pos k)) none)
neg_times (pos (suc a)) n = refl
neg_times (negsuc a) n = sym (twice_neg (pos (suc a * n)))

-- the sum with what was multiplied modulo 2^64
pub sum_word : (back : Bool) (x i b : ℤ) (size : ℕ) → b ≡ wide (wide i *ℤ wide (pos size))
    → word W64 (cond back (wide (wide x -ℤ wide b)) (wide (wide x +ℤ wide b))) ≡ word W64 (wide x +ℤ directed back i *ℤ pos size)
sum_word false x i b size h =
    let by : word W64 (wide b) ≡ word W64 (i *ℤ pos size) = again b ∙ ap (word W64) h ∙ product_word i size in
    again (wide x +ℤ wide b) ∙ word-add W64 (wide x) (wide b) ∙ ap (λ n. (word W64 (wide x) + n) % 2 ^ 64) by
    ∙ sym (word-add W64 (wide x) (i *ℤ pos size))
sum_word true x i b size h =
    let by : word W64 (wide b) ≡ word W64 (i *ℤ pos size) = again b ∙ ap (word W64) h ∙ product_word i size in
    again (wide x -ℤ wide b) ∙ word-sub W64 (wide x) (wide b) ∙ ap (λ n. (word W64 (wide x) + (2 ^ 64 - n)) % 2 ^ 64) by
    ∙ sym (word-sub W64 (wide x) (i *ℤ pos size))
    ∙ ap (λ z. word W64 (wide x +ℤ z)) (sym (neg_times i size))

-- ---- how many elements are between two addresses

pub together_near : (s : Store) (a b : ℕ) → in_one_object s a b ≡ true → unsigned_abs (pos a -ℤ pos b) < 2 ^ 32
together_near s a b h = let q = of_one s a b h in omega (arith, ints, q)

fits_wide : (z : ℤ) → unsigned_abs z < 2 ^ 32 → is_signed W64 z ≡ true
fits_wide (pos n) h = grind (arith, nat_tests)
fits_wide (negsuc n) h = grind (arith, nat_tests)

pub difference_number : (v : Values) (q : Tested) (x y : ℤ) → answer_in v q ≡ worked o.Subtract pointer x y
    → number_in v q.number ≡ wide (wide x -ℤ wide y)
unfolding exact wrapped
difference_number v q x y h = surely_number v q (wide (wide x -ℤ wide y)) h

pub bytes_number : (x y d : ℤ) → unsigned_abs (wide x -ℤ wide y) < 2 ^ 32 → d ≡ wide (wide x -ℤ wide y)
    → wrapped distance d ≡ wide x -ℤ wide y
bytes_number x y d h e =
    wrapped_is distance d ∙ ap (λ z. signed W64 (word W64 z)) e ∙ ap (signed W64) (again (wide x -ℤ wide y))
    ∙ signed-word W64 (wide x -ℤ wide y) (fits_wide (wide x -ℤ wide y) h)

same_wrapped : (z : ℤ) → unsigned_abs z < 2 ^ 32 → wrapped distance z ≡ z
same_wrapped z h = wrapped_is distance z ∙ signed-word W64 z (fits_wide z h)

in_distance : (z : ℤ) (n : ℕ) → unsigned_abs z < 2 ^ 32 → is_in distance (int_div z (pos (suc n))) ≡ true
in_distance z n h =
    in_signed W64 (int_div z (pos (suc n)))
    ∙ is_fit W64 (int_div z (pos (suc n))) (quot_fits (machine W64) z (pos (suc n)) (fits_of_test W64 z (fits_wide z h)) (omega (arith, ints))).sfits

pub elements_number : (v : Values) (q : Tested) (z d : ℤ) (n : ℕ) → unsigned_abs z < 2 ^ 32 → suc n < 2 ^ 32 → d ≡ z
    → answer_in v q ≡ worked o.Divide distance d (pos (suc n)) → number_in v q.number ≡ elements_in z (suc n)
unfolding exact
elements_number v q z d n h k e w =
    surely_number v q (int_div z (pos (suc n)))
    (w
    ∙ ap (λ (y : ℤ). worked o.Divide distance y (pos (suc n))) e
    ∙ (λ i. quotient_of (same_wrapped z h i) (same_wrapped (pos (suc n)) k i))
    ∙ ap (λ (c : Bool). cond c (Ok (int_div z (pos (suc n)))) (Err Overflow)) (in_distance z n h))
  where
    quotient_of : ℤ → ℤ → Answer
    quotient_of x y = cond (is_zero y) (Err ZeroDivisor) (exact distance (int_div x y))

none_between : (z : ℤ) (n : ℕ) → unsigned_abs z < suc n → int_div z (pos (suc n)) ≡ pos 0
none_between (pos a) n h = ap pos (div-eq_of_lt h)
none_between (negsuc a) n h = ap (λ k. neg_ℤ (pos k)) (div-eq_of_lt h)

-- elements of size 0, or of one that no object has
pub no_elements : (z : ℤ) (size : ℕ) → unsigned_abs z < 2 ^ 32 → is_measured size ≡ false → elements_in z size ≡ pos 0
no_elements z zero h k = refl
no_elements z (suc n) h k = let big : 2 ^ 32 ≤ suc n = grind (arith, nat_tests) in none_between z n (omega (arith, big, h))
