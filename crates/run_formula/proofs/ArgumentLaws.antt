-- The arguments of `main` in a store.
use Rattle.std.proofs.Common.{◌≡◌, ◌<◌, ◌≤◌, ◌+◌, ◌-◌, ◌*◌, ◌%◌, ◌^◌, ℕ, zero, suc, ℤ, pos, List, [], ◌∷◌}
use Rattle.std.proofs.Common.{Bool, true, false, cond, nat_eq, nat_lt, refl, sym, ap, subst, ◌∙◌, arith, add-zero}
use Rattle.std.proofs.lemmas.Bool.Decides.{nat_tests}
use Rattle.std.proofs.Math.Nat.{mod-eq_of_lt, mod-lt}
use Rattle.plain_data.specs.declared.width.Width.TheVariants.{W32, W64}
use Rattle.plain_data.specs.Words.{is_signed, word}
use Rattle.plain_data.proofs.WordLaws.{signed-word}
use Rattle.c_store.specs.declared.object.ObjectKind.TheVariants.{Outside}
use Rattle.c_store.specs.Store.{Store, start, write, zero_range, within, byte_of}
use Rattle.c_store.proofs.Laws.{store_ext}
use Rattle.c_means.specs.Parts.{World, Limits}
use Rattle.core_tree.specs.declared.types.ValueType.{ValueType}
use Rattle.core_tree.specs.declared.types.ValueType.TheVariants as vt
use Rattle.core_tree.specs.Numbers.{int, value_of_word}
use Rattle.core_tree.specs.Programs.{argument_count, given_arguments, main_arguments, makes_arguments, makes_strings, outside_object, points_to, zeroes}
use Rattle.core_tree.specs.States.{Done, along, meets, with_store}
use Rattle.term_bank.specs.Values.{Environment}
use Rattle.path_states.specs.States.{IsSized}
use Rattle.log_expr.specs.Tours.{Tour}
use Rattle.path_summaries.specs.Tours.{machine_in}
use Rattle.summary_compose.specs.Summaries.{entry_values, read_as}
use Rattle.run_formula.specs.Arguments.{TakesGiven, arguments_in, array_in, chosen_in, given_in, outside_in, pointers_in, points_at}
use Rattle.run_formula.specs.Arguments.{string_in, strings_in, words_given}
use Rattle.run_formula.proofs.Started.{lay_sized, made_sized}

-- ---- what is made before `main` is called, as a store

strings_made : (l : Limits) (place n : ℕ) (d : Done ℕ) → makes_strings l place n d ≡ with_store (strings_in l.outside place n d.store) d
strings_made l place zero d = refl
strings_made l place (suc n) d = strings_made l (suc place) n (with_store (string_in l.outside place d.store) d)

pointers_made : (a place n : ℕ) (d : Done ℕ) → points_to a place n d ≡ with_store (pointers_in a place n d.store) d
pointers_made a place zero d = refl
pointers_made a place (suc n) d = pointers_made (a + 8) (suc place) n (with_store (write 8 a (start place) d.store) d)

met : (log : List ℕ) (p n : ℕ) (d : Done ℕ) → meets (along log) p n d ≡ d
met log p zero d = refl
met log p (suc n) d = met log (suc p) n d

arguments_made : (w : World) (l : Limits) (p : ℕ) (d : Done ℕ)
    → makes_arguments w l p d ≡ with_store (arguments_in l.arguments l.outside p (argument_count w l p) d.store) d
arguments_made w l p d =
    let n = 8 * suc l.arguments in
    let a = start (suc p) in
    ap (λ q. points_to a (suc (suc p)) (argument_count w l p) (zeroes a n (outside_object (suc p) n q)))
    (strings_made l (suc (suc p)) l.arguments d)
    ∙ pointers_made a (suc (suc p)) (argument_count w l p) (with_store (array_in l.arguments l.outside p d.store) d)

pub given_made : (given : Bool) (t : Tour) (w : World) (p : ℕ) (d : Done ℕ)
    → given_arguments given (machine_in t w) p d ≡ with_store (given_in given w t.limits p d.store) d
given_made true t w p d =
    ap (makes_arguments w t.limits p) (met t.log p (2 + t.limits.arguments) d) ∙ arguments_made w t.limits p d
given_made false t w p d = refl

-- ---- one string more

next_place : (place n : ℕ) → place + suc n ≡ suc place + n
next_place place n = omega arith

pub strings_more : (outside place n : ℕ) (s : Store)
    → string_in outside (place + n) (strings_in outside place n s) ≡ strings_in outside place (suc n) s
strings_more outside place zero s = ap (λ p. string_in outside p s) (add-zero place)
strings_more outside place (suc n) s =
    let t = string_in outside place s in
    ap (λ p. string_in outside p (strings_in outside (suc place) n t)) (next_place place n) ∙ strings_more outside (suc place) n t

-- ---- pointers

pointers_more : (a place n : ℕ) (s : Store)
    → pointers_in a place (suc n) s ≡ write 8 (a + 8 * n) (start (place + n)) (pointers_in a place n s)
pointers_more a place zero s =
    let at : a ≡ a + 8 * 0 = omega arith in
    ap (λ b. write 8 b (start place) s) at ∙ ap (λ p. write 8 (a + 8 * 0) (start p) s) (sym (add-zero place))
pointers_more a place (suc n) s =
    let t = write 8 a (start place) s in
    let at : (a + 8) + 8 * n ≡ a + 8 * suc n = omega arith in
    pointers_more (a + 8) (suc place) n t
    ∙ ap (λ b. write 8 b (start (suc place + n)) (pointers_in (a + 8) (suc place) n t)) at
    ∙ ap (λ p. write 8 (a + 8 * suc n) (start p) (pointers_in (a + 8) (suc place) n t)) (sym (next_place place n))

-- bytes behind them stay
pointers_bytes : (a place n : ℕ) (s : Store) (b : ℕ) → a + 8 * n ≤ b → (pointers_in a place n s).bytes b ≡ s.bytes b
pointers_bytes a place zero s b h = refl
pointers_bytes a place (suc n) s b h =
    let outside : within a 8 b ≡ false = grind (arith, nat_tests, h) in
    pointers_bytes (a + 8) (suc place) n (write 8 a (start place) s) b (omega (arith, h))
    ∙ ap (λ t. cond t (byte_of (start place) (b - a)) (s.bytes b)) outside

byte_of_zero : (i : ℕ) → byte_of 0 i ≡ 0
byte_of_zero zero = refl
byte_of_zero (suc i) = byte_of_zero i

-- null written where bytes are 0
null_written : (a : ℕ) (s : Store) → ((b : ℕ) → a ≤ b → b < a + 8 → s.bytes b ≡ 0) → write 8 a 0 s ≡ s
null_written a s zeros = store_ext (write 8 a 0 s) s (λ b. each b (within a 8 b) refl) (λ p. refl) where
  each : (b : ℕ) (t : Bool) → within a 8 b ≡ t → cond t (byte_of 0 (b - a)) (s.bytes b) ≡ s.bytes b
  each b true is = byte_of_zero (b - a) ∙ sym (zeros b (grind (arith, nat_tests, is)) (grind (arith, nat_tests, is)))
  each b false is = refl

module _ (a place n : ℕ) (s : Store) where
  chosen_first : (k : ℕ) → k ≤ n → chosen_in a place k n s ≡ pointers_in a place k s
  chosen_first zero h = refl
  chosen_first (suc k) h =
      let is : nat_lt k n ≡ true = grind (arith, nat_tests, h) in
      ap (λ t. points_at a place k n t) (chosen_first k (omega (arith, h)))
      ∙ ap (λ t. write 8 (a + 8 * k) (cond t (start (place + k)) 0) (pointers_in a place k s)) is
      ∙ sym (pointers_more a place k s)

  pub chosen_all : (k : ℕ) → n ≤ k → ((b : ℕ) → a ≤ b → b < a + 8 * k → s.bytes b ≡ 0) → chosen_in a place k n s ≡ pointers_in a place n s
  chosen_all zero h zeros = let none : 0 ≡ n = omega (arith, h) in ap (λ m. pointers_in a place m s) none
  chosen_all (suc k) h zeros = by (nat_lt k n) refl (λ small. chosen_all k small fewer) where
    fewer : (b : ℕ) → a ≤ b → b < a + 8 * k → s.bytes b ≡ 0
    fewer b low high = zeros b low (omega (arith, high))

    null : n ≤ k → (b : ℕ) → a + 8 * k ≤ b → b < (a + 8 * k) + 8 → (pointers_in a place n s).bytes b ≡ 0
    null small b low high =
        pointers_bytes a place n s b (omega (arith, low, small)) ∙ zeros b (omega (arith, low)) (omega (arith, high))

    by : (t : Bool) → nat_lt k n ≡ t → (n ≤ k → chosen_in a place k n s ≡ pointers_in a place n s)
        → chosen_in a place (suc k) n s ≡ pointers_in a place n s
    by true is before =
        let same : suc k ≡ n = grind (arith, nat_tests, h, is) in
        chosen_first (suc k) (omega (arith, same)) ∙ ap (λ m. pointers_in a place m s) same
    by false is before =
        let small : n ≤ k = grind (arith, nat_tests, is) in
        ap (λ t. write 8 (a + 8 * k) (cond t (start (place + k)) 0) (chosen_in a place k n s)) is
        ∙ ap (λ t. write 8 (a + 8 * k) 0 t) (before small)
        ∙ null_written (a + 8 * k) (pointers_in a place n s) (null small)

zeroed_bytes : (a n : ℕ) (s : Store) (b : ℕ) → a ≤ b → b < a + n → (zero_range a n s).bytes b ≡ 0
zeroed_bytes a n s b low high =
    let inside : within a n b ≡ true = grind (arith, nat_tests, low, high) in
    ap (λ t. cond t 0 (s.bytes b)) inside

-- all pointers are chosen, over null ones
pub arguments_chosen : (most outside p n : ℕ) (s : Store) → n ≤ most
    → chosen_in (start (suc p)) (suc (suc p)) most n (array_in most outside p s) ≡ arguments_in most outside p n s
arguments_chosen most outside p n s h =
    let a = start (suc p) in
    chosen_all a (suc (suc p)) n (array_in most outside p s) most h
    (λ b low high. zeroed_bytes a (8 * suc most) (outside_in (suc p) (8 * suc most) (strings_in outside (suc (suc p)) most s)) b low
    (omega (arith, high)))

-- ---- sizes

pub outside_sized : (place n : ℕ) (s : Store) → n < 2 ^ 32 → IsSized s → IsSized (outside_in place n s)
outside_sized place n s small h = made_sized place n Outside s small h

strings_sized : (outside place n : ℕ) (s : Store) → outside ≤ 256 → IsSized s → IsSized (strings_in outside place n s)
strings_sized outside place zero s small h = h
strings_sized outside place (suc n) s small h =
    strings_sized outside (suc place) n (string_in outside place s) small
    (lay_sized (start place + outside) 1 (λ _. 0) (outside_in place (suc outside) s)
    (outside_sized place (suc outside) s (omega (arith, small)) h))

pointers_sized : (a place n : ℕ) (s : Store) → IsSized s → IsSized (pointers_in a place n s)
pointers_sized a place zero s h = h
pointers_sized a place (suc n) s h =
    pointers_sized (a + 8) (suc place) n (write 8 a (start place) s) (lay_sized a 8 (byte_of (start place)) s h)

pub arguments_sized : (most outside p n : ℕ) (s : Store) → most ≤ 8 → outside ≤ 256 → IsSized s → IsSized (arguments_in most outside p n s)
arguments_sized most outside p n s few small h =
    let size = 8 * suc most in
    pointers_sized (start (suc p)) (suc (suc p)) n (array_in most outside p s)
    (lay_sized (start (suc p)) size (λ _. 0) (outside_in (suc p) size (strings_in outside (suc (suc p)) most s))
    (outside_sized (suc p) size (strings_in outside (suc (suc p)) most s) (omega (arith, few))
    (strings_sized outside (suc (suc p)) most s small h)))

-- ---- counts

pub count_below : (x most : ℕ) → 1 ≤ most → suc (x % most) ≤ most
count_below x most h = let low : x % most < most = mod-lt x h in omega (arith, low)

pub few_arguments : (l : Limits) (w : World) (p : ℕ) → 1 ≤ l.arguments → l.arguments ≤ 8 → argument_count w l p < 2 ^ 31
few_arguments l w p some few =
    let low : argument_count w l p ≤ l.arguments = count_below (w.word p % 2 ^ 64) l.arguments some in
    omega (arith, low, few)

-- ---- words of the arguments

count_read : (n : ℕ) → n < 2 ^ 31 → read_as (vt.Word int) n ≡ pos n
count_read n h = let small : is_signed W32 (pos n) ≡ true = grind (arith, nat_tests, h) in signed-word W32 (pos n) small

array_read : (n : ℕ) → n < 2 ^ 64 → read_as vt.Pointer n ≡ pos n
array_read n h = ap (λ m. pos m) (mod-eq_of_lt h)

pub values_given : (given : Bool) (w : World) (l : Limits) (p : ℕ) (ts : List ValueType) (e : Environment) → TakesGiven given ts
    → e.parameters ≡ words_given given w l p → argument_count w l p < 2 ^ 31 → suc p < 2 ^ 32
    → entry_values e 0 ts ≡ main_arguments given w l p
values_given true w l p ts e takes is few low =
    let n = argument_count w l p in
    let a = start (suc p) in
    let high : a < 2 ^ 64 = omega (arith, low) in
    let two : List ℕ → List ℤ = λ ws. entry_values (record e { parameters = ws }) 0 (vt.Word int ∷ vt.Pointer ∷ []) in
    ap (entry_values e 0) takes
    ∙ ap two is
    ∙ ap (λ z. z ∷ read_as vt.Pointer a ∷ []) (count_read n few)
    ∙ ap (λ z. pos n ∷ z ∷ []) (array_read a high)
values_given false w l p ts e takes is few low = ap (entry_values e 0) takes
