-- The repeated cases of a `switch`, found from left to right.
use Rattle.std.proofs.Common.{◌≡◌, ℤ, Bool, true, false, ◌||◌, List, [], ◌∷◌, ◌++◌, Option, Some, None}
use Rattle.std.proofs.Common.{refl, sym, ap, ◌∙◌}
use Rattle.c_means.specs.declared.breach.Breach.{Breach}
use Rattle.c_means.specs.declared.breach.BrokenRule.TheVariants as broken
use Rattle.c_means.specs.Items.{Case, breach_if}
use Rattle.c_means.specs.Statements.{same_case, is_among, repeated_cases}
use Rattle.c_checks.specs.Refusals.{lesser, least_of}
use Rattle.c_checks.proofs.Least.{grouping, of_both}

-- with those before in the order in which they stand
abbrev pub repeats_from : Option Breach → List Case → List Case → Option Breach
repeats_from found before [] = found
repeats_from found before (x ∷ xs) =
    repeats_from (lesser found (least_of (breach_if (is_among x.value before) x.at broken.BadGoto)))
    (before ++ x ∷ []) xs

abbrev Alike : List Case → List Case → Type 0
Alike xs ys = (z : Option ℤ) → is_among z xs ≡ is_among z ys

or_left : (a b c : Bool) → (a || (b || c)) ≡ (b || (a || c))
or_left true true c = refl
or_left true false c = refl
or_left false true c = refl
or_left false false c = refl

pushed : (z : Option ℤ) (x : Case) (xs : List Case) → is_among z (xs ++ x ∷ []) ≡ is_among z (x ∷ xs)
pushed z x [] = refl
pushed z x (y ∷ ys) =
    ap (λ b. same_case z y.value || b) (pushed z x ys)
    ∙ or_left (same_case z y.value) (same_case z x.value) (is_among z ys)

alike_more : (x : Case) (xs ys : List Case) → Alike xs ys → Alike (xs ++ x ∷ []) (x ∷ ys)
alike_more x xs ys same z = pushed z x xs ∙ ap (λ b. same_case z x.value || b) (same z)

repeats_is : (found : Option Breach) (xs ys zs : List Case) → Alike xs ys →
    repeats_from found xs zs ≡ lesser found (least_of (repeated_cases ys zs))
repeats_is None xs ys [] same = refl
repeats_is (Some x) xs ys [] same = refl
repeats_is found xs ys (z ∷ zs) same =
    let one = λ (b : Bool). breach_if b z.at broken.BadGoto in
    repeats_is (lesser found (least_of (one (is_among z.value xs)))) (xs ++ z ∷ []) (z ∷ ys) zs
    (alike_more z xs ys same)
    ∙ ap (λ b. lesser (lesser found (least_of (one b))) (least_of (repeated_cases (z ∷ ys) zs))) (same z.value)
    ∙ sym (grouping found (least_of (one (is_among z.value ys))) (least_of (repeated_cases (z ∷ ys) zs)))
    ∙ ap (lesser found) (sym (of_both (one (is_among z.value ys)) (repeated_cases (z ∷ ys) zs)))

pub all_repeated : (zs : List Case) → repeats_from None [] zs ≡ least_of (repeated_cases [] zs)
all_repeated zs = repeats_is None [] [] zs (λ z. refl)
