-- Texts of a list's items, put one behind the other.
use Rattle.std.proofs.Common.{◌≡◌, ◌≤◌, ◌<◌, ◌+◌, ◌∙◌, ℕ, List, [], ◌∷◌, ◌++◌, length, drop, get_or, drop-cons, drop_of_length-le, add-one, refl, sym, ap, ap₂, subst}
use Rattle.std.proofs.Common.{append-nil, append_assoc}
use Rattle.report_text.specs.Numbers.{Text}
use Rattle.site_text.specs.Ends.{Adds, AreTexts, numbered}

-- what is left leads to the whole
abbrev pub Leads : {A : Type 0} → (A → Text → Type 0) → List A → List A → Text → Text → Type 0
Leads P whole left old now = (tail : Text) → AreTexts P left tail → Adds (AreTexts P whole) old (now ++ tail)

pub begun : {A : Type 0} (P : A → Text → Type 0) (whole : List A) (old : Text) → Leads P whole whole old old
begun P whole old tail h = record { added = tail; just = h; is = refl }

-- one item's text was put
pub goes_on : {A : Type 0} (P : A → Text → Type 0) (whole : List A) (x : A) (left : List A) (old now new : Text)
    → Leads P whole (x ∷ left) old now → Adds (P x) now new → Leads P whole left old new
goes_on P whole x left old now new lead put tail h =
    let all = lead (put.added ++ tail) (put.added, (tail, (put.just, (h, refl)))) in
    record {
      added = all.added;
      just = all.just;
      is = ap (λ (t : Text). t ++ tail) put.is ∙ append_assoc now put.added tail ∙ all.is;
    }

-- no item is left
pub ended : {A : Type 0} (P : A → Text → Type 0) (whole : List A) (old now : Text)
    → Leads P whole [] old now → Adds (AreTexts P whole) old now
ended P whole old now lead =
    let all = lead [] refl in
    record { added = all.added; just = all.just; is = sym (append-nil now) ∙ all.is }

-- ---- in loops over a list

dropped : {A : Type 0} (xs : List A) (i : ℕ) (x d : A) → i < length xs → x ≡ get_or xs i d → drop i xs ≡ x ∷ drop (i + 1) xs
dropped xs i x d h is = drop-cons xs i d h ∙ ap₂ (λ y n. y ∷ drop n xs) (sym is) (sym (add-one i))

pub next_put : {A : Type 0} (P : A → Text → Type 0) (xs : List A) (i : ℕ) (x d : A) (now new : Text) → i < length xs
    → x ≡ get_or xs i d → Leads P xs (drop i xs) [] now → Adds (P x) now new → Leads P xs (drop (i + 1) xs) [] new
next_put P xs i x d now new h is lead put =
    goes_on P xs x (drop (i + 1) xs) [] now new
    (subst (λ ys. Leads P xs ys [] now) (dropped xs i x d h is) lead) put

pub all_put : {A : Type 0} (P : A → Text → Type 0) (xs : List A) (i : ℕ) (now : Text) → length xs ≤ i
    → Leads P xs (drop i xs) [] now → AreTexts P xs now
all_put P xs i now h lead =
    let all = ended P xs [] now (subst (λ ys. Leads P xs ys [] now) (drop_of_length-le xs {i = i} h) lead) in
    subst (AreTexts P xs) (sym all.is) all.just

-- ---- over the lines of a log

pub line_put : (P : ℕ × ℕ → Text → Type 0) (starts : List ℕ) (i number : ℕ) (old now new : Text) → i < length starts
    → Leads P (numbered 1 starts) (numbered (number + 1) (drop i starts)) old now
    → Adds (P (number + 1, get_or starts i 0)) now new
    → Leads P (numbered 1 starts) (numbered (number + 1 + 1) (drop (i + 1) starts)) old new
line_put P starts i number old now new h lead put =
    goes_on P (numbered 1 starts) (number + 1, get_or starts i 0) (numbered (number + 1 + 1) (drop (i + 1) starts)) old now new
    (subst (λ ys. Leads P (numbered 1 starts) (numbered (number + 1) ys) old now)
    (dropped starts i (get_or starts i 0) 0 h refl) lead) put

pub lines_put : (P : ℕ × ℕ → Text → Type 0) (starts : List ℕ) (i number : ℕ) (old now : Text) → length starts ≤ i
    → Leads P (numbered 1 starts) (numbered (number + 1) (drop i starts)) old now → Adds (AreTexts P (numbered 1 starts)) old now
lines_put P starts i number old now h lead =
    ended P (numbered 1 starts) old now
    (subst (λ ys. Leads P (numbered 1 starts) (numbered (number + 1) ys) old now) (drop_of_length-le starts {i = i} h) lead)
