-- Lists that grow by what stands at each of some others, and by several parts.
use Rattle.std.proofs.Common.{◌≡◌, ℕ, suc, ◌+◌, ◌<◌, ◌≤◌, List, [], ◌∷◌, ◌++◌, length, get_or, drop, map, refl, sym, ap, ◌∙◌, append_assoc, arith, add-one, drop_of_length-le}
use Rattle.std.proofs.lemmas.List.{append-nil, drop_more}
use Rattle.core_tree.specs.declared.program.Function.{Function}
use Rattle.core_marks.specs.declared.mark.Mark.{Mark}
use Rattle.core_marks.specs.Marks.{joined, each}
use Rattle.core_marks.specs.Programs.{library_function_marks, library_functions_marks}

-- ---- what is left from an index on leads to the whole

pub record Leads {A : Type 0} (f : A → List Mark) (xs : List A) (i : ℕ) (base now : List Mark) : Type 0 where
  pub whole : now ++ each f (drop i xs) ≡ base ++ each f xs

pub begins : {A : Type 0} (f : A → List Mark) (xs : List A) (base : List Mark) → Leads f xs 0 base base
begins f xs base = record { whole = refl }

-- the item of an index comes first of what is left
from_index : {A : Type 0} (xs : List A) (i : ℕ) (x : A) → i < length xs → x ≡ get_or xs i x → drop i xs ≡ x ∷ drop (i + 1) xs
from_index xs i x h e = drop_more xs i x h ∙ ap (λ y. y ∷ drop (i + 1) xs) (sym e)

pub goes_on : {A : Type 0} (f : A → List Mark) (xs : List A) (i : ℕ) (x : A) (base old now : List Mark)
    → i < length xs → x ≡ get_or xs i x → now ≡ old ++ f x → Leads f xs i base old → Leads f xs (i + 1) base now
goes_on f xs i x base old now h e is l = record {
  whole = ap (λ m. m ++ each f (drop (i + 1) xs)) is ∙ append_assoc old (f x) (each f (drop (i + 1) xs))
      ∙ ap (λ ys. old ++ each f ys) (sym (from_index xs i x h e)) ∙ l.whole;
}

pub ends : {A : Type 0} (f : A → List Mark) (xs : List A) (i : ℕ) (base now : List Mark)
    → length xs ≤ i → Leads f xs i base now → now ≡ base ++ each f xs
ends f xs i base now h l =
    sym (append-nil now) ∙ ap (λ ys. now ++ each f ys) (sym (drop_of_length-le xs h)) ∙ l.whole

-- ---- the same with the number of each

pub record LeadsIn (calls : List Mark) (fs : List Function) (i : ℕ) (base now : List Mark) : Type 0 where
  pub whole : now ++ library_functions_marks calls i (drop i fs) ≡ base ++ library_functions_marks calls 0 fs

pub begins_in : (calls : List Mark) (fs : List Function) (base : List Mark) → LeadsIn calls fs 0 base base
begins_in calls fs base = record { whole = refl }

pub goes_on_in : (calls : List Mark) (fs : List Function) (i : ℕ) (f : Function) (base old now : List Mark)
    → i < length fs → f ≡ get_or fs i f → now ≡ old ++ library_function_marks calls i f → LeadsIn calls fs i base old
    → LeadsIn calls fs (i + 1) base now
goes_on_in calls fs i f base old now h e is l =
    let rest = library_functions_marks calls (i + 1) (drop (i + 1) fs) in
    let own = library_function_marks calls i f in
    record {
      whole = ap (λ m. m ++ rest) is ∙ append_assoc old own rest
          ∙ ap (λ n. old ++ (own ++ library_functions_marks calls n (drop (i + 1) fs))) (add-one i)
          ∙ ap (λ ys. old ++ library_functions_marks calls i ys) (sym (from_index fs i f h e)) ∙ l.whole;
    }

pub ends_in : (calls : List Mark) (fs : List Function) (i : ℕ) (base now : List Mark)
    → length fs ≤ i → LeadsIn calls fs i base now → now ≡ base ++ library_functions_marks calls 0 fs
ends_in calls fs i base now h l =
    sym (append-nil now) ∙ ap (λ ys. now ++ library_functions_marks calls i ys) (sym (drop_of_length-le fs h)) ∙ l.whole

-- ---- several parts one behind the other

pub part : {A : Type 0} (f : A → List Mark) (old now : List Mark) (got x : A) → now ≡ old ++ f got → got ≡ x → now ≡ old ++ f x
part f old now got x is same = is ∙ ap (λ y. old ++ f y) same

pub none : (old whole : List Mark) → whole ≡ [] → old ≡ old ++ whole
none old whole w = sym (append-nil old) ∙ ap (λ m. old ++ m) (sym w)

pub one : (old now a whole : List Mark) → now ≡ old ++ a → whole ≡ a → now ≡ old ++ whole
one old now a whole is w = is ∙ ap (λ m. old ++ m) (sym w)

pub two : (old m now a b whole : List Mark) → m ≡ old ++ a → now ≡ m ++ b → whole ≡ a ++ b → now ≡ old ++ whole
two old m now a b whole p q w = q ∙ ap (λ k. k ++ b) p ∙ append_assoc old a b ∙ ap (λ k. old ++ k) (sym w)

pub three : (old m n now a b d whole : List Mark) → m ≡ old ++ a → n ≡ m ++ b → now ≡ n ++ d → whole ≡ a ++ (b ++ d)
    → now ≡ old ++ whole
three old m n now a b d whole p q r w = two old m now a (b ++ d) whole p (r ∙ ap (λ k. k ++ d) q ∙ append_assoc m b d) w

pub four : (old m n o now a b d e whole : List Mark) → m ≡ old ++ a → n ≡ m ++ b → o ≡ n ++ d → now ≡ o ++ e
    → whole ≡ a ++ (b ++ (d ++ e)) → now ≡ old ++ whole
four old m n o now a b d e whole p q r s w =
    three old m n now a b (d ++ e) whole p q (s ∙ ap (λ k. k ++ e) r ∙ append_assoc n d e) w
