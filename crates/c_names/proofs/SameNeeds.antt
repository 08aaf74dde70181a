-- The words that are needed over what is kept of names are those that `c_means` needs.
use Rattle.std.proofs.Common.{◌≡◌, ℕ, zero, suc, ◌+◌, ◌*◌, Bool, true, false, cond, ◌||◌, List, [], ◌∷◌, ◌++◌, length}
use Rattle.std.proofs.Common.{reverse, map, refl, sym, ap, ◌∙◌, arith}
use Rattle.std.proofs.lemmas.List.{append_assoc, reverse-append}
use Rattle.c_means.specs.Names.{Word, same_word}
use Rattle.c_means.specs.Programs.{Outer, declares_word, has_word}
use Rattle.c_means.specs.Programs as programs
use Rattle.c_names.specs.declared.needs.Needing.{Needing}
use Rattle.c_names.specs.declared.summaries.Names.{Names}
use Rattle.c_names.specs.Kept.{kept}
use Rattle.c_names.specs.Needs as spec

-- ---- order

reverse_cons : {A : Type 0} (xs : List A) (x : A) → reverse (x ∷ xs) ≡ reverse xs ++ x ∷ []
reverse_cons xs x = reverse-append (x ∷ []) xs

exchanged : (a b c : Bool) → (a || (b || c)) ≡ (b || (a || c))
exchanged true true c = refl
exchanged true false c = refl
exchanged false true c = refl
exchanged false false c = refl

or_last : (w : Word) (xs : List Word) (x : Word) → has_word w (xs ++ x ∷ []) ≡ (same_word x w || has_word w xs)
or_last w [] x = refl
or_last w (y ∷ ys) x =
    ap (λ t. same_word y w || t) (or_last w ys x) ∙ exchanged (same_word y w) (same_word x w) (has_word w ys)

turned : (w : Word) (xs : List Word) → has_word w (reverse xs) ≡ has_word w xs
turned w [] = refl
turned w (x ∷ xs) =
    ap (has_word w) (reverse_cons xs x) ∙ or_last w (reverse xs) x ∙ ap (λ t. same_word x w || t) (turned w xs)

pub has_reversed : (w : Word) (xs ys : List Word) → ys ≡ reverse xs → has_word w xs ≡ has_word w ys
has_reversed w xs ys is = sym (turned w xs) ∙ ap (has_word w) (sym is)

-- ---- the search

abbrev keep : Outer → Names
keep x = kept x.names

put : (b : Bool) (us vs todo : List Word) → cond b (us ++ (vs ++ todo)) (vs ++ todo) ≡ cond b (us ++ vs) vs ++ todo
put true us vs todo = sym (append_assoc us vs todo)
put false us vs todo = refl

put_all : (w : Word) (xs : List Outer) (todo : List Word) →
    spec.with_all_uses w (map keep xs) todo ≡ programs.uses_of w xs ++ todo
put_all w [] todo = refl
put_all w (x ∷ xs) todo =
    ap (spec.with_uses w (keep x)) (put_all w xs todo)
    ∙ put (declares_word w x.names.declares) x.names.uses (programs.uses_of w xs) todo

abbrev at_words : List Word → List Word → Needing
at_words todo found = record { todo = todo; found = found }

stays : (xs : List Names) (n : ℕ) (found : List Word) → (spec.steps xs n (at_words [] found)).found ≡ found
stays xs zero found = refl
stays xs (suc n) found = stays xs n found

looked : (xs : List Outer) (n : ℕ) (w : Word) (todo found : List Word) (b : Bool) →
    (spec.steps (map keep xs) n (cond b (at_words todo found)
    (at_words (spec.with_all_uses w (map keep xs) todo) (w ∷ found)))).found
    ≡ cond b (spec.steps (map keep xs) n (at_words todo found)).found
    (spec.steps (map keep xs) n (at_words (programs.uses_of w xs ++ todo) (w ∷ found))).found
looked xs n w todo found true = refl
looked xs n w todo found false =
    ap (λ (us : List Word). (spec.steps (map keep xs) n (at_words us (w ∷ found))).found) (put_all w xs todo)

both : (b : Bool) {x x' y y' : List Word} → x ≡ x' → y ≡ y' → cond b x y ≡ cond b x' y'
both true is same = is
both false is same = same

pub need_is : (xs : List Outer) (n : ℕ) (todo found : List Word) →
    (spec.steps (map keep xs) n (at_words todo found)).found ≡ programs.need n xs todo found
need_is xs zero todo found = refl
need_is xs (suc n) [] found = stays (map keep xs) n found
need_is xs (suc n) (w ∷ todo) found =
    looked xs n w todo found (has_word w found)
    ∙ both (has_word w found) (need_is xs n todo found) (need_is xs n (programs.uses_of w xs ++ todo) (w ∷ found))

all_uses_is : (xs : List Outer) → spec.all_uses (map keep xs) ≡ programs.all_uses xs
all_uses_is [] = refl
all_uses_is (x ∷ xs) = ap (λ n. length x.names.declares * length x.names.uses + n) (all_uses_is xs)

-- ---- steps one behind another

zero_plus : (b : ℕ) → 0 + b ≡ b
zero_plus b = omega arith

suc_plus : (a b : ℕ) → suc a + b ≡ suc (a + b)
suc_plus a b = omega arith

pub steps_add : (xs : List Names) (a b : ℕ) (z : Needing) →
    spec.steps xs (a + b) z ≡ spec.steps xs b (spec.steps xs a z)
steps_add xs zero b z = ap (λ n. spec.steps xs n z) (zero_plus b)
steps_add xs (suc a) b z = ap (λ n. spec.steps xs n z) (suc_plus a b) ∙ steps_add xs a b (spec.step xs z)

mul_suc : (k m : ℕ) → suc k * m ≡ m + k * m
mul_suc k m = omega arith

pub steps_one_more : (xs : List Names) (k m : ℕ) (z : Needing) →
    spec.steps xs (suc k * m) z ≡ spec.steps xs (k * m) (spec.steps xs m z)
steps_one_more xs k m z = ap (λ n. spec.steps xs n z) (mul_suc k m) ∙ steps_add xs m (k * m) z

-- the words that are found over what is kept of names are those that are needed
pub needed_is : (xs : List Outer) (ws : List Word) →
    spec.needed_words (map keep xs) ws ≡ programs.need (suc (length ws + programs.all_uses xs)) xs ws []
needed_is xs ws =
    ap (λ n. (spec.steps (map keep xs) n (spec.steps (map keep xs) (length ws) (spec.step (map keep xs)
    (at_words ws [])))).found) (all_uses_is xs)
    ∙ ap (λ (z : Needing). z.found) (sym (steps_add (map keep xs) (length ws) (programs.all_uses xs)
    (spec.step (map keep xs) (at_words ws []))))
    ∙ need_is xs (suc (length ws + programs.all_uses xs)) ws []
