-- Parameters and locals by their offsets, from the outermost block in.
use Rattle.std.proofs.Common.{◌≡◌, ℕ, suc, Bool, true, false, cond, nat_eq, nat_lt, List, [], ◌∷◌, ◌++◌, ◌≤◌, drop, length, reverse, Option, Some, None, refl, sym, ap, ap₂, ◌∙◌}
use Rattle.std.specs.Prelude.{option_map}
use Rattle.std.specs.List.{insert}
use Rattle.std.proofs.lemmas.List.{drop_all, reverse-append}
use Rattle.c_language.specs.declared.scope.Entry.{Entry}
use Rattle.c_language.specs.Scopes.{Block}
use Rattle.c_means.specs.Calls.{inserted, automatic_of, automatic_in}
use Rattle.core_callees.specs.Watching.{automatic_over, gap_from}

-- ---- blocks

abbrev in_from : List Entry → List Block → List Entry
in_from found [] = found
in_from found (b ∷ bs) = automatic_of b.entries (in_from found bs)

from_none : (bs : List Block) → in_from [] bs ≡ automatic_in bs
from_none [] = refl
from_none (b ∷ bs) = ap (automatic_of b.entries) (from_none bs)

in_last : (found : List Entry) (bs : List Block) (b : Block) → in_from found (bs ++ b ∷ [])
    ≡ in_from (automatic_of b.entries found) bs
in_last found [] b = refl
in_last found (x ∷ bs) b = ap (automatic_of x.entries) (in_last found bs b)

over_from : (bs : List Block) (found : List Entry) → automatic_over bs found ≡ in_from found (reverse bs)
over_from [] found = refl
over_from (b ∷ bs) found =
    over_from bs (automatic_of b.entries found) ∙ sym (in_last found (reverse bs) b)
    ∙ ap (in_from found) (sym (reverse-append (b ∷ []) bs))

pub over_is_in : (bs : List Block) → automatic_over bs [] ≡ automatic_in (reverse bs)
over_is_in bs = over_from bs [] ∙ from_none (reverse bs)

-- behind all blocks
pub over_ends : (bs : List Block) (found : List Entry) (i : ℕ) → length bs ≤ i
    → automatic_over (drop i bs) found ≡ automatic_over bs [] → found ≡ automatic_in (reverse bs)
over_ends bs found i over whole =
    ap (λ xs. automatic_over xs found) (sym (drop_all i bs over)) ∙ whole ∙ over_is_in bs

-- ---- where an entry belongs

abbrev put : Option ℕ → Entry → List Entry → List Entry
put None e xs = xs
put (Some i) e xs = insert xs i e

shifted_by : (b c : Bool) (n : ℕ) (x y : Option ℕ) → x ≡ option_map suc y
    → cond b (Some (suc n)) (cond c None x) ≡ option_map suc (cond b (Some n) (cond c None y))
shifted_by true c n x y h = refl
shifted_by false true n x y h = refl
shifted_by false false n x y h = h

shifted : (n at : ℕ) (xs : List Entry) → gap_from (suc n) at xs ≡ option_map suc (gap_from n at xs)
shifted n at [] = refl
shifted n at (x ∷ xs) =
    shifted_by (nat_lt at x.at) (nat_eq at x.at) n (gap_from (suc (suc n)) at xs) (gap_from (suc n) at xs)
    (shifted (suc n) at xs)

put_behind : (i : Option ℕ) (e x : Entry) (xs : List Entry) → x ∷ put i e xs ≡ put (option_map suc i) e (x ∷ xs)
put_behind None e x xs = refl
put_behind (Some i) e x xs = refl

put_by : (b c : Bool) (e x : Entry) (xs ys : List Entry) (i : Option ℕ) → x ∷ ys ≡ put i e (x ∷ xs)
    → cond b (e ∷ x ∷ xs) (cond c (x ∷ xs) (x ∷ ys)) ≡ put (cond b (Some 0) (cond c None i)) e (x ∷ xs)
put_by true c e x xs ys i h = refl
put_by false true e x xs ys i h = refl
put_by false false e x xs ys i h = h

inserted_is : (e : Entry) (xs : List Entry) → inserted e xs ≡ put (gap_from 0 e.at xs) e xs
inserted_is e [] = refl
inserted_is e (x ∷ xs) =
    put_by (nat_lt e.at x.at) (nat_eq e.at x.at) e x xs (inserted e xs) (gap_from 1 e.at xs)
    (ap (λ ys. x ∷ ys) (inserted_is e xs) ∙ put_behind (gap_from 0 e.at xs) e x xs
    ∙ ap (λ i. put i e (x ∷ xs)) (sym (shifted 0 e.at xs)))

pub put_in : (e x y : Entry) (xs zs ys : List Entry) (i : ℕ) → x ≡ e → zs ≡ xs → Some i ≡ gap_from 0 x.at zs
    → y ≡ e → ys ≡ insert xs i y → ys ≡ inserted e xs
put_in e x y xs zs ys i same all gap copied made =
    made ∙ ap (insert xs i) copied
    ∙ ap (λ i. put i e xs) (gap ∙ ap₂ (λ (x : Entry) zs. gap_from 0 x.at zs) same all) ∙ sym (inserted_is e xs)

pub is_in : (e x : Entry) (xs zs : List Entry) → x ≡ e → zs ≡ xs → None ≡ gap_from 0 x.at zs → xs ≡ inserted e xs
is_in e x xs zs same all gap =
    ap (λ i. put i e xs) (gap ∙ ap₂ (λ (x : Entry) zs. gap_from 0 x.at zs) same all) ∙ sym (inserted_is e xs)
