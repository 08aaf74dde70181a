-- The least of several refusals, taken together part by part.
use Rattle.std.proofs.Common.{◌≡◌, ℕ, ◌<◌, ◌+◌, ◌*◌, Bool, true, false, cond, ◌&&◌, ◌||◌, nat_eq, nat_lt, List, [], ◌∷◌, ◌++◌}
use Rattle.std.proofs.Common.{Option, Some, None, refl, sym, ap, subst, ◌∙◌, arith, inl, inr}
use Rattle.std.specs.Prelude.{unwrap_or}
use Rattle.std.proofs.lemmas.Option.{none-some}
use Rattle.c_language.specs.declared.scope.Fault.{Fault}
use Rattle.c_language.specs.declared.scope.Rule.{Rule}
use Rattle.c_language.specs.declared.scope.Rule.TheVariants as rule
use Rattle.c_means.specs.declared.breach.Breach.{Breach}
use Rattle.c_means.specs.declared.breach.BrokenRule.{BrokenRule}
use Rattle.c_means.specs.declared.breach.BrokenRule.TheVariants as broken
use Rattle.c_means.specs.Items.{typing}
use Rattle.c_checks.specs.Refusals.{typing_number, number_of, comes_before, lesser_of, lesser, least_of, NoneBefore, IsLeast}

-- ---- places by one number

typing_small : (r : Rule) → typing_number r < 16
typing_small rule.Undeclared = omega arith
typing_small rule.TypeMismatch = omega arith
typing_small rule.NotModifiable = omega arith
typing_small rule.FloatUsed = omega arith
typing_small rule.IndirectCall = omega arith
typing_small rule.StructByValue = omega arith
typing_small rule.BitField = omega arith
typing_small (rule.Layout r) = omega arith
typing_small rule.DuplicateDefinition = omega arith

small : (r : BrokenRule) → number_of r < 16
small broken.UnreadBody = omega arith
small (broken.Typing r) = typing_small r
small broken.BadGoto = omega arith
small broken.FormatNotLiteral = omega arith
small (broken.Format fault) = omega arith
small broken.FormatArgument = omega arith

abbrev place : Breach → ℕ
place x = 16 * x.at + number_of x.rule

placed_by : (a b m n : ℕ) → m < 16 → n < 16
    → (nat_lt a b || (nat_eq a b && nat_lt m n)) ≡ nat_lt (16 * a + m) (16 * b + n)
placed_by a b m n h k = grind (arith, h, k)

placed : (x y : Breach) → comes_before x y ≡ nat_lt (place x) (place y)
placed x y = placed_by x.at y.at (number_of x.rule) (number_of y.rule) (small x.rule) (small y.rule)

up : (a b c : ℕ) → nat_lt b a ≡ true → nat_lt c b ≡ true → nat_lt c a ≡ true
up a b c h k = grind (arith, h, k)

down : (a b c : ℕ) → nat_lt b a ≡ false → nat_lt c b ≡ false → nat_lt c a ≡ false
down a b c h k = grind (arith, h, k)

goes_up : (x y z : Breach) → comes_before y x ≡ true → comes_before z y ≡ true → comes_before z x ≡ true
goes_up x y z h k =
    placed z x ∙ up (place x) (place y) (place z) (sym (placed y x) ∙ h) (sym (placed z y) ∙ k)

goes_down : (x y z : Breach) → comes_before y x ≡ false → comes_before z y ≡ false → comes_before z x ≡ false
goes_down x y z h k =
    placed z x ∙ down (place x) (place y) (place z) (sym (placed y x) ∙ h) (sym (placed z y) ∙ k)

-- ---- parts

abbrev first_by : {A : Type 0} → (A → A → Bool) → A → A → A
first_by f x y = cond (f y x) y x

grouped : {A : Type 0} (f : A → A → Bool) (x y z : A) (p q : Bool) → f y x ≡ p → f z y ≡ q
    → (f y x ≡ true → f z y ≡ true → f z x ≡ true) → (f y x ≡ false → f z y ≡ false → f z x ≡ false)
    → first_by f (first_by f x y) z ≡ first_by f x (first_by f y z)
grouped f x y z true true a b up down = rw (a, b, up a b) refl
grouped f x y z true false a b up down = rw (a, b, a) refl
grouped f x y z false true a b up down = rw (a, b) refl
grouped f x y z false false a b up down = rw (a, b, down a b, a) refl

lesser_grouped : (x : Breach) (y z : Option Breach) → lesser_of x (lesser y z) ≡ lesser_of (lesser_of x y) z
lesser_grouped x None z = refl
lesser_grouped x (Some y) None = refl
lesser_grouped x (Some y) (Some z) =
    sym (grouped comes_before x y z (comes_before y x) (comes_before z y) refl refl (goes_up x y z) (goes_down x y z))

pub grouping : (x y z : Option Breach) → lesser x (lesser y z) ≡ lesser (lesser x y) z
grouping None y z = refl
grouping (Some x) y z = ap Some (lesser_grouped x y z)

-- of a list in two parts
pub of_both : (xs ys : List Breach) → least_of (xs ++ ys) ≡ lesser (least_of xs) (least_of ys)
of_both [] ys = refl
of_both (x ∷ xs) ys =
    ap Some (ap (lesser_of x) (of_both xs ys) ∙ lesser_grouped x (least_of xs) (least_of ys))

typing_both : (xs ys : List Fault) → typing (xs ++ ys) ≡ typing xs ++ typing ys
typing_both [] ys = refl
typing_both (x ∷ xs) ys = ap (λ zs. record { at = x.at; rule = broken.Typing x.rule } ∷ zs) (typing_both xs ys)

pub of_faults :
    (xs ys : List Fault) → least_of (typing (xs ++ ys)) ≡ lesser (least_of (typing xs)) (least_of (typing ys))
of_faults xs ys = ap least_of (typing_both xs ys) ∙ of_both (typing xs) (typing ys)

-- from left to right
abbrev pub least_from : Option Breach → List Fault → Option Breach
least_from x [] = x
least_from x (f ∷ fs) = least_from (lesser x (Some (record { at = f.at; rule = broken.Typing f.rule }))) fs

from_is : (x : Option Breach) (fs : List Fault) → least_from x fs ≡ lesser x (least_of (typing fs))
from_is None [] = refl
from_is (Some x) [] = refl
from_is x (f ∷ fs) =
    from_is (lesser x (Some (record { at = f.at; rule = broken.Typing f.rule }))) fs
    ∙ sym (grouping x (Some (record { at = f.at; rule = broken.Typing f.rule })) (least_of (typing fs)))

pub all_faults : (fs : List Fault) → least_from None fs ≡ least_of (typing fs)
all_faults fs = from_is None fs

-- ---- the least is one of them, and none comes before it; there is none exactly where no rule is broken

pub none_broken : (xs : List Breach) → least_of xs ≡ None → xs ≡ []
none_broken [] e = refl
none_broken (x ∷ xs) e = absurd (none-some (lesser_of x (least_of xs)) (sym e))

itself : (x : Breach) → comes_before x x ≡ false
itself x = placed x x ∙ not_less (place x)
  where
    not_less : (n : ℕ) → nat_lt n n ≡ false
    not_less n = grind arith

other : (x y : Breach) → comes_before y x ≡ true → comes_before x y ≡ false
other x y h = placed x y ∙ turned (place x) (place y) (sym (placed y x) ∙ h)
  where
    turned : (m n : ℕ) → nat_lt n m ≡ true → nat_lt m n ≡ false
    turned m n h = grind (arith, h)

all_behind : (x y : Breach) → comes_before y x ≡ false → (zs : List Breach) → NoneBefore y zs → NoneBefore x zs
all_behind x y h [] all = tt
all_behind x y h (z ∷ zs) all = (goes_down x y z h all.0, all_behind x y h zs all.1)

of_two : (x y : Breach) (ys : List Breach) (b : Bool) → comes_before x y ≡ b → IsLeast x ys →
    IsLeast (cond b x y) (y ∷ ys)
of_two x y ys true h least = record { among = inr least.among; first = (other y x h, least.first) }
of_two x y ys false h least = record { among = inl refl; first = (itself y, all_behind y x h ys least.first) }

with_rest : (x y : Breach) (ys : List Breach) (o : Option Breach) → least_of ys ≡ o →
    ((z : Breach) → least_of ys ≡ Some z → IsLeast z ys) → lesser_of y o ≡ x → IsLeast x (y ∷ ys)
with_rest x y ys None e rest is =
    subst (λ (z : Breach). IsLeast z (y ∷ ys)) is
    (record { among = inl refl; first = (itself y, rw (none_broken ys e) tt) })
with_rest x y ys (Some z) e rest is =
    subst (λ (z : Breach). IsLeast z (y ∷ ys)) is (of_two z y ys (comes_before z y) refl (rest z e))

pub is_least : (xs : List Breach) (x : Breach) → least_of xs ≡ Some x → IsLeast x xs
is_least [] x e = absurd (none-some x e)
is_least (y ∷ ys) x e = with_rest x y ys (least_of ys) refl (is_least ys) (ap (λ o. unwrap_or o x) e)
