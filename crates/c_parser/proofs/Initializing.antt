-- Lists of designators, and the items of a braced list.
use Rattle.std.proofs.Common.{◌≡◌, ℕ, suc, List, [], ◌∷◌, ◌++◌, Some, None, Bool, true, false, refl, ap, ◌∙◌}
use Rattle.c_language.specs.declared.token.Punctuator.TheVariants as mark
use Rattle.c_language.specs.declared.unit.Designator.{Designator}
use Rattle.c_language.specs.declared.unit.InitializerItem.{InitializerItem}
use Rattle.c_grammar.specs.Parts.{State}
use Rattle.c_grammar.specs.Reading.{Reading, Rules, ◌>>=◌, begins, expect}
use Rattle.c_grammar.specs.UnitReading.{Inside, designated, designator_in, designators_at, item_at, more_items_at}
use Rattle.c_reading.specs.declared.fault.ParseFault.{ParseFault}
use Rattle.c_reading.specs.Cursor.{Fails, after, behind}
use Rattle.c_reading.proofs.Lists as lists
use Rattle.c_reading.proofs.Tails as tails
use Rattle.c_parser.proofs.Faults.{carried}

-- ---- designators

no_designator : (r : Rules) (m left : ℕ) (s : State) → left ≡ suc m → designated s.0 ≡ false
    → designators_at r left s ≡ Some ([], s)
unfolding designators_at
no_designator r m left s e none = rw (e, none) refl

designator_step : (r : Rules) (m left : ℕ) (s : State) (read : Reading Designator) → left ≡ suc m
    → designated s.0 ≡ true → designator_in r s.0 s.1 ≡ read
    → designators_at r left s ≡ (read >>= (λ x. designators_at r m x.1 >>= (λ more. Some (x.0 ∷ more.0, more.1))))
unfolding designators_at
designator_step r m left s read e goes reads = rw (e, goes, reads) refl

zero_designators : (r : Rules) (left : ℕ) (s : State) → left ≡ 0 → designators_at r left s ≡ None
unfolding designators_at
zero_designators r left s e = rw e refl

pub designators_stop : (r : Rules) (m left : ℕ) (front : List Designator) (s : State)
    (whole : Reading (List Designator)) → left ≡ suc m → designated s.0 ≡ false
    → after front (designators_at r left s) ≡ whole → whole ≡ Some (front, s)
designators_stop r m left front s whole e none reads =
    lists.stopped front (designators_at r left s) whole s (no_designator r m left s e none) reads

pub designators_fail : (r : Rules) (m left : ℕ) (front : List Designator) (s : State)
    (whole : Reading (List Designator)) (f : ParseFault) → left ≡ suc m → designated s.0 ≡ true
    → Fails f (designator_in r s.0 s.1) → after front (designators_at r left s) ≡ whole → Fails f whole
designators_fail r m left front s whole f e goes fails reads =
    carried f (designator_in r s.0 s.1) whole fails
    (λ none. lists.failed front (designators_at r left s) whole (designator_step r m left s None e goes none) reads)

pub designators_next : (r : Rules) (m left : ℕ) (front all : List Designator) (x : Designator) (s w : State)
    (whole : Reading (List Designator)) → left ≡ suc m → designated s.0 ≡ true → designator_in r s.0 s.1 ≡ Some (x, w)
    → all ≡ front ++ x ∷ [] → after front (designators_at r left s) ≡ whole → after all (designators_at r m w) ≡ whole
designators_next r m left front all x s w whole e goes took appended reads =
    ap (λ l. after l (designators_at r m w)) appended
    ∙ lists.turned front x (designators_at r left s) (designators_at r m w) whole
    (designator_step r m left s (Some (x, w)) e goes took) reads

pub designators_out : (r : Rules) (left : ℕ) (front : List Designator) (s : State) (whole : Reading (List Designator))
    → left ≡ 0 → after front (designators_at r left s) ≡ whole → whole ≡ None
designators_out r left front s whole e reads =
    lists.failed front (designators_at r left s) whole (zero_designators r left s e) reads

-- ---- items

abbrev Items : Type 0
Items = List InitializerItem × Bool

no_comma : (r : Rules) (inside : Inside) (m left : ℕ) (s : State) → left ≡ suc m → begins mark.Comma s ≡ false
    → more_items_at r inside left s ≡ Some (([], false), s)
unfolding more_items_at
no_comma r inside m left s e none = rw (e, none) refl

last_comma : (r : Rules) (inside : Inside) (m left at : ℕ) (s z : State) → left ≡ suc m → begins mark.Comma s ≡ true
    → expect mark.Comma s ≡ Some (tt, at, z) → begins mark.RightBrace z ≡ true
    → more_items_at r inside left s ≡ Some (([], true), z)
unfolding more_items_at
last_comma r inside m left at s z e goes is last = rw (e, goes, is, last) refl

item_step : (r : Rules) (inside : Inside) (m left at : ℕ) (s z : State) (read : Reading InitializerItem)
    → left ≡ suc m → begins mark.Comma s ≡ true → expect mark.Comma s ≡ Some (tt, at, z)
    → begins mark.RightBrace z ≡ false → item_at r inside z ≡ read
    → more_items_at r inside left s ≡ (read
    >>= (λ x. more_items_at r inside m x.1 >>= (λ more. Some ((x.0 ∷ more.0.0, more.0.1), more.1))))
unfolding more_items_at
item_step r inside m left at s z read e goes is more reads = rw (e, goes, is, more, reads) refl

zero_items : (r : Rules) (inside : Inside) (left : ℕ) (s : State) → left ≡ 0 → more_items_at r inside left s ≡ None
unfolding more_items_at
zero_items r inside left s e = rw e refl

pub items_stop : (r : Rules) (inside : Inside) (m left : ℕ) (front : List InitializerItem) (s : State)
    (whole : Reading Items) → left ≡ suc m → begins mark.Comma s ≡ false
    → behind front (more_items_at r inside left s) ≡ whole → whole ≡ Some ((front, false), s)
items_stop r inside m left front s whole e none reads =
    tails.stopped front false (more_items_at r inside left s) whole s (no_comma r inside m left s e none) reads

pub items_close : (r : Rules) (inside : Inside) (m left at : ℕ) (front : List InitializerItem) (s z : State)
    (whole : Reading Items) → left ≡ suc m → begins mark.Comma s ≡ true → expect mark.Comma s ≡ Some (tt, at, z)
    → begins mark.RightBrace z ≡ true → behind front (more_items_at r inside left s) ≡ whole
    → whole ≡ Some ((front, true), z)
items_close r inside m left at front s z whole e goes is last reads =
    tails.stopped front true (more_items_at r inside left s) whole z
    (last_comma r inside m left at s z e goes is last) reads

pub items_fail : (r : Rules) (inside : Inside) (m left at : ℕ) (front : List InitializerItem) (s z : State)
    (whole : Reading Items) (f : ParseFault) → left ≡ suc m → begins mark.Comma s ≡ true
    → expect mark.Comma s ≡ Some (tt, at, z) → begins mark.RightBrace z ≡ false → Fails f (item_at r inside z)
    → behind front (more_items_at r inside left s) ≡ whole → Fails f whole
items_fail r inside m left at front s z whole f e goes is more fails reads =
    carried f (item_at r inside z) whole fails
    (λ none. tails.failed front (more_items_at r inside left s) whole
    (item_step r inside m left at s z None e goes is more none) reads)

pub items_next : (r : Rules) (inside : Inside) (m left at : ℕ) (front all : List InitializerItem)
    (x y : InitializerItem) (s z w : State) (whole : Reading Items) → left ≡ suc m → begins mark.Comma s ≡ true
    → expect mark.Comma s ≡ Some (tt, at, z) → begins mark.RightBrace z ≡ false → item_at r inside z ≡ Some (x, w)
    → y ≡ x → all ≡ front ++ y ∷ [] → behind front (more_items_at r inside left s) ≡ whole
    → behind all (more_items_at r inside m w) ≡ whole
items_next r inside m left at front all x y s z w whole e goes is more took same appended reads =
    ap (λ l. behind l (more_items_at r inside m w)) (appended ∙ ap (λ v. front ++ v ∷ []) same)
    ∙ tails.turned front x (more_items_at r inside left s) (more_items_at r inside m w) whole
    (item_step r inside m left at s z (Some (x, w)) e goes is more took) reads

pub items_out : (r : Rules) (inside : Inside) (left : ℕ) (front : List InitializerItem) (s : State)
    (whole : Reading Items) → left ≡ 0 → behind front (more_items_at r inside left s) ≡ whole → whole ≡ None
items_out r inside left front s whole e reads =
    tails.failed front (more_items_at r inside left s) whole (zero_items r inside left s e) reads
