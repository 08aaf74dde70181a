-- Ascending lists, and what is left of two of them.
use Rattle.std.proofs.Common.{◌≡◌, ℕ, zero, suc, ◌+◌, ◌-◌, ◌<◌, ◌≤◌, ◌⊎◌, Bool, true, false, ◌&&◌, ◌||◌, eqb, ltb, List, [], ◌∷◌, ◌++◌, length, get_or, take, drop, refl, sym, ap, subst, ◌∙◌, arith}
use Rattle.std.specs.List.{list_all}
use Rattle.std.proofs.lemmas.List.{drop_more, drop_all, take_more}
use Rattle.std.proofs.lemmas.Bool.{and_parts, and_from, or_cases, or_left, or_right, ltb-true, lt-ltb, eqb-true, eq-eqb, cases_lt}
use Rattle.positions.specs.Sets.{has, ascends, are_before, left, IsNext, Merges, IsIndexOf}
use Rattle.std.proofs.Common.{inl, inr}

-- ---- one list

first_before : (x : ℕ) (xs : List ℕ) (y : ℕ) → list_all (λ z. ltb x z) xs ≡ true → has xs y ≡ true → x < y
first_before x [] y a h = absurd cc
first_before x (z ∷ xs) y a h =
    let p = and_parts (ltb x z) (list_all (λ z. ltb x z) xs) a in
    elim (or_cases (eqb z y) (has xs y) h) [
      | inl e ↦ subst (λ w. x < w) (eqb-true z y e) (ltb-true x z p.0)
      | inr r ↦ first_before x xs y p.1 r
    ]

ascends_drop : (i : ℕ) (xs : List ℕ) → ascends xs ≡ true → ascends (drop i xs) ≡ true
ascends_drop zero xs a = a
ascends_drop (suc i) [] a = refl
ascends_drop (suc i) (x ∷ xs) a = ascends_drop i xs (and_parts (list_all (λ y. ltb x y) xs) (ascends xs) a).1

pub has_drop : (xs : List ℕ) (i y : ℕ) → i < length xs → has (drop i xs) y ≡ (eqb (get_or xs i 0) y || has (drop (i + 1) xs) y)
has_drop xs i y h = ap (λ l. has l y) (drop_more xs i 0 h)

pub above_drop : (xs : List ℕ) (i y : ℕ) → ascends xs ≡ true → i < length xs → has (drop (i + 1) xs) y ≡ true → get_or xs i 0 < y
above_drop xs i y a h m =
    let s : ascends (get_or xs i 0 ∷ drop (i + 1) xs) ≡ true = subst (λ l. ascends l ≡ true) (drop_more xs i 0 h) (ascends_drop i xs a) in
    first_before (get_or xs i 0) (drop (i + 1) xs) y (and_parts (list_all (λ z. ltb (get_or xs i 0) z) (drop (i + 1) xs)) (ascends (drop (i + 1) xs)) s).0 m

all_more : (x : ℕ) (xs : List ℕ) (y : ℕ) → list_all (λ z. ltb x z) (xs ++ y ∷ []) ≡ (list_all (λ z. ltb x z) xs && ltb x y)
all_more x [] y = by (ltb x y)
  where
    by : (b : Bool) → (b && true) ≡ b
    by true = refl
    by false = refl
all_more x (z ∷ xs) y = by (ltb x z) _ _ _ (all_more x xs y)
  where
    by : (b p q r : Bool) → p ≡ (q && r) → (b && p) ≡ (b && q && r)
    by true p q r e = e
    by false p q r e = refl

pub ascends_more : (xs : List ℕ) (y : ℕ) → ascends xs ≡ true → are_before y xs ≡ true → ascends (xs ++ y ∷ []) ≡ true
ascends_more [] y a b = refl
ascends_more (x ∷ xs) y a b =
    let p = and_parts (list_all (λ y. ltb x y) xs) (ascends xs) a in
    let q = and_parts (ltb x y) (are_before y xs) b in
    and_from (list_all (λ z. ltb x z) (xs ++ y ∷ [])) (ascends (xs ++ y ∷ [])) (all_more x xs y ∙ and_from _ _ p.0 q.0) (ascends_more xs y p.1 q.1)

pub has_more : (xs : List ℕ) (x y : ℕ) → has (xs ++ x ∷ []) y ≡ (has xs y || eqb x y)
has_more [] x y = by (eqb x y)
  where
    by : (b : Bool) → (b || false) ≡ b
    by true = refl
    by false = refl
has_more (z ∷ xs) x y = by (eqb z y) _ _ _ (has_more xs x y)
  where
    by : (b p q r : Bool) → p ≡ (q || r) → (b || p) ≡ (b || q || r)
    by true p q r e = refl
    by false p q r e = e

pub before_more : (xs : List ℕ) (x y : ℕ) → are_before y xs ≡ true → x < y → are_before y (xs ++ x ∷ []) ≡ true
before_more [] x y a h = and_from (ltb x y) true (lt-ltb x y h) refl
before_more (z ∷ xs) x y a h =
    let p = and_parts (ltb z y) (are_before y xs) a in
    and_from (ltb z y) (are_before y (xs ++ x ∷ [])) p.0 (before_more xs x y p.1 h)

-- ---- the next of two

none_left : (xs : List ℕ) (i y : ℕ) → length xs ≤ i → has (drop i xs) y ≡ false
none_left xs i y h = ap (λ l. has l y) (drop_all i xs h)

assoc : (a b c : Bool) → (a || b || c) ≡ (a || (b || c))
assoc true b c = refl
assoc false b c = refl

swap : (a b c : Bool) → (a || (b || c)) ≡ (b || (a || c))
swap true true c = refl
swap true false c = refl
swap false b c = refl

twice : (e b c : Bool) → (e || b || (e || c)) ≡ (e || (b || c))
twice true b c = refl
twice false b c = refl

both : (a b c d : Bool) → a ≡ b → c ≡ d → (a || c) ≡ (b || d)
both a b c d e f = λ i. e i || f i

pub first_alone : (xs ys : List ℕ) (i j : ℕ) → ascends xs ≡ true → i < length xs → length ys ≤ j → IsNext xs i ys j (get_or xs i 0) (i + 1) j
first_alone xs ys i j a h n = record {
  fewer = omega arith;
  same = λ y. ap (λ b. b || has (drop j ys) y) (has_drop xs i y h) ∙ assoc (eqb (get_or xs i 0) y) (has (drop (i + 1) xs) y) (has (drop j ys) y);
  above = λ y l. elim (or_cases (has (drop (i + 1) xs) y) (has (drop j ys) y) l) [
    | inl m ↦ above_drop xs i y a h m
    | inr m ↦ absurd (both_ways (has (drop j ys) y) (none_left ys j y n) m)
  ];
}
  where
    both_ways : (b : Bool) → b ≡ false → b ≡ true → ⊥
    both_ways b e f = cc

pub second_alone : (xs ys : List ℕ) (i j : ℕ) → ascends ys ≡ true → j < length ys → length xs ≤ i → IsNext xs i ys j (get_or ys j 0) i (j + 1)
second_alone xs ys i j a h n = record {
  fewer = omega arith;
  same = λ y. ap (λ b. has (drop i xs) y || b) (has_drop ys j y h) ∙ swap (has (drop i xs) y) (eqb (get_or ys j 0) y) (has (drop (j + 1) ys) y);
  above = λ y l. elim (or_cases (has (drop i xs) y) (has (drop (j + 1) ys) y) l) [
    | inl m ↦ absurd (both_ways (has (drop i xs) y) (none_left xs i y n) m)
    | inr m ↦ above_drop ys j y a h m
  ];
}
  where
    both_ways : (b : Bool) → b ≡ false → b ≡ true → ⊥
    both_ways b e f = cc

module _ (xs ys : List ℕ) (i j : ℕ) (a : ascends xs ≡ true) (b : ascends ys ≡ true) (h : i < length xs) (k : j < length ys) where
  abbrev x : ℕ
  x = get_or xs i 0

  abbrev y : ℕ
  y = get_or ys j 0

  -- what is left of a list stands at or behind its first
  from_first : (zs : List ℕ) (n : ℕ) → ascends zs ≡ true → n < length zs → (z : ℕ) → has (drop n zs) z ≡ true → get_or zs n 0 ≤ z
  from_first zs n c l z m = elim (or_cases (eqb (get_or zs n 0) z) (has (drop (n + 1) zs) z) (sym (has_drop zs n z l) ∙ m)) [
    | inl e ↦ (let s : get_or zs n 0 ≡ z = eqb-true (get_or zs n 0) z e in omega arith)
    | inr r ↦ (let s : get_or zs n 0 < z = above_drop zs n z c l r in omega arith)
  ]

  pub first_least : x < y → IsNext xs i ys j x (i + 1) j
  first_least l = record {
    fewer = omega arith;
    same = λ z. ap (λ c. c || has (drop j ys) z) (has_drop xs i z h) ∙ assoc (eqb x z) (has (drop (i + 1) xs) z) (has (drop j ys) z);
    above = λ z m. elim (or_cases (has (drop (i + 1) xs) z) (has (drop j ys) z) m) [
      | inl n ↦ above_drop xs i z a h n
      | inr n ↦ (let s : y ≤ z = from_first ys j b k z n in omega arith)
    ];
  }

  pub second_least : y < x → IsNext xs i ys j y i (j + 1)
  second_least l = record {
    fewer = omega arith;
    same = λ z. ap (λ c. has (drop i xs) z || c) (has_drop ys j z k) ∙ swap (has (drop i xs) z) (eqb y z) (has (drop (j + 1) ys) z);
    above = λ z m. elim (or_cases (has (drop i xs) z) (has (drop (j + 1) ys) z) m) [
      | inl n ↦ (let s : x ≤ z = from_first xs i a h z n in omega arith)
      | inr n ↦ above_drop ys j z b k n
    ];
  }

  pub both_least : x ≡ y → IsNext xs i ys j x (i + 1) (j + 1)
  both_least e = record {
    fewer = omega arith;
    same = λ z. both (has (drop i xs) z) (eqb x z || has (drop (i + 1) xs) z) (has (drop j ys) z) (eqb x z || has (drop (j + 1) ys) z)
        (has_drop xs i z h) (has_drop ys j z k ∙ ap (λ w. eqb w z || has (drop (j + 1) ys) z) (sym e))
        ∙ twice (eqb x z) (has (drop (i + 1) xs) z) (has (drop (j + 1) ys) z);
    above = λ z m. elim (or_cases (has (drop (i + 1) xs) z) (has (drop (j + 1) ys) z) m) [
      | inl n ↦ above_drop xs i z a h n
      | inr n ↦ (let s : y < z = above_drop ys j z b k n in omega arith)
    ];
  }

-- ---- the loop

pub merges_none : (xs ys : List ℕ) → Merges xs ys [] 0 0
merges_none xs ys = record { same = λ y. refl; below = λ y l. refl }

pub merges_more : (xs ys out : List ℕ) (i j least i' j' : ℕ) → Merges xs ys out i j → IsNext xs i ys j least i' j' → Merges xs ys (out ++ least ∷ []) i' j'
merges_more xs ys out i j least i' j' m n = record {
  same = λ y. ap (λ b. b || left xs i' ys j' y) (has_more out least y) ∙ assoc (has out y) (eqb least y) (left xs i' ys j' y) ∙ ap (λ b. has out y || b) (sym (n.same y)) ∙ m.same y;
  below = λ y l. before_more out least y (m.below y (n.same y ∙ or_right (eqb least y) (left xs i' ys j' y) l)) (n.above y l);
}

pub least_behind : (xs ys out : List ℕ) (i j least i' j' : ℕ) → Merges xs ys out i j → IsNext xs i ys j least i' j' → are_before least out ≡ true
least_behind xs ys out i j least i' j' m n = m.below least (n.same least ∙ or_left (eqb least least) (left xs i' ys j' least) (eq-eqb least least refl))

pub merges_all : (xs ys out : List ℕ) (i j : ℕ) → Merges xs ys out i j → length xs ≤ i → length ys ≤ j → (y : ℕ) → has out y ≡ (has xs y || has ys y)
merges_all xs ys out i j m h k y = sym (by (has out y)) ∙ ap (λ b. has out y || b) (sym (both (has (drop i xs) y) false (has (drop j ys) y) false (none_left xs i y h) (none_left ys j y k))) ∙ m.same y
  where
    by : (b : Bool) → (b || false) ≡ b
    by true = refl
    by false = refl

-- ---- one more among the others

take_before : (xs : List ℕ) (i position : ℕ) → ascends xs ≡ true → suc i ≤ length xs → get_or xs i 0 < position → are_before position (take (suc i) xs) ≡ true
take_before [] i position a h l = absurd (omega arith)
take_before (x ∷ xs) zero position a h l = and_from (ltb x position) true (lt-ltb x position l) refl
take_before (x ∷ xs) (suc i) position a h l =
    let p = and_parts (list_all (λ y. ltb x y) xs) (ascends xs) a in
    let at : i < length xs = omega arith in
    let first : x < get_or xs i 0 = first_before x xs (get_or xs i 0) p.0 (has_at xs i at) in
    and_from (ltb x position) (are_before position (take (suc i) xs)) (lt-ltb x position (omega arith)) (take_before xs i position p.1 (omega arith) l)
  where
    has_at : (xs : List ℕ) (i : ℕ) → i < length xs → has xs (get_or xs i 0) ≡ true
    has_at [] i h = absurd (omega arith)
    has_at (x ∷ xs) zero h = or_left (eqb x x) (has xs x) (eq-eqb x x refl)
    has_at (x ∷ xs) (suc i) h = or_right (eqb x (get_or xs i 0)) (has xs (get_or xs i 0)) (has_at xs i (omega arith))

pub index_found : (xs : List ℕ) (i position : ℕ) → ascends xs ≡ true → 0 < i → i ≤ length xs → get_or xs (i - 1) 0 < position
    → ((y : ℕ) → has (drop i xs) y ≡ true → position ≤ y) → IsIndexOf xs position i
index_found xs zero position a o h l b = absurd (omega arith)
index_found xs (suc i) position a o h l b = record {
  within = h;
  before = take_before xs i position a h (subst (λ n. get_or xs n 0 < position) (omega arith) l);
  behind = b;
}

pub index_none : (xs : List ℕ) (position : ℕ) → ((y : ℕ) → has (drop 0 xs) y ≡ true → position ≤ y) → IsIndexOf xs position 0
index_none xs position b = record { within = omega arith; before = refl; behind = b }

pub behind_none : (xs : List ℕ) (n position y : ℕ) → n ≡ length xs → has (drop n xs) y ≡ true → position ≤ y
behind_none xs n position y e m = absurd (no (has (drop n xs) y) (none_left xs n y (omega arith)) m)
  where
    no : (b : Bool) → b ≡ false → b ≡ true → ⊥
    no b e f = cc

-- one step back
pub behind_more : (xs : List ℕ) (i j position : ℕ) → ascends xs ≡ true → j + 1 ≡ i → i ≤ length xs → position ≤ get_or xs j 0
    → ((y : ℕ) → has (drop i xs) y ≡ true → position ≤ y) → (y : ℕ) → has (drop j xs) y ≡ true → position ≤ y
behind_more xs i j position a e h l b y m =
    let at : j < length xs = omega arith in
    elim (or_cases (eqb (get_or xs j 0) y) (has (drop (j + 1) xs) y) (sym (has_drop xs j y at) ∙ m)) [
      | inl q ↦ (let s : get_or xs j 0 ≡ y = eqb-true (get_or xs j 0) y q in omega arith)
      | inr r ↦ b y (subst (λ n. has (drop n xs) y ≡ true) e r)
    ]

has_append : (xs ys : List ℕ) (y : ℕ) → has (xs ++ ys) y ≡ (has xs y || has ys y)
has_append [] ys y = refl
has_append (x ∷ xs) ys y = by (eqb x y) _ _ _ (has_append xs ys y)
  where
    by : (b p q r : Bool) → p ≡ (q || r) → (b || p) ≡ (b || q || r)
    by true p q r e = refl
    by false p q r e = e

has_parts : (xs : List ℕ) (i y : ℕ) → has xs y ≡ (has (take i xs) y || has (drop i xs) y)
has_parts xs i y = ap (λ l. has l y) (sym (take_drop xs i)) ∙ has_append (take i xs) (drop i xs) y
  where
    take_drop : (xs : List ℕ) (i : ℕ) → take i xs ++ drop i xs ≡ xs
    take_drop xs zero = refl
    take_drop [] (suc i) = refl
    take_drop (x ∷ xs) (suc i) = ap (λ l. x ∷ l) (take_drop xs i)

pub put_has : (xs : List ℕ) (i position y : ℕ) → has (take i xs ++ position ∷ drop i xs) y ≡ (has xs y || eqb position y)
put_has xs i position y =
    has_append (take i xs) (position ∷ drop i xs) y ∙ turn (has (take i xs) y) (eqb position y) (has (drop i xs) y)
    ∙ ap (λ b. b || eqb position y) (sym (has_parts xs i y))
  where
    turn : (a b c : Bool) → (a || (b || c)) ≡ ((a || c) || b)
    turn true b c = refl
    turn false true true = refl
    turn false true false = refl
    turn false false true = refl
    turn false false false = refl

pub found_has : (xs : List ℕ) (i position y : ℕ) → i < length xs → get_or xs i 0 ≡ position → has xs y ≡ (has xs y || eqb position y)
found_has xs i position y h e =
    by (eqb position y) refl
  where
    at : (xs : List ℕ) (i : ℕ) → i < length xs → has xs (get_or xs i 0) ≡ true
    at [] i h = absurd (omega arith)
    at (x ∷ xs) zero h = or_left (eqb x x) (has xs x) (eq-eqb x x refl)
    at (x ∷ xs) (suc i) h = or_right (eqb x (get_or xs i 0)) (has xs (get_or xs i 0)) (at xs i (omega arith))

    same : (b c : Bool) → b ≡ true → b ≡ (b || c)
    same true c h = refl
    same false c h = cc

    none : (b : Bool) → b ≡ (b || false)
    none true = refl
    none false = refl

    by : (b : Bool) → eqb position y ≡ b → has xs y ≡ (has xs y || b)
    by true f = same (has xs y) true (ap (has xs) (sym (eqb-true position y f) ∙ sym e) ∙ at xs i h)
    by false f = none (has xs y)

ascends_parts : (xs : List ℕ) (i : ℕ) → ascends xs ≡ true → (position : ℕ) → are_before position (take i xs) ≡ true → list_all (λ y. ltb position y) (drop i xs) ≡ true
    → ascends (take i xs ++ position ∷ drop i xs) ≡ true
ascends_parts xs zero a position b c = and_from (list_all (λ y. ltb position y) xs) (ascends xs) c a
ascends_parts [] (suc i) a position b c = refl
ascends_parts (x ∷ xs) (suc i) a position b c =
    let p = and_parts (list_all (λ y. ltb x y) xs) (ascends xs) a in
    let q = and_parts (ltb x position) (are_before position (take i xs)) b in
    and_from (list_all (λ y. ltb x y) (take i xs ++ position ∷ drop i xs)) (ascends (take i xs ++ position ∷ drop i xs))
    (put_all_above x xs i position p.0 q.0) (ascends_parts xs i p.1 position q.1 c)
  where
    put_all_above : (x : ℕ) (xs : List ℕ) (i position : ℕ) → list_all (λ y. ltb x y) xs ≡ true → ltb x position ≡ true → list_all (λ y. ltb x y) (take i xs ++ position ∷ drop i xs) ≡ true
    put_all_above x xs zero position a l = and_from (ltb x position) (list_all (λ y. ltb x y) xs) l a
    put_all_above x [] (suc i) position a l = and_from (ltb x position) true l refl
    put_all_above x (z ∷ xs) (suc i) position a l =
        let p = and_parts (ltb x z) (list_all (λ y. ltb x y) xs) a in
        and_from (ltb x z) (list_all (λ y. ltb x y) (take i xs ++ position ∷ drop i xs)) p.0 (put_all_above x xs i position p.1 l)

all_above : (position : ℕ) (xs : List ℕ) → ((y : ℕ) → has xs y ≡ true → position < y) → list_all (λ y. ltb position y) xs ≡ true
all_above position [] h = refl
all_above position (x ∷ xs) h =
    and_from (ltb position x) (list_all (λ y. ltb position y) xs) (lt-ltb position x (h x (or_left (eqb x x) (has xs x) (eq-eqb x x refl))))
    (all_above position xs (λ y m. h y (or_right (eqb x y) (has xs y) m)))

pub put_ascends : (xs : List ℕ) (i position : ℕ) → ascends xs ≡ true → IsIndexOf xs position i → (i < length xs → get_or xs i 0 ≡ position → ⊥)
    → ascends (take i xs ++ position ∷ drop i xs) ≡ true
put_ascends xs i position a f n = ascends_parts xs i a position f.before (all_above position (drop i xs) (λ y m. above y m (cases_lt i (length xs))))
  where
    above : (y : ℕ) → has (drop i xs) y ≡ true → (i < length xs) ⊎ (length xs ≤ i) → position < y
    above y m (inr h) = absurd (no (has (drop i xs) y) (none_left xs i y h) m)
      where
        no : (b : Bool) → b ≡ false → b ≡ true → ⊥
        no b e f = cc
    above y m (inl h) =
        let p : position ≤ get_or xs i 0 = f.behind (get_or xs i 0) (has_drop xs i (get_or xs i 0) h ∙ or_left (eqb (get_or xs i 0) (get_or xs i 0)) (has (drop (i + 1) xs) (get_or xs i 0)) (eq-eqb (get_or xs i 0) (get_or xs i 0) refl)) in
        let q : get_or xs i 0 ≡ position → ⊥ = n h in
        elim (or_cases (eqb (get_or xs i 0) y) (has (drop (i + 1) xs) y) (sym (has_drop xs i y h) ∙ m)) [
          | inl e ↦ (let s : get_or xs i 0 ≡ y = eqb-true (get_or xs i 0) y e in omega arith)
          | inr r ↦ (let s : get_or xs i 0 < y = above_drop xs i y a h r in omega arith)
        ]

-- ---- all of another set

pub has_taken : (xs : List ℕ) (i x y : ℕ) → i < length xs → x ≡ get_or xs i x → has (take (i + 1) xs) y ≡ (has (take i xs) y || eqb x y)
has_taken xs i x y h e = ap (λ l. has l y) (take_more xs i x h ∙ ap (λ z. take i xs ++ z ∷ []) (sym e)) ∙ has_more (take i xs) x y
