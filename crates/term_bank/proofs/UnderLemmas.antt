-- Lists of numbers in which the parts of each node stand behind it, or have a property.
use Rattle.std.proofs.Common.{◌≡◌, ◌<◌, ◌≤◌, ◌++◌, ◌∷◌, [], ◌⊎◌, ℕ, suc, List, Some, Bool, true, false, length, arith, inl, inr, refl, sym, ap, subst, ◌∙◌, cond}
use Rattle.std.specs.Prelude.{slice_get, max, ◌||◌}
use Rattle.std.specs.List.{list_any}
use Rattle.std.specs.Ordering.{nat_cmp, is_lt}
use Rattle.std.specs.BTreeMap.{is_at}
use Rattle.std.specs.BTreeSet.{BTreeSet, contains, Updates}
use Rattle.std.proofs.lemmas.Bool.Decides.{nat_tests}
use Rattle.term_bank.specs.declared.sort.Node.{Node}
use Rattle.term_bank.specs.declared.shape.Shape.{Shape}
use Rattle.term_bank.specs.Shapes.{Each, parts}
use Rattle.term_bank.specs.Under.{Among, numbers_of, In, Adds, StandsOver, IsHeld, IsOnly, IsBelow}
use Rattle.term_bank.specs.Banks.{IsBank}
use Rattle.term_bank.proofs.Worth.{each}
use Rattle.term_bank.proofs.BankLemmas.{node_below}
use Rattle.term_bank.proofs.OverLemmas.{only_below}

pub among_front : (x : ℕ) (xs ys : List ℕ) → Among x xs → Among x (xs ++ ys)
among_front x [] ys h = absurd h
among_front x (y ∷ xs) ys (inl h) = inl h
among_front x (y ∷ xs) ys (inr h) = inr (among_front x xs ys h)

pub among_last : (xs : List ℕ) (x : ℕ) → Among x (xs ++ x ∷ [])
among_last [] x = inl refl
among_last (y ∷ xs) x = inr (among_last xs x)

pub among_split : (x : ℕ) (xs : List ℕ) (y : ℕ) → Among x (xs ++ y ∷ []) → Among x xs ⊎ (x ≡ y)
among_split x [] y (inl h) = inr h
among_split x [] y (inr h) = absurd h
among_split x (z ∷ xs) y (inl h) = inl (inl h)
among_split x (z ∷ xs) y (inr h) = elim (among_split x xs y h) [ inl k ↦ inl (inr k) | inr k ↦ inr k ]

-- ---- sets

at_true : (q x : ℕ) → is_at (nat_cmp q) x ≡ true → q ≡ x
at_true q x h = grind (arith, nat_tests)

at_same : (q : ℕ) → is_at (nat_cmp q) q ≡ true
at_same q = grind (arith, nat_tests)

at_other : (k q : ℕ) → (k ≡ q → ⊥) → is_at (nat_cmp k) q ≡ false
at_other k q h = grind (arith, nat_tests)

pub adds_none : (set : BTreeSet ℕ) → Adds set set []
adds_none set = record { kept = λ q h. h; added = λ q h. absurd h; only = λ q h. inl h }

pub adds_more : (a b c : BTreeSet ℕ) (xs : List ℕ) (k : ℕ) → Adds a b xs → Updates nat_cmp b c k true → Adds a c (xs ++ k ∷ [])
adds_more a b c xs k h u = record {
  kept = λ q old. stay q (h.kept q old);
  added = λ q among. elim (among_split q xs k among) [
    | inl before ↦ stay q (h.added q before)
    | inr same ↦ subst (λ n. In c n) (sym same) u.1
  ];
  only = λ q new. elim (first_or k q b c u new) [
    | inl old ↦ elim (h.only q old) [ inl x ↦ inl x | inr x ↦ inr (among_front q xs (k ∷ []) x) ]
    | inr same ↦ inr (subst (λ n. Among n (xs ++ k ∷ [])) (sym same) (among_last xs k))
  ];
} where
  stay : (q : ℕ) → In b q → In c q
  stay q h = u.0 q ∙ both (is_at (nat_cmp k) q) (contains nat_cmp b q) h where
    both : (s t : Bool) → t ≡ true → cond s true t ≡ true
    both true t h = refl
    both false t h = h

  first_or : (k q : ℕ) (b c : BTreeSet ℕ) → Updates nat_cmp b c k true → In c q → In b q ⊎ (q ≡ k)
  first_or k q b c u h = split (is_at (nat_cmp k) q) refl where
    split : (s : Bool) → is_at (nat_cmp k) q ≡ s → In b q ⊎ (q ≡ k)
    split true is = inr (sym (at_true k q is))
    split false is = inl (sym (u.2 q is) ∙ h)

-- one more than the greatest number
abbrev pub limit : List ℕ → ℕ
limit [] = 0
limit (k ∷ ks) = max (suc k) (limit ks)

or_second : (a b : Bool) → b ≡ true → (a || b) ≡ true
or_second true b h = refl
or_second false b h = h

or_first : (a b : Bool) → a ≡ true → (a || b) ≡ true
or_first true b h = refl
or_first false b h = absurd (cc)

limit_most : (keys : List ℕ) (k : ℕ) → ((q : ℕ) → list_any (is_at (nat_cmp q)) keys ≡ true → q < k) → limit keys ≤ k
limit_most [] k h = omega arith
limit_most (x ∷ keys) k h =
    let first : x < k = h x (or_first (is_at (nat_cmp x) x) _ (at_same x)) in
    let rest : limit keys ≤ k = limit_most keys k (λ q is. h q (or_second (is_at (nat_cmp q) x) _ is)) in
    omega arith

below_split : (q x : ℕ) (keys : List ℕ) → (list_any (is_at (nat_cmp q)) keys ≡ true → q < limit keys) → (s : Bool) → is_at (nat_cmp q) x ≡ s → (s || list_any (is_at (nat_cmp q)) keys) ≡ true → q < max (suc x) (limit keys)
below_split q x keys rest true is h = let same = at_true q x is in omega (arith, same)
below_split q x keys rest false is h = let more = rest h in omega (arith, more)

below_limit : (keys : List ℕ) (q : ℕ) → list_any (is_at (nat_cmp q)) keys ≡ true → q < limit keys
below_limit [] q h = absurd (cc)
below_limit (x ∷ keys) q h = below_split q x keys (below_limit keys q) (is_at (nat_cmp q) x) refl h

-- what is left once the greatest number was taken out is smaller
pub left_below : (old new : BTreeSet ℕ) (k q : ℕ) → ((q : ℕ) → contains nat_cmp old q ≡ true → is_lt (nat_cmp k q) ≡ false) → Updates nat_cmp old new k false → In new q → q < k
left_below old new k q greatest u h = split (is_at (nat_cmp k) q) refl where
  smaller : (k q : ℕ) → is_lt (nat_cmp k q) ≡ false → is_at (nat_cmp k) q ≡ false → q < k
  smaller k q a b = grind (arith, nat_tests)

  split : (s : Bool) → is_at (nat_cmp k) q ≡ s → q < k
  split true is = let same = at_true k q is in absurd (let gone : contains nat_cmp new k ≡ false = u.1 in let here : contains nat_cmp new k ≡ true = subst (λ n. In new n) (sym same) h in cc)
  split false is = smaller k q (greatest q (sym (u.2 q is) ∙ h)) is

pub still_in : (old new : BTreeSet ℕ) (k q : ℕ) → Updates nat_cmp old new k false → In old q → In new q ⊎ (q ≡ k)
still_in old new k q u h = split (is_at (nat_cmp k) q) refl where
  split : (s : Bool) → is_at (nat_cmp k) q ≡ s → In new q ⊎ (q ≡ k)
  split true is = inr (sym (at_true k q is))
  split false is = inl (u.2 q is ∙ h)

pub limit_falls : (old new : BTreeSet ℕ) (k : ℕ) → In old k → ((q : ℕ) → In new q → q < k) → limit new.keys < limit old.keys
limit_falls old new k here less =
    let low : limit new.keys ≤ k = limit_most new.keys k less in
    let high : k < limit old.keys = below_limit old.keys k here in
    omega (arith, low, high)

-- ---- lists whose parts are held

pub held_for : (shapes : List Shape) (P Q : ℕ → Type 0) (ns : List ℕ) → ((q : ℕ) → P q → Q q) → IsHeld shapes P ns → IsHeld shapes Q ns
held_for shapes P Q [] f h = tt
held_for shapes P Q (n ∷ ns) f h = (
  record {
    shape = h.0.shape;
    is = h.0.is;
    parts_in = each (λ p. Among p.index ns ⊎ P p.index) (λ p. Among p.index ns ⊎ Q p.index) (parts h.0.shape) (λ p k. elim k [ inl x ↦ inl x | inr x ↦ inr (f p.index x) ]) h.0.parts_in;
  },
  held_for shapes P Q ns f h.1,
)

pub held_more : (shapes : List Shape) (P Q : ℕ → Type 0) (ns : List ℕ) (k : ℕ) → ((q : ℕ) → P q → Q q ⊎ (q ≡ k)) → StandsOver shapes Q k [] → IsHeld shapes P ns → IsHeld shapes Q (ns ++ k ∷ [])
held_more shapes P Q [] k f s h = (s, tt)
held_more shapes P Q (n ∷ ns) k f s h = (
  record {
    shape = h.0.shape;
    is = h.0.is;
    parts_in = each (λ p. Among p.index ns ⊎ P p.index) (λ p. Among p.index (ns ++ k ∷ []) ⊎ Q p.index) (parts h.0.shape) (λ p x. elim x [
      | inl y ↦ inl (among_front p.index ns (k ∷ []) y)
      | inr y ↦ elim (f p.index y) [ inl z ↦ inr z | inr z ↦ inl (subst (λ n. Among n (ns ++ k ∷ [])) (sym z) (among_last ns k)) ]
    ]) h.0.parts_in;
  },
  held_more shapes P Q ns k f s h.1,
)

pub held_last : (shapes : List Shape) (P : ℕ → Type 0) (ns : List ℕ) (k : ℕ) → IsHeld shapes P (ns ++ k ∷ []) → StandsOver shapes P k []
held_last shapes P [] k h = h.0
held_last shapes P (n ∷ ns) k h = held_last shapes P ns k h.1

pub held_less : (shapes : List Shape) (P Q : ℕ → Type 0) (ns : List ℕ) (k : ℕ) → ((q : ℕ) → P q → Q q) → Q k → IsHeld shapes P (ns ++ k ∷ []) → IsHeld shapes Q ns
held_less shapes P Q [] k f here h = tt
held_less shapes P Q (n ∷ ns) k f here h = (
  record {
    shape = h.0.shape;
    is = h.0.is;
    parts_in = each (λ p. Among p.index (ns ++ k ∷ []) ⊎ P p.index) (λ p. Among p.index ns ⊎ Q p.index) (parts h.0.shape) (λ p x. elim x [
      | inl y ↦ elim (among_split p.index ns k y) [ inl z ↦ inl z | inr z ↦ inr (subst Q (sym z) here) ]
      | inr y ↦ inr (f p.index y)
    ]) h.0.parts_in;
  },
  held_less shapes P Q ns k f here h.1,
)

-- each root stands in the list or has the property
abbrev pub AreHeld : (ℕ → Type 0) → List ℕ → List Node → Type 0
AreHeld P ns roots = Each (λ r. Among r.index ns ⊎ P r.index) roots

pub are_more : (P Q : ℕ → Type 0) (ns : List ℕ) (k : ℕ) (roots : List Node) → ((q : ℕ) → P q → Q q ⊎ (q ≡ k)) → AreHeld P ns roots → AreHeld Q (ns ++ k ∷ []) roots
are_more P Q ns k roots f h = each (λ r. Among r.index ns ⊎ P r.index) (λ r. Among r.index (ns ++ k ∷ []) ⊎ Q r.index) roots (λ p x. elim x [
  | inl y ↦ inl (among_front p.index ns (k ∷ []) y)
  | inr y ↦ elim (f p.index y) [ inl z ↦ inr z | inr z ↦ inl (subst (λ n. Among n (ns ++ k ∷ [])) (sym z) (among_last ns k)) ]
]) h

pub are_less : (P Q : ℕ → Type 0) (ns : List ℕ) (k : ℕ) (roots : List Node) → ((q : ℕ) → P q → Q q) → Q k → AreHeld P (ns ++ k ∷ []) roots → AreHeld Q ns roots
are_less P Q ns k roots f here h = each (λ r. Among r.index (ns ++ k ∷ []) ⊎ P r.index) (λ r. Among r.index ns ⊎ Q r.index) roots (λ p x. elim x [
  | inl y ↦ elim (among_split p.index ns k y) [ inl z ↦ inl z | inr z ↦ inr (subst Q (sym z) here) ]
  | inr y ↦ inr (f p.index y)
]) h

pub each_among : (ns : List Node) → Each (λ n. Among n.index (numbers_of ns)) ns
each_among [] = tt
each_among (n ∷ ns) = (inl refl, each (λ p. Among p.index (numbers_of ns)) (λ p. Among p.index (n.index ∷ numbers_of ns)) ns (λ p h. inr h) (each_among ns))

-- a number among those of a list's nodes has what each node has
pub among_has : (P : ℕ → Type 0) (ns : List Node) (q : ℕ) → Each (λ n. P n.index) ns → Among q (numbers_of ns) → P q
among_has P [] q h a = absurd a
among_has P (n ∷ ns) q h (inl a) = subst P (sym a) h.0
among_has P (n ∷ ns) q h (inr a) = among_has P ns q h.1 a

pub numbers_more : (ns : List Node) (n : Node) → numbers_of (ns ++ n ∷ []) ≡ numbers_of ns ++ n.index ∷ []
numbers_more [] n = refl
numbers_more (m ∷ ns) n = ap (λ t. m.index ∷ t) (numbers_more ns n)

pub was_in : (old new : BTreeSet ℕ) (k q : ℕ) → Updates nat_cmp old new k false → In new q → In old q
was_in old new k q u h = split (is_at (nat_cmp k) q) refl where
  split : (s : Bool) → is_at (nat_cmp k) q ≡ s → In old q
  split true is = let same = at_true k q is in absurd (let gone : contains nat_cmp new k ≡ false = u.1 in let here : contains nat_cmp new k ≡ true = subst (λ n. In new n) (sym same) h in cc)
  split false is = sym (u.2 q is) ∙ h

pub none_in : (set : BTreeSet ℕ) (q : ℕ) → length set.keys ≡ 0 → In set q → ⊥
none_in set q h here = none_any set.keys q h here where
  none_any : (keys : List ℕ) (q : ℕ) → length keys ≡ 0 → list_any (is_at (nat_cmp q)) keys ≡ true → ⊥
  none_any [] q h here = cc
  none_any (x ∷ keys) q h here = omega (arith, h)

-- ---- the loop that takes out the greatest number

pub more_inside : (shapes : List Shape) (old mid new : BTreeSet ℕ) (k : ℕ) (s : Shape) → IsBank shapes → slice_get shapes k ≡ Some s → Updates nat_cmp old mid k false → Adds mid new (numbers_of (parts s)) → ((q : ℕ) → In old q → q < length shapes) → (q : ℕ) → In new q → q < length shapes
more_inside shapes old mid new k s bank is u adds inside q h = elim (adds.only q h) [
  | inl x ↦ inside q (was_in old mid k q u x)
  | inr x ↦ among_has (λ n. n < length shapes) (parts s) q (each _ (λ p. p.index < length shapes) (parts s) (λ p part. node_below shapes p part.stands) (bank.well k s is).each_part) x
]

pub more_below : (shapes : List Shape) (old mid new : BTreeSet ℕ) (k : ℕ) (s : Shape) → IsBank shapes → slice_get shapes k ≡ Some s → Updates nat_cmp old mid k false → ((q : ℕ) → contains nat_cmp old q ≡ true → is_lt (nat_cmp k q) ≡ false) → Adds mid new (numbers_of (parts s)) → (q : ℕ) → In new q → q < k
more_below shapes old mid new k s bank is u greatest adds q h = elim (adds.only q h) [
  | inl x ↦ left_below old mid k q greatest u x
  | inr x ↦ among_has (λ n. n < k) (parts s) q (each _ (λ p. p.index < k) (parts s) (λ p part. part.before) (bank.well k s is).each_part) x
]

pub passed : (old mid new : BTreeSet ℕ) (k : ℕ) (xs : List ℕ) → Updates nat_cmp old mid k false → Adds mid new xs → (q : ℕ) → In old q → In new q ⊎ (q ≡ k)
passed old mid new k xs u adds q x = elim (still_in old mid k q u x) [ inl y ↦ inl (adds.kept q y) | inr y ↦ inr y ]

pub more_held : (shapes : List Shape) (old mid new : BTreeSet ℕ) (k : ℕ) (s : Shape) (ns : List ℕ) → slice_get shapes k ≡ Some s → Updates nat_cmp old mid k false → Adds mid new (numbers_of (parts s)) → IsHeld shapes (In old) ns → IsHeld shapes (In new) (ns ++ k ∷ [])
more_held shapes old mid new k s ns is u adds h = held_more shapes (In old) (In new) ns k (passed old mid new k (numbers_of (parts s)) u adds)
    (record { shape = s; is = is; parts_in = each (λ p. Among p.index (numbers_of (parts s))) (λ p. ⊥ ⊎ In new p.index) (parts s) (λ p x. inr (adds.added p.index x)) (each_among (parts s)) }) h

pub below_root : (shapes : List Shape) (roots : List Node) (q : ℕ) → Among q (numbers_of roots) → IsBelow shapes roots q
below_root shapes roots q a = record { below = λ b g p h. among_has (λ n. IsOnly p b n) roots q h a }

pub below_pending : (shapes : List Shape) (roots : List Node) (old mid new : BTreeSet ℕ) (k : ℕ) (s : Shape) → slice_get shapes k ≡ Some s → Updates nat_cmp old mid k false → Adds mid new (numbers_of (parts s)) → In old k → ((q : ℕ) → In old q → IsBelow shapes roots q) → (q : ℕ) → In new q → IsBelow shapes roots q
below_pending shapes roots old mid new k s is u adds here all q h = elim (adds.only q h) [
  | inl x ↦ all q (was_in old mid k q u x)
  | inr x ↦ record { below = λ b g p only. among_has (λ n. IsOnly p b n) (parts s) q (only_below p b k s (g.kept k s is) ((all k here).below b g p only)).1 x }
]

pub below_numbers : (shapes : List Shape) (roots : List Node) (ns : List ℕ) (k : ℕ) → IsBelow shapes roots k → ((q : ℕ) → Among q ns → IsBelow shapes roots q) → (q : ℕ) → Among q (ns ++ k ∷ []) → IsBelow shapes roots q
below_numbers shapes roots ns k here all q a = elim (among_split q ns k a) [
  | inl x ↦ all q x
  | inr same ↦ subst (IsBelow shapes roots) (sym same) here
]
