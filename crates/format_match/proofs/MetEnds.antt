-- Lists of splits, and the ends that arguments meet in them.
use Rattle.std.proofs.Common.{◌≡◌, ◌≢◌, ◌⊎◌, inl, inr, ℕ, zero, suc, ◌+◌, ◌<◌, ◌≤◌, Bool, true, false, cond, ◌&&◌, Option, Some, None, List, [], ◌∷◌, ◌++◌, map, append-nil, append_assoc, add-one, refl, sym, ap, subst, ◌∙◌, arith}
use Rattle.std.proofs.lemmas.List.Elements.{All-append, All-nil, All-cons}
use Rattle.std.proofs.lemmas.Bool.{cases_eq, and_from}
use Rattle.printf_text.specs.Texts.{HasKind, HaveKinds, first}
use Rattle.printf_text.specs.declared.kind.Kind.{Kind}
use Rattle.printf_text.specs.declared.piece.Arg.{Arg}
use Rattle.format_match.specs.Splits.{meets, meet_all, is_between, IsMet}
use Rattle.format_match.specs.Ways.{met_ends, Describes, Adds, upto, range_kinds, range_marks, range_constraints, holds, IsHeld, after, ranged, AreHeld, sized_ends}
use Rattle.format_match.specs.declared.split.Constraint.{Constraint}
use Rattle.format_match.specs.declared.split.Split.{Split}
use Rattle.format_match.specs.declared.way.Range.{Range}
use Rattle.format_match.specs.declared.way.Sizes.{Sizes}

pub both : {X Y Z : Type 0} (f : X → Y → Z) {x x' : X} {y y' : Y} → x ≡ x' → y ≡ y' → f x y ≡ f x' y'
both f p q = λ i. f (p i) (q i)

put_if : (b : Bool) (e : ℕ) (l m k : List ℕ) → l ≡ m ++ k → cond b (e ∷ l) l ≡ cond b (e ∷ m) m ++ k
put_if true e l m k h = ap (λ r. e ∷ r) h
put_if false e l m k h = h

pub met_ends-append : (xs ys : List Split) (args : List Arg) → met_ends (xs ++ ys) args ≡ met_ends xs args ++ met_ends ys args
met_ends-append [] ys args = refl
met_ends-append (x ∷ xs) ys args = put_if (meet_all x.constraints args) x.end _ _ _ (met_ends-append xs ys args)

-- ---- what splits describe

module _ {K : List Kind} {M : List Bool} where
  pub Describes-nil : (E : List Arg → List ℕ) → ((args : List Arg) → HaveKinds K args → E args ≡ []) → Describes K M E []
  Describes-nil E h = record { exact = λ args k. sym (h args k); met = All-nil (λ s. IsMet K s); stars_are = All-nil (λ s. map is_between s.constraints ≡ M) }

  pub Describes-append : {E F : List Arg → List ℕ} {xs ys : List Split} → Describes K M E xs → Describes K M F ys → Describes K M (λ args. E args ++ F args) (xs ++ ys)
  Describes-append {E} {F} {xs} {ys} d e = record {
    exact = λ args k. met_ends-append xs ys args ∙ both (λ (l m : List ℕ). l ++ m) (d.exact args k) (e.exact args k);
    met = All-append (λ s. IsMet K s) xs ys d.met e.met;
    stars_are = All-append (λ s. map is_between s.constraints ≡ M) xs ys d.stars_are e.stars_are;
  }

  pub Describes-same : {E : List Arg → List ℕ} {xs : List Split} (F : List Arg → List ℕ) → Describes K M E xs → ((args : List Arg) → HaveKinds K args → E args ≡ F args) → Describes K M F xs
  Describes-same F d h = record { exact = λ args k. d.exact args k ∙ h args k; met = d.met; stars_are = d.stars_are }

  pub Adds-nothing : (E : List Arg → List ℕ) (xs : List Split) → ((args : List Arg) → HaveKinds K args → E args ≡ []) → Adds K M E xs xs
  Adds-nothing E xs h = record { added = []; is = sym (append-nil xs); describes = Describes-nil E h }

  pub Adds-both : {E F : List Arg → List ℕ} {a b c : List Split} → Adds K M E a b → Adds K M F b c → Adds K M (λ args. E args ++ F args) a c
  Adds-both {E} {F} {a} {b} {c} d e = record {
    added = d.added ++ e.added;
    is = e.is ∙ ap (λ r. r ++ e.added) d.is ∙ append_assoc a d.added e.added;
    describes = Describes-append d.describes e.describes;
  }

  pub Adds-same : {E : List Arg → List ℕ} {a b : List Split} (F : List Arg → List ℕ) → Adds K M E a b → ((args : List Arg) → HaveKinds K args → E args ≡ F args) → Adds K M F a b
  Adds-same F d h = record { added = d.added; is = d.is; describes = Describes-same F d.describes h }

  pub Describes-grown : {E F : List Arg → List ℕ} {a b : List Split} (G : List Arg → List ℕ) → Describes K M E a → Adds K M F a b → ((args : List Arg) → HaveKinds K args → E args ++ F args ≡ G args) → Describes K M G b
  Describes-grown {E} {F} {a} {b} G d e h = subst (λ r. Describes K M G r) (sym e.is) (Describes-same G (Describes-append d e.describes) h)

-- ---- one more split

-- the constraints of one split are those that the ends test
pub record IsSplit (K : List Kind) (M : List Bool) (E : List Arg → List ℕ) (s : Split) : Type 0 where
  pub exact : (args : List Arg) → HaveKinds K args → cond (meet_all s.constraints args) (s.end ∷ []) [] ≡ E args
  pub met : IsMet K s
  pub stars_are : map is_between s.constraints ≡ M

pub Adds-one : {K : List Kind} {M : List Bool} {E : List Arg → List ℕ} (s : Split) (xs ys : List Split) → ys ≡ xs ++ s ∷ [] → IsSplit K M E s → Adds K M E xs ys
Adds-one {K} {M} {E} s xs ys e i = record {
  added = s ∷ [];
  is = e;
  describes = record {
    exact = i.exact;
    met = All-cons (λ s. IsMet K s) s [] i.met (All-nil (λ s. IsMet K s));
    stars_are = All-cons (λ s. map is_between s.constraints ≡ M) s [] i.stars_are (All-nil (λ s. map is_between s.constraints ≡ M));
  };
}

-- ---- ranges before other constraints

-- a range's argument before others
ranged_meet : (r : Option Range) (cs : List Constraint) (K : List Kind) (args : List Arg) → HaveKinds (range_kinds r ++ K) args
    → meet_all (range_constraints r ++ cs) args ≡ (holds r args && meet_all cs (after r args))
ranged_meet None cs K args h = refl
ranged_meet (Some r) cs K [] h = absurd h
ranged_meet (Some r) cs K (a ∷ args) h = refl

ranged_rest : (r : Option Range) (K : List Kind) (args : List Arg) → HaveKinds (range_kinds r ++ K) args → HaveKinds K (after r args)
ranged_rest None K args h = h
ranged_rest (Some r) K [] h = absurd h
ranged_rest (Some r) K (a ∷ args) h = h.1

ranged_marks : (r : Option Range) (cs : List Constraint) (M : List Bool) → map is_between cs ≡ M → map is_between (range_constraints r ++ cs) ≡ range_marks r ++ M
ranged_marks None cs M h = h
ranged_marks (Some r) cs M h = ap (λ m. true ∷ m) h

ranged_met : (r : Option Range) (cs : List Constraint) (K : List Kind) (end : ℕ) → IsHeld r → IsMet K (record { end = end; constraints = cs }) → IsMet (range_kinds r ++ K) (record { end = end; constraints = range_constraints r ++ cs })
ranged_met None cs K end h m = m
ranged_met (Some r) cs K end h m = record { args = h.0 ∷ m.args; have = (h.1, m.have); meet = and_from _ _ h.2 m.meet }

pub IsSplit-ranged : {K : List Kind} {M : List Bool} {E : List Arg → List ℕ} (r : Option Range) (end : ℕ) (cs : List Constraint) → IsHeld r → IsSplit K M E (record { end = end; constraints = cs })
    → IsSplit (range_kinds r ++ K) (range_marks r ++ M) (ranged r E) (record { end = end; constraints = range_constraints r ++ cs })
IsSplit-ranged {K} {M} {E} r end cs h i = record {
  exact = λ args k. ap (λ b. cond b (end ∷ []) []) (ranged_meet r cs K args k) ∙ by (holds r args) (meet_all cs (after r args)) (E (after r args)) (i.exact (after r args) (ranged_rest r K args k));
  met = ranged_met r cs K end h i.met;
  stars_are = ranged_marks r cs M i.stars_are;
}
  where
    by : (b c : Bool) (l : List ℕ) → cond c (end ∷ []) [] ≡ l → cond (b && c) (end ∷ []) [] ≡ cond b l []
    by true c l e = e
    by false c l e = refl

-- the ends that a range leaves, alike where those after it are
pub ranged_same : (r : Option Range) (K : List Kind) (E F : List Arg → List ℕ) → ((args : List Arg) → HaveKinds K args → E args ≡ F args) → (args : List Arg) → HaveKinds (range_kinds r ++ K) args → ranged r E args ≡ ranged r F args
ranged_same r K E F h args k = ap (λ l. cond (holds r args) l []) (h (after r args) (ranged_rest r K args k))

pub ranged_none : (r : Option Range) (K : List Kind) (E : List Arg → List ℕ) → ((args : List Arg) → HaveKinds K args → E args ≡ []) → (args : List Arg) → HaveKinds (range_kinds r ++ K) args → ranged r E args ≡ []
ranged_none r K E h args k = ap (λ l. cond (holds r args) l []) (h (after r args) (ranged_rest r K args k)) ∙ by (holds r args) []
  where
    by : (b : Bool) (n : List ℕ) → cond b n n ≡ n
    by true n = refl
    by false n = refl

pub ranged_append : (r : Option Range) (E F : List Arg → List ℕ) (args : List Arg) → ranged r E args ++ ranged r F args ≡ ranged r (λ a. E a ++ F a) args
ranged_append r E F args = by (holds r args) (E (after r args)) (F (after r args))
  where
    by : (b : Bool) (l m : List ℕ) → cond b l [] ++ cond b m [] ≡ cond b (l ++ m) []
    by true l m = refl
    by false l m = refl

-- ---- one converted argument

one_arg : (k : Kind) (P : Arg → List ℕ) (Q : List Arg → List ℕ) → ((a : Arg) → HasKind k a → Q (a ∷ []) ≡ P a) → (args : List Arg) → HaveKinds (k ∷ []) args → Q args ≡ P (first args)
one_arg k P Q h [] x = absurd x
one_arg k P Q h (a ∷ []) x = h a x.0
one_arg k P Q h (a ∷ b ∷ args) x = absurd x.1

-- a constraint of one argument that tells the ends
pub IsSplit-one : (k : Kind) (E : Arg → List ℕ) (c : Constraint) (end : ℕ) (w : Arg) → is_between c ≡ false → HasKind k w → meets c w ≡ true → ((a : Arg) → HasKind k a → cond (meets c a) (end ∷ []) [] ≡ E a)
    → IsSplit (k ∷ []) (false ∷ []) (λ args. E (first args)) (record { end = end; constraints = c ∷ [] })
IsSplit-one k E c end w plain has met h = record {
  exact = one_arg k E (λ args. cond (meet_all (c ∷ []) args) (end ∷ []) []) (λ a x. by (meets c a) (E a) (h a x));
  met = record { args = w ∷ []; have = (has, tt); meet = and_from _ _ met refl };
  stars_are = ap (λ b. b ∷ []) plain;
}
  where
    by : (b : Bool) (l : List ℕ) → cond b (end ∷ []) [] ≡ l → cond (b && true) (end ∷ []) [] ≡ l
    by true l e = e
    by false l e = e

pub sized_split : (sizes : Sizes) (k : Kind) (E : Arg → List ℕ) (c : Constraint) (end : ℕ) (w : Arg) → AreHeld sizes → is_between c ≡ false → HasKind k w → meets c w ≡ true → ((a : Arg) → HasKind k a → cond (meets c a) (end ∷ []) [] ≡ E a)
    → IsSplit (range_kinds sizes.width.range ++ (range_kinds sizes.precision.range ++ k ∷ [])) (range_marks sizes.width.range ++ (range_marks sizes.precision.range ++ false ∷ [])) (sized_ends sizes E)
    (record { end = end; constraints = range_constraints sizes.width.range ++ (range_constraints sizes.precision.range ++ c ∷ []) })
sized_split sizes k E c end w held plain has met h =
    IsSplit-ranged sizes.width.range end (range_constraints sizes.precision.range ++ c ∷ []) held.width
    (IsSplit-ranged sizes.precision.range end (c ∷ []) held.precision (IsSplit-one k E c end w plain has met h))

pub sized_none : (sizes : Sizes) (k : Kind) (E : Arg → List ℕ) → ((a : Arg) → HasKind k a → E a ≡ [])
    → (args : List Arg) → HaveKinds (range_kinds sizes.width.range ++ (range_kinds sizes.precision.range ++ k ∷ [])) args → sized_ends sizes E args ≡ []
sized_none sizes k E h =
    ranged_none sizes.width.range (range_kinds sizes.precision.range ++ k ∷ []) (ranged sizes.precision.range (λ args. E (first args)))
    (ranged_none sizes.precision.range (k ∷ []) (λ args. E (first args)) (one_arg k (λ a. []) (λ args. E (first args)) h))

pub sized_same : (sizes : Sizes) (k : Kind) (E F : Arg → List ℕ) → ((a : Arg) → HasKind k a → E a ≡ F a)
    → (args : List Arg) → HaveKinds (range_kinds sizes.width.range ++ (range_kinds sizes.precision.range ++ k ∷ [])) args → sized_ends sizes E args ≡ sized_ends sizes F args
sized_same sizes k E F h =
    ranged_same sizes.width.range (range_kinds sizes.precision.range ++ k ∷ []) (ranged sizes.precision.range (λ args. E (first args))) (ranged sizes.precision.range (λ args. F (first args)))
    (ranged_same sizes.precision.range (k ∷ []) (λ args. E (first args)) (λ args. F (first args)) (one_arg k F (λ args. E (first args)) h))

pub sized_append : (sizes : Sizes) (E F : Arg → List ℕ) (args : List Arg) → sized_ends sizes E args ++ sized_ends sizes F args ≡ sized_ends sizes (λ a. E a ++ F a) args
sized_append sizes E F args =
    ranged_append sizes.width.range (ranged sizes.precision.range (λ args. E (first args))) (ranged sizes.precision.range (λ args. F (first args))) args
    ∙ ap (λ l. cond (holds sizes.width.range args) l []) (ranged_append sizes.precision.range (λ args. E (first args)) (λ args. F (first args)) (after sizes.width.range args))

-- ---- what a function gives up to a number

pub upto_none : (f : ℕ → List ℕ) (n : ℕ) → ((k : ℕ) → f k ≡ []) → upto f n ≡ []
upto_none f zero h = refl
upto_none f (suc n) h = both (λ (l m : List ℕ). l ++ m) (upto_none f n h) (h n)

upto_past : (f : ℕ → List ℕ) (i n : ℕ) → n ≤ i → ((k : ℕ) → k ≢ i → f k ≡ []) → upto f n ≡ []
upto_past f i zero l h = refl
upto_past f i (suc n) l h = both (λ (x y : List ℕ). x ++ y) (upto_past f i n (omega arith) h) (h n (omega arith))

pub upto_below : (f : ℕ → List ℕ) (n : ℕ) → ((k : ℕ) → k < n → f k ≡ []) → upto f n ≡ []
upto_below f zero h = refl
upto_below f (suc n) h = both (λ (l m : List ℕ). l ++ m) (upto_below f n (λ k b. h k (omega arith))) (h n (omega arith))

pub upto_one : (f : ℕ → List ℕ) (i n : ℕ) → i < n → ((k : ℕ) → k ≢ i → f k ≡ []) → upto f n ≡ f i
upto_one f i zero l h = absurd (omega arith)
upto_one f i (suc n) l h = by (cases_eq n i) (λ m. upto_one f i n m h)
  where
    by : (n ≡ i) ⊎ (n ≡ i → ⊥) → (i < n → upto f n ≡ f i) → upto f n ++ f n ≡ f i
    by (inl e) r = both (λ (x y : List ℕ). x ++ y) (upto_past f i n (omega arith) h) (ap f e)
    by (inr d) r = both (λ (x y : List ℕ). x ++ y) (r (omega arith)) (h n d) ∙ append-nil (f i)

pub upto_only : (f : ℕ → List ℕ) (i n : ℕ) → i < n → ((k : ℕ) → k < n → k ≢ i → f k ≡ []) → upto f n ≡ f i
upto_only f i zero l h = absurd (omega arith)
upto_only f i (suc n) l h = by (cases_eq n i) (λ m. upto_only f i n m (λ k b d. h k (omega arith) d))
  where
    by : (n ≡ i) ⊎ (n ≡ i → ⊥) → (i < n → upto f n ≡ f i) → upto f n ++ f n ≡ f i
    by (inl e) r = both (λ (x y : List ℕ). x ++ y) (upto_below f n (λ k b. h k (omega arith) (below_apart k b e))) (ap f e)
      where
        below_apart : (k : ℕ) → k < n → n ≡ i → k ≢ i
        below_apart k b e same = omega arith
    by (inr d) r = both (λ (x y : List ℕ). x ++ y) (r (above d)) (h n (omega arith) d) ∙ append-nil (f i)
      where
        above : (n ≡ i → ⊥) → i < n
        above d = omega arith

pub upto_more : (f : ℕ → List ℕ) (n : ℕ) → upto f n ++ f n ≡ upto f (n + 1)
upto_more f n = rw add-one refl

pub upto_same : (f g : ℕ → List ℕ) (n : ℕ) → ((k : ℕ) → f k ≡ g k) → upto f n ≡ upto g n
upto_same f g zero h = refl
upto_same f g (suc n) h = both (λ (x y : List ℕ). x ++ y) (upto_same f g n h) (h n)

module _ (sizes : Sizes) (k : Kind) (F : Arg → ℕ → List ℕ) where
  abbrev K : List Kind
  K = range_kinds sizes.width.range ++ (range_kinds sizes.precision.range ++ k ∷ [])

  abbrev M : List Bool
  M = range_marks sizes.width.range ++ (range_marks sizes.precision.range ++ false ∷ [])

  pub sized_upto_none : (xs : List Split) → Adds K M (sized_ends sizes (λ a. upto (F a) 0)) xs xs
  sized_upto_none xs = Adds-nothing _ xs (sized_none sizes k (λ a. upto (F a) 0) (λ a h. refl))

  pub sized_upto_more : (n : ℕ) (xs ys zs : List Split) → Adds K M (sized_ends sizes (λ a. upto (F a) n)) xs ys → Adds K M (sized_ends sizes (λ a. F a n)) ys zs
      → Adds K M (sized_ends sizes (λ a. upto (F a) (n + 1))) xs zs
  sized_upto_more n xs ys zs d e =
      Adds-same _ (Adds-both d e)
      (λ args h. sized_append sizes (λ a. upto (F a) n) (λ a. F a n) args ∙ sized_same sizes k (λ a. upto (F a) n ++ F a n) (λ a. upto (F a) (n + 1)) (λ a g. upto_more (F a) n) args h)
