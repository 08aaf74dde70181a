-- A bank stays one where a shape is added.
use Rattle.std.proofs.Common.{◌≡◌, ◌<◌, ◌++◌, ◌∷◌, [], ◌⊎◌, ℕ, zero, suc, List, Option, Some, None, Bool, true, false, length, arith, inl, inr, refl, sym, ap, subst, ◌∙◌, cond, nat_eq, length-append}
use Rattle.std.specs.List.{slice_get, list_any}
use Rattle.std.specs.Option.{option_map}
use Rattle.std.proofs.lemmas.Map.Keys.{any_passes_from_place}
use Rattle.indexmap.specs.IndexSet.{insert_key}
use Rattle.term_bank.specs.declared.sort.Node.{Node}
use Rattle.term_bank.specs.declared.shape.Shape.{Shape}
use Rattle.term_bank.specs.Shapes.{IsNode, IsWell, parts, sort_of}
use Rattle.term_bank.specs.Values.{Environment, Values, worth, Models, Grows, IsOfSort}
use Rattle.term_bank.specs.Banks.{IsWellAt, IsBank}
use Rattle.term_bank.proofs.Worth.{each, worth_same, worth_of_sort}

-- a place of the longer list is a place of the list, or the last
pub last_or_before : (xs : List Shape) (y : Shape) (i : ℕ) (s : Shape) → slice_get (xs ++ y ∷ []) i ≡ Some s →
    ((i < length xs) × (slice_get xs i ≡ Some s)) ⊎ ((i ≡ length xs) × (s ≡ y))
last_or_before [] y zero s e = inr (refl, cc)
last_or_before [] y (suc i) s e = absurd (cc)
last_or_before (x ∷ xs) y zero s e = inl (omega arith, e)
last_or_before (x ∷ xs) y (suc i) s e = elim (last_or_before xs y i s e) [
  | inl h ↦ inl (omega (arith, h.0), h.1)
  | inr h ↦ inr (omega (arith, h.0), h.1)
]

pub kept_at : (xs ys : List Shape) (i : ℕ) (s : Shape) → slice_get xs i ≡ Some s → slice_get (xs ++ ys) i ≡ Some s
kept_at [] ys i s e = absurd (cc)
kept_at (x ∷ xs) ys zero s e = e
kept_at (x ∷ xs) ys (suc i) s e = kept_at xs ys i s e

pub place_within : (a : List Shape) (n : ℕ) (s : Shape) → slice_get a n ≡ Some s → n < length a
place_within [] n s is = absurd (cc)
place_within (x ∷ xs) zero s is = omega arith
place_within (x ∷ xs) (suc n) s is = let h = place_within xs n s is in omega (arith, h)

-- the shape of a node
pub shape_of : (shapes : List Shape) (node : Node) → IsNode shapes node → (s : Shape) × (slice_get shapes node.index ≡ Some s) × (sort_of s ≡ node.sort)
shape_of shapes node h = found (slice_get shapes node.index) refl h.sorted
  where
    found : (o : Option Shape) → slice_get shapes node.index ≡ o → option_map sort_of o ≡ Some node.sort → (s : Shape) × (slice_get shapes node.index ≡ Some s) × (sort_of s ≡ node.sort)
    found None is k = absurd (cc)
    found (Some s) is k = (s, is, cc)

pub node_at : (shapes : List Shape) (node : Node) (s : Shape) → slice_get shapes node.index ≡ Some s → sort_of s ≡ node.sort → IsNode shapes node
node_at shapes node s is k = record { sorted = ap (option_map sort_of) is ∙ ap (λ t. Some t) k }

pub node_below : (shapes : List Shape) (node : Node) → IsNode shapes node → node.index < length shapes
node_below shapes node h = let found = shape_of shapes node h in place_within shapes node.index found.0 found.1

-- ---- a longer list

pub weaken : {a b : List Shape} {e : Environment} {v : Values} → Grows a b → Models b e v → Models a e v
weaken g m = record { has = λ n s is. m.has n s (g.kept n s is) }

pub stays : {a : List Shape} → Grows a a
stays = record { kept = λ n s is. is; longer = omega arith }

pub grows_on : {a b c : List Shape} → Grows a b → Grows b c → Grows a c
grows_on g h = record { kept = λ n s is. h.kept n s (g.kept n s is); longer = omega (arith, g.longer, h.longer) }

pub node_grown : (a b : List Shape) (node : Node) → Grows a b → IsNode a node → IsNode b node
node_grown a b node g h = let found = shape_of a node h in node_at b node found.0 (g.kept node.index found.0 found.1) found.2

pub appended : (xs : List Shape) (y : Shape) → Grows xs (xs ++ y ∷ [])
appended xs y = record { kept = kept_at xs (y ∷ []); longer = omega (arith, length-append xs (y ∷ [])) }

-- ---- one valuation

put : {A : Type 0} → ℕ → A → (ℕ → A) → ℕ → A
put n a f i = cond (nat_eq i n) a (f i)

put_same : {A : Type 0} (n : ℕ) (a : A) (f : ℕ → A) → put n a f n ≡ a
unfolding put
put_same n a f = rw same refl where
  same : nat_eq n n ≡ true
  same = grind arith

put_other : {A : Type 0} (n : ℕ) (a : A) (f : ℕ → A) (i : ℕ) → i < n → put n a f i ≡ f i
unfolding put
put_other n a f i h = rw other refl where
  other : nat_eq i n ≡ false
  other = grind arith

AreWell : List Shape → Type 0
AreWell xs = (n : ℕ) (shape : Shape) → slice_get xs n ≡ Some shape → IsWellAt xs n shape

well_added : (xs : List Shape) (y : Shape) → AreWell xs → IsWell xs y → AreWell (xs ++ y ∷ [])
unfolding AreWell
well_added xs y well is n s e = elim (last_or_before xs y n s e) [
  | inl h ↦
      let old = well n s h.1 in
      record { each_part = each _ _ (parts s) (λ p k. record { before = k.before; stands = node_grown xs (xs ++ y ∷ []) p (appended xs y) k.stands }) old.each_part; in_width = old.in_width }
  | inr h ↦ subst (λ t. IsWellAt (xs ++ y ∷ []) n t) (sym h.1) (record {
    each_part = each _ _ (parts y) (λ p k. record { before = let b = node_below xs p k in omega (arith, b, h.0); stands = node_grown xs (xs ++ y ∷ []) p (appended xs y) k }) is.parts_stand;
    in_width = is.in_width;
  })
]

valued_added : (xs : List Shape) (y : Shape) → AreWell xs → IsWell xs y → (e : Environment) → (v : Values) × Models xs e v → (v : Values) × Models (xs ++ y ∷ []) e v
unfolding AreWell
valued_added xs y well is e (v, m) =
    let k = length xs in
    let v' : Values = put k (worth e v y) v in
    let old : (i : ℕ) → i < k → v i ≡ v' i = λ i h. sym (put_other k (worth e v y) v i h) in (
      v',
      record {
        has = λ i s e'. elim (last_or_before xs y i s e') [
          | inl h ↦ sym (old i h.0) ∙ m.has i s h.1
              ∙ worth_same e v v' s (each _ _ (parts s) (λ p q. old p.index (let b = q.before in omega (arith, b, h.0))) (well i s h.1).each_part)
          | inr h ↦ rw (h.0, h.1) (put_same k (worth e v y) v
              ∙ worth_same e v v' y (each _ _ (parts y) (λ p q. old p.index (node_below xs p q)) is.parts_stand))
        ];
      },
    )

-- what is said of each number by what is said of the smaller ones
below : (P : ℕ → Type 0) → ((n : ℕ) → ((i : ℕ) → i < n → P i) → P n) → (k n : ℕ) → n < k → P n
below P step zero n h = absurd (omega arith)
below P step (suc k) n h = step n (λ i less. below P step k i (omega arith))

each_below : (P : ℕ → Type 0) → ((n : ℕ) → ((i : ℕ) → i < n → P i) → P n) → (n : ℕ) → P n
each_below P step n = below P step (suc n) n (omega arith)

pub unique_of : (xs : List Shape) → ((n : ℕ) (s : Shape) → slice_get xs n ≡ Some s → IsWellAt xs n s) → (e : Environment) (v w : Values) → Models xs e v → Models xs e w → (n : ℕ) (s : Shape) → slice_get xs n ≡ Some s → v n ≡ w n
unique_of xs well e v w m l = each_below (λ n. (s : Shape) → slice_get xs n ≡ Some s → v n ≡ w n)
    (λ n before s is.
    m.has n s is
    ∙ worth_same e v w s (each _ _ (parts s) (λ p k. let found = shape_of xs p k.stands in before p.index k.before found.0 found.1) (well n s is).each_part)
    ∙ sym (l.has n s is))

pub sorted_of : (xs : List Shape) → ((n : ℕ) (s : Shape) → slice_get xs n ≡ Some s → IsWellAt xs n s) → (e : Environment) (v : Values) → Models xs e v → (n : ℕ) (s : Shape) → slice_get xs n ≡ Some s → IsOfSort (sort_of s) (v n)
sorted_of xs well e v m = each_below (λ n. (s : Shape) → slice_get xs n ≡ Some s → IsOfSort (sort_of s) (v n))
    (λ n before s is.
    let parts_are = each _ (λ p. IsOfSort p.sort (v p.index)) (parts s) (λ p k.
    let found = shape_of xs p k.stands in
    subst (λ t. IsOfSort t (v p.index)) found.2 (before p.index k.before found.0 found.1)) (well n s is).each_part in
    subst (λ x. IsOfSort (sort_of s) x) (sym (m.has n s is)) (worth_of_sort e v s parts_are (well n s is).in_width))

pub shape_at : (xs : List Shape) (n : ℕ) → n < length xs → (s : Shape) × (slice_get xs n ≡ Some s)
shape_at [] n h = absurd (omega arith)
shape_at (x ∷ xs) zero h = (x, refl)
shape_at (x ∷ xs) (suc n) h = shape_at xs n (omega arith)

-- a list whose shapes are well, which has no shape twice and has a valuation in each environment
pub bank_of : (xs : List Shape) → ((n : ℕ) (s : Shape) → slice_get xs n ≡ Some s → IsWellAt xs n s) → ((m n : ℕ) (s : Shape) → slice_get xs m ≡ Some s → slice_get xs n ≡ Some s → m ≡ n) → ((e : Environment) → (v : Values) × Models xs e v) → IsBank xs
bank_of xs well shared valued = record {
  well = well;
  shared = shared;
  valued = valued;
  unique = λ e v w m l n less. let found = shape_at xs n less in unique_of xs well e v w m l n found.0 found.1;
  sorted = sorted_of xs well;
}

-- ---- adding a shape

bank_added : (xs : List Shape) (y : Shape) → IsBank xs → IsWell xs y → ((i : ℕ) → slice_get xs i ≡ Some y → ⊥) → IsBank (xs ++ y ∷ [])
unfolding AreWell
bank_added xs y bank is absent = bank_of (xs ++ y ∷ []) (well_added xs y bank.well is)
    (λ i j s e f. elim (last_or_before xs y i s e) [
      | inl h ↦ elim (last_or_before xs y j s f) [ inl k ↦ bank.shared i j s h.1 k.1 | inr k ↦ absurd (absent i (h.1 ∙ ap (λ t. Some t) k.1)) ]
      | inr h ↦ elim (last_or_before xs y j s f) [ inl k ↦ absurd (absent j (k.1 ∙ ap (λ t. Some t) h.1)) | inr k ↦ h.0 ∙ sym k.0 ]
    ])
    (λ e. valued_added xs y bank.well is e (bank.valued e))

pub bank_inserted : (eq : Shape → Shape → Bool) → ((s : Shape) → eq s s ≡ true) → (xs : List Shape) (y : Shape) → IsBank xs → IsWell xs y → IsBank (insert_key eq xs y)
bank_inserted eq same xs y bank is =
    elim (list_any (eq y) xs) as (λ b. list_any (eq y) xs ≡ b → IsBank (cond b xs (xs ++ y ∷ []))) [
      | true ↦ λ _. bank
      | false ↦ λ no. bank_added xs y bank is (λ i e. let found = any_passes_from_place (eq y) xs i y e (same y) in absurd (cc))
    ] refl

pub grows_inserted : (eq : Shape → Shape → Bool) (xs : List Shape) (y : Shape) → Grows xs (insert_key eq xs y)
grows_inserted eq xs y = elim (list_any (eq y) xs) as (λ b. Grows xs (cond b xs (xs ++ y ∷ []))) [
  | true ↦ stays
  | false ↦ appended xs y
]
