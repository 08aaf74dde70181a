-- Tables with the same entries.
use Rattle.std.proofs.Common.{◌≡◌, ◌≢◌, ℕ, suc, ◌<◌, ◌≤◌, ◌⊎◌, inl, inr, ◌==◌, Bool, true, not, cond, [], ◌∷◌, ◌++◌, Some, refl, sym, ap, ◌∙◌, arith}
use Rattle.std.specs.Prelude.{unwrap_or}
use Rattle.std.specs.Ordering.{nat_cmp, is_eq}
use Rattle.std.specs.Cmp.{nat_cmp_is}
use Rattle.std.specs.declared.cmp.Ordering.TheVariants.{Less, Equal, Greater}
use Rattle.std.specs.Map.{keys_of, lookup}
use Rattle.std.specs.BTreeMap.{is_at}
use Rattle.std.specs.List.Sorted.{IsStrictlySortedBy}
use Rattle.std.proofs.lemmas.Bool.{cases_order}
use Rattle.std.proofs.lemmas.Bool.Decides.{nat_tests}
use Rattle.plain_data.specs.Worlds.{Table, value_at, has_no_zero, Sets}
use Rattle.cert_text.specs.WorldTexts.{Rises}
use Rattle.cert_text.specs.WorldSteps.{Below}
use Rattle.cert_text.proofs.SaidLemmas.{both}

-- ---- what stands at a key

abbrev found : Bool → ℕ → Table → ℕ → ℕ
found b v t k = unwrap_or (cond b (Some v) (lookup (is_at (nat_cmp k)) t)) 0

hit : (k : ℕ) (e : ℕ × ℕ) (t : Table) → k ≡ e.0 → value_at (e ∷ t) k ≡ e.1
hit k e t h = ap (λ b. found b e.1 t k) (ap is_eq (sym (nat_cmp_is k e.0 Equal h)))

miss : (k : ℕ) (e : ℕ × ℕ) (t : Table) → k ≢ e.0 → value_at (e ∷ t) k ≡ value_at t k
miss k e t h = by (cases_order k e.0)
  where
    by : (k ≡ e.0) ⊎ ((k < e.0) ⊎ (e.0 < k)) → value_at (e ∷ t) k ≡ value_at t k
    by (inl q) = absurd (h q)
    by (inr (inl q)) = ap (λ b. found b e.1 t k) (ap is_eq (sym (nat_cmp_is k e.0 Less q)))
    by (inr (inr q)) = ap (λ b. found b e.1 t k) (ap is_eq (sym (nat_cmp_is k e.0 Greater q)))

-- keys rise strictly from this one on, and nothing that stands there is 0
abbrev pub Climbs : ℕ → Table → Type 0
Climbs n [] = Unit {0}
Climbs n (e ∷ t) = (n ≤ e.0) × (1 ≤ e.1) × Climbs (suc e.0) t

none_below : (k n : ℕ) (t : Table) → Climbs n t → k < n → value_at t k ≡ 0
none_below k n [] h l = refl
none_below k n (e ∷ t) h l = miss k e t (λ q. omega (arith, h.0, q)) ∙ none_below k (suc e.0) t h.2 (omega (arith, h.0))

-- what stands at each key gives the table
pub table-same : (n m : ℕ) (a b : Table) → Climbs n a → Climbs m b → ((k : ℕ) → value_at a k ≡ value_at b k) → a ≡ b
table-same n m [] [] ha hb same = refl
table-same n m [] (e ∷ b) ha hb same = absurd (let h : 0 ≡ e.1 = same e.0 ∙ hit e.0 e b refl in omega (arith, hb.1, h))
table-same n m (d ∷ a) [] ha hb same = absurd (let h : d.1 ≡ 0 = sym (hit d.0 d a refl) ∙ same d.0 in omega (arith, ha.1, h))
table-same n m (d ∷ a) (e ∷ b) ha hb same = by (cases_order d.0 e.0) (table-same (suc d.0) (suc e.0) a b ha.2 hb.2)
  where
    by : (d.0 ≡ e.0) ⊎ ((d.0 < e.0) ⊎ (e.0 < d.0)) → (((k : ℕ) → value_at a k ≡ value_at b k) → a ≡ b) → d ∷ a ≡ e ∷ b
    by (inl q) ih =
        let value : d.1 ≡ e.1 = sym (hit d.0 d a refl) ∙ same d.0 ∙ hit d.0 e b q in
        let rest = ih (λ k. tail k (cases_order k d.0)) in
        ap (λ x. (x, d.1) ∷ a) q ∙ ap (λ x. (e.0, x) ∷ a) value ∙ ap (λ r. e ∷ r) rest
      where
        tail : (k : ℕ) → (k ≡ d.0) ⊎ ((k < d.0) ⊎ (d.0 < k)) → value_at a k ≡ value_at b k
        tail k (inl p) = none_below k (suc d.0) a ha.2 (omega (arith, p)) ∙ sym (none_below k (suc e.0) b hb.2 (omega (arith, p, q)))
        tail k (inr p) =
            let ne : k ≢ d.0 = λ r. apart k p r in
            sym (miss k d a ne) ∙ same k ∙ miss k e b (λ r. ne (r ∙ sym q))
          where
            apart : (k : ℕ) → (k < d.0) ⊎ (d.0 < k) → k ≡ d.0 → ⊥
            apart k (inl p) r = omega (arith, p, r)
            apart k (inr p) r = omega (arith, p, r)
    by (inr (inl q)) ih = absurd (let h : d.1 ≡ 0 = sym (hit d.0 d a refl) ∙ same d.0 ∙ none_below d.0 e.0 (e ∷ b) (omega arith, hb.1, hb.2) q in omega (arith, ha.1, h))
    by (inr (inr q)) ih = absurd (let h : e.1 ≡ 0 = sym (hit e.0 e b refl) ∙ sym (same e.0) ∙ none_below e.0 d.0 (d ∷ a) (omega arith, ha.1, ha.2) q in omega (arith, hb.1, h))

-- ---- where tables climb

pub climbs-rises : (n most top : ℕ) (t : Table) → Rises n most top t → Climbs n t
climbs-rises n most top [] h = tt
climbs-rises n most top (e ∷ t) h = (h.0, h.2, climbs-rises (suc e.0) most top t h.4)

abbrev FirstFrom : ℕ → Table → Type 0
FirstFrom n [] = Unit {0}
FirstFrom n (e ∷ t) = n ≤ e.0

less_than : (a b : ℕ) → nat_cmp a b ≡ Less → a < b
less_than a b h = by (cases_order a b)
  where
    by : (a ≡ b) ⊎ ((a < b) ⊎ (b < a)) → a < b
    by (inl q) = absurd (let p : Equal ≡ Less = nat_cmp_is a b Equal q ∙ h in cc)
    by (inr (inl q)) = q
    by (inr (inr q)) = absurd (let p : Greater ≡ Less = nat_cmp_is a b Greater q ∙ h in cc)

climbs-sorted : (n : ℕ) (t : Table) → IsStrictlySortedBy nat_cmp (keys_of t) → has_no_zero t ≡ true → FirstFrom n t → Climbs n t
unfolding IsStrictlySortedBy
climbs-sorted n [] s z f = tt
climbs-sorted n (e ∷ t) s z f =
    let parts = both (not (e.1 == 0)) (has_no_zero t) z in
    (f, some e.1 parts.0, climbs-sorted (suc e.0) t s.1 parts.1 (next t s.0))
  where
    some : (v : ℕ) → not (v == 0) ≡ true → 1 ≤ v
    some v h = grind (arith, nat_tests)

    next : (t : Table) → Rattle.std.specs.List.AllByRecursion (λ y. nat_cmp e.0 y ≡ Less) (keys_of t) → FirstFrom (suc e.0) t
    next [] h = tt
    next (d ∷ t) h = less_than e.0 d.0 h.0

pub climbs : (t : Table) → IsStrictlySortedBy nat_cmp (keys_of t) → has_no_zero t ≡ true → Climbs 0 t
climbs t s z = climbs-sorted 0 t s z (first t)
  where
    first : (t : Table) → FirstFrom 0 t
    first [] = tt
    first (e ∷ t) = omega arith

-- ---- an entry behind all others

snoc_here : (k v : ℕ) (t : Table) → Below k t → value_at (t ++ (k, v) ∷ []) k ≡ v
snoc_here k v [] h = hit k (k, v) [] refl
snoc_here k v (e ∷ t) h = miss k e (t ++ (k, v) ∷ []) (λ q. omega (arith, h.0, q)) ∙ snoc_here k v t h.1

snoc_other : (j k v : ℕ) (t : Table) → j ≢ k → value_at (t ++ (k, v) ∷ []) j ≡ value_at t j
snoc_other j k v [] h = miss j (k, v) [] h
snoc_other j k v (e ∷ t) h = by (cases_order j e.0) (snoc_other j k v t h)
  where
    by : (j ≡ e.0) ⊎ ((j < e.0) ⊎ (e.0 < j)) → value_at (t ++ (k, v) ∷ []) j ≡ value_at t j → value_at (e ∷ (t ++ (k, v) ∷ [])) j ≡ value_at (e ∷ t) j
    by (inl q) ih = hit j e (t ++ (k, v) ∷ []) q ∙ sym (hit j e t q)
    by (inr (inl q)) ih = miss j e (t ++ (k, v) ∷ []) (λ r. omega (arith, q, r)) ∙ ih ∙ sym (miss j e t (λ r. omega (arith, q, r)))
    by (inr (inr q)) ih = miss j e (t ++ (k, v) ∷ []) (λ r. omega (arith, q, r)) ∙ ih ∙ sym (miss j e t (λ r. omega (arith, q, r)))

pub set_behind : (old new t : Table) (k v : ℕ) → Sets old new k v → ((j : ℕ) → value_at old j ≡ value_at t j) → Below k t → (j : ℕ) → value_at new j ≡ value_at (t ++ (k, v) ∷ []) j
set_behind old new t k v sets same h j = by (cases_order j k)
  where
    other : j ≢ k → value_at new j ≡ value_at (t ++ (k, v) ∷ []) j
    other ne = sets.others j ne ∙ same j ∙ sym (snoc_other j k v t ne)

    by : (j ≡ k) ⊎ ((j < k) ⊎ (k < j)) → value_at new j ≡ value_at (t ++ (k, v) ∷ []) j
    by (inl q) = ap (value_at new) q ∙ sets.here ∙ sym (snoc_here k v t h) ∙ ap (value_at (t ++ (k, v) ∷ [])) (sym q)
    by (inr (inl q)) = other (λ r. omega (arith, q, r))
    by (inr (inr q)) = other (λ r. omega (arith, q, r))

pub below_more : (a b : ℕ) (t : Table) → a ≤ b → Below a t → Below b t
below_more a b [] h l = tt
below_more a b (e ∷ t) h l = (omega (arith, l.0), below_more a b t h l.1)

pub below_behind : (least k v : ℕ) (t : Table) → least ≤ k → Below least t → Below (suc k) (t ++ (k, v) ∷ [])
below_behind least k v [] h l = (omega arith, tt)
below_behind least k v (e ∷ t) h l = (omega (arith, l.0), below_behind least k v t h l.1)
