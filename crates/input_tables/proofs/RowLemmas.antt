-- Rows, their conditions, and known keys.
use Rattle.std.proofs.Common.{◌≡◌, ◌<◌, ◌≤◌, ◌++◌, ◌∷◌, [], ℕ, zero, suc, ◌+◌, ◌*◌, ◌%◌, ◌^◌, ◌&&◌, ◌⊎◌, List, true, false, cond, refl, sym, ap, subst, ◌∙◌, arith, inl, inr, length, take, take_all, get_or, Some, None}
use Rattle.std.specs.Prelude.{nat_eq, slice_get}
use Rattle.std.proofs.lemmas.Bool.{and_parts, and_from, eqb-true, eq-eqb, cases_Bool}
use Rattle.std.proofs.lemmas.List.{take_more}
use Rattle.std.proofs.lemmas.List.Folds.{list_all-append}
use Rattle.cnf_core.specs.Truth.{Valuation}
use Rattle.gates.specs.declared.bit.Bit.{Bit}
use Rattle.gates.specs.declared.bit.Bit.TheVariants.{Known}
use Rattle.gates.specs.Nets.{Net, Extension, Grows, IsGate, bit_holds}
use Rattle.gates.proofs.BitLemmas.{same-grows, then-grows}
use Rattle.word_gates.specs.Spelling.{AreBits, number, spelled}
use Rattle.word_gates.proofs.WordLemmas.{bits-grown, bits-push, spelled-extended, spelled-so-far, taken-small}
use Rattle.input_tables.specs.declared.row.Row.{Row}
use Rattle.input_tables.specs.Rows.{Member, IsRow, Follows, AreAlike, Constrains, IsKnownAs, IsPart, all_hold}

-- ---- members

pub member_front : (x : Row) (xs ys : List Row) → Member x xs → Member x (xs ++ ys)
member_front x [] ys h = absurd h
member_front x (y ∷ xs) ys (inl e) = inl e
member_front x (y ∷ xs) ys (inr h) = inr (member_front x xs ys h)

pub member_back : (x : Row) (xs ys : List Row) → Member x ys → Member x (xs ++ ys)
member_back x [] ys h = h
member_back x (y ∷ xs) ys h = inr (member_back x xs ys h)

pub member_split : (x : Row) (xs ys : List Row) → Member x (xs ++ ys) → Member x xs ⊎ Member x ys
member_split x [] ys h = inr h
member_split x (y ∷ xs) ys (inl e) = inl (inl e)
member_split x (y ∷ xs) ys (inr h) = elim (member_split x xs ys h) [ inl k ↦ inl (inr k) | inr k ↦ inr k ]

pub member_last : (x : Row) (xs : List Row) → Member x (xs ++ x ∷ [])
member_last x xs = member_back x xs (x ∷ []) (inl refl)

pub member_pushed : (x y : Row) (xs : List Row) → Member x (xs ++ y ∷ []) → Member x xs ⊎ (x ≡ y)
member_pushed x y xs h = elim (member_split x xs (y ∷ []) h) [ inl k ↦ inl k | inr k ↦ elim k [ inl e ↦ inr e | inr n ↦ absurd n ] ]

pub member_at : (xs : List Row) (i : ℕ) (x : Row) → slice_get xs i ≡ Some x → Member x xs
member_at [] i x e = absurd (none x e)
  where
    none : (x : Row) → None ≡ Some x → ⊥
    none x e = cc
member_at (y ∷ xs) zero x e = inl (same y x e)
  where
    same : (y x : Row) → Some y ≡ Some x → x ≡ y
    same y x e = cc
member_at (y ∷ xs) (suc i) x e = inr (member_at xs i x e)

-- a member stands somewhere
pub place_of : (xs : List Row) (x : Row) → Member x xs → (i : ℕ) × (slice_get xs i ≡ Some x)
place_of [] x h = absurd h
place_of (y ∷ xs) x (inl e) = (zero, ap Some (sym e))
place_of (y ∷ xs) x (inr h) = let r = place_of xs x h in (suc r.0, r.1)

-- ---- rows of nets that grow

pub row-grown : (a b : Net) (n : ℕ) (row : Row) → Grows a b → IsRow a n row → IsRow b n row
row-grown a b n row g r = record { key_width = r.key_width; value_width = r.value_width; key_stands = bits-grown a b row.key g r.key_stands; value_stands = bits-grown a b row.value g r.value_stands }

pub follows-extended : (net new : Net) (n : ℕ) (f : ℕ → ℕ) (v : Valuation) (row : Row) (e : Extension new (net.count + 1) v) → IsRow net n row → Follows v n f row → Follows e.model n f row
follows-extended net new n f v row e r h =
    let k = spelled-extended net new v row.key e r.key_stands in
    let x = spelled-extended net new v row.value e r.value_stands in
    record { is = ap (λ t. f t % 2 ^ n) k ∙ h.is ∙ sym x }

pub alike-turned : (v : Valuation) (x y : Row) → AreAlike v x y → AreAlike v y x
alike-turned v x y h = record { same = λ e. sym (h.same (sym e)) }

pub alike-self : (v : Valuation) (x y : Row) → x ≡ y → AreAlike v x y
alike-self v x y e = record { same = λ k. ap (λ r. spelled v r.value) e }

-- rows of one function have one value where they have one key
pub alike-followed : (v : Valuation) (n : ℕ) (f : ℕ → ℕ) (x y : Row) → Follows v n f x → Follows v n f y → AreAlike v x y
alike-followed v n f x y h k = record { same = λ e. sym h.is ∙ ap (λ t. f t % 2 ^ n) e ∙ k.is }

-- ---- conditions

pub alike-gate : (g0 g1 g2 : Net) (one other : Row) (x1 x2 : List Bit) (same alike agree : Bit) → x1 ≡ one.value → x2 ≡ other.value → IsGate g0 g1 (λ v. nat_eq (spelled v x1) (spelled v x2)) alike → IsGate g1 g2 (λ v. cond (bit_holds v same) (bit_holds v alike) (bit_holds v (Known true))) agree → IsGate g0 g2 (λ v. cond (bit_holds v same) (nat_eq (spelled v one.value) (spelled v other.value)) true) agree
alike-gate g0 g1 g2 one other x1 x2 same alike agree e1 e2 p q = record {
  grows = then-grows g0 g1 g2 p.grows q.grows;
  stands = q.stands;
  means = λ v m. q.means v m ∙ (λ i. cond (bit_holds v same) (p.means v (q.grows.keeps v m) i) true) ∙ (λ i. cond (bit_holds v same) (nat_eq (spelled v (e1 i)) (spelled v (e2 i))) true);
}

pub agree-gate : (g0 g1 g2 : Net) (one other : Row) (k1 k2 : List Bit) (same agree : Bit) → k1 ≡ one.key → k2 ≡ other.key → IsGate g0 g1 (λ v. nat_eq (spelled v k1) (spelled v k2)) same → IsGate g1 g2 (λ v. cond (bit_holds v same) (nat_eq (spelled v one.value) (spelled v other.value)) true) agree → IsGate g0 g2 (λ v. cond (nat_eq (spelled v one.key) (spelled v other.key)) (nat_eq (spelled v one.value) (spelled v other.value)) true) agree
agree-gate g0 g1 g2 one other k1 k2 same agree e1 e2 p q = record {
  grows = then-grows g0 g1 g2 p.grows q.grows;
  stands = q.stands;
  means = λ v m. q.means v m ∙ (λ i. cond (p.means v (q.grows.keeps v m) i) (nat_eq (spelled v one.value) (spelled v other.value)) true) ∙ (λ i. cond (nat_eq (spelled v (e1 i)) (spelled v (e2 i))) (nat_eq (spelled v one.value) (spelled v other.value)) true);
}

pub hold-push : (v : Valuation) (bits : List Bit) (x : Bit) → all_hold v bits ≡ true → bit_holds v x ≡ true → all_hold v (bits ++ x ∷ []) ≡ true
hold-push v bits x h k = list_all-append (bit_holds v) bits (x ∷ []) ∙ and_from (all_hold v bits) (bit_holds v x && true) h (and_from (bit_holds v x) true k refl)

pub hold-parts : (v : Valuation) (bits : List Bit) (x : Bit) → all_hold v (bits ++ x ∷ []) ≡ true → (all_hold v bits ≡ true) × (bit_holds v x ≡ true)
hold-parts v bits x h =
    let p = and_parts (all_hold v bits) (bit_holds v x && true) (sym (list_all-append (bit_holds v) bits (x ∷ [])) ∙ h) in
    (p.0, (and_parts (bit_holds v x) true p.1).0)

-- the condition is true exactly where the rows are alike
condition-true : (v : Valuation) (x y : Row) → AreAlike v x y → cond (nat_eq (spelled v x.key) (spelled v y.key)) (nat_eq (spelled v x.value) (spelled v y.value)) true ≡ true
condition-true v x y h =
    elim (cases_Bool (nat_eq (spelled v x.key) (spelled v y.key))) [
      | inl e ↦ rw e (eq-eqb (spelled v x.value) (spelled v y.value) (h.same (eqb-true (spelled v x.key) (spelled v y.key) e)))
      | inr e ↦ rw e refl
    ]

condition-alike : (v : Valuation) (x y : Row) → cond (nat_eq (spelled v x.key) (spelled v y.key)) (nat_eq (spelled v x.value) (spelled v y.value)) true ≡ true → AreAlike v x y
condition-alike v x y h = record { same = λ e. let t : nat_eq (spelled v x.key) (spelled v y.key) ≡ true = eq-eqb (spelled v x.key) (spelled v y.key) e in eqb-true (spelled v x.value) (spelled v y.value) (sym (ap (λ b. cond b (nat_eq (spelled v x.value) (spelled v y.value)) true) t) ∙ h) }

pub constrains-start : (net : Net) (row : Row) (rows : List Row) (conditions : List Bit) → AreBits net conditions → Constrains net net (take 0 rows) row conditions conditions
constrains-start net row rows conditions h = record {
  grows = same-grows net;
  stand = h;
  hold = λ v m k all. k;
  held = λ v m k. k;
  alike = λ v m k x in_none. absurd in_none;
}

pub constrains-more : (old now next : Net) (rows : List Row) (row at : Row) (i : ℕ) (before after longer : List Bit) (condition : Bit) → i < length rows → at ≡ get_or rows i at → Constrains old now (take i rows) row before after → IsGate now next (λ v. cond (nat_eq (spelled v at.key) (spelled v row.key)) (nat_eq (spelled v at.value) (spelled v row.value)) true) condition → longer ≡ after ++ condition ∷ [] → Constrains old next (take (i + 1) rows) row before longer
constrains-more old now next rows row at i before after longer condition in_rows is_at c g is =
    let whole : take (i + 1) rows ≡ take i rows ++ at ∷ [] = take_more rows i at in_rows ∙ ap (λ r. take i rows ++ r ∷ []) (sym is_at) in
    record {
      grows = then-grows old now next c.grows g.grows;
      stand = rw is (bits-push now next after condition g.grows c.stand g.stands);
      hold = λ v m k all.
          let n = g.grows.keeps v m in
          ap (all_hold v) is ∙ hold-push v after condition (c.hold v n k (λ x h. all x (subst (Member x) (sym whole) (member_front x (take i rows) (at ∷ []) h)))) (g.means v m ∙ condition-true v at row (all at (subst (Member at) (sym whole) (member_last at (take i rows)))));
      held = λ v m k. c.held v (g.grows.keeps v m) (hold-parts v after condition (sym (ap (all_hold v) is) ∙ k)).0;
      alike = λ v m k x h.
          let p = hold-parts v after condition (sym (ap (all_hold v) is) ∙ k) in
          elim (member_pushed x at (take i rows) (subst (Member x) whole h)) [
            | inl q ↦ c.alike v (g.grows.keeps v m) p.0 x q
            | inr e ↦ subst (λ r. AreAlike v r row) (sym e) (condition-alike v at row (sym (g.means v m) ∙ p.1))
          ];
    }

pub constrains-whole : (old new : Net) (rows : List Row) (row : Row) (i : ℕ) (before after : List Bit) → length rows ≤ i → Constrains old new (take i rows) row before after → Constrains old new rows row before after
constrains-whole old new rows row i before after h c = subst (λ r. Constrains old new r row before after) (take_all i rows h) c

-- ---- known keys

pub part-true : (bit : Bit) (place k : ℕ) → bit ≡ Known true → k ≡ 2 ^ place → IsPart bit place k
part-true bit place k e is = record { is = λ v. is ∙ one (2 ^ place) ∙ ap (λ b. 2 ^ place * number (bit_holds v b)) (sym e) }
  where
    one : (n : ℕ) → n ≡ n * 1
    one n = omega arith

pub part-false : (bit : Bit) (place k : ℕ) → bit ≡ Known false → k ≡ 0 → IsPart bit place k
part-false bit place k e is = record { is = λ v. is ∙ none (2 ^ place) ∙ ap (λ b. 2 ^ place * number (bit_holds v b)) (sym e) }
  where
    none : (n : ℕ) → 0 ≡ n * 0
    none n = omega arith

pub known-more : (word : List Bit) (i n part : ℕ) (at : Bit) → i < length word → at ≡ get_or word i at → IsKnownAs (take i word) n → IsPart at i part → IsKnownAs (take (i + 1) word) (n + part)
known-more word i n part at h is k p = record { is = λ v. spelled-so-far v word i at h is ∙ (λ j. k.is v j + sym (p.is v) j) }

pub known-small : (word : List Bit) (i n : ℕ) → i ≤ length word → IsKnownAs (take i word) n → n < 2 ^ i
known-small word i n h k = subst (λ t. t < 2 ^ i) (k.is (λ x. false)) (taken-small (λ x. false) word i h)

pub known-whole : (word : List Bit) (i n : ℕ) → length word ≤ i → IsKnownAs (take i word) n → IsKnownAs word n
known-whole word i n h k = subst (λ w. IsKnownAs w n) (take_all i word h) k

-- ---- items of a slice

pub member-read : (xs : List Row) (i : ℕ) (x : Row) → i < length xs → x ≡ get_or xs i x → Member x xs
member-read [] i x h e = absurd (omega arith)
member-read (y ∷ xs) zero x h e = inl e
member-read (y ∷ xs) (suc i) x h e = inr (member-read xs i x (omega arith) e)

pub read-is : (xs : List Row) (i : ℕ) (x d : Row) → slice_get xs i ≡ Some x → get_or xs i d ≡ x
read-is [] i x d e = absurd (none x e)
  where
    none : (x : Row) → None ≡ Some x → ⊥
    none x e = cc
read-is (y ∷ xs) zero x d e = same y x e
  where
    same : (y x : Row) → Some y ≡ Some x → y ≡ x
    same y x e = cc
read-is (y ∷ xs) (suc i) x d e = read-is xs i x d e
