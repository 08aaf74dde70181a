-- A row is added to a table.
use Rattle.std.proofs.Common.{◌≡◌, ◌<◌, ◌++◌, ◌∷◌, [], ℕ, zero, suc, ◌+◌, ◌%◌, ◌^◌, ◌⊎◌, List, Bool, true, false, cond, refl, sym, ap, subst, ◌∙◌, arith, inl, inr, length, Some, None}
use Rattle.std.specs.Prelude.{nat_eq, slice_get}
use Rattle.std.specs.HashMap.{get}
use Rattle.std.specs.Map.{lookup}
use Rattle.std.proofs.Math.Nat.{mod-lt}
use Rattle.std.proofs.lemmas.Bool.{eqb-true, eq-eqb}
use Rattle.std.proofs.lemmas.List.Elements.{All-nil}
use Rattle.cnf_core.specs.Truth.{Valuation}
use Rattle.gates.specs.declared.bit.Bit.{Bit}
use Rattle.gates.specs.Nets.{Net, IsModel, Extension, Grows}
use Rattle.gates.proofs.BitLemmas.{same-grows, then-grows}
use Rattle.word_gates.specs.Spelling.{AreBits, spelled}
use Rattle.word_gates.proofs.NumberLemmas.{pow-pos}
use Rattle.word_gates.proofs.WordLemmas.{bits-grown, spelled-extended}
use Rattle.input_tables.specs.declared.row.Row.{Row}
use Rattle.input_tables.specs.declared.table.Table.{Table}
use Rattle.input_tables.specs.Rows.{Index, Puts, Member, IsRow, IsNewRow, Follows, AllFollow, AreAlike, Constrains, IsKnownAs, all_hold}
use Rattle.input_tables.specs.Tables.{rows_of, IsEmpty, IsFixedAt, HasKnown, IsTable, IsSettled, Asked}
use Rattle.input_tables.proofs.RowLemmas.{member_front, member_back, member_split, member_last, member_pushed, member_at, place_of, row-grown, follows-extended, alike-turned, alike-self, alike-followed}

-- ---- tables in nets that grow

pub table-grown : (a b : Net) (t : Table) → Grows a b → IsTable a t → IsTable b t
table-grown a b t g h = record {
  rows = λ row m. row-grown a b t.bits row g (h.rows row m);
  fixed = h.fixed;
  found = h.found;
  conditions_stand = bits-grown a b t.conditions g h.conditions_stand;
  hold = λ v f m all. h.hold v f (g.keeps v m) all;
  alike = λ v m k x y in_x in_y. h.alike v (g.keeps v m) k x y in_x in_y;
}

pub empty-table : (net : Net) (bits : ℕ) (t : Table) → IsEmpty bits t → IsTable net t
empty-table net bits t e =
    let none : rows_of t ≡ [] = (λ i. e.fixed i ++ e.free i) in
    record {
      rows = λ row m. absurd (subst (Member row) none m);
      fixed = λ i row at. absurd (subst (Member row) e.fixed (member_at t.fixed i row at));
      found = λ key place at. absurd (no_place place (sym (ap (λ es. lookup (nat_eq key) es) e.index) ∙ at));
      conditions_stand = subst (AreBits net) (sym e.conditions) (All-nil _);
      hold = λ v f m all. ap (all_hold v) e.conditions;
      alike = λ v m k x y in_x in_y. absurd (subst (Member x) none in_x);
    }
  where
    no_place : (place : ℕ) → None ≡ Some place → ⊥
    no_place place e = cc

-- ---- tables whose conditions are met

settled-rows : (t s : Table) → IsSettled t s → rows_of s ≡ rows_of t
settled-rows t s h = λ i. h.fixed i ++ h.free i

-- rows that have one value where they have one key, in each model of a net in which they stand
pub settled-table : (net : Net) (t s : Table) → IsSettled t s → ((row : Row) → Member row (rows_of t) → IsRow net t.bits row)
    → ((i : ℕ) (row : Row) → slice_get t.fixed i ≡ Some row → IsFixedAt t.index i row)
    → ((key place : ℕ) → get nat_eq t.index key ≡ Some place → HasKnown t.fixed key place)
    → ((v : Valuation) → IsModel net v → (x y : Row) → Member x (rows_of t) → Member y (rows_of t) → AreAlike v x y)
    → IsTable net s
settled-table net t s h rows fixed found alike = record {
  rows = λ row m. subst (λ n. IsRow net n row) (sym h.bits) (rows row (subst (Member row) same m));
  fixed = λ i row at.
      let f = fixed i row (subst (λ xs. slice_get xs i ≡ Some row) h.fixed at) in
      record { key = f.key; known = f.known; found = h.index f.key ∙ f.found };
  found = λ key place at. subst (λ xs. HasKnown xs key place) (sym h.fixed) (found key place (sym (h.index key) ∙ at));
  conditions_stand = subst (AreBits net) (sym h.conditions) (All-nil _);
  hold = λ v f m all. ap (all_hold v) h.conditions;
  alike = λ v m k x y in_x in_y. alike v m x y (subst (Member x) same in_x) (subst (Member y) same in_y);
} where
  same : rows_of s ≡ rows_of t
  same = settled-rows t s h

-- the rows are those of the same function
pub settled-follow : (v : Valuation) (f : ℕ → ℕ) (t s : Table) → IsSettled t s → AllFollow v t.bits f (rows_of t) → AllFollow v s.bits f (rows_of s)
settled-follow v f t s h all row m = subst (λ n. Follows v n f row) (sym h.bits) (all row (subst (Member row) (settled-rows t s h) m))

pub settled-followed : (v : Valuation) (f : ℕ → ℕ) (t s : Table) → IsSettled t s → AllFollow v s.bits f (rows_of s) → AllFollow v t.bits f (rows_of t)
settled-followed v f t s h all row m = subst (λ n. Follows v n f row) h.bits (all row (subst (Member row) (sym (settled-rows t s h)) m))

-- ---- conditions on all rows

pub constrains-then : (a b c : Net) (xs ys : List Row) (row : Row) (before mid after : List Bit) → Constrains a b xs row before mid → Constrains b c ys row mid after → Constrains a c (xs ++ ys) row before after
constrains-then a b c xs ys row before mid after p q = record {
  grows = then-grows a b c p.grows q.grows;
  stand = q.stand;
  hold = λ v m k all. q.hold v m (p.hold v (q.grows.keeps v m) k (λ x h. all x (member_front x xs ys h))) (λ x h. all x (member_back x xs ys h));
  held = λ v m k. p.held v (q.grows.keeps v m) (q.held v m k);
  alike = λ v m k x h. elim (member_split x xs ys h) [ inl r ↦ p.alike v (q.grows.keeps v m) (q.held v m k) x r | inr r ↦ q.alike v m k x r ];
}

pub constrains-apart : (a b : Net) (xs ys : List Row) (row : Row) (before after : List Bit) → ((v : Valuation) (x : Row) → Member x xs → AreAlike v x row) → Constrains a b ys row before after → Constrains a b (xs ++ ys) row before after
constrains-apart a b xs ys row before after apart q = record {
  grows = q.grows;
  stand = q.stand;
  hold = λ v m k all. q.hold v m k (λ x h. all x (member_back x xs ys h));
  held = q.held;
  alike = λ v m k x h. elim (member_split x xs ys h) [ inl r ↦ apart v x r | inr r ↦ q.alike v m k x r ];
}

-- rows whose known keys are met have another key than one that isn't
pub apart-of : (index : Index) (fixed : List Row) (number : ℕ) (row : Row) → ((i : ℕ) (x : Row) → slice_get fixed i ≡ Some x → IsFixedAt index i x) → get nat_eq index number ≡ None → IsKnownAs row.key number → (v : Valuation) (x : Row) → Member x fixed → AreAlike v x row
apart-of index fixed number row met fresh known v x m =
    let p = place_of fixed x m in
    let f = met p.0 x p.1 in
    record { same = λ e. absurd (no_place p.0 (sym fresh ∙ ap (get nat_eq index) (sym (known.is v) ∙ sym e ∙ f.known.is v) ∙ f.found)) }
  where
    no_place : (place : ℕ) → None ≡ Some place → ⊥
    no_place place e = cc

-- ---- a new row

pub new-row-stands : (g0 g1 : Net) (key : List Bit) (n : ℕ) (row : Row) → AreBits g0 key → length key ≡ 64 → IsNewRow g0 g1 key n row → IsRow g1 n row
new-row-stands g0 g1 key n row h w r = record {
  key_width = ap length r.at ∙ w;
  value_width = r.inputs.width;
  key_stands = subst (AreBits g1) (sym r.at) (bits-grown g0 g1 key r.inputs.grows h);
  value_stands = r.inputs.stand;
}

pub others-stand : (g0 g1 : Net) (t : Table) (key : List Bit) (rows : List Row) (row : Row) → IsTable g0 t → IsNewRow g0 g1 key t.bits row → ((x : Row) → Member x rows → Member x (rows_of t)) → (x : Row) → Member x rows → IsRow g1 (length row.value) x
others-stand g0 g1 t key rows row h r within x m = subst (λ n. IsRow g1 n x) (sym r.inputs.width) (row-grown g0 g1 t.bits x r.inputs.grows (h.rows x (within x m)))

pub row-stands : (g0 g1 : Net) (key : List Bit) (n : ℕ) (row : Row) → AreBits g0 key → length key ≡ 64 → IsNewRow g0 g1 key n row → IsRow g1 (length row.value) row
row-stands g0 g1 key n row h w r = subst (λ k. IsRow g1 k row) (sym r.inputs.width) (new-row-stands g0 g1 key n row h w r)

pub added : (g0 g1 g2 : Net) (before after : Table) (key : List Bit) (row : Row) (value : List Bit) → IsTable g0 before → AreBits g0 key → length key ≡ 64 → IsNewRow g0 g1 key before.bits row → Constrains g1 g2 (rows_of before) row before.conditions after.conditions → after.bits ≡ before.bits → ((x : Row) → Member x (rows_of after) → Member x (rows_of before) ⊎ (x ≡ row)) → ((x : Row) → Member x (rows_of before) → Member x (rows_of after)) → Member row (rows_of after) → ((i : ℕ) (x : Row) → slice_get after.fixed i ≡ Some x → IsFixedAt after.index i x) → ((k place : ℕ) → get nat_eq after.index k ≡ Some place → HasKnown after.fixed k place) → value ≡ row.value → Asked g0 g2 before after key value
added g0 g1 g2 before after key row value h stands wide r c bits split kept here fixed found is_value = record {
  grows = then-grows g0 g1 g2 r.inputs.grows c.grows;
  table = record {
    rows = λ x m. subst (λ n. IsRow g2 n x) (sym bits) (elim (split x m) [
      | inl k ↦ row-grown g0 g2 before.bits x (then-grows g0 g1 g2 r.inputs.grows c.grows) (h.rows x k)
      | inr e ↦ subst (IsRow g2 before.bits) (sym e) (row-grown g1 g2 before.bits row c.grows (new-row-stands g0 g1 key before.bits row stands wide r))
    ]);
    fixed = fixed;
    found = found;
    conditions_stand = c.stand;
    hold = λ v f m all.
        let old : AllFollow v before.bits f (rows_of before) = λ x k. subst (λ n. Follows v n f x) bits (all x (kept x k)) in
        c.hold v m (h.hold v f (r.inputs.grows.keeps v (c.grows.keeps v m)) old) (λ x k. alike-followed v after.bits f x row (all x (kept x k)) (all row here));
    alike = λ v m k x y in_x in_y. pair v m k x y (split x in_x) (split y in_y);
  };
  same_width = bits;
  kept = kept;
  width = ap length is_value ∙ r.inputs.width ∙ sym bits;
  stands = subst (AreBits g2) (sym is_value) (bits-grown g1 g2 row.value c.grows r.inputs.stand);
  is = λ v f m all. ap (λ w. f (spelled v w) % 2 ^ after.bits) (sym r.at) ∙ (all row here).is ∙ ap (spelled v) (sym is_value);
  extends = λ v f m all.
      let x = f (spelled v key) % 2 ^ before.bits in
      let one = r.inputs.free v x m (mod-lt (f (spelled v key)) {m = 2 ^ before.bits} (pow-pos before.bits)) in
      let two = c.grows.extends one.0.model one.0.is in
      let whole : Extension g2 (g0.count + 1) v = record { model = two.model; agrees = λ y l. one.0.agrees y l ∙ two.agrees y (omega (arith, l, r.inputs.grows.more)); is = two.is } in
      let at_key : spelled two.model row.key ≡ spelled v key = ap (spelled two.model) r.at ∙ spelled-extended g0 g2 v key whole stands in
      let at_value : spelled two.model row.value ≡ x = spelled-extended g1 g2 one.0.model row.value two r.inputs.stand ∙ one.1 in
      record {
        extension = whole;
        follow = λ y k. subst (λ n. Follows two.model n f y) (sym bits) (elim (split y k) [
          | inl o ↦ follows-extended g0 g2 before.bits f v y whole (h.rows y o) (all y o)
          | inr e ↦ subst (Follows two.model before.bits f) (sym e) (record { is = ap (λ t. f t % 2 ^ before.bits) at_key ∙ sym at_value })
        ]);
      };
}
  where
    pair : (v : Valuation) → IsModel g2 v → all_hold v after.conditions ≡ true → (x y : Row) → Member x (rows_of before) ⊎ (x ≡ row) → Member y (rows_of before) ⊎ (y ≡ row) → AreAlike v x y
    pair v m k x y (inl p) (inl q) = h.alike v (r.inputs.grows.keeps v (c.grows.keeps v m)) (c.held v m k) x y p q
    pair v m k x y (inl p) (inr e) = subst (AreAlike v x) (sym e) (c.alike v m k x p)
    pair v m k x y (inr e) (inl q) = subst (λ t. AreAlike v t y) (sym e) (alike-turned v y row (c.alike v m k y q))
    pair v m k x y (inr e) (inr d) = alike-self v x y (e ∙ sym d)

-- ---- a row whose key isn't known

pub added-free : (g0 g1 g2 g3 : Net) (before after : Table) (key : List Bit) (row : Row) (value mid : List Bit) → IsTable g0 before → AreBits g0 key → length key ≡ 64 → IsNewRow g0 g1 key before.bits row → Constrains g1 g2 before.fixed row before.conditions mid → Constrains g2 g3 before.free row mid after.conditions → after.bits ≡ before.bits → after.fixed ≡ before.fixed → after.index ≡ before.index → after.free ≡ before.free ++ row ∷ [] → value ≡ row.value → Asked g0 g3 before after key value
added-free g0 g1 g2 g3 before after key row value mid h stands wide r c d bits same_fixed same_index more is =
    added g0 g1 g3 before after key row value h stands wide r (constrains-then g1 g2 g3 before.fixed before.free row before.conditions mid after.conditions c d) bits
    (λ x m. elim (member_split x after.fixed after.free m) [
      | inl p ↦ inl (member_front x before.fixed before.free (subst (Member x) same_fixed p))
      | inr p ↦ elim (member_pushed x row before.free (subst (Member x) more p)) [ inl q ↦ inl (member_back x before.fixed before.free q) | inr e ↦ inr e ]
    ])
    (λ x m. elim (member_split x before.fixed before.free m) [
      | inl p ↦ member_front x after.fixed after.free (subst (Member x) (sym same_fixed) p)
      | inr p ↦ member_back x after.fixed after.free (subst (Member x) (sym more) (member_front x before.free (row ∷ []) p))
    ])
    (member_back row after.fixed after.free (subst (Member row) (sym more) (member_last row before.free)))
    (λ i x at. subst (λ t. IsFixedAt t i x) (sym same_index) (h.fixed i x (sym (ap (λ t. slice_get t i) same_fixed) ∙ at)))
    (λ k place at. subst (λ t. HasKnown t k place) (sym same_fixed) (h.found k place (sym (ap (λ t. get nat_eq t k) same_index) ∙ at)))
    is

-- ---- a row whose key is known

last_or_before : (xs : List Row) (y : Row) (i : ℕ) (x : Row) → slice_get (xs ++ y ∷ []) i ≡ Some x → (slice_get xs i ≡ Some x) ⊎ ((i ≡ length xs) × (x ≡ y))
last_or_before [] y zero x e = inr (refl, same y x e)
  where
    same : (y x : Row) → Some y ≡ Some x → x ≡ y
    same y x e = cc
last_or_before [] y (suc i) x e = absurd (none x e)
  where
    none : (x : Row) → None ≡ Some x → ⊥
    none x e = cc
last_or_before (z ∷ xs) y zero x e = inl e
last_or_before (z ∷ xs) y (suc i) x e = elim (last_or_before xs y i x e) [ inl h ↦ inl h | inr p ↦ inr (ap suc p.0, p.1) ]

kept_at : (xs ys : List Row) (i : ℕ) (x : Row) → slice_get xs i ≡ Some x → slice_get (xs ++ ys) i ≡ Some x
kept_at [] ys i x e = absurd (none x e)
  where
    none : (x : Row) → None ≡ Some x → ⊥
    none x e = cc
kept_at (z ∷ xs) ys zero x e = e
kept_at (z ∷ xs) ys (suc i) x e = kept_at xs ys i x e

at_end : (xs : List Row) (y : Row) → slice_get (xs ++ y ∷ []) (length xs) ≡ Some y
at_end [] y = refl
at_end (z ∷ xs) y = at_end xs y

some_place : (a b : ℕ) → Some a ≡ Some b → a ≡ b
some_place a b e = cc

pub added-fixed : (g0 g1 g2 : Net) (before after : Table) (key : List Bit) (number : ℕ) (row : Row) (value : List Bit) → IsTable g0 before → AreBits g0 key → length key ≡ 64 → IsKnownAs key number → get nat_eq before.index number ≡ None → IsNewRow g0 g1 key before.bits row → Constrains g1 g2 before.free row before.conditions after.conditions → after.bits ≡ before.bits → after.fixed ≡ before.fixed ++ row ∷ [] → Puts before.index after.index number (length before.fixed) → after.free ≡ before.free → value ≡ row.value → Asked g0 g2 before after key value
added-fixed g0 g1 g2 before after key number row value h stands wide known fresh r c bits more puts same_free is =
    added g0 g1 g2 before after key row value h stands wide r
    (constrains-apart g1 g2 before.fixed before.free row before.conditions after.conditions (apart-of before.index before.fixed number row h.fixed fresh row_known) c)
    bits
    (λ x m. elim (member_split x after.fixed after.free m) [
      | inl p ↦ elim (member_pushed x row before.fixed (subst (Member x) more p)) [ inl q ↦ inl (member_front x before.fixed before.free q) | inr e ↦ inr e ]
      | inr p ↦ inl (member_back x before.fixed before.free (subst (Member x) same_free p))
    ])
    (λ x m. elim (member_split x before.fixed before.free m) [
      | inl p ↦ member_front x after.fixed after.free (subst (Member x) (sym more) (member_front x before.fixed (row ∷ []) p))
      | inr p ↦ member_back x after.fixed after.free (subst (Member x) (sym same_free) p)
    ])
    (member_front row after.fixed after.free (subst (Member row) (sym more) (member_last row before.fixed)))
    (λ i x at. elim (last_or_before before.fixed row i x (sym (ap (λ t. slice_get t i) more) ∙ at)) [
      | inl k ↦
          let f = h.fixed i x k in
          let other : nat_eq number f.key ≡ false = different number f.key (λ e. no_place i (sym fresh ∙ ap (get nat_eq before.index) e ∙ f.found)) in
          record { key = f.key; known = f.known; found = puts f.key ∙ ap (λ b. cond b (Some (length before.fixed)) (get nat_eq before.index f.key)) other ∙ f.found }
      | inr p ↦ record { key = number; known = subst (λ t. IsKnownAs t.key number) (sym p.1) row_known; found = puts number ∙ ap (λ b. cond b (Some (length before.fixed)) (get nat_eq before.index number)) (eq-eqb number number refl) ∙ ap Some (sym p.0) }
    ])
    (λ k place at. subst (λ t. HasKnown t k place) (sym more) (met k place (nat_eq number k) refl at))
    is
  where
    row_known : IsKnownAs row.key number
    row_known = subst (λ w. IsKnownAs w number) (sym r.at) known

    no_place : (place : ℕ) → None ≡ Some place → ⊥
    no_place place e = cc

    different : (a b : ℕ) → (a ≡ b → ⊥) → nat_eq a b ≡ false
    different a b h = grind arith

    met : (k place : ℕ) (b : Bool) → nat_eq number k ≡ b → get nat_eq after.index k ≡ Some place → HasKnown (before.fixed ++ row ∷ []) k place
    met k place true e at =
        let here : length before.fixed ≡ place = some_place (length before.fixed) place (sym (ap (λ t. cond t (Some (length before.fixed)) (get nat_eq before.index k)) e) ∙ sym (puts k) ∙ at) in
        record { row = row; at = ap (slice_get (before.fixed ++ row ∷ [])) (sym here) ∙ at_end before.fixed row; known = subst (IsKnownAs row.key) (eqb-true number k e) row_known }
    met k place false e at =
        let old = h.found k place (sym (ap (λ t. cond t (Some (length before.fixed)) (get nat_eq before.index k)) e) ∙ sym (puts k) ∙ at) in
        record { row = old.row; at = kept_at before.fixed (row ∷ []) place old.row old.at; known = old.known }

-- ---- a key that is met

pub place-within : (xs : List Row) (i : ℕ) (x : Row) → slice_get xs i ≡ Some x → i < length xs
place-within [] i x e = absurd (none x e)
  where
    none : (x : Row) → None ≡ Some x → ⊥
    none x e = cc
place-within (y ∷ xs) zero x e = omega arith
place-within (y ∷ xs) (suc i) x e = omega (arith, place-within xs i x e)

pub met-place : (net : Net) (t : Table) (number place : ℕ) → IsTable net t → get nat_eq t.index number ≡ Some place → place < length t.fixed
met-place net t number place h at = let f = h.found number place at in place-within t.fixed place f.row f.at

pub asked-again : (net : Net) (t : Table) (key : List Bit) (number place : ℕ) (rows : List Row) (value at_place : List Bit) → IsTable net t → IsKnownAs key number → get nat_eq t.index number ≡ Some place → rows ≡ t.fixed → ((x : Row) → slice_get rows place ≡ Some x → at_place ≡ x.value) → value ≡ at_place → Asked net net t t key value
asked-again net t key number place rows value at_place h known at is_rows found is_value =
    let f = h.found number place at in
    let inside : Member f.row (rows_of t) = member_front f.row t.fixed t.free (member_at t.fixed place f.row f.at) in
    let is : value ≡ f.row.value = is_value ∙ found f.row (ap (λ r. slice_get r place) is_rows ∙ f.at) in
    let stands = h.rows f.row inside in
    record {
      grows = same-grows net;
      table = h;
      same_width = refl;
      kept = λ x m. m;
      width = ap length is ∙ stands.value_width;
      stands = subst (AreBits net) (sym is) stands.value_stands;
      is = λ v g m all.
          let k : spelled v key ≡ spelled v f.row.key = known.is v ∙ sym (f.known.is v) in
          ap (λ n. g n % 2 ^ t.bits) k ∙ (all f.row inside).is ∙ ap (spelled v) (sym is);
      extends = λ v g m all. record { extension = record { model = v; agrees = λ x l. refl; is = m }; follow = all };
    }
