-- A world that is set by rows.
use Rattle.std.proofs.Common.{◌≡◌, ◌<◌, ◌≤◌, ◌++◌, ◌∷◌, [], ℕ, ◌+◌, ◌*◌, ◌%◌, ◌^◌, List, true, sym, ap, subst, ◌∙◌, arith, length, take, take_all, get_or, inl, inr}
use Rattle.std.proofs.Math.Nat.{mod-eq_of_lt, pow-le-pow_right}
use Rattle.std.proofs.lemmas.Bool.{cases_eq}
use Rattle.std.proofs.lemmas.List.{take_more}
use Rattle.plain_data.specs.Worlds.{Sets, WorldTables, value_at}
use Rattle.cnf_core.specs.Truth.{Valuation, formula_holds}
use Rattle.gates.specs.declared.bit.Bit.{Bit}
use Rattle.gates.specs.Nets.{bit_holds}
use Rattle.word_gates.specs.Spelling.{number, spelled}
use Rattle.word_gates.proofs.WordLemmas.{spelled-so-far, taken-small}
use Rattle.signed_gates.proofs.NetLemmas.{in-width}
use Rattle.input_tables.specs.declared.row.Row.{Row}
use Rattle.input_tables.specs.declared.table.Table.{Table}
use Rattle.input_tables.specs.Rows.{AllFollow, AreAlike, Follows, Member}
use Rattle.input_tables.specs.Tables.{rows_of}
use Rattle.input_tables.proofs.RowLemmas.{member_back, member_front, member_last, member_pushed, member_split}
use Rattle.term_bank.specs.declared.sort.Node.{Node}
use Rattle.term_bank.specs.declared.shape.Shape.{Shape}
use Rattle.bitvectors.specs.declared.blasting.Blasted.{Blasted}
use Rattle.bitvectors.specs.Blasts.{AllAlike, HasWidth, HasWidths, IsAt, IsBlasted, SetsRows, Shows}

pub number-more : (v : Valuation) (word : List Bit) (i n more : ℕ) (at : Bit) → i < length word → at ≡ get_or word i at → n ≡ spelled v (take i word) → more ≡ 2 ^ i * number (bit_holds v at) → n + more ≡ spelled v (take (i + 1) word)
number-more v word i n more at h is e m = (λ j. e j + m j) ∙ sym (spelled-so-far v word i at h is)

pub number-small : (v : Valuation) (word : List Bit) (i n : ℕ) → i ≤ length word → length word ≤ 64 → n ≡ spelled v (take i word) → n < 2 ^ 64
number-small v word i n h w e =
    let small : n < 2 ^ i = subst (λ t. t < 2 ^ i) (sym e) (taken-small v word i h) in
    let most = pow-le-pow_right {n = 2} (omega arith) {i = i} {j = 64} (omega arith) in
    omega (arith, small, most)

pub number-whole : (v : Valuation) (word : List Bit) (i n : ℕ) → length word ≤ i → n ≡ spelled v (take i word) → n ≡ spelled v word
number-whole v word i n h e = e ∙ ap (spelled v) (take_all i word h)

pub byte-small : (v : Valuation) (row : Row) (n : ℕ) → HasWidths 8 row → n ≡ spelled v row.value → n < 2 ^ 8
byte-small v row n w e = subst (λ t. t < 2 ^ 8) (sym e) (in-width v row.value 8 w.value)

-- ---- rows

set-here : (v : Valuation) (old new : List (ℕ × ℕ)) (at : Row) → Sets old new (spelled v at.key) (spelled v at.value) → IsAt v new at
set-here v old new at s = record { is = s.here }

set-kept : (v : Valuation) (old new : List (ℕ × ℕ)) (at x : Row) → Sets old new (spelled v at.key) (spelled v at.value) → IsAt v old x → AreAlike v x at → IsAt v new x
set-kept v old new at x s h a =
    elim (cases_eq (spelled v x.key) (spelled v at.key)) [
      | inl e ↦ record { is = ap (value_at new) e ∙ s.here ∙ sym (a.same e) }
      | inr e ↦ record { is = s.others (spelled v x.key) e ∙ h.is }
    ]

pub rows-start : (v : Valuation) (table : List (ℕ × ℕ)) (rows : List Row) → SetsRows v table table (take 0 rows)
rows-start v table rows = record { set = λ alike x m. absurd m; kept = λ x h alike. h }

pub rows-more : (v : Valuation) (old now next : List (ℕ × ℕ)) (rows : List Row) (i : ℕ) (at : Row) → i < length rows → at ≡ get_or rows i at → SetsRows v old now (take i rows) → Sets now next (spelled v at.key) (spelled v at.value) → SetsRows v old next (take (i + 1) rows)
rows-more v old now next rows i at h e c s =
    let whole : take (i + 1) rows ≡ take i rows ++ at ∷ [] = take_more rows i at h ∙ ap (λ r. take i rows ++ r ∷ []) (sym e) in
    let front : (x : Row) → Member x (take i rows) → Member x (take (i + 1) rows) = λ x m. subst (Member x) (sym whole) (member_front x (take i rows) (at ∷ []) m) in
    let last : Member at (take (i + 1) rows) = subst (Member at) (sym whole) (member_last at (take i rows)) in
    record {
      set = λ alike x m. elim (member_pushed x at (take i rows) (subst (Member x) whole m)) [
        | inl k ↦ set-kept v now next at x s (c.set (λ y z p q. alike y z (front y p) (front z q)) x k) (alike x at (front x k) last)
        | inr k ↦ subst (IsAt v next) (sym k) (set-here v now next at s)
      ];
      kept = λ x k alike. set-kept v now next at x s (c.kept x k (λ y m. alike y (front y m))) (alike at last);
    }

pub rows-whole : (v : Valuation) (old new : List (ℕ × ℕ)) (rows : List Row) (i : ℕ) → length rows ≤ i → SetsRows v old new (take i rows) → SetsRows v old new rows
rows-whole v old new rows i h c = subst (SetsRows v old new) (take_all i rows h) c

-- ---- the world

pub fixed-widths : (n : ℕ) (t : Table) (rows : List Row) → HasWidth n t → rows ≡ t.fixed → (x : Row) → Member x rows → HasWidths n x
fixed-widths n t rows w e x m = w.rows x (member_front x t.fixed t.free (subst (Member x) e m))

pub free-widths : (n : ℕ) (t : Table) (rows : List Row) → HasWidth n t → rows ≡ t.free → (x : Row) → Member x rows → HasWidths n x
free-widths n t rows w e x m = w.rows x (member_back x t.fixed t.free (subst (Member x) e m))

all-at : (v : Valuation) (t0 t1 t2 : List (ℕ × ℕ)) (fixed free : List Row) → AllAlike v (fixed ++ free) → SetsRows v t0 t1 fixed → SetsRows v t1 t2 free → (x : Row) → Member x (fixed ++ free) → IsAt v t2 x
all-at v t0 t1 t2 fixed free alike a b x m =
    elim (member_split x fixed free m) [
      | inl k ↦ b.kept x (a.set (λ y z p q. alike y z (member_front y fixed free p) (member_front z fixed free q)) x k) (λ y n. alike x y m (member_back y fixed free n))
      | inr k ↦ b.set (λ y z p q. alike y z (member_back y fixed free p) (member_back z fixed free q)) x k
    ]

follows-at : (v : Valuation) (n : ℕ) (f : ℕ → ℕ) (table : List (ℕ × ℕ)) (x : Row) → ((k : ℕ) → f k ≡ value_at table k) → length x.value ≡ n → IsAt v table x → Follows v n f x
follows-at v n f table x same w h =
    let e : f (spelled v x.key) ≡ spelled v x.value = same (spelled v x.key) ∙ h.is in
    record { is = ap (λ t. t % 2 ^ n) e ∙ mod-eq_of_lt (in-width v x.value n w) }

pub decoded : (blasted : Blasted) (v : Valuation) (w0 w1 w2 b0 b1 b2 : List (ℕ × ℕ)) (r1 r2 r3 r4 : List Row) (world : WorldTables) → HasWidth 64 blasted.inputs.words → HasWidth 8 blasted.inputs.bytes → r1 ≡ blasted.inputs.words.fixed → r2 ≡ blasted.inputs.words.free → r3 ≡ blasted.inputs.bytes.fixed → r4 ≡ blasted.inputs.bytes.free → SetsRows v w0 w1 r1 → SetsRows v w1 w2 r2 → SetsRows v b0 b1 r3 → SetsRows v b1 b2 r4 → world.words ≡ w2 → world.bytes ≡ b2 → (shapes : List Shape) (roots : List Node) → IsBlasted shapes roots blasted → formula_holds v blasted.formula ≡ true → Shows shapes roots blasted v world
decoded blasted v w0 w1 w2 b0 b1 b2 r1 r2 r3 r4 world words bytes e1 e2 e3 e4 s1 s2 s3 s4 is_words is_bytes shapes roots b holds = record {
  are = λ env values of_world models.
      let of_words : AllFollow v blasted.inputs.words.bits env.words (rows_of blasted.inputs.words) = λ x m.
      follows-at v blasted.inputs.words.bits env.words w2 x (λ k. of_world.words k ∙ ap (λ t. value_at t k) is_words) ((words.rows x m).value ∙ sym words.bits)
      (all-at v w0 w1 w2 blasted.inputs.words.fixed blasted.inputs.words.free (b.words_alike v holds) (subst (SetsRows v w0 w1) e1 s1) (subst (SetsRows v w1 w2) e2 s2) x m) in
      let of_bytes : AllFollow v blasted.inputs.bytes.bits env.bytes (rows_of blasted.inputs.bytes) = λ x m.
      follows-at v blasted.inputs.bytes.bits env.bytes b2 x (λ k. of_world.bytes k ∙ ap (λ t. value_at t k) is_bytes) ((bytes.rows x m).value ∙ sym bytes.bits)
      (all-at v b0 b1 b2 blasted.inputs.bytes.fixed blasted.inputs.bytes.free (b.bytes_alike v holds) (subst (SetsRows v b0 b1) e3 s3) (subst (SetsRows v b1 b2) e4 s4) x m) in
      b.values v env values holds (record { words = of_words; bytes = of_bytes }) of_world.honest models;
}
