-- A world read line by line.
use Rattle.std.proofs.Common.{◌≡◌, ℕ, suc, ◌+◌, ◌<◌, ◌==◌, Bool, true, false, [], ◌∷◌, Some, None, Result, Ok, Err, length, take, drop, refl, sym, ap, subst, ◌∙◌, arith}
use Rattle.std.specs.Ordering.{nat_cmp}
use Rattle.std.specs.Map.{keys_of}
use Rattle.std.specs.List.Sorted.{IsStrictlySortedBy}
use Rattle.std.proofs.lemmas.Bool.Decides.{nat_tests}
use Rattle.plain_data.specs.Worlds.{WorldTables, value_at, has_no_zero}
use Rattle.cert_text.specs.WorldSteps.{Below, said_by, stage_after, with_said, end_read, line_stage, line_world, on_stage, read_from, reading, PutsSaid, TakesLine}
use Rattle.cert_text.specs.Lines.{Text, lines_of, line_len}
use Rattle.cert_text.specs.declared.fault.CertFault.TheVariants.{BadLine, Memory}
use Rattle.cert_text.specs.declared.fault.CertFault.{CertFault}
use Rattle.cert_text.specs.declared.saying.Said.{Said}
use Rattle.cert_text.specs.declared.saying.Said.TheVariants.{Head, Word, Byte, End}
use Rattle.cert_text.specs.declared.stage.Stage.{Stage}
use Rattle.cert_text.specs.declared.stage.Stage.TheVariants as stage
use Rattle.cert_text.proofs.LineLemmas.{lines-first}
use Rattle.cert_text.proofs.TableLemmas.{table-same, climbs-rises, climbs, set_behind, below_more, below_behind}
use Rattle.cert_text.proofs.WorldLaws.{from-place, from-address, read-range}

-- ---- worlds with the same entries

pub record SameEntries (a b : WorldTables) : Type 0 where
  pub words : (k : ℕ) → value_at a.words k ≡ value_at b.words k
  pub bytes : (k : ℕ) → value_at a.bytes k ≡ value_at b.bytes k

-- the entries that lines gave up to a stage
abbrev pub Given : Stage → WorldTables → Type 0
Given stage.Head t = Below 0 t.words × Below 0 t.bytes
Given (stage.Words least) t = Below least t.words × Below 0 t.bytes
Given (stage.Bytes least) t = Below least t.bytes
Given stage.Done t = Unit {0}

pub record Stands (next : Stage) (world t : WorldTables) : Type 0 where
  pub given : Given next t
  pub same : SameEntries world t

put_word : (old new t : WorldTables) (p v : ℕ) → PutsSaid old new (Word p v) → SameEntries old t → Below p t.words → SameEntries new (with_said t (Word p v))
put_word old new t p v puts same h = record {
  words = set_behind old.words new.words t.words p v puts.0 same.words h;
  bytes = λ k. ap (λ b. value_at b k) puts.1 ∙ same.bytes k;
}

put_byte : (old new t : WorldTables) (a v : ℕ) → PutsSaid old new (Byte a v) → SameEntries old t → Below a t.bytes → SameEntries new (with_said t (Byte a v))
put_byte old new t a v puts same h = record {
  words = λ k. ap (λ w. value_at w k) puts.0 ∙ same.words k;
  bytes = set_behind old.bytes new.bytes t.bytes a v puts.1 same.bytes h;
}

pub put_line : (s next : Stage) (said : Said) (old new t : WorldTables) → stage_after s said ≡ Some next → PutsSaid old new said → Stands s old t → Stands next new (with_said t said)
put_line stage.Head next Head old new t e puts h =
    let is : stage.Words 1 ≡ next = cc in
    record { given = subst (λ n. Given n t) is (below_more 0 1 t.words (omega arith) h.given.0, h.given.1); same = subst (λ w. SameEntries w t) (sym puts) h.same }
put_line stage.Head next (Word p v) old new t e puts h = absurd cc
put_line stage.Head next (Byte a v) old new t e puts h = absurd cc
put_line stage.Head next End old new t e puts h = absurd cc
put_line (stage.Words least) next Head old new t e puts h = absurd cc
put_line (stage.Words least) next (Word p v) old new t e puts h =
    let at = from-place least p next e in
    record {
      given = subst (λ n. Given n (with_said t (Word p v))) at.1 (below_behind least p v t.words at.0 h.given.0, h.given.1);
      same = put_word old new t p v puts h.same (below_more least p t.words at.0 h.given.0);
    }
put_line (stage.Words least) next (Byte a v) old new t e puts h =
    let at = from-address 0 a next e in
    record {
      given = subst (λ n. Given n (with_said t (Byte a v))) at.1 (below_behind 0 a v t.bytes at.0 h.given.1);
      same = put_byte old new t a v puts h.same (below_more 0 a t.bytes at.0 h.given.1);
    }
put_line (stage.Words least) next End old new t e puts h =
    let is : stage.Done ≡ next = cc in
    record { given = subst (λ n. Given n t) is tt; same = subst (λ w. SameEntries w t) (sym puts) h.same }
put_line (stage.Bytes least) next Head old new t e puts h = absurd cc
put_line (stage.Bytes least) next (Word p v) old new t e puts h = absurd cc
put_line (stage.Bytes least) next (Byte a v) old new t e puts h =
    let at = from-address least a next e in
    record {
      given = subst (λ n. Given n (with_said t (Byte a v))) at.1 (below_behind least a v t.bytes at.0 h.given);
      same = put_byte old new t a v puts h.same (below_more least a t.bytes at.0 h.given);
    }
put_line (stage.Bytes least) next End old new t e puts h =
    let is : stage.Done ≡ next = cc in
    record { given = subst (λ n. Given n t) is tt; same = subst (λ w. SameEntries w t) (sym puts) h.same }
put_line stage.Done next Head old new t e puts h = absurd cc
put_line stage.Done next (Word p v) old new t e puts h = absurd cc
put_line stage.Done next (Byte a v) old new t e puts h = absurd cc
put_line stage.Done next End old new t e puts h = absurd cc

-- ---- the loop over lines

-- what was read so far, with what is left, is what is read of all
pub record Reading (bytes : Text) (world : WorldTables) (s : Stage) (number : ℕ) (rest : Text) : Type 0 where
  pub tables : WorldTables
  pub stands : Stands s world tables
  pub what : read_from s number tables (lines_of rest) ≡ reading bytes

pub reading_start : (bytes : Text) (world : WorldTables) → world.words ≡ [] → world.bytes ≡ [] → Reading bytes world stage.Head 1 bytes
reading_start bytes world e f = record {
  tables = record { words = []; bytes = [] };
  stands = record { given = (tt, tt); same = record { words = λ k. ap (λ t. value_at t k) e; bytes = λ k. ap (λ t. value_at t k) f } };
  what = refl;
}

-- the lines of what is left, once the first is cut off
cut : (rest line more : Text) (n : ℕ) → n ≡ line_len rest → line ≡ take n rest → more ≡ drop n rest → 0 < length rest → lines_of rest ≡ line ∷ lines_of more
cut rest line more n en el em h =
    lines-first rest h ∙ ap (λ k. take k rest ∷ lines_of (drop k rest)) (sym en) ∙ ap (λ l. l ∷ lines_of (drop n rest)) (sym el) ∙ ap (λ m. line ∷ lines_of m) (sym em)

pub reading_more : (bytes : Text) (old new : WorldTables) (s next : Stage) (number number' : ℕ) (rest line more : Text) (n : ℕ) → number' ≡ number + 1 → n ≡ line_len rest → line ≡ take n rest → more ≡ drop n rest → 0 < length rest
    → TakesLine s line old new next → Reading bytes old s number rest → Reading bytes new next number' more
unfolding read_from
reading_more bytes old new s next number number' rest line more n e1 en el em h takes r =
    let step : read_from s number r.tables (line ∷ lines_of more) ≡ read_from next (suc number) (with_said r.tables takes.said) (lines_of more) =
    ap (λ o. on_stage (line_stage s o) number (λ t. read_from t (suc number) (line_world r.tables o) (lines_of more))) takes.is
    ∙ ap (λ o. on_stage o number (λ t. read_from t (suc number) (with_said r.tables takes.said) (lines_of more))) takes.goes in
    let count : number' ≡ suc number = omega (arith, e1) in
    record {
      tables = with_said r.tables takes.said;
      stands = put_line s next takes.said old new r.tables takes.goes takes.puts r.stands;
      what = ap (λ k. read_from next k (with_said r.tables takes.said) (lines_of more)) count ∙ sym step ∙ ap (read_from s number r.tables) (sym (cut rest line more n en el em h)) ∙ r.what;
    }

pub reading_bad : (bytes : Text) (old : WorldTables) (s : Stage) (number : ℕ) (rest line more : Text) (n : ℕ) → n ≡ line_len rest → line ≡ take n rest → more ≡ drop n rest → 0 < length rest
    → line_stage s (said_by line) ≡ None → Reading bytes old s number rest → reading bytes ≡ Err (BadLine number)
unfolding read_from
reading_bad bytes old s number rest line more n en el em h none r =
    sym r.what ∙ ap (read_from s number r.tables) (cut rest line more n en el em h)
    ∙ ap (λ o. on_stage o number (λ t. read_from t (suc number) (line_world r.tables (said_by line)) (lines_of more))) none

pub reading_end : (bytes : Text) (world : WorldTables) (s : Stage) (number : ℕ) (rest : Text) → rest ≡ [] → Reading bytes world s number rest → (tables : WorldTables) × Stands s world tables × (end_read s number tables ≡ reading bytes)
unfolding read_from
reading_end bytes world s number rest e r = (r.tables, r.stands, sym (ap (λ t. read_from s number r.tables (lines_of t)) e) ∙ r.what)

-- a world that was read whole
pub reading_world : (bytes : Text) (world : WorldTables) (number : ℕ) (rest : Text) → rest ≡ [] → Reading bytes world stage.Done number rest
    → IsStrictlySortedBy nat_cmp (keys_of world.words) → IsStrictlySortedBy nat_cmp (keys_of world.bytes) → has_no_zero world.words ≡ true → has_no_zero world.bytes ≡ true
    → Ok world ≡ reading bytes
reading_world bytes world number rest e r sw sb zw zb =
    let end = reading_end bytes world stage.Done number rest e r in
    let in_range = (read-range bytes end.0 (sym end.2)).0 in
    let words : world.words ≡ end.0.words = table-same 0 1 world.words end.0.words (climbs world.words sw zw) (climbs-rises 1 4294967295 18446744073709551615 end.0.words in_range.words) end.1.same.words in
    let bytes' : world.bytes ≡ end.0.bytes = table-same 0 0 world.bytes end.0.bytes (climbs world.bytes sb zb) (climbs-rises 0 18446744073709551615 255 end.0.bytes in_range.bytes) end.1.same.bytes in
    ap Ok (ap (λ t. record { words = t; bytes = world.bytes }) words ∙ ap (λ t. record { words = end.0.words; bytes = t }) bytes') ∙ end.2

pub reading_short : (bytes : Text) (world : WorldTables) (s : Stage) (number : ℕ) (rest : Text) → rest ≡ [] → Reading bytes world s number rest → (s ≡ stage.Done → ⊥) → Err (BadLine number) ≡ reading bytes
reading_short bytes world s number rest e r not_done = by s (reading_end bytes world s number rest e r).2 not_done
  where
    tables : WorldTables
    tables = (reading_end bytes world s number rest e r).0

    by : (s : Stage) → end_read s number tables ≡ reading bytes → (s ≡ stage.Done → ⊥) → Err (BadLine number) ≡ reading bytes
    by stage.Head e ne = e
    by (stage.Words least) e ne = e
    by (stage.Bytes least) e ne = e
    by stage.Done e ne = absurd (ne refl)

-- ---- tests of lengths

never_empty : (n : ℕ) → (suc n == 0) ≡ false
never_empty n = grind (arith, nat_tests)

pub is_none : (t : Bool) (rest : Text) → t ≡ true → t ≡ (length rest == 0) → rest ≡ []
is_none t [] h e = refl
is_none t (b ∷ rest) h e = absurd (let p : true ≡ false = sym h ∙ e ∙ never_empty (length rest) in cc)

pub is_some : (t : Bool) (rest : Text) → t ≡ false → t ≡ (length rest == 0) → 0 < length rest
is_some t [] h e = absurd (let p : false ≡ true = sym h ∙ e in cc)
is_some t (b ∷ rest) h e = omega arith

-- a line that was refused
pub reading_err : (bytes : Text) (number : ℕ) (r : Result WorldTables CertFault) (fault given : CertFault) → r ≡ Err fault → fault ≡ given → ((given ≡ Memory → ⊥) → given ≡ BadLine number)
    → ((given ≡ Memory → ⊥) → reading bytes ≡ Err (BadLine number)) → (r ≡ Err Memory → ⊥) → r ≡ reading bytes
reading_err bytes number r fault given er ef bad is m =
    let ne : given ≡ Memory → ⊥ = λ g. m (er ∙ ap Err (ef ∙ g)) in
    er ∙ ap Err (ef ∙ bad ne) ∙ sym (is ne)
