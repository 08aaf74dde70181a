-- What lines make of a world, without the code's steps.
use Rattle.std.proofs.Common.{◌≡◌, ◌≢◌, ℕ, suc, ◌+◌, ◌<◌, ◌≤◌, ◌⊎◌, inl, inr, Bool, true, false, cond, nat_le, List, [], ◌∷◌, ◌++◌, length, take, drop, append_assoc, append-nil, Option, Some, None, Result, Ok, Err, refl, sym, ap, subst, ◌∙◌, arith}
use Rattle.std.specs.Prelude.{map, codes}
use Rattle.std.specs.List.{filter, concat}
use Rattle.std.proofs.lemmas.List.{append_cancel_left, append_cancel_right, take-append-drop}
use Rattle.std.proofs.lemmas.Bool.Decides.{nat_tests}
use Rattle.plain_data.specs.Worlds.{Table, WorldTables}
use Rattle.cert_text.specs.Lines.{Text, lines_of}
use Rattle.cert_text.specs.WorldTexts.{head_line, end_line, word_line, byte_line, has_line, world_lines, world_text, Rises, InRange, Begins, AreWhole, IsFirstBad, IsOtherVersion, NamesOtherVersion, ReadsWorld}
use Rattle.cert_text.specs.WorldSteps.{said_by, from_place, from_address, stage_after, with_said, end_read, line_stage, line_world, on_stage, read_from, reading}
use Rattle.cert_text.specs.declared.fault.CertFault.{CertFault}
use Rattle.cert_text.specs.declared.fault.CertFault.TheVariants.{BadLine, WrongVersion, Memory}
use Rattle.cert_text.specs.declared.saying.Said.{Said}
use Rattle.cert_text.specs.declared.saying.Said.TheVariants.{Head, Word, Byte, End}
use Rattle.cert_text.specs.declared.stage.Stage.{Stage}
use Rattle.cert_text.specs.declared.stage.Stage.TheVariants as stage
use Rattle.cert_text.proofs.LineLemmas.{IsLine, AreLines, concat-lines, lines-concat, are_lines-append}
use Rattle.cert_text.proofs.EntryLemmas.{entry-line}
use Rattle.cert_text.proofs.SaidLemmas.{said_line, InSaid, said_back, said_forth}

-- ---- the lines that are left behind a stage, of the entries that are left

abbrev pub left_lines : Stage → WorldTables → List Text
left_lines stage.Head w = head_line ∷ (map word_line w.words ++ (map byte_line w.bytes ++ end_line ∷ []))
left_lines (stage.Words least) w = map word_line w.words ++ (map byte_line w.bytes ++ end_line ∷ [])
left_lines (stage.Bytes least) w = map byte_line w.bytes ++ end_line ∷ []
left_lines stage.Done w = []

abbrev Places : ℕ → Table → Type 0
Places least table = Rises least 4294967295 18446744073709551615 table

abbrev Addresses : ℕ → Table → Type 0
Addresses least table = Rises least 18446744073709551615 255 table

abbrev pub CanBeLeft : Stage → WorldTables → Type 0
CanBeLeft stage.Head w = Places 1 w.words × Addresses 0 w.bytes
CanBeLeft (stage.Words least) w = (1 ≤ least) × Places least w.words × Addresses 0 w.bytes
CanBeLeft (stage.Bytes least) w = (w.words ≡ []) × Addresses least w.bytes
CanBeLeft stage.Done w = (w.words ≡ []) × (w.bytes ≡ [])

-- a stage that is reached
abbrev pub IsStage : Stage → Type 0
IsStage (stage.Words least) = 1 ≤ least
IsStage _ = Unit {0}

abbrev no_entries : WorldTables
no_entries = record { words = []; bytes = [] }

none_left : (s : Stage) → IsStage s → CanBeLeft s no_entries
none_left stage.Head h = (tt, tt)
none_left (stage.Words least) h = (h, tt, tt)
none_left (stage.Bytes least) h = (refl, tt)
none_left stage.Done h = (refl, refl)

-- an entry in front of those that are left
abbrev before : Said → WorldTables → WorldTables
before (Word p v) w = record w { words = (p, v) ∷ w.words }
before (Byte a v) w = record w { bytes = (a, v) ∷ w.bytes }
before _ w = w

-- ---- a step forward

record Follows (s next : Stage) (said : Said) (w : WorldTables) : Type 0 where
  can : CanBeLeft s (before said w)
  lines : left_lines s (before said w) ≡ said_line said ∷ left_lines next w

pub from-place : (least p : ℕ) (next : Stage) → from_place least p ≡ Some next → (least ≤ p) × (stage.Words (suc p) ≡ next)
from-place least p next e = by (nat_le least p) refl e
  where
    by : (t : Bool) → nat_le least p ≡ t → cond t (Some (stage.Words (suc p))) None ≡ Some next → (least ≤ p) × (stage.Words (suc p) ≡ next)
    by true t e = (grind (arith, nat_tests), cc)
    by false t e = absurd cc

pub from-address : (least p : ℕ) (next : Stage) → from_address least p ≡ Some next → (least ≤ p) × (stage.Bytes (suc p) ≡ next)
from-address least p next e = by (nat_le least p) refl e
  where
    by : (t : Bool) → nat_le least p ≡ t → cond t (Some (stage.Bytes (suc p))) None ≡ Some next → (least ≤ p) × (stage.Bytes (suc p) ≡ next)
    by true t e = (grind (arith, nat_tests), cc)
    by false t e = absurd cc

place-from : (least p : ℕ) → least ≤ p → from_place least p ≡ Some (stage.Words (suc p))
place-from least p h = let t : nat_le least p ≡ true = grind (arith, nat_tests) in rw t refl

address-from : (least p : ℕ) → least ≤ p → from_address least p ≡ Some (stage.Bytes (suc p))
address-from least p h = let t : nat_le least p ≡ true = grind (arith, nat_tests) in rw t refl

rises_none : (least most top : ℕ) (table : Table) → table ≡ [] → Rises least most top table
rises_none least most top table e = subst (λ t. Rises least most top t) (sym e) tt

step_forth : (s next : Stage) (said : Said) → IsStage s → InSaid said → stage_after s said ≡ Some next → (w : WorldTables) → CanBeLeft next w → Follows s next said w
step_forth stage.Head next Head i said e w h =
    let is : stage.Words 1 ≡ next = cc in
    let left : CanBeLeft (stage.Words 1) w = subst (λ n. CanBeLeft n w) (sym is) h in
    record { can = (left.1, left.2); lines = ap (λ n. head_line ∷ left_lines n w) is }
step_forth stage.Head next (Word p v) i said e w h = absurd cc
step_forth stage.Head next (Byte a v) i said e w h = absurd cc
step_forth stage.Head next End i said e w h = absurd cc
step_forth (stage.Words least) next Head i said e w h = absurd cc
step_forth (stage.Words least) next (Word p v) i said e w h =
    let at = from-place least p next e in
    let left : CanBeLeft (stage.Words (suc p)) w = subst (λ n. CanBeLeft n w) (sym at.1) h in
    record { can = (i, (at.0, said.1, said.2, said.3, left.1), left.2); lines = ap (λ n. word_line (p, v) ∷ left_lines n w) at.1 }
step_forth (stage.Words least) next (Byte a v) i said e w h =
    let at = from-address 0 a next e in
    let left : CanBeLeft (stage.Bytes (suc a)) w = subst (λ n. CanBeLeft n w) (sym at.1) h in
    record {
      can = (i, rises_none least 4294967295 18446744073709551615 w.words left.0, (at.0, said.0, said.1, said.2, left.1));
      lines = ap (λ t. map word_line t ++ (byte_line (a, v) ∷ (map byte_line w.bytes ++ end_line ∷ []))) left.0 ∙ ap (λ n. byte_line (a, v) ∷ left_lines n w) at.1;
    }
step_forth (stage.Words least) next End i said e w h =
    let is : stage.Done ≡ next = cc in
    let left : CanBeLeft stage.Done w = subst (λ n. CanBeLeft n w) (sym is) h in
    record {
      can = (i, rises_none least 4294967295 18446744073709551615 w.words left.0, rises_none 0 18446744073709551615 255 w.bytes left.1);
      lines = ap (λ t. map word_line t ++ (map byte_line w.bytes ++ end_line ∷ [])) left.0 ∙ ap (λ t. map byte_line t ++ end_line ∷ []) left.1 ∙ ap (λ n. end_line ∷ left_lines n w) is;
    }
step_forth (stage.Bytes least) next Head i said e w h = absurd cc
step_forth (stage.Bytes least) next (Word p v) i said e w h = absurd cc
step_forth (stage.Bytes least) next (Byte a v) i said e w h =
    let at = from-address least a next e in
    let left : CanBeLeft (stage.Bytes (suc a)) w = subst (λ n. CanBeLeft n w) (sym at.1) h in
    record { can = (left.0, (at.0, said.0, said.1, said.2, left.1)); lines = ap (λ n. byte_line (a, v) ∷ left_lines n w) at.1 }
step_forth (stage.Bytes least) next End i said e w h =
    let is : stage.Done ≡ next = cc in
    let left : CanBeLeft stage.Done w = subst (λ n. CanBeLeft n w) (sym is) h in
    record {
      can = (left.0, rises_none least 18446744073709551615 255 w.bytes left.1);
      lines = ap (λ t. map byte_line t ++ end_line ∷ []) left.1 ∙ ap (λ n. end_line ∷ left_lines n w) is;
    }
step_forth stage.Done next Head i said e w h = absurd cc
step_forth stage.Done next (Word p v) i said e w h = absurd cc
step_forth stage.Done next (Byte a v) i said e w h = absurd cc
step_forth stage.Done next End i said e w h = absurd cc

-- ---- a step back

record Back (s : Stage) (w : WorldTables) (line : Text) (rest : List Text) : Type 0 where
  said : Said
  next : Stage
  left : WorldTables
  in_said : InSaid said
  says : line ≡ said_line said
  goes : stage_after s said ≡ Some next
  can : CanBeLeft next left
  same : w ≡ before said left
  rest_is : rest ≡ left_lines next left

heads : (a b : Text) (x y : List Text) → a ∷ x ≡ b ∷ y → (b ≡ a) × (y ≡ x)
heads a b x y e = (cc, cc)

abbrev tables : Table → Table → WorldTables
tables words bytes = record { words = words; bytes = bytes }

step_back : (s : Stage) (words bytes : Table) (line : Text) (rest : List Text) → CanBeLeft s (tables words bytes) → left_lines s (tables words bytes) ≡ line ∷ rest → Back s (tables words bytes) line rest
step_back stage.Head words bytes line rest h e =
    let is = heads head_line line (map word_line words ++ (map byte_line bytes ++ end_line ∷ [])) rest e in
    record { said = Head; next = stage.Words 1; left = tables words bytes; in_said = tt; says = is.0; goes = refl; can = (omega arith, h.0, h.1); same = refl; rest_is = is.1 }
step_back (stage.Words least) (w ∷ words) bytes line rest h e =
    let is = heads (word_line w) line (map word_line words ++ (map byte_line bytes ++ end_line ∷ [])) rest e in
    let r = h.1 in
    record {
      said = Word w.0 w.1;
      next = stage.Words (suc w.0);
      left = tables words bytes;
      in_said = (omega (arith, h.0, r.0), r.1, r.2, r.3);
      says = is.0;
      goes = place-from least w.0 r.0;
      can = (omega arith, r.4, h.2);
      same = refl;
      rest_is = is.1;
    }
step_back (stage.Words least) [] (b ∷ bytes) line rest h e =
    let is = heads (byte_line b) line (map byte_line bytes ++ end_line ∷ []) rest e in
    let r = h.2 in
    record {
      said = Byte b.0 b.1;
      next = stage.Bytes (suc b.0);
      left = tables [] bytes;
      in_said = (r.1, r.2, r.3);
      says = is.0;
      goes = address-from 0 b.0 (omega arith);
      can = (refl, r.4);
      same = refl;
      rest_is = is.1;
    }
step_back (stage.Words least) [] [] line rest h e =
    let is = heads end_line line [] rest e in
    record { said = End; next = stage.Done; left = tables [] []; in_said = tt; says = is.0; goes = refl; can = (refl, refl); same = refl; rest_is = is.1 }
step_back (stage.Bytes least) words (b ∷ bytes) line rest h e =
    let is = heads (byte_line b) line (map byte_line bytes ++ end_line ∷ []) rest e in
    let r = h.1 in
    record {
      said = Byte b.0 b.1;
      next = stage.Bytes (suc b.0);
      left = tables words bytes;
      in_said = (r.1, r.2, r.3);
      says = is.0;
      goes = address-from least b.0 r.0;
      can = (h.0, r.4);
      same = refl;
      rest_is = is.1;
    }
step_back (stage.Bytes least) words [] line rest h e =
    let is = heads end_line line [] rest e in
    record { said = End; next = stage.Done; left = tables words []; in_said = tt; says = is.0; goes = refl; can = (h.0, refl); same = refl; rest_is = is.1 }
step_back stage.Done words bytes line rest h e = absurd cc

-- the stage behind a line is one that is reached
stage_behind : (s next : Stage) (said : Said) → stage_after s said ≡ Some next → InSaid said → IsStage next
stage_behind stage.Head next Head e h = let is : stage.Words 1 ≡ next = cc in subst IsStage is (omega arith)
stage_behind stage.Head next (Word p v) e h = absurd cc
stage_behind stage.Head next (Byte a v) e h = absurd cc
stage_behind stage.Head next End e h = absurd cc
stage_behind (stage.Words least) next Head e h = absurd cc
stage_behind (stage.Words least) next (Word p v) e h = subst IsStage (from-place least p next e).1 (omega arith)
stage_behind (stage.Words least) next (Byte a v) e h = subst IsStage (from-address 0 a next e).1 tt
stage_behind (stage.Words least) next End e h = let is : stage.Done ≡ next = cc in subst IsStage is tt
stage_behind (stage.Bytes least) next Head e h = absurd cc
stage_behind (stage.Bytes least) next (Word p v) e h = absurd cc
stage_behind (stage.Bytes least) next (Byte a v) e h = subst IsStage (from-address least a next e).1 tt
stage_behind (stage.Bytes least) next End e h = let is : stage.Done ≡ next = cc in subst IsStage is tt
stage_behind stage.Done next Head e h = absurd cc
stage_behind stage.Done next (Word p v) e h = absurd cc
stage_behind stage.Done next (Byte a v) e h = absurd cc
stage_behind stage.Done next End e h = absurd cc

-- ---- lines from a stage on

pub record BeginsFrom (s : Stage) (lines : List Text) : Type 0 where
  pub left : WorldTables
  pub can : CanBeLeft s left
  pub rest : List Text
  pub same : left_lines s left ≡ lines ++ rest

pub record WholeFrom (s : Stage) (lines : List Text) : Type 0 where
  pub left : WorldTables
  pub can : CanBeLeft s left
  pub same : left_lines s left ≡ lines

pub record BadAt (s : Stage) (k : ℕ) (lines : List Text) : Type 0 where
  pub begins : BeginsFrom s (take k lines)
  pub here : ((k < length lines) × (BeginsFrom s (take (suc k) lines) → ⊥)) ⊎ ((k ≡ length lines) × (WholeFrom s lines → ⊥))

abbrev pub behind : WorldTables → WorldTables → WorldTables
behind w left = record { words = w.words ++ left.words; bytes = w.bytes ++ left.bytes }

pub record IsRead (s : Stage) (w : WorldTables) (lines : List Text) (world : WorldTables) : Type 0 where
  pub whole : WholeFrom s lines
  pub same : world ≡ behind w whole.left

pub record IsBad (s : Stage) (number : ℕ) (lines : List Text) (line : ℕ) : Type 0 where
  pub k : ℕ
  pub same : line ≡ number + k
  pub bad : BadAt s k lines

abbrev pub Explained : Stage → ℕ → WorldTables → List Text → Result WorldTables CertFault → Type 0
Explained s number w lines (Ok world) = IsRead s w lines world
Explained s number w lines (Err (BadLine line)) = IsBad s number lines line
Explained s number w lines (Err WrongVersion) = ⊥
Explained s number w lines (Err Memory) = ⊥

some_said : (a b : Said) → Some a ≡ Some b → a ≡ b
some_said a b e = cc

some_same : (a b : Stage) → Some a ≡ Some b → a ≡ b
some_same a b e = cc

-- the one thing that a line says at a stage where lines begin with it
back_is : (s : Stage) (line : Text) (said : Said) (next : Stage) (w : WorldTables) (rest : List Text) → said_by line ≡ Some said → stage_after s said ≡ Some next
    → (b : Back s w line rest) → (b.said ≡ said) × (b.next ≡ next)
back_is s line said next w rest es en b =
    let other : said_by line ≡ Some b.said = ap said_by b.says ∙ said_forth b.said b.in_said in
    let same : b.said ≡ said = some_said b.said said (sym other ∙ es) in
    let goes : stage_after s b.said ≡ Some next = ap (stage_after s) same ∙ en in
    (same, some_same b.next next (sym b.goes ∙ goes))

begins_behind : (s : Stage) (line : Text) (said : Said) (next : Stage) (lines : List Text) → said_by line ≡ Some said → stage_after s said ≡ Some next
    → BeginsFrom s (line ∷ lines) → BeginsFrom next lines
begins_behind s line said next lines es en h =
    let b = step_back s h.left.words h.left.bytes line (lines ++ h.rest) h.can h.same in
    let is = back_is s line said next h.left (lines ++ h.rest) es en b in
    record {
      left = b.left;
      can = subst (λ n. CanBeLeft n b.left) is.1 b.can;
      rest = h.rest;
      same = ap (λ n. left_lines n b.left) (sym is.1) ∙ sym b.rest_is;
    }

whole_behind : (s : Stage) (line : Text) (said : Said) (next : Stage) (lines : List Text) → said_by line ≡ Some said → stage_after s said ≡ Some next
    → WholeFrom s (line ∷ lines) → WholeFrom next lines
whole_behind s line said next lines es en h =
    let b = step_back s h.left.words h.left.bytes line lines h.can h.same in
    let is = back_is s line said next h.left lines es en b in
    record {
      left = b.left;
      can = subst (λ n. CanBeLeft n b.left) is.1 b.can;
      same = ap (λ n. left_lines n b.left) (sym is.1) ∙ sym b.rest_is;
    }

begins_before : (s : Stage) (line : Text) (said : Said) (next : Stage) (lines : List Text) → IsStage s → said_by line ≡ Some said → stage_after s said ≡ Some next
    → BeginsFrom next lines → BeginsFrom s (line ∷ lines)
begins_before s line said next lines i es en h =
    let back = said_back line said es in
    let f = step_forth s next said i back.1 en h.left h.can in
    record {
      left = before said h.left;
      can = f.can;
      rest = h.rest;
      same = f.lines ∙ ap (λ l. l ∷ left_lines next h.left) (sym back.0) ∙ ap (λ r. line ∷ r) h.same;
    }

whole_before : (s : Stage) (line : Text) (said : Said) (next : Stage) (lines : List Text) → IsStage s → said_by line ≡ Some said → stage_after s said ≡ Some next
    → WholeFrom next lines → WholeFrom s (line ∷ lines)
whole_before s line said next lines i es en h =
    let back = said_back line said es in
    let f = step_forth s next said i back.1 en h.left h.can in
    record {
      left = before said h.left;
      can = f.can;
      same = f.lines ∙ ap (λ l. l ∷ left_lines next h.left) (sym back.0) ∙ ap (λ r. line ∷ r) h.same;
    }

behind-before : (w : WorldTables) (said : Said) (left : WorldTables) → behind (with_said w said) left ≡ behind w (before said left)
behind-before w Head left = refl
behind-before w (Word p v) left = ap (λ t. tables t (w.bytes ++ left.bytes)) (append_assoc w.words ((p, v) ∷ []) left.words)
behind-before w (Byte a v) left = ap (λ t. tables (w.words ++ left.words) t) (append_assoc w.bytes ((a, v) ∷ []) left.bytes)
behind-before w End left = refl

-- what is read behind a line is read with it
carry_bad : (s : Stage) (number : ℕ) (line : Text) (said : Said) (next : Stage) (lines : List Text) (l : ℕ) → IsStage s → said_by line ≡ Some said → stage_after s said ≡ Some next
    → IsBad next (suc number) lines l → IsBad s number (line ∷ lines) l
carry_bad s number line said next lines l i es en h = record {
  k = suc h.k;
  same = omega (arith, h.same);
  bad = record { begins = begins_before s line said next (take h.k lines) i es en h.bad.begins; here = by h.bad.here };
}
  where
    by : ((h.k < length lines) × (BeginsFrom next (take (suc h.k) lines) → ⊥)) ⊎ ((h.k ≡ length lines) × (WholeFrom next lines → ⊥))
        → ((suc h.k < suc (length lines)) × (BeginsFrom s (line ∷ take (suc h.k) lines) → ⊥)) ⊎ ((suc h.k ≡ suc (length lines)) × (WholeFrom s (line ∷ lines) → ⊥))
    by (inl p) = inl (omega (arith, p.0), λ b. p.1 (begins_behind s line said next (take (suc h.k) lines) es en b))
    by (inr p) = inr (ap suc p.0, λ b. p.1 (whole_behind s line said next lines es en b))

carry : (s : Stage) (number : ℕ) (w : WorldTables) (line : Text) (said : Said) (next : Stage) (lines : List Text) → IsStage s → said_by line ≡ Some said → stage_after s said ≡ Some next
    → (r : Result WorldTables CertFault) → Explained next (suc number) (with_said w said) lines r → Explained s number w (line ∷ lines) r
unfolding whole_before
carry s number w line said next lines i es en (Ok world) h = record {
  whole = whole_before s line said next lines i es en h.whole;
  same = h.same ∙ behind-before w said h.whole.left;
}
carry s number w line said next lines i es en (Err (BadLine l)) h = carry_bad s number line said next lines l i es en h
carry s number w line said next lines i es en (Err WrongVersion) h = absurd h
carry s number w line said next lines i es en (Err Memory) h = absurd h

-- a line that has no place
begins_none : (s : Stage) → IsStage s → BeginsFrom s []
begins_none s i = record { left = no_entries; can = none_left s i; rest = left_lines s no_entries; same = refl }

bad_here : (s : Stage) (number : ℕ) (line : Text) (lines : List Text) → IsStage s → (BeginsFrom s (line ∷ []) → ⊥) → IsBad s number (line ∷ lines) number
bad_here s number line lines i never_so = record {
  k = 0;
  same = omega arith;
  bad = record { begins = begins_none s i; here = inl (omega arith, never_so) };
}

bad_end : (s : Stage) (number : ℕ) → IsStage s → (WholeFrom s [] → ⊥) → IsBad s number [] number
bad_end s number i never_so = record {
  k = 0;
  same = omega arith;
  bad = record { begins = begins_none s i; here = inr (refl, never_so) };
}

never : (xs ys : List Text) (l : Text) → xs ++ (ys ++ l ∷ []) ≡ [] → ⊥
never [] [] l e = cc
never [] (y ∷ ys) l e = cc
never (x ∷ xs) ys l e = cc

never_one : (ys : List Text) (l : Text) → ys ++ l ∷ [] ≡ [] → ⊥
never_one [] l e = cc
never_one (y ∷ ys) l e = cc

not_begun : (s : Stage) (line : Text) → ((said : Said) (next : Stage) → said_by line ≡ Some said → stage_after s said ≡ Some next → ⊥) → BeginsFrom s (line ∷ []) → ⊥
not_begun s line never_so h =
    let b = step_back s h.left.words h.left.bytes line h.rest h.can h.same in
    never_so b.said b.next (ap said_by b.says ∙ said_forth b.said b.in_said) b.goes

none_some : {A : Type 0} (a : A) → None ≡ Some a → ⊥
none_some a e = cc

abbrev After : List Text → ℕ → Type 0
After lines number = (next : Stage) → IsStage next → (w : WorldTables) → Explained next number w lines (read_from next number w lines)

explain_on : (s : Stage) (number : ℕ) (w : WorldTables) (line : Text) (lines : List Text) (said : Said) → IsStage s → said_by line ≡ Some said → After lines (suc number)
    → (t : Option Stage) → stage_after s said ≡ t → Explained s number w (line ∷ lines) (on_stage t number (λ next. read_from next (suc number) (with_said w said) lines))
explain_on s number w line lines said i e ih None en =
    bad_here s number line lines i (not_begun s line (λ other next es go. none_some next (sym en ∙ ap (stage_after s) (some_said said other (sym e ∙ es)) ∙ go)))
explain_on s number w line lines said i e ih (Some next) en =
    carry s number w line said next lines i e en (read_from next (suc number) (with_said w said) lines) (ih next (stage_behind s next said en (said_back line said e).1) (with_said w said))

explain_by : (s : Stage) (number : ℕ) (w : WorldTables) (line : Text) (lines : List Text) → IsStage s → After lines (suc number)
    → (o : Option Said) → said_by line ≡ o → Explained s number w (line ∷ lines) (on_stage (line_stage s o) number (λ next. read_from next (suc number) (line_world w o) lines))
explain_by s number w line lines i ih None e = bad_here s number line lines i (not_begun s line (λ said next es en. none_some said (sym e ∙ es)))
explain_by s number w line lines i ih (Some said) e = explain_on s number w line lines said i e ih (stage_after s said) refl

explain_end : (s : Stage) (number : ℕ) (w : WorldTables) → IsStage s → Explained s number w [] (end_read s number w)
explain_end stage.Head number w i = bad_end stage.Head number i (λ h. let e = h.same in cc)
explain_end (stage.Words least) number w i = bad_end (stage.Words least) number i (λ h. never (map word_line h.left.words) (map byte_line h.left.bytes) end_line h.same)
explain_end (stage.Bytes least) number w i = bad_end (stage.Bytes least) number i (λ h. never_one (map byte_line h.left.bytes) end_line h.same)
explain_end stage.Done number w i = record {
  whole = record { left = no_entries; can = (refl, refl); same = refl };
  same = sym (ap (λ t. tables t (w.bytes ++ [])) (append-nil w.words) ∙ ap (λ t. tables w.words t) (append-nil w.bytes));
}

pub explain : (lines : List Text) (s : Stage) (number : ℕ) (w : WorldTables) → IsStage s → Explained s number w lines (read_from s number w lines)
unfolding read_from
explain [] s number w i = explain_end s number w i
explain (line ∷ lines) s number w i = explain_by s number w line lines i (λ next j w'. explain lines next (suc number) w' j) (said_by line) refl

-- ---- one world at most has these lines

said_same : (line : Text) (a b : Said) → line ≡ said_line a → line ≡ said_line b → InSaid a → InSaid b → a ≡ b
said_same line a b ea eb ha hb = some_said a b (sym (said_forth a ha) ∙ ap said_by (sym ea ∙ eb) ∙ said_forth b hb)

none_same : (w : WorldTables) → w.words ≡ [] → w.bytes ≡ [] → w ≡ no_entries
none_same w e f = ap (λ t. tables t w.bytes) e ∙ ap (λ t. tables [] t) f

pub left-same : (lines : List Text) (s : Stage) (a b : WorldTables) → CanBeLeft s a → CanBeLeft s b → left_lines s a ≡ lines → left_lines s b ≡ lines → a ≡ b
left-same [] stage.Head a b ha hb ea eb = absurd cc
left-same [] (stage.Words least) a b ha hb ea eb = absurd (never (map word_line a.words) (map byte_line a.bytes) end_line ea)
left-same [] (stage.Bytes least) a b ha hb ea eb = absurd (never_one (map byte_line a.bytes) end_line ea)
left-same [] stage.Done a b ha hb ea eb = none_same a ha.0 ha.1 ∙ sym (none_same b hb.0 hb.1)
left-same (line ∷ rest) s a b ha hb ea eb =
    let ba = step_back s a.words a.bytes line rest ha ea in
    let bb = step_back s b.words b.bytes line rest hb eb in
    let said = said_same line ba.said bb.said ba.says bb.says ba.in_said bb.in_said in
    let next : bb.next ≡ ba.next = some_same bb.next ba.next (sym bb.goes ∙ ap (stage_after s) (sym said) ∙ ba.goes) in
    let left = left-same rest ba.next ba.left bb.left ba.can (subst (λ n. CanBeLeft n bb.left) next bb.can) (sym ba.rest_is) (ap (λ n. left_lines n bb.left) (sym next) ∙ sym bb.rest_is) in
    ba.same ∙ ap (λ t. before t ba.left) said ∙ ap (before bb.said) left ∙ sym bb.same

-- ---- whole worlds

places-filter : (least : ℕ) (table : Table) → 1 ≤ least → Places least table → filter has_line table ≡ table
places-filter least [] h p = refl
places-filter least (e ∷ table) h p =
    let low : nat_le 1 e.0 ≡ true = let l = p.0 in grind (arith, nat_tests) in
    let high : nat_le e.0 4294967295 ≡ true = let l = p.1 in grind (arith, nat_tests) in
    let is : has_line e ≡ true = rw (low, high) refl in
    ap (λ t. cond t (e ∷ filter has_line table) (filter has_line table)) is ∙ ap (λ r. e ∷ r) (places-filter (suc e.0) table (omega arith) p.4)

pub world-left : (w : WorldTables) → InRange w → world_lines w ≡ left_lines stage.Head w
world-left w h = ap (λ t. head_line ∷ (map word_line t ++ (map byte_line w.bytes ++ end_line ∷ []))) (places-filter 1 w.words (omega arith) h.words)

words-lines : (least : ℕ) (table : Table) → Places least table → AreLines (map word_line table)
words-lines least [] h = tt
words-lines least (e ∷ table) h = (entry-line 119 e.0 e.1 refl (let l = h.1 in omega arith) (let l = h.3 in omega arith), words-lines (suc e.0) table h.4)

bytes-lines : (least : ℕ) (table : Table) → Addresses least table → AreLines (map byte_line table)
bytes-lines least [] h = tt
bytes-lines least (e ∷ table) h = (entry-line 98 e.0 e.1 refl (let l = h.1 in omega arith) (let l = h.3 in omega arith), bytes-lines (suc e.0) table h.4)

head-is_line : IsLine head_line
head-is_line = record { first = λ rest. refl }

end-is_line : IsLine end_line
end-is_line = record { first = λ rest. refl }

left-are_lines : (w : WorldTables) → CanBeLeft stage.Head w → AreLines (left_lines stage.Head w)
left-are_lines w h = (
  head-is_line,
  are_lines-append (map word_line w.words) (map byte_line w.bytes ++ end_line ∷ []) (words-lines 1 w.words h.0)
      (are_lines-append (map byte_line w.bytes) (end_line ∷ []) (bytes-lines 0 w.bytes h.1) (end-is_line, tt)),
)

pub text-lines : (w : WorldTables) → InRange w → lines_of (world_text w) ≡ left_lines stage.Head w
text-lines w h =
    ap (λ ls. lines_of (concat ls)) (world-left w h) ∙ lines-concat (left_lines stage.Head w) (left-are_lines w (h.words, h.bytes))

range : (w : WorldTables) → CanBeLeft stage.Head w → InRange w
range w h = record { words = h.0; bytes = h.1 }

to-begins : (lines : List Text) → BeginsFrom stage.Head lines → Begins lines
to-begins lines h = record { world = h.left; in_range = range h.left h.can; rest = h.rest; same = world-left h.left (range h.left h.can) ∙ h.same }

from-begins : (lines : List Text) → Begins lines → BeginsFrom stage.Head lines
from-begins lines h = record { left = h.world; can = (h.in_range.words, h.in_range.bytes); rest = h.rest; same = sym (world-left h.world h.in_range) ∙ h.same }

from-whole : (lines : List Text) → AreWhole lines → WholeFrom stage.Head lines
from-whole lines h = record { left = h.world; can = (h.in_range.words, h.in_range.bytes); same = sym (world-left h.world h.in_range) ∙ h.same }

first-bad : (k : ℕ) (lines : List Text) → BadAt stage.Head k lines → IsFirstBad (suc k) lines
first-bad k lines h = (to-begins (take k lines) h.begins, by h.here)
  where
    by : ((k < length lines) × (BeginsFrom stage.Head (take (suc k) lines) → ⊥)) ⊎ ((k ≡ length lines) × (WholeFrom stage.Head lines → ⊥))
        → ((k < length lines) × (Begins (take (suc k) lines) → ⊥)) ⊎ ((k ≡ length lines) × (AreWhole lines → ⊥))
    by (inl p) = inl (p.0, λ b. p.1 (from-begins (take (suc k) lines) b))
    by (inr p) = inr (p.0, λ b. p.1 (from-whole lines b))

-- ---- what is read of bytes

explained : (bytes : Text) (r : Result WorldTables CertFault) → reading bytes ≡ r → Explained stage.Head 1 no_entries (lines_of bytes) r
explained bytes r e = subst (Explained stage.Head 1 no_entries (lines_of bytes)) e (explain (lines_of bytes) stage.Head 1 no_entries tt)

pub read-range : (bytes : Text) (world : WorldTables) → reading bytes ≡ Ok world → InRange world × (bytes ≡ world_text world)
read-range bytes world e =
    let h = explained bytes (Ok world) e in
    let can : CanBeLeft stage.Head world = subst (CanBeLeft stage.Head) (sym h.same) h.whole.can in
    let in_range = range world can in
    (in_range, sym (concat-lines bytes) ∙ ap concat (sym h.whole.same ∙ ap (left_lines stage.Head) (sym h.same) ∙ sym (world-left world in_range)))

spelled_by : (bytes : Text) (world : WorldTables) → InRange world → lines_of bytes ≡ left_lines stage.Head world → (r : Result WorldTables CertFault) → reading bytes ≡ r → r ≡ Ok world
spelled_by bytes world h is (Ok other) e =
    let x = explained bytes (Ok other) e in
    ap Ok (x.same ∙ left-same (lines_of bytes) stage.Head x.whole.left world x.whole.can (h.words, h.bytes) x.whole.same (sym is))
spelled_by bytes world h is (Err (BadLine l)) e = absurd (by x.bad.here)
  where
    x : IsBad stage.Head 1 (lines_of bytes) l
    x = explained bytes (Err (BadLine l)) e

    by : ((x.k < length (lines_of bytes)) × (BeginsFrom stage.Head (take (suc x.k) (lines_of bytes)) → ⊥)) ⊎ ((x.k ≡ length (lines_of bytes)) × (WholeFrom stage.Head (lines_of bytes) → ⊥)) → ⊥
    by (inl p) = p.1 (record { left = world; can = (h.words, h.bytes); rest = drop (suc x.k) (lines_of bytes); same = sym is ∙ sym (take-append-drop (suc x.k) (lines_of bytes)) })
    by (inr p) = p.1 (record { left = world; can = (h.words, h.bytes); same = sym is })
spelled_by bytes world h is (Err WrongVersion) e = absurd (explained bytes (Err WrongVersion) e)
spelled_by bytes world h is (Err Memory) e = absurd (explained bytes (Err Memory) e)

bad_read : (bytes : Text) (line : ℕ) → reading bytes ≡ Err (BadLine line) → IsFirstBad line (lines_of bytes)
bad_read bytes line e =
    let x = explained bytes (Err (BadLine line)) e in
    let is : suc x.k ≡ line = omega (arith, x.same) in
    subst (λ l. IsFirstBad l (lines_of bytes)) is (first-bad x.k (lines_of bytes) x.bad)

-- bytes whose first line names no other version
pub reads : (bytes : Text) (r : Result WorldTables CertFault) → (NamesOtherVersion (lines_of bytes) → ⊥) → (r ≢ Err Memory → r ≡ reading bytes) → ReadsWorld bytes r
reads bytes r plain is = record {
  ok = λ world e. read-range bytes world (sym (is (λ m. let p : Ok world ≡ Err Memory = sym e ∙ m in cc)) ∙ e);
  spelled = λ world h same m. is m ∙ spelled_by bytes world h (ap lines_of same ∙ text-lines world h) (reading bytes) refl;
  bad_line = λ line e. (bad_read bytes line (sym (is (λ m. let p : Err (BadLine line) ≡ Err Memory = sym e ∙ m in cc)) ∙ e), plain);
  wrong_version = λ e. absurd (explained bytes (Err WrongVersion) (sym (is (λ m. let p : Err WrongVersion ≡ Err Memory = sym e ∙ m in cc)) ∙ e));
  other_version = λ h m. absurd (plain h);
}

head-is_one : IsOtherVersion head_line → ⊥
head-is_one o =
    let tails : (49 ∷ []) ++ 10 ∷ [] ≡ o.number ++ 10 ∷ [] = append_cancel_left (codes "sherlog world ") ((49 ∷ []) ++ 10 ∷ []) (o.number ++ 10 ∷ []) o.same in
    o.other (sym (append_cancel_right (49 ∷ []) o.number (10 ∷ []) tails))

-- bytes whose first line names another
pub reads_other : (bytes : Text) → NamesOtherVersion (lines_of bytes) → ReadsWorld bytes (Err WrongVersion)
reads_other bytes other = record {
  ok = λ world e. absurd (let p = e in cc);
  spelled = λ world h same m. absurd (head-is_one (subst NamesOtherVersion (ap lines_of same ∙ text-lines world h) other));
  bad_line = λ line e. absurd (let p = e in cc);
  wrong_version = λ e. other;
  other_version = λ h m. refl;
}
