-- Lines one after another.
use Rattle.std.proofs.Common.{◌≡◌, ℕ, suc, ◌+◌, ◌<◌, ◌==◌, Bool, true, false, not, cond, List, [], ◌∷◌, ◌++◌, length, take, drop, refl, sym, ap, subst, ◌∙◌, arith}
use Rattle.std.specs.List.{prefix_len, concat}
use Rattle.std.specs.Prelude.{map}
use Rattle.cert_text.specs.Lines.{Text, byte_before, lines_of, line_len}

abbrev inside : ℕ → Bool
inside b = not (b == 10)

-- the first line's length, after a newline and after another byte
len_end : (b : ℕ) (bytes : Text) → (b == 10) ≡ true → line_len (b ∷ bytes) ≡ 1
len_end b bytes e = let none : prefix_len inside (b ∷ bytes) ≡ 0 = rw e in omega (arith, none)

len_more : (b : ℕ) (bytes : Text) → (b == 10) ≡ false → line_len (b ∷ bytes) ≡ suc (line_len bytes)
len_more b bytes e = let one : prefix_len inside (b ∷ bytes) ≡ 1 + prefix_len inside bytes = rw e in omega (arith, one)

front : (b : ℕ) (bytes : Text) → (0 < length bytes → lines_of bytes ≡ take (line_len bytes) bytes ∷ lines_of (drop (line_len bytes) bytes))
    → byte_before b (lines_of bytes) ≡ (b ∷ take (line_len bytes) bytes) ∷ lines_of (drop (line_len bytes) bytes)
front b [] ih = refl
front b (c ∷ bytes) ih = ap (byte_before b) (ih (omega arith))

-- the first line, and the lines of what follows it
pub lines-first : (log : Text) → 0 < length log → lines_of log ≡ take (line_len log) log ∷ lines_of (drop (line_len log) log)
lines-first [] h = absurd (omega arith)
lines-first (b ∷ bytes) h = by (b == 10) refl (lines-first bytes)
  where
    by : (t : Bool) → (b == 10) ≡ t → (0 < length bytes → lines_of bytes ≡ take (line_len bytes) bytes ∷ lines_of (drop (line_len bytes) bytes))
        → cond t ((b ∷ []) ∷ lines_of bytes) (byte_before b (lines_of bytes)) ≡ take (line_len (b ∷ bytes)) (b ∷ bytes) ∷ lines_of (drop (line_len (b ∷ bytes)) (b ∷ bytes))
    by true e ih = subst (λ n. (b ∷ []) ∷ lines_of bytes ≡ take n (b ∷ bytes) ∷ lines_of (drop n (b ∷ bytes))) (sym (len_end b bytes e)) refl
    by false e ih = subst (λ n. byte_before b (lines_of bytes) ≡ take n (b ∷ bytes) ∷ lines_of (drop n (b ∷ bytes))) (sym (len_more b bytes e)) (front b bytes ih)

pub line_len_some : (log : Text) → 0 < length log → 0 < line_len log
line_len_some log h = omega arith

-- lines give the bytes back
concat-before : (b : ℕ) (lines : List Text) → concat (byte_before b lines) ≡ b ∷ concat lines
concat-before b [] = refl
concat-before b (line ∷ lines) = refl

pub concat-lines : (bytes : Text) → concat (lines_of bytes) ≡ bytes
concat-lines [] = refl
concat-lines (b ∷ bytes) = by (b == 10) (concat-lines bytes)
  where
    by : (t : Bool) → concat (lines_of bytes) ≡ bytes → concat (cond t ((b ∷ []) ∷ lines_of bytes) (byte_before b (lines_of bytes))) ≡ b ∷ bytes
    by true ih = ap (λ r. b ∷ r) ih
    by false ih = concat-before b (lines_of bytes) ∙ ap (λ r. b ∷ r) ih

-- ---- what is a line by itself

-- it ends at its only newline
pub record IsLine (line : Text) : Type 0 where
  pub first : (rest : Text) → lines_of (line ++ rest) ≡ line ∷ lines_of rest

pub newline_line : IsLine (10 ∷ [])
newline_line = record { first = λ rest. refl }

pub line-cons : (b : ℕ) (line : Text) → (b == 10) ≡ false → IsLine line → IsLine (b ∷ line)
line-cons b line e is = record { first = λ rest. rw e (ap (byte_before b) (is.first rest)) }

abbrev pub IsPlain : Text → Type 0
IsPlain [] = Unit {0}
IsPlain (b ∷ bytes) = ((b == 10) ≡ false) × IsPlain bytes

pub line-append : (bytes line : Text) → IsPlain bytes → IsLine line → IsLine (bytes ++ line)
line-append [] line plain is = is
line-append (b ∷ bytes) line plain is = line-cons b (bytes ++ line) plain.0 (line-append bytes line plain.1 is)

pub plain-append : (a b : Text) → IsPlain a → IsPlain b → IsPlain (a ++ b)
plain-append [] b p q = q
plain-append (c ∷ a) b p q = (p.0, plain-append a b p.1 q)

abbrev pub AreLines : List Text → Type 0
AreLines [] = Unit {0}
AreLines (line ∷ lines) = IsLine line × AreLines lines

pub are_lines-append : (a b : List Text) → AreLines a → AreLines b → AreLines (a ++ b)
are_lines-append [] b p q = q
are_lines-append (line ∷ a) b p q = (p.0, are_lines-append a b p.1 q)

pub are_lines-map : (f : ℕ × ℕ → Text) → ((e : ℕ × ℕ) → IsLine (f e)) → (table : List (ℕ × ℕ)) → AreLines (map f table)
are_lines-map f is [] = tt
are_lines-map f is (e ∷ table) = (is e, are_lines-map f is table)

pub lines-concat : (lines : List Text) → AreLines lines → lines_of (concat lines) ≡ lines
lines-concat [] are = refl
lines-concat (line ∷ lines) are = are.0.first (concat lines) ∙ ap (λ r. line ∷ r) (lines-concat lines are.1)
