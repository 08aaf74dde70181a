-- Stripping line by line.
use Rattle.std.proofs.Common.{◌≡◌, ℕ, zero, suc, ◌+◌, ◌==◌, ◌<◌, ◌≤◌, Bool, true, false, cond, List, [], ◌∷◌, ◌++◌, length, take, drop, Option, Some, None, length-drop, append_assoc, append-nil, refl, sym, ap, ◌∙◌, arith}
use Rattle.std.specs.List.{flat_map}
use Rattle.std.proofs.lemmas.List.{length-append, length-take}
use Rattle.std.proofs.lemmas.Bool.Decides.{nat_tests}
use Rattle.regex.specs.Patterns.{Re, Match, find}
use Rattle.log_text.specs.Lines.{byte_before, lines_of, line_len}
use Rattle.log_text.specs.Stripping.{unmatched, without, stripped_line, stripped}
use Rattle.log_text.proofs.LineLemmas.{lines-first}

-- what is left of a line is no longer than the line
pub stripped_line_short : (m : Option Match) (drops : Bool) (line : List ℕ) → length (without m drops line) ≤ length line
stripped_line_short None true line = omega arith
stripped_line_short None false line = omega arith
stripped_line_short (Some m) drops line = by (m.start == 0) drops
  where
    by : (t u : Bool) → length (cond t (drop m.trace.end line) (cond u [] line)) ≤ length line
    by true u = omega (arith, length-drop m.trace.end line)
    by false true = omega arith
    by false false = omega arith

-- the bytes that are left so far, and those of the lines that remain
pub record IsStripped (pattern : Re) (drops : Bool) (log bytes rest : List ℕ) : Type 0 where
  pub is : bytes ++ stripped (Some pattern) drops rest ≡ stripped (Some pattern) drops log
  pub short : length bytes + length rest ≤ length log

pub IsStripped-more : (pattern : Re) (drops : Bool) (log bytes bytes' rest line : List ℕ) (n : ℕ) → IsStripped pattern drops log bytes rest → 0 < length rest → n ≡ line_len rest
    → line ≡ take n rest → bytes' ≡ bytes ++ stripped_line (Some pattern) drops line → IsStripped pattern drops log bytes' (drop n rest)
IsStripped-more pattern drops log bytes bytes' rest line n s h e l more =
    let f = stripped_line (Some pattern) drops in
    let step : stripped (Some pattern) drops rest ≡ f line ++ stripped (Some pattern) drops (drop n rest) =
    ap (flat_map f) (lines-first rest h) ∙ (λ i. f (take (sym e i) rest) ++ flat_map f (lines_of (drop (sym e i) rest))) ∙ ap (λ x. f x ++ stripped (Some pattern) drops (drop n rest)) (sym l) in
    record {
      is = ap (λ b. b ++ stripped (Some pattern) drops (drop n rest)) more ∙ append_assoc bytes (f line) (stripped (Some pattern) drops (drop n rest)) ∙ ap (λ b. bytes ++ b) (sym step) ∙ s.is;
      short = omega (arith, s.short, ap length more, length-append bytes (f line), stripped_line_short (find pattern line 0) drops line, ap length l, length-take n rest, length-drop n rest);
    }

pub IsStripped-end : (pattern : Re) (drops : Bool) (log bytes rest : List ℕ) → IsStripped pattern drops log bytes rest → length rest ≡ 0 → bytes ≡ stripped (Some pattern) drops log
IsStripped-end pattern drops log bytes [] s h = sym (append-nil bytes) ∙ s.is
IsStripped-end pattern drops log bytes (b ∷ rest) s h = absurd (omega arith)

-- with no pattern the log is kept
pub stripped-none : (drops : Bool) (log : List ℕ) → stripped None drops log ≡ log
stripped-none drops [] = refl
stripped-none drops (b ∷ bytes) = by (b == 10) (stripped-none drops bytes)
  where
    before : (lines : List (List ℕ)) → flat_map (stripped_line None drops) (byte_before b lines) ≡ b ∷ flat_map (stripped_line None drops) lines
    before [] = refl
    before (line ∷ lines) = refl

    by : (t : Bool) → stripped None drops bytes ≡ bytes → flat_map (stripped_line None drops) (cond t ((b ∷ []) ∷ lines_of bytes) (byte_before b (lines_of bytes))) ≡ b ∷ bytes
    by true ih = ap (λ r. b ∷ r) ih
    by false ih = before (lines_of bytes) ∙ ap (λ r. b ∷ r) ih

pub stripped-of_none : (pattern : Option Re) (drops : Bool) (log bytes : List ℕ) → pattern ≡ None → bytes ≡ log → bytes ≡ stripped pattern drops log
stripped-of_none pattern drops log bytes none e = e ∙ sym (stripped-none drops log) ∙ ap (λ p. stripped p drops log) (sym none)

-- the test that no byte is left
pub some_left : (n : ℕ) (b : Bool) → b ≡ (n == 0) → b ≡ false → 0 < n
some_left n b e h = grind (arith, nat_tests)

pub none_left : (n : ℕ) (b : Bool) → b ≡ (n == 0) → b ≡ true → n ≡ 0
none_left n b e h = grind (arith, nat_tests)
