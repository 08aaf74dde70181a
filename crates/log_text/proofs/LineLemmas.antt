-- Lines one after another: the first is cut off, and the rest are the lines of what follows.
use Rattle.std.proofs.Common.{◌≡◌, ℕ, zero, suc, ◌+◌, ◌-◌, ◌<◌, ◌≤◌, min, ◌==◌, Bool, true, false, not, cond, nat_lt, nat_le, List, [], ◌∷◌, ◌++◌, length, take, drop, get_or, length-drop, append_assoc, append-nil, refl, sym, ap, subst, ◌∙◌, arith}
use Rattle.std.specs.Prelude.{count_by}
use Rattle.std.specs.List.{prefix_len, flat_map}
use Rattle.std.specs.List.Sorted.{IsNonDecreasing}
use Rattle.std.proofs.lemmas.List.{drop-drop, length-take-le}
use Rattle.std.proofs.lemmas.List.Sums.{sum_by-cons}
use Rattle.std.proofs.Math.Seq.{take-length}
use Rattle.std.proofs.Math.ListN.{drop_of_length-le}
use Rattle.std.proofs.lemmas.Bool.Decides.{nat_tests}
use Rattle.log_text.specs.Lines.{byte_before, lines_of, line_count, starts_from, line_starts, line_among, line_of, line_len, starts_through}

-- the bytes of all lines
total : List (List ℕ) → ℕ
total [] = 0
total (line ∷ lines) = length line + total lines

abbrev inside : ℕ → Bool
inside b = not (b == 10)

total-before : (b : ℕ) (lines : List (List ℕ)) → total (byte_before b lines) ≡ suc (total lines)
unfolding total
total-before b [] = refl
total-before b (line ∷ lines) = omega arith

total-lines : (log : List ℕ) → total (lines_of log) ≡ length log
unfolding total
total-lines [] = refl
total-lines (b ∷ bytes) = by (b == 10) (total-lines bytes)
  where
    by : (t : Bool) → total (lines_of bytes) ≡ length bytes → total (cond t ((b ∷ []) ∷ lines_of bytes) (byte_before b (lines_of bytes))) ≡ suc (length bytes)
    by true ih = omega (arith, ih)
    by false ih = total-before b (lines_of bytes) ∙ ap suc ih

-- the first line's length, after a newline and after another byte
len_end : (b : ℕ) (bytes : List ℕ) → (b == 10) ≡ true → line_len (b ∷ bytes) ≡ 1
len_end b bytes e = let none : prefix_len inside (b ∷ bytes) ≡ 0 = rw e in omega (arith, none)

len_more : (b : ℕ) (bytes : List ℕ) → (b == 10) ≡ false → line_len (b ∷ bytes) ≡ suc (line_len bytes)
len_more b bytes e = let one : prefix_len inside (b ∷ bytes) ≡ 1 + prefix_len inside bytes = rw e in omega (arith, one)

front : (b : ℕ) (bytes : List ℕ) → (0 < length bytes → lines_of bytes ≡ take (line_len bytes) bytes ∷ lines_of (drop (line_len bytes) bytes))
    → byte_before b (lines_of bytes) ≡ (b ∷ take (line_len bytes) bytes) ∷ lines_of (drop (line_len bytes) bytes)
front b [] ih = refl
front b (c ∷ bytes) ih = ap (byte_before b) (ih (omega arith))

-- the first line, and the lines of what follows it
pub lines-first : (log : List ℕ) → 0 < length log → lines_of log ≡ take (line_len log) log ∷ lines_of (drop (line_len log) log)
lines-first [] h = absurd (omega arith)
lines-first (b ∷ bytes) h = by (b == 10) refl (lines-first bytes)
  where
    by : (t : Bool) → (b == 10) ≡ t → (0 < length bytes → lines_of bytes ≡ take (line_len bytes) bytes ∷ lines_of (drop (line_len bytes) bytes))
        → cond t ((b ∷ []) ∷ lines_of bytes) (byte_before b (lines_of bytes)) ≡ take (line_len (b ∷ bytes)) (b ∷ bytes) ∷ lines_of (drop (line_len (b ∷ bytes)) (b ∷ bytes))
    by true e ih = subst (λ n. (b ∷ []) ∷ lines_of bytes ≡ take n (b ∷ bytes) ∷ lines_of (drop n (b ∷ bytes))) (sym (len_end b bytes e)) refl
    by false e ih = subst (λ n. byte_before b (lines_of bytes) ≡ take n (b ∷ bytes) ∷ lines_of (drop n (b ∷ bytes))) (sym (len_more b bytes e)) (front b bytes ih)

pub line_len_some : (log : List ℕ) → 0 < length log → 0 < line_len log
line_len_some log h = omega arith

-- no more lines than bytes
pub line_count_le : (log : List ℕ) → line_count log ≤ length log
line_count_le [] = omega arith
line_count_le (b ∷ bytes) = by (b == 10) (line_count_le bytes)
  where
    more : (lines : List (List ℕ)) → length (byte_before b lines) ≤ suc (length lines)
    more [] = omega arith
    more (line ∷ lines) = omega arith

    by : (t : Bool) → line_count bytes ≤ length bytes → length (cond t ((b ∷ []) ∷ lines_of bytes) (byte_before b (lines_of bytes))) ≤ suc (length bytes)
    by true ih = omega (arith, ih)
    by false ih = omega (arith, ih, more (lines_of bytes))

-- what follows the line that begins at a place
after_line : (log : List ℕ) (at n : ℕ) → n ≡ line_len (drop at log) → drop (line_len (drop at log)) (drop at log) ≡ drop (at + n) log
after_line log at n e = ap (λ k. drop k (drop at log)) (sym e) ∙ drop-drop n at log

-- starts so far, and those that remain
pub starts_more : (log starts starts' whole : List ℕ) (at n : ℕ) → at < length log → n ≡ line_len (drop at log) → starts' ≡ starts ++ at ∷ []
    → starts ++ starts_from at (lines_of (drop at log)) ≡ whole → starts' ++ starts_from (at + n) (lines_of (drop (at + n) log)) ≡ whole
starts_more log starts starts' whole at n h e more is =
    let rest = drop at log in
    let some : 0 < length rest = omega (arith, length-drop at log) in
    let len : length (take (line_len rest) rest) ≡ n = length-take-le (line_len rest) rest (omega arith) ∙ sym e in
    let step : starts_from at (lines_of rest) ≡ at ∷ starts_from (at + n) (lines_of (drop (at + n) log)) =
    ap (starts_from at) (lines-first rest some) ∙ (λ i. at ∷ starts_from (at + len i) (lines_of (after_line log at n e i))) in
    ap (λ s. s ++ starts_from (at + n) (lines_of (drop (at + n) log))) more
    ∙ append_assoc starts (at ∷ []) (starts_from (at + n) (lines_of (drop (at + n) log)))
    ∙ ap (λ s. starts ++ s) (sym step) ∙ is

pub count_more : (log : List ℕ) (count whole at n : ℕ) → at < length log → n ≡ line_len (drop at log)
    → count + line_count (drop at log) ≡ whole → count + 1 + line_count (drop (at + n) log) ≡ whole
count_more log count whole at n h e is =
    let rest = drop at log in
    let some : 0 < length rest = omega (arith, length-drop at log) in
    let step : line_count rest ≡ suc (line_count (drop (at + n) log)) =
    ap length (lines-first rest some) ∙ ap (λ r. suc (length (lines_of r))) (after_line log at n e) in
    omega (arith, step, is)

pub starts_end : (log starts whole : List ℕ) (at : ℕ) → length log ≤ at → starts ++ starts_from at (lines_of (drop at log)) ≡ whole → starts ≡ whole
starts_end log starts whole at h is =
    sym (append-nil starts) ∙ ap (λ r. starts ++ starts_from at (lines_of r)) (sym (drop_of_length-le log {i = at} h)) ∙ is

pub count_end : (log : List ℕ) (count whole at : ℕ) → length log ≤ at → count + line_count (drop at log) ≡ whole → count ≡ whole
count_end log count whole at h is =
    let none : line_count (drop at log) ≡ 0 = ap line_count (drop_of_length-le log {i = at} h) in omega (arith, none, is)

pub length-starts_from : (at : ℕ) (lines : List (List ℕ)) → length (starts_from at lines) ≡ length lines
length-starts_from at [] = refl
length-starts_from at (line ∷ lines) = ap suc (length-starts_from (at + length line) lines)

count-cons : (position at : ℕ) (starts : List ℕ) → starts_through (at ∷ starts) position ≡ cond (nat_le at position) 1 0 + starts_through starts position
count-cons position at starts = sum_by-cons (λ start. cond (nat_le start position) 1 0) at starts

count_in : (position at : ℕ) (starts : List ℕ) → at ≤ position → starts_through (at ∷ starts) position ≡ 1 + starts_through starts position
count_in position at starts h =
    let t : nat_le at position ≡ true = grind (arith, nat_tests) in
    count-cons position at starts ∙ ap (λ t. cond t 1 0 + starts_through starts position) t

count_out : (position at : ℕ) (starts : List ℕ) → position < at → starts_through (at ∷ starts) position ≡ starts_through starts position
count_out position at starts h =
    let t : nat_le at position ≡ false = grind (arith, nat_tests) in
    count-cons position at starts ∙ ap (λ t. cond t 1 0 + starts_through starts position) t ∙ omega arith

-- no line begins before the first
none_before : (position at : ℕ) (lines : List (List ℕ)) → position < at → starts_through (starts_from at lines) position ≡ 0
none_before position at [] h = refl
none_before position at (line ∷ lines) h =
    count_out position at (starts_from (at + length line) lines) h ∙ none_before position (at + length line) lines (omega arith)

-- the line of a position by the starts at or before it
line-by_starts : (number position at : ℕ) (lines : List (List ℕ)) → at ≤ position → position < at + total lines → starts_through (starts_from at lines) position + number ≡ line_among number (position - at) lines + 1
unfolding total
line-by_starts number position at [] low high = absurd (omega arith)
line-by_starts number position at (line ∷ lines) low high = by (nat_lt (position - at) (length line)) refl (line-by_starts (suc number) position (at + length line) lines)
  where
    others : List ℕ
    others = starts_from (at + length line) lines

    by : (t : Bool) → nat_lt (position - at) (length line) ≡ t
        → (at + length line ≤ position → position < at + length line + total lines → starts_through others position + suc number ≡ line_among (suc number) (position - (at + length line)) lines + 1)
        → starts_through (at ∷ others) position + number ≡ cond t number (line_among (suc number) (position - at - length line) lines) + 1
    by true e ih =
        let near : position - at < length line = grind (arith, nat_tests) in
        omega (arith, count_in position at others low, none_before position (at + length line) lines (omega arith))
    by false e ih =
        let far : length line ≤ position - at = grind (arith, nat_tests) in
        let same : position - at - length line ≡ position - (at + length line) = omega arith in
        omega (arith, count_in position at others low, ih (omega arith) (omega arith), ap (λ p. line_among (suc number) p lines) same)

pub line_of-within : (log : List ℕ) (position : ℕ) → position < length log → starts_through (line_starts log) position ≡ line_of log position
line_of-within log position h =
    let e = line-by_starts 1 position 0 (lines_of log) (omega arith) (omega (arith, total-lines log)) in
    let same : position - 0 ≡ position = omega arith in
    omega (arith, e, ap (λ p. line_among 1 p (lines_of log)) same)

line_behind : (number position : ℕ) (lines : List (List ℕ)) → total lines ≤ position → line_among number position lines ≡ number + length lines
unfolding total
line_behind number position [] h = omega arith
line_behind number position (line ∷ lines) h = by (nat_lt position (length line)) refl (line_behind (suc number) (position - length line) lines (omega arith))
  where
    by : (t : Bool) → nat_lt position (length line) ≡ t → line_among (suc number) (position - length line) lines ≡ suc number + length lines
        → cond t number (line_among (suc number) (position - length line) lines) ≡ number + suc (length lines)
    by true e ih = absurd (let near : position < length line = grind (arith, nat_tests) in omega arith)
    by false e ih = omega (arith, ih)

pub line_of-behind : (log : List ℕ) (position : ℕ) → length log ≤ position → line_of log position ≡ line_count log + 1
line_of-behind log position h = line_behind 1 position (lines_of log) (omega (arith, total-lines log)) ∙ omega arith

-- what `&log[at..]` is
pub slice_rest : (log : List ℕ) (at : ℕ) → take (length log - at) (drop at log) ≡ drop at log
slice_rest log at = ap (λ n. take n (drop at log)) (sym (length-drop at log)) ∙ take-length (drop at log)

-- ---- each line begins within the log

begins_within : (at i : ℕ) (lines : List (List ℕ)) → i < length (starts_from at lines)
    → get_or (starts_from at lines) i 0 ≤ at + total lines
unfolding total
begins_within at i [] h = absurd (omega (arith, h))
begins_within at zero (line ∷ lines) h = omega arith
begins_within at (suc i) (line ∷ lines) h =
    let next = begins_within (at + length line) i lines (omega (arith, h)) in omega (arith, next)

pub starts_within : (log : List ℕ) (i : ℕ) → i < length (line_starts log) → get_or (line_starts log) i 0 ≤ length log
starts_within log i h =
    let within = begins_within 0 i (lines_of log) h in omega (arith, within, total-lines log)

-- ---- lines begin in order

begins_from : (at : ℕ) (lines : List (List ℕ)) (j d : ℕ) → j < length (starts_from at lines) → at ≤ get_or (starts_from at lines) j d
begins_from at [] j d h = absurd (omega (arith, h))
begins_from at (line ∷ lines) zero d h = omega arith
begins_from at (line ∷ lines) (suc j) d h =
    let next = begins_from (at + length line) lines j d (omega (arith, h)) in omega (arith, next)

starts_rise : (at : ℕ) (lines : List (List ℕ)) (i j d : ℕ) → i ≤ j → j < length (starts_from at lines)
    → get_or (starts_from at lines) i d ≤ get_or (starts_from at lines) j d
starts_rise at [] i j d le h = absurd (omega (arith, h))
starts_rise at (line ∷ lines) zero j d le h = begins_from at (line ∷ lines) j d h
starts_rise at (line ∷ lines) (suc i) zero d le h = absurd (omega arith)
starts_rise at (line ∷ lines) (suc i) (suc j) d le h = starts_rise (at + length line) lines i j d (omega arith) (omega (arith, h))

pub starts_ascend : (log : List ℕ) → IsNonDecreasing (line_starts log)
starts_ascend log i j d le h = starts_rise 0 (lines_of log) i j d le h

-- ---- how many pass a test that some first ones pass and no other

module _ {X : Type 0} (p : X → Bool) where
  count-cons_by : (x : X) (xs : List X) → count_by p (x ∷ xs) ≡ cond (p x) 1 0 + count_by p xs
  count-cons_by x xs = sum_by-cons (λ y. cond (p y) 1 0) x xs

  pub counted_to : (xs : List X) (i : ℕ) → i ≤ length xs
      → ((k : ℕ) (d : X) → 0 ≤ k → k < i → p (get_or xs k d) ≡ true) × ((k : ℕ) (d : X) → i ≤ k → k < length xs → p (get_or xs k d) ≡ false)
      → count_by p xs ≡ i
  counted_to [] zero h point = refl
  counted_to [] (suc i) h point = absurd (omega (arith, h))
  counted_to (x ∷ xs) zero h point =
      let rest = counted_to xs zero (omega arith) ((λ k d low lt. absurd (omega arith)), (λ k d low lt. point.1 (suc k) d (omega arith) (omega (arith, lt)))) in
      let head = ap (λ t. cond t 1 0 + count_by p xs) (point.1 0 x (omega arith) (omega arith)) in
      omega (arith, count-cons_by x xs, head, rest)
  counted_to (x ∷ xs) (suc i) h point =
      let rest = counted_to xs i (omega (arith, h)) ((λ k d low lt. point.0 (suc k) d (omega arith) (omega arith)), (λ k d low lt. point.1 (suc k) d (omega arith) (omega (arith, lt)))) in
      let head = ap (λ t. cond t 1 0 + count_by p xs) (point.0 0 x (omega arith) (omega arith)) in
      omega (arith, count-cons_by x xs, head, rest)
