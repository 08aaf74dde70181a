-- Rows in one list of items: their number, each of them, all of them, one more.
use Rattle.std.proofs.Common.{◌≡◌, ◌<◌, ◌≤◌, ◌+◌, ◌-◌, ◌++◌, ◌∷◌, [], ℕ, zero, suc, List, Some, length, take, drop, get_or, refl, sym, ap, ◌∙◌, arith, length-append}
use Rattle.std.specs.List.{slice_get, flat_map, slice_range}
use Rattle.std.proofs.lemmas.List.{take-append-drop, drop-drop, drop_all, drop-append-le, take-append-le, take_all, length-drop, length-take, drop-take, take-take}
use Rattle.std.proofs.Math.Seq.{drop-append_seam}
use Rattle.plain_data.specs.Cut.{cut, IsCut, start_of}

pub length-cut : {X : Type 0} (items : List X) (start : ℕ) (ends : List ℕ) → length (cut items start ends) ≡ length ends
length-cut items start [] = refl
length-cut items start (end ∷ ends) = ap (λ n. suc n) (length-cut items end ends)

-- no end is past the last item
pub start-within : {X : Type 0} (items : List X) (start : ℕ) (ends : List ℕ) → IsCut items start ends → start ≤ length items
start-within items start [] is = omega arith
start-within items start (end ∷ ends) is = let rest : end ≤ length items = start-within items end ends is.1 in omega arith

pub end-within : {X : Type 0} (items : List X) (start : ℕ) (ends : List ℕ) (i : ℕ) → IsCut items start ends → i < length ends → get_or ends i 0 ≤ length items
end-within items start [] i is h = absurd (omega arith)
end-within items start (end ∷ ends) zero is h = start-within items end ends is.1
end-within items start (end ∷ ends) (suc i) is h = end-within items end ends i is.1 (omega arith)

pub start-below_end : {X : Type 0} (items : List X) (start : ℕ) (ends : List ℕ) (i : ℕ) → IsCut items start ends → i < length ends → start_of start ends i ≤ get_or ends i 0
start-below_end items start [] i is h = absurd (omega arith)
start-below_end items start (end ∷ ends) zero is h = is.0
start-below_end items start (end ∷ ends) (suc zero) is h = start-below_end items end ends zero is.1 (omega arith)
start-below_end items start (end ∷ ends) (suc (suc i)) is h = start-below_end items end ends (suc i) is.1 (omega arith)

-- the row at an index
pub row-cut : {X : Type 0} (items : List X) (start : ℕ) (ends : List ℕ) (i : ℕ) → i < length ends → slice_get (cut items start ends) i ≡ Some (slice_range items (start_of start ends i) (get_or ends i 0))
row-cut items start [] i h = absurd (omega arith)
row-cut items start (end ∷ ends) zero h = refl
row-cut items start (end ∷ ends) (suc zero) h = row-cut items end ends zero (omega arith)
row-cut items start (end ∷ ends) (suc (suc i)) h = row-cut items end ends (suc i) (omega arith)

-- one row after the other, the rows are the items
pub items-cut : {X : Type 0} (items : List X) (start : ℕ) (ends : List ℕ) → IsCut items start ends → flat_map (λ row. row) (cut items start ends) ≡ drop start items
items-cut items start [] is = sym (drop_all start items (omega arith))
items-cut items start (end ∷ ends) is =
    let before : start ≤ end = is.0 in
    let seam : start + (end - start) ≡ end = omega arith in
    ap (λ rest. slice_range items start end ++ rest) (items-cut items end ends is.1 ∙ sym (drop-drop (end - start) start items ∙ ap (λ n. drop n items) seam)) ∙ take-append-drop (end - start) (drop start items)

last-row : {X : Type 0} (items row : List X) (start end : ℕ) → start ≡ length items → end ≡ length items + length row → slice_range (items ++ row) start end ≡ row
last-row items row start end s e =
    let n : end - start ≡ length row = omega arith in
    rw (n, s, drop-append_seam items row) (take_all (length row) row (omega arith))

earlier-row : {X : Type 0} (items row : List X) (start end : ℕ) → start ≤ end → end ≤ length items → slice_range (items ++ row) start end ≡ slice_range items start end
earlier-row items row start end s e =
    rw (drop-append-le start items row (omega arith)) (take-append-le (end - start) (drop start items) row (omega (arith, length-drop start items)))

pub cut-push : {X : Type 0} (items row : List X) (start : ℕ) (ends : List ℕ) (n : ℕ) → IsCut items start ends → n ≡ length items + length row → cut (items ++ row) start (ends ++ n ∷ []) ≡ cut items start ends ++ row ∷ []
cut-push items row start [] n is e = ap (λ r. r ∷ []) (last-row items row start n is e)
cut-push items row start (end ∷ ends) n is e =
    rw (earlier-row items row start end is.0 (start-within items end ends is.1), cut-push items row end ends n is.1 e) refl

pub IsCut-push : {X : Type 0} (items row : List X) (start : ℕ) (ends : List ℕ) (n : ℕ) → IsCut items start ends → n ≡ length items + length row → IsCut (items ++ row) start (ends ++ n ∷ [])
IsCut-push items row start [] n is e = (omega arith, omega (arith, length-append items row))
IsCut-push items row start (end ∷ ends) n is e = (is.0, IsCut-push items row end ends n is.1 e)

-- the row between two numbers that are its start and its end
pub row-between : {X : Type 0} (items all row : List X) (rows : List (List X)) (ends read : List ℕ) (i start end : ℕ) → IsCut items 0 ends → cut items 0 ends ≡ rows → i < length ends → read ≡ ends → start ≡ start_of 0 read i → end ≡ get_or ends i 0 → all ≡ items → row ≡ slice_range all start end → slice_get rows i ≡ Some row
row-between items all row rows ends read i start end is view h r s e a p =
    rw (← view, p, a, s, r, e) (row-cut items 0 ends i h)

-- the rows before an index, in the items before its start
earlier-part : {X : Type 0} (items : List X) (start end last : ℕ) → start ≤ end → end ≤ last → slice_range (take last items) start end ≡ slice_range items start end
earlier-part items start end last s e =
    let whole : start + (last - start) ≡ last = omega arith in
    let within : end - start ≤ last - start = omega arith in
    let cut-here : drop start (take last items) ≡ take (last - start) (drop start items) = ap (λ n. drop start (take n items)) (sym whole) ∙ drop-take start (last - start) items in
    ap (take (end - start)) cut-here ∙ take-take (end - start) (last - start) (drop start items) within

end-above : {X : Type 0} (items : List X) (start : ℕ) (ends : List ℕ) (n : ℕ) → IsCut items start ends → n ≤ length ends → start ≤ start_of start ends n
end-above items start ends zero is h = omega arith
end-above items start [] (suc n) is h = absurd (omega arith)
end-above items start (end ∷ ends) (suc zero) is h = is.0
end-above items start (end ∷ ends) (suc (suc n)) is h = let rest : end ≤ start_of end ends (suc n) = end-above items end ends (suc n) is.1 (omega arith) in let first : start ≤ end = is.0 in omega arith

next-start : (start end : ℕ) (ends : List ℕ) (n : ℕ) → start_of start (end ∷ ends) (suc n) ≡ start_of end ends n
next-start start end ends zero = refl
next-start start end ends (suc n) = refl

pub cut-truncate : {X : Type 0} (items : List X) (start : ℕ) (ends : List ℕ) (n last : ℕ) → IsCut items start ends → n ≤ length ends → last ≡ start_of start ends n → cut (take last items) start (take n ends) ≡ take n (cut items start ends)
cut-truncate items start ends zero last is h e = refl
cut-truncate items start [] (suc n) last is h e = absurd (omega arith)
cut-truncate items start (end ∷ ends) (suc n) last is h e =
    let same : last ≡ start_of end ends n = e ∙ next-start start end ends n in
    let above : end ≤ last = rw same (end-above items end ends n is.1 (omega arith)) in
    rw (earlier-part items start end last is.0 above, cut-truncate items end ends n last is.1 (omega arith) same) refl

pub IsCut-truncate : {X : Type 0} (items : List X) (start : ℕ) (ends : List ℕ) (n last : ℕ) → IsCut items start ends → n ≤ length ends → last ≡ start_of start ends n → IsCut (take last items) start (take n ends)
IsCut-truncate items start ends zero last is h e = omega (arith, start-within items start ends is, length-take last items)
IsCut-truncate items start [] (suc n) last is h e = absurd (omega arith)
IsCut-truncate items start (end ∷ ends) (suc n) last is h e =
    (is.0, IsCut-truncate items end ends n last is.1 (omega arith) (e ∙ next-start start end ends n))
