-- The pieces so far, and what remains, are the whole format.
use Rattle.std.proofs.Common.{◌≡◌, ℕ, zero, suc, ◌+◌, ◌-◌, ◌<◌, ◌≤◌, Bool, true, false, cond, ◌==◌, ◌||◌, List, [], ◌∷◌, ◌++◌, length, Option, Some, None, Result, Ok, Err, length-drop, append_assoc, append-nil, refl, sym, ap, ◌∙◌, arith}
use Rattle.std.specs.List.{prefix_len}
use Rattle.std.proofs.lemmas.Bool.Decides.{nat_tests}
use Rattle.printf_text.specs.Pieces.{Part, Step, after, after_run, run, is_flag, is_digit, is_plain, flags_of, star_or_number, precision_after, once_or_twice, length_at, width_at, precision_at, lettered, specification_at, percent_or, conversion_at, counted, stepped, step_of, piece_before, followed, pieces_from}
use Rattle.plain_data.specs.declared.width.Width.{Width}
use Rattle.printf_text.specs.declared.piece.Flags.{Flags}
use Rattle.printf_text.specs.declared.piece.Size.{Size}
use Rattle.printf_text.specs.declared.piece.Piece.{Piece}
use Rattle.printf_text.specs.declared.parse.FormatFault.{FormatFault}
use Rattle.printf_text.specs.declared.parse.Reading.{Reading}
use Rattle.printf_text.specs.declared.parse.Reading.TheVariants.{Cut, Refused, Percent, Accepted}

-- the pieces so far, before what remains
abbrev pub joined : List Piece → Result (List Piece) FormatFault → Result (List Piece) FormatFault
joined pieces (Ok others) = Ok (pieces ++ others)
joined pieces (Err fault) = Err fault

pub record IsReading (size : ℕ) (whole : Result (List Piece) FormatFault) (pieces : List Piece) (left : ℕ) (rest : List ℕ) : Type 0 where
  pub fuel : ℕ
  pub enough : length rest < fuel
  pub within : length rest ≤ size
  pub whole_is : joined pieces (pieces_from fuel size left rest) ≡ whole

-- what is read leaves no more than it was given
after_short : (c : ℕ) (bytes rest : List ℕ) → after c bytes ≡ Some rest → length rest < length bytes
after_short c [] rest h = absurd (cc)
after_short c (b ∷ bytes) rest h = by (b == c) h
  where
    by : (t : Bool) → cond t (Some bytes) None ≡ Some rest → length rest < suc (length bytes)
    by true e = let same : bytes ≡ rest = cc in omega (arith, ap length same)
    by false e = absurd (cc)

run_short : (p : ℕ → Bool) (bytes : List ℕ) → length (after_run p bytes) ≤ length bytes
run_short p bytes = omega (arith, length-drop (prefix_len p bytes) bytes)

star_short : (none : Size) (bytes : List ℕ) → length (star_or_number none bytes (after 42 bytes)).rest ≤ length bytes
star_short none bytes = by (after 42 bytes) refl
  where
    by : (o : Option (List ℕ)) → after 42 bytes ≡ o → length (star_or_number none bytes o).rest ≤ length bytes
    by (Some rest) e = omega (arith, after_short 42 bytes rest e)
    by None e = run_short is_digit bytes

precision_short : (bytes : List ℕ) → length (precision_at bytes).rest ≤ length bytes
precision_short bytes = by (after 46 bytes) refl
  where
    by : (o : Option (List ℕ)) → after 46 bytes ≡ o → length (precision_after bytes o).rest ≤ length bytes
    by (Some rest) e = omega (arith, after_short 46 bytes rest e, star_short (Size.Written 0) rest)
    by None e = omega arith

twice_short : (c : ℕ) (v w : Width) (bytes : List ℕ) → length (once_or_twice v w bytes (after c bytes)).rest ≤ length bytes
twice_short c v w bytes = by (after c bytes) refl
  where
    by : (o : Option (List ℕ)) → after c bytes ≡ o → length (once_or_twice v w bytes o).rest ≤ length bytes
    by (Some rest) e = omega (arith, after_short c bytes rest e)
    by None e = omega arith

length_short : (bytes : List ℕ) → length (length_at bytes).rest ≤ length bytes
length_short [] = omega arith
length_short (b ∷ bytes) =
    shorter_of (b == 104) _ _ (suc (length bytes)) (omega (arith, twice_short 104 Width.W16 Width.W8 bytes))
    (shorter_of (b == 108) _ _ (suc (length bytes)) (omega (arith, twice_short 108 Width.W64 Width.W64 bytes))
    (shorter_of (b == 106 || b == 122 || b == 116) _ _ (suc (length bytes)) (omega arith) (omega arith)))
  where
    shorter_of : (t : Bool) (x y : Part (Option Width)) (n : ℕ) → length x.rest ≤ n → length y.rest ≤ n → length (cond t x y).rest ≤ n
    shorter_of true x y n h k = h
    shorter_of false x y n h k = k

specification_short : (bytes : List ℕ) → length (specification_at bytes).rest ≤ length bytes
specification_short bytes =
    let width = width_at (after_run is_flag bytes) in
    let precision = precision_at width.rest in
    let size = length_at precision.rest in
    let a = run_short is_flag bytes in
    let b = star_short Size.Omitted (after_run is_flag bytes) in
    let c = precision_short width.rest in
    let d = length_short precision.rest in
    omega (arith, letter (flags_of (run is_flag bytes)) width.part precision.part size.part size.rest)
  where
    letter : (flags : Flags) (w p : Size) (v : Option Width) (rest : List ℕ) → length (lettered flags w p v rest).rest ≤ length rest
    letter flags w p v [] = omega arith
    letter flags w p v (c ∷ rest) = omega arith

conversion_short : (bytes : List ℕ) → length (conversion_at bytes).rest ≤ length bytes
conversion_short bytes = by (after 37 bytes) refl
  where
    by : (o : Option (List ℕ)) → after 37 bytes ≡ o → length (percent_or bytes o).rest ≤ length bytes
    by (Some rest) e = omega (arith, after_short 37 bytes rest e)
    by None e = specification_short bytes

-- a step leaves less
pub step_short : (left at : ℕ) (bytes : List ℕ) (s : Step) → 0 < length bytes → step_of left at bytes ≡ Ok s → length s.rest < length bytes
step_short left at bytes s h e = by (after 37 bytes) refl e
  where
    counted_rest : (r : Reading) (n : ℕ) (rest : List ℕ) → counted n at r rest ≡ Ok s → s.rest ≡ rest
    counted_rest Cut n rest k = absurd (cc)
    counted_rest Refused n rest k = absurd (cc)
    counted_rest Percent zero rest k = absurd (cc)
    counted_rest Percent (suc n) rest k = cc
    counted_rest (Accepted c) zero rest k = absurd (cc)
    counted_rest (Accepted c) (suc n) rest k = cc

    plain_short : (bs : List ℕ) → 0 < length bs → after 37 bs ≡ None → length (after_run is_plain bs) < length bs
    plain_short [] k n = absurd (omega arith)
    plain_short (b ∷ bs) k n = tested (b == 37) refl n
      where
        tested : (t : Bool) → b == 37 ≡ t → cond t (Some bs) None ≡ None → length (after_run is_plain (b ∷ bs)) < suc (length bs)
        tested true u v = absurd (cc)
        tested false u v =
            let one : prefix_len is_plain (b ∷ bs) ≡ 1 + prefix_len is_plain bs = rw u in
            omega (arith, length-drop (prefix_len is_plain (b ∷ bs)) (b ∷ bs))

    by : (o : Option (List ℕ)) → after 37 bytes ≡ o → stepped left at bytes o ≡ Ok s → length s.rest < length bytes
    by (Some rest) a k =
        let r : s.rest ≡ (conversion_at rest).rest = counted_rest (conversion_at rest).part left (conversion_at rest).rest k in
        omega (arith, ap length r, after_short 37 bytes rest a, conversion_short rest)
    by None a k =
        let r : s.rest ≡ after_run is_plain bytes = cc in
        omega (arith, ap length r, plain_short bytes h a)

joined-before : (pieces : List Piece) (p : Piece) (r : Result (List Piece) FormatFault) → joined pieces (piece_before p r) ≡ joined (pieces ++ p ∷ []) r
joined-before pieces p (Ok others) = ap Ok (sym (append_assoc pieces (p ∷ []) others))
joined-before pieces p (Err fault) = refl

pub IsReading-more : (size : ℕ) (whole : Result (List Piece) FormatFault) (pieces : List Piece) (left : ℕ) (rest : List ℕ) (s : Step)
    → IsReading size whole pieces left rest → 0 < length rest → step_of left (size - length rest) rest ≡ Ok s → IsReading size whole (pieces ++ s.piece ∷ []) s.left s.rest
unfolding pieces_from
IsReading-more size whole pieces left rest s r h e = by r.fuel rest r.enough r.within h e r.whole_is
  where
    by : (fuel : ℕ) (rest : List ℕ) → length rest < fuel → length rest ≤ size → 0 < length rest → step_of left (size - length rest) rest ≡ Ok s
        → joined pieces (pieces_from fuel size left rest) ≡ whole → IsReading size whole (pieces ++ s.piece ∷ []) s.left s.rest
    by zero rest more within some e w = absurd (omega arith)
    by (suc fuel) [] more within some e w = absurd (omega arith)
    by (suc fuel) (b ∷ bytes) more within some e w =
        let shorter = step_short left (size - length (b ∷ bytes)) (b ∷ bytes) s some e in
        record {
          fuel = fuel;
          enough = omega arith;
          within = omega arith;
          whole_is = sym (joined-before pieces s.piece (pieces_from fuel size s.left s.rest)) ∙ sym (ap (λ x. joined pieces (followed (λ left' rest'. pieces_from fuel size left' rest') x)) e) ∙ w;
        }

pub IsReading-fault : (size : ℕ) (whole : Result (List Piece) FormatFault) (pieces : List Piece) (left : ℕ) (rest : List ℕ) (fault : FormatFault)
    → IsReading size whole pieces left rest → 0 < length rest → step_of left (size - length rest) rest ≡ Err fault → whole ≡ Err fault
unfolding pieces_from
IsReading-fault size whole pieces left rest fault r h e = by r.fuel rest r.enough h e r.whole_is
  where
    by : (fuel : ℕ) (rest : List ℕ) → length rest < fuel → 0 < length rest → step_of left (size - length rest) rest ≡ Err fault
        → joined pieces (pieces_from fuel size left rest) ≡ whole → whole ≡ Err fault
    by zero rest more some e w = absurd (omega arith)
    by (suc fuel) [] more some e w = absurd (omega arith)
    by (suc fuel) (b ∷ bytes) more some e w = sym w ∙ ap (λ x. joined pieces (followed (λ left' rest'. pieces_from fuel size left' rest') x)) e

pub IsReading-end : (size : ℕ) (whole : Result (List Piece) FormatFault) (pieces : List Piece) (left : ℕ) (rest : List ℕ)
    → IsReading size whole pieces left rest → length rest ≡ 0 → whole ≡ Ok pieces
unfolding pieces_from
IsReading-end size whole pieces left rest r h = by r.fuel rest r.enough h r.whole_is
  where
    by : (fuel : ℕ) (rest : List ℕ) → length rest < fuel → length rest ≡ 0 → joined pieces (pieces_from fuel size left rest) ≡ whole → whole ≡ Ok pieces
    by zero rest more none w = absurd (omega arith)
    by (suc fuel) [] more none w = sym w ∙ ap Ok (append-nil pieces)
    by (suc fuel) (b ∷ bytes) more none w = absurd (omega arith)

-- the test that no byte is left
pub some_left : (n : ℕ) (b : Bool) → b ≡ (n == 0) → b ≡ false → 0 < n
some_left n b e h = grind (arith, nat_tests)

pub none_left : (n : ℕ) (b : Bool) → b ≡ (n == 0) → b ≡ true → n ≡ 0
none_left n b e h = grind (arith, nat_tests)
