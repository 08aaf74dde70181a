-- Texts and the padding beside them.
use Rattle.std.proofs.Common.{◌≡◌, ◌≢◌, ◌⊎◌, inl, inr, ℕ, zero, suc, ◌+◌, ◌-◌, ◌<◌, ◌≤◌, max, Bool, true, false, not, cond, ◌&&◌, ◌||◌, eqb, ltb, ℤ, pos, negsuc, Option, Some, None, List, [], ◌∷◌, ◌++◌, length, take, drop, replicate, All, append-nil, refl, sym, ap, subst, ◌∙◌, arith}
use Rattle.std.specs.Int.{is_negative}
use Rattle.std.specs.Int.RustNames.{unsigned_abs}
use Rattle.std.specs.Str.{bytes_eq}
use Rattle.std.specs.List.{list_all, list_any}
use Rattle.std.proofs.lemmas.Bool.{false_from_ne_true, and_parts, and_from, eqb-true, eqb-false, eq-eqb, ne_eqb, both_ways, or_from, or_parts, ltb-true, ltb-false, le-ltb, cases_lt, cases_eq}
use Rattle.std.proofs.lemmas.Bool.Decides.{nat_tests, same_from_decides}
use Rattle.std.proofs.lemmas.Slice.Eq.{bytes_eq-Decides}
use Rattle.std.proofs.lemmas.List.Elements.{All-nil, All-cons, All-head, All-tail, All-take, All-drop}
use Rattle.std.specs.Prelude.{if◌then◌else◌}
use Rattle.std.proofs.lemmas.List.{length-take-le, length-drop, length-take, length-replicate, take_all, take-append-drop, take_at, drop_at}
use Rattle.printf_text.specs.Texts.{HasKind, formed, in_field, parts, plain, cut, text_bytes, fills_zeros}
use Rattle.printf_text.proofs.TextLaws.{length-in_field}
use Rattle.printf_text.specs.declared.kind.Kind.TheVariants as kind
use Rattle.printf_text.specs.declared.piece.Arg.{Arg}
use Rattle.printf_text.specs.declared.piece.Arg.TheVariants as arg
use Rattle.printf_text.specs.declared.piece.Form.TheVariants as form
use Rattle.printf_text.specs.declared.piece.Flags.{Flags}
use Rattle.printf_text.specs.declared.piece.Form.{Form}
use Rattle.format_match.specs.declared.way.Sizes.{Sizes}
use Rattle.format_match.specs.Splits.{begins, meets}
use Rattle.format_match.specs.declared.split.Constraint.TheVariants.{Text}
use Rattle.format_match.specs.Reading.{pads_right}
use Rattle.format_match.specs.Ways.{here, upto, formed_end, fill_byte, unpadded, text_ended, padded_end}
use Rattle.format_match.proofs.MetEnds.{both, upto_none, upto_one}
use Rattle.format_match.proofs.Printing.{same_bytes, here_false}

-- a text is at least as long as its field
pub too_wide : (flags : Flags) (form : Form) (sizes : Sizes) (a : Arg) (slice : List ℕ) → length slice < unsigned_abs sizes.width.value
    → bytes_eq (formed flags form sizes.width.value sizes.precision.value a) slice ≡ false
too_wide flags form sizes a slice h =
    false_from_ne_true (bytes_eq (formed flags form sizes.width.value sizes.precision.value a) slice)
    (λ e. absurd (omega (
      arith,
      ap length (same_bytes (formed flags form sizes.width.value sizes.precision.value a) slice e),
      length-in_field (flags.left || is_negative sizes.width.value) (fills_zeros flags sizes.precision.value) (unsigned_abs sizes.width.value) (parts flags form sizes.precision.value a),
    )))

-- ---- texts, by the length of their padding

-- bytes that are all one byte
all_are : (c : ℕ) (xs : List ℕ) → list_all (λ b. eqb b c) xs ≡ true → xs ≡ replicate (length xs) c
all_are c [] h = refl
all_are c (x ∷ xs) h =
    let parts = and_parts (eqb x c) (list_all (λ b. eqb b c) xs) h in
    λ i. eqb-true x c parts.0 i ∷ all_are c xs parts.1 i

replicate_all : (c k : ℕ) → list_all (λ b. eqb b c) (replicate k c) ≡ true
replicate_all c zero = refl
replicate_all c (suc k) = and_from (eqb c c) (list_all (λ b. eqb b c) (replicate k c)) (eq-eqb c c refl) (replicate_all c k)

-- a text in its field, where padding of this length stands beside it
field_is : (left fill : Bool) (width : ℕ) (t : List ℕ) → in_field left fill width (plain t) ≡ cond left (t ++ replicate (width - length t) 32) (replicate (width - length t) (cond fill 48 32) ++ t)
field_is true fill width t = refl
field_is false true width t = refl
field_is false false width t = ap (λ r. r ++ t) (append-nil (replicate (width - length t) 32))

module _ (flags : Flags) (sizes : Sizes) where
  abbrev width : ℕ
  width = unsigned_abs sizes.width.value

  abbrev fill : Bool
  fill = fills_zeros flags sizes.precision.value

  abbrev right : Bool
  right = pads_right flags sizes

  abbrev field : List ℕ → List ℕ
  field t = in_field right fill width (plain t)

  abbrev padded : List ℕ → List ℕ
  padded t = cond right (t ++ replicate (width - length t) 32) (replicate (width - length t) (fill_byte flags sizes) ++ t)

  length_field : (t : List ℕ) → length (field t) ≡ max width (length t)
  length_field t = omega (arith, length-in_field right fill width (plain t))

  -- what stands beside the padding prints the bytes
  pub unpadded_prints : (slice t : List ℕ) (padding : ℕ) → padding ≤ length slice → unpadded flags sizes slice padding ≡ Some t → (field t ≡ slice) × (length slice ≡ length t + padding)
  unpadded_prints slice t padding h e = by (eqb (width - (length slice - padding)) padding) refl e
    where
      body : (r : Bool) → right ≡ r → width - (length slice - padding) ≡ padding
          → cond r (cond (list_all (λ b. eqb b 32) (drop (length slice - padding) slice)) (Some (take (length slice - padding) slice)) None)
          (cond (list_all (λ b. eqb b (fill_byte flags sizes)) (take padding slice)) (Some (drop padding slice)) None) ≡ Some t
          → (cond r (t ++ replicate (width - length t) 32) (replicate (width - length t) (fill_byte flags sizes) ++ t) ≡ slice) × (length slice ≡ length t + padding)
      body true r m e = pick (list_all (λ b. eqb b 32) (drop (length slice - padding) slice)) refl e
        where
          pick : (s : Bool) → list_all (λ b. eqb b 32) (drop (length slice - padding) slice) ≡ s → cond s (Some (take (length slice - padding) slice)) None ≡ Some t
              → (t ++ replicate (width - length t) 32 ≡ slice) × (length slice ≡ length t + padding)
          pick true s e =
              let is : take (length slice - padding) slice ≡ t = cc in
              let long : length t ≡ length slice - padding = ap length (sym is) ∙ length-take-le (length slice - padding) slice (omega arith) in
              let pad : drop (length slice - padding) slice ≡ replicate (width - length t) 32 =
              all_are 32 (drop (length slice - padding) slice) s ∙ ap (λ k. replicate k 32) (length-drop (length slice - padding) slice ∙ omega arith) in
              (both (λ (x y : List ℕ). x ++ y) (sym is) (sym pad) ∙ take-append-drop (length slice - padding) slice, omega arith)
          pick false s e = absurd cc
      body false r m e = pick (list_all (λ b. eqb b (fill_byte flags sizes)) (take padding slice)) refl e
        where
          pick : (s : Bool) → list_all (λ b. eqb b (fill_byte flags sizes)) (take padding slice) ≡ s → cond s (Some (drop padding slice)) None ≡ Some t
              → (replicate (width - length t) (fill_byte flags sizes) ++ t ≡ slice) × (length slice ≡ length t + padding)
          pick true s e =
              let is : drop padding slice ≡ t = cc in
              let long : length t ≡ length slice - padding = ap length (sym is) ∙ length-drop padding slice in
              let pad : take padding slice ≡ replicate (width - length t) (fill_byte flags sizes) =
              all_are (fill_byte flags sizes) (take padding slice) s ∙ ap (λ k. replicate k (fill_byte flags sizes)) (length-take-le padding slice h ∙ omega arith) in
              (both (λ (x y : List ℕ). x ++ y) (sym pad) (sym is) ∙ take-append-drop padding slice, omega arith)
          pick false s e = absurd cc

      by : (s : Bool) → eqb (width - (length slice - padding)) padding ≡ s
          → cond (not s) None (cond right (cond (list_all (λ b. eqb b 32) (drop (length slice - padding) slice)) (Some (take (length slice - padding) slice)) None)
          (cond (list_all (λ b. eqb b (fill_byte flags sizes)) (take padding slice)) (Some (drop padding slice)) None)) ≡ Some t
          → (field t ≡ slice) × (length slice ≡ length t + padding)
      by true s e = let r = body right refl (eqb-true _ _ s) e in (field_is right fill width t ∙ r.0, r.1)
      by false s e = absurd cc

  -- and what prints the bytes stands beside the padding
  pub prints_unpadded : (slice t : List ℕ) (padding : ℕ) → field t ≡ slice → length slice ≡ length t + padding → unpadded flags sizes slice padding ≡ Some t
  prints_unpadded slice t padding e long =
      ap (λ s. cond (not s) None (cond right (cond (list_all (λ b. eqb b 32) (drop (length slice - padding) slice)) (Some (take (length slice - padding) slice)) None)
      (cond (list_all (λ b. eqb b (fill_byte flags sizes)) (take padding slice)) (Some (drop padding slice)) None))) (eq-eqb _ _ enough)
      ∙ body right (sym (field_is right fill width t) ∙ e)
    where
      missing : width - length t ≡ padding
      missing = omega (arith, length_field t, ap length e)

      enough : width - (length slice - padding) ≡ padding
      enough = omega (arith, missing)

      body : (r : Bool) → cond r (t ++ replicate (width - length t) 32) (replicate (width - length t) (fill_byte flags sizes) ++ t) ≡ slice
          → cond r (cond (list_all (λ b. eqb b 32) (drop (length slice - padding) slice)) (Some (take (length slice - padding) slice)) None)
          (cond (list_all (λ b. eqb b (fill_byte flags sizes)) (take padding slice)) (Some (drop padding slice)) None) ≡ Some t
      body true e =
          let len : length slice - padding ≡ length t = omega (arith, long) in
          let front : take (length slice - padding) slice ≡ t = ap (λ n. take n slice) len ∙ ap (take (length t)) (sym e) ∙ take_at t (replicate (width - length t) 32) (length t) refl in
          let pad : drop (length slice - padding) slice ≡ replicate (width - length t) 32 = ap (λ n. drop n slice) len ∙ ap (drop (length t)) (sym e) ∙ drop_at t (replicate (width - length t) 32) (length t) refl in
          ap (λ r. cond (list_all (λ b. eqb b 32) r) (Some (take (length slice - padding) slice)) None) pad
          ∙ ap (λ s. cond s (Some (take (length slice - padding) slice)) None) (replicate_all 32 (width - length t)) ∙ ap Some front
      body false e =
          let pads : length (replicate (width - length t) (fill_byte flags sizes)) ≡ padding = length-replicate (width - length t) (fill_byte flags sizes) ∙ missing in
          let back : drop padding slice ≡ t = ap (drop padding) (sym e) ∙ drop_at (replicate (width - length t) (fill_byte flags sizes)) t padding pads in
          let pad : take padding slice ≡ replicate (width - length t) (fill_byte flags sizes) = ap (take padding) (sym e) ∙ take_at (replicate (width - length t) (fill_byte flags sizes)) t padding pads in
          ap (λ r. cond (list_all (λ b. eqb b (fill_byte flags sizes)) r) (Some (drop padding slice)) None) pad
          ∙ ap (λ s. cond s (Some (drop padding slice)) None) (replicate_all (fill_byte flags sizes) (width - length t)) ∙ ap Some back

-- ---- texts whose front prints bytes

no_zero : (t : List ℕ) → All (λ b. (b ≢ 0) × (b < 256)) t → list_any (λ b. eqb b 0) t ≡ false
no_zero [] h = refl
no_zero (b ∷ t) h =
    or_from (eqb b 0) (list_any (λ b. eqb b 0) t) (ne_eqb b 0 (All-head (λ b. (b ≢ 0) × (b < 256)) b t h).0) (no_zero t (All-tail (λ b. (b ≢ 0) × (b < 256)) b t h))

pub text_kind : (t : List ℕ) → list_any (λ b. eqb b 0) t ≡ false → All (λ b. b < 256) t → All (λ b. (b ≢ 0) × (b < 256)) t
text_kind [] z h = All-nil (λ b. (b ≢ 0) × (b < 256))
text_kind (b ∷ t) z h =
    let parts = or_parts (eqb b 0) (list_any (λ b. eqb b 0) t) z in
    All-cons (λ b. (b ≢ 0) × (b < 256)) b t (eqb-false b 0 parts.0, All-head (λ b. b < 256) b t h) (text_kind t parts.1 (All-tail (λ b. b < 256) b t h))

cut_kind : (precision : ℤ) (t : List ℕ) → All (λ b. (b ≢ 0) × (b < 256)) t → All (λ b. (b ≢ 0) × (b < 256)) (cut precision t)
cut_kind (pos n) t h = All-take (λ b. (b ≢ 0) × (b < 256)) n t h
cut_kind (negsuc n) t h = h

-- a text that begins with bytes
begins_take : (t whole : List ℕ) → begins t whole ≡ bytes_eq (take (length t) whole) t
begins_take [] whole = refl
begins_take (x ∷ t) [] = refl
begins_take (x ∷ t) (y ∷ whole) = both (λ (p q : Bool). p && q) (eqb_comm x y) (begins_take t whole)
  where
    eqb_comm : (x y : ℕ) → eqb x y ≡ eqb y x
    eqb_comm x y = grind (arith, nat_tests)

same_comm : (xs ys : List ℕ) → bytes_eq xs ys ≡ bytes_eq ys xs
same_comm xs ys = same_from_decides (bytes_eq xs ys) (bytes_eq ys xs) (bytes_eq-Decides xs ys) (back (bytes_eq-Decides ys xs).0, back' (bytes_eq-Decides ys xs).1)
  where
    back : (bytes_eq ys xs ≡ true → ys ≡ xs) → bytes_eq ys xs ≡ true → xs ≡ ys
    back f h = sym (f h)

    back' : (ys ≡ xs → bytes_eq ys xs ≡ true) → xs ≡ ys → bytes_eq ys xs ≡ true
    back' f h = f (sym h)

-- a cut text is these bytes where it is them, since they are shorter than the cut
cut_long : (n : ℕ) (t whole : List ℕ) → length t < n → bytes_eq (take n whole) t ≡ bytes_eq whole t
cut_long n t whole h = by (cases_le (length whole) n)
  where
    cases_le : (a b : ℕ) → (a ≤ b) ⊎ (b < a)
    cases_le a b = grind (arith, cases_lt b a)

    by : (length whole ≤ n) ⊎ (n < length whole) → bytes_eq (take n whole) t ≡ bytes_eq whole t
    by (inl le) = ap (λ r. bytes_eq r t) (take_all n whole le)
    by (inr lt) =
        false_from_ne_true (bytes_eq (take n whole) t) (λ e. absurd (omega (arith, ap length (same_bytes (take n whole) t e), length-take-le n whole (omega arith))))
        ∙ sym (false_from_ne_true (bytes_eq whole t) (λ e. absurd (omega (arith, ap length (same_bytes whole t e)))))

cut_short : (n : ℕ) (t whole : List ℕ) → n < length t → bytes_eq (take n whole) t ≡ false
cut_short n t whole h = false_from_ne_true (bytes_eq (take n whole) t) (λ e. absurd (omega (arith, ap length (same_bytes (take n whole) t e), length-take n whole)))

module _ (t whole : List ℕ) where
  abbrev ended_by : Bool → Bool → Bool → Option Bool
  ended_by null shorter equal = if null then None else if shorter then Some true else if equal then Some false else None

  pub ended_meets : (precision : ℤ) (ended : Bool) → text_ended precision t ≡ Some ended → meets (Text t ended) (arg.Text whole) ≡ bytes_eq (cut precision whole) t
  ended_meets (negsuc n) ended h = by (list_any (λ b. eqb b 0) t) h
    where
      by : (z : Bool) → ended_by z true (eqb (length t) (suc n)) ≡ Some ended → cond ended (bytes_eq t whole) (begins t whole) ≡ bytes_eq whole t
      by true e = absurd cc
      by false e = subst (λ s. cond s (bytes_eq t whole) (begins t whole) ≡ bytes_eq whole t) (some_same true ended e) (same_comm t whole)
        where
          some_same : (a b : Bool) → Some a ≡ Some b → a ≡ b
          some_same a b e = cc
  ended_meets (pos n) ended h = by (list_any (λ b. eqb b 0) t) (ltb (length t) n) (eqb (length t) n) refl refl (ap (λ s. ended_by (list_any (λ b. eqb b 0) t) (s || ltb (length t) n) (eqb (length t) n)) (sym (le-ltb n 0 (omega arith))) ∙ h)
    where
      by : (z s q : Bool) → ltb (length t) n ≡ s → eqb (length t) n ≡ q → ended_by z s q ≡ Some ended → cond ended (bytes_eq t whole) (begins t whole) ≡ bytes_eq (take n whole) t
      by true s q es eq e = absurd cc
      by false true q es eq e =
          subst (λ s. cond s (bytes_eq t whole) (begins t whole) ≡ bytes_eq (take n whole) t) (some_same true ended e) (same_comm t whole ∙ sym (cut_long n t whole (ltb-true _ _ es)))
        where
          some_same : (a b : Bool) → Some a ≡ Some b → a ≡ b
          some_same a b e = cc
      by false false true es eq e =
          subst (λ s. cond s (bytes_eq t whole) (begins t whole) ≡ bytes_eq (take n whole) t) (some_same false ended e)
          (begins_take t whole ∙ ap (λ k. bytes_eq (take k whole) t) (eqb-true _ _ eq))
        where
          some_same : (a b : Bool) → Some a ≡ Some b → a ≡ b
          some_same a b e = cc
      by false false false es eq e = absurd cc

  pub ended_none : (precision : ℤ) → text_ended precision t ≡ None → All (λ b. (b ≢ 0) × (b < 256)) whole → bytes_eq (cut precision whole) t ≡ false
  ended_none precision h k = by (list_any (λ b. eqb b 0) t) refl precision h k
    where
      by : (z : Bool) → list_any (λ b. eqb b 0) t ≡ z → (precision : ℤ)
          → ended_by z (is_negative precision || ltb (length t) (unsigned_abs precision)) (eqb (length t) (unsigned_abs precision)) ≡ None
          → All (λ b. (b ≢ 0) × (b < 256)) whole → bytes_eq (cut precision whole) t ≡ false
      by true z precision h k =
          false_from_ne_true (bytes_eq (cut precision whole) t)
          (λ e. both_ways (list_any (λ b. eqb b 0) t) (ap (list_any (λ b. eqb b 0)) (sym (same_bytes (cut precision whole) t e)) ∙ no_zero (cut precision whole) (cut_kind precision whole k)) z)
      by false z (negsuc n) h k = absurd cc
      by false z (pos n) h k =
          shorter (ltb (length t) n) (eqb (length t) n) refl refl (ap (λ s. ended_by false (s || ltb (length t) n) (eqb (length t) n)) (sym (le-ltb n 0 (omega arith))) ∙ h)
        where
          shorter : (s q : Bool) → ltb (length t) n ≡ s → eqb (length t) n ≡ q → ended_by false s q ≡ None → bytes_eq (take n whole) t ≡ false
          shorter true q es eq e = absurd cc
          shorter false true es eq e = absurd cc
          shorter false false es eq e = cut_short n t whole (above (ltb-false _ _ es) (eqb-false _ _ eq))
            where
              above : n ≤ length t → (length t ≡ n → ⊥) → n < length t
              above l d = omega arith

pub text_met : (t : List ℕ) (ended : Bool) → meets (Text t ended) (arg.Text t) ≡ true
text_met t true = (bytes_eq-Decides t t).1 refl
text_met t false = begins_self t
  where
    begins_self : (t : List ℕ) → begins t t ≡ true
    begins_self [] = refl
    begins_self (x ∷ t) = and_from (eqb x x) (begins t t) (eq-eqb x x refl) (begins_self t)

pub ended_plain : (precision : ℤ) (t : List ℕ) (ended : Bool) → text_ended precision t ≡ Some ended → list_any (λ b. eqb b 0) t ≡ false
ended_plain precision t ended h = by (list_any (λ b. eqb b 0) t) h
  where
    by : (z : Bool) → cond z None (if is_negative precision || ltb (length t) (unsigned_abs precision) then Some true else if eqb (length t) (unsigned_abs precision) then Some false else None) ≡ Some ended → z ≡ false
    by true e = absurd cc
    by false e = refl

-- a part of bytes
part_all : (P : ℕ → Type 0) (slice : List ℕ) (r : Bool) (t p q : List ℕ) → cond r (t ++ p) (q ++ t) ≡ slice → All P slice → All P t
part_all P slice true t p q e h = subst (λ x. All P x) (take_at t p (length t) refl) (All-take P (length t) (t ++ p) (subst (λ x. All P x) (sym e) h))
part_all P slice false t p q e h = subst (λ x. All P x) (drop_at q t (length q) refl) (All-drop P (length q) (q ++ t) (subst (λ x. All P x) (sym e) h))

pub unpadded_all : (P : ℕ → Type 0) (flags : Flags) (sizes : Sizes) (slice t : List ℕ) (padding : ℕ) → padding ≤ length slice → unpadded flags sizes slice padding ≡ Some t → All P slice → All P t
unpadded_all P flags sizes slice t padding h e =
    part_all P slice (pads_right flags sizes) t _ _ (sym (field_is (pads_right flags sizes) (fills_zeros flags sizes.precision.value) (unsigned_abs sizes.width.value) t) ∙ (unpadded_prints flags sizes slice t padding h e).0)

-- ---- one padding

module _ (flags : Flags) (sizes : Sizes) (slice : List ℕ) (end padding : ℕ) where
  abbrev front : List ℕ → List ℕ
  front whole = cut sizes.precision.value whole

  abbrev in_its_field : List ℕ → List ℕ
  in_its_field whole = formed flags form.Text sizes.width.value sizes.precision.value (arg.Text whole)

  -- the text that prints the bytes with this padding is the one beside it
  padded_none : (whole : List ℕ) → ((length slice ≡ length (front whole) + padding) → in_its_field whole ≡ slice → ⊥) → padded_end flags sizes slice end padding (arg.Text whole) ≡ []
  padded_none whole h = by (eqb (length slice) (length (front whole) + padding)) refl
    where
      by : (b : Bool) → eqb (length slice) (length (front whole) + padding) ≡ b → cond b (here (in_its_field whole) slice end) [] ≡ []
      by true e = here_false (in_its_field whole) slice end (λ p. h (eqb-true _ _ e) (same_bytes (in_its_field whole) slice p))
      by false e = refl

  padded_one : (whole : List ℕ) → length slice ≡ length (front whole) + padding → in_its_field whole ≡ slice → padded_end flags sizes slice end padding (arg.Text whole) ≡ end ∷ []
  padded_one whole l e =
      ap (λ b. cond b (here (in_its_field whole) slice end) []) (eq-eqb _ _ l) ∙ ap (λ b. cond b (end ∷ []) []) ((bytes_eq-Decides (in_its_field whole) slice).1 e)

  pub padded_not : unpadded flags sizes slice padding ≡ None → (a : Arg) → HasKind kind.Text a → padded_end flags sizes slice end padding a ≡ []
  padded_not h (arg.Word x w s) k = absurd k
  padded_not h arg.Null k = absurd k
  padded_not h (arg.Shown n) k = absurd k
  padded_not h (arg.Text whole) k = padded_none whole (λ l e. differ (front whole) (sym h ∙ prints_unpadded flags sizes slice (front whole) padding e l))
    where
      differ : (t : List ℕ) → None ≡ Some t → ⊥
      differ t e = cc

  module _ (t : List ℕ) (fits : padding ≤ length slice) (beside : unpadded flags sizes slice padding ≡ Some t) where
    same_text : (whole : List ℕ) → length slice ≡ length (front whole) + padding → in_its_field whole ≡ slice → front whole ≡ t
    same_text whole l e = some_same (front whole) t (sym (prints_unpadded flags sizes slice (front whole) padding e l) ∙ beside)
      where
        some_same : (x y : List ℕ) → Some x ≡ Some y → x ≡ y
        some_same x y e = cc

    pub padded_prints : (ended : Bool) → text_ended sizes.precision.value t ≡ Some ended → (a : Arg) → HasKind kind.Text a → cond (meets (Text t ended) a) (end ∷ []) [] ≡ padded_end flags sizes slice end padding a
    padded_prints ended h (arg.Word x w s) k = absurd k
    padded_prints ended h arg.Null k = absurd k
    padded_prints ended h (arg.Shown n) k = absurd k
    padded_prints ended h (arg.Text whole) k =
        ap (λ b. cond b (end ∷ []) []) (ended_meets t whole sizes.precision.value ended h) ∙ by (bytes_eq (front whole) t) refl
      where
        by : (b : Bool) → bytes_eq (front whole) t ≡ b → cond b (end ∷ []) [] ≡ padded_end flags sizes slice end padding (arg.Text whole)
        by true e =
            let is = same_bytes (front whole) t e in
            let r = unpadded_prints flags sizes slice t padding fits beside in
            sym (padded_one whole (r.1 ∙ ap (λ x. length x + padding) (sym is)) (ap (λ x. field flags sizes x) is ∙ r.0))
        by false e = sym (padded_none whole (λ l p. both_ways (bytes_eq (front whole) t) e ((bytes_eq-Decides (front whole) t).1 (same_text whole l p))))

    pub padded_cut : text_ended sizes.precision.value t ≡ None → (a : Arg) → HasKind kind.Text a → padded_end flags sizes slice end padding a ≡ []
    padded_cut h (arg.Word x w s) k = absurd k
    padded_cut h arg.Null k = absurd k
    padded_cut h (arg.Shown n) k = absurd k
    padded_cut h (arg.Text whole) k =
        padded_none whole (λ l p. both_ways (bytes_eq (front whole) t) (ended_none t whole sizes.precision.value h k) ((bytes_eq-Decides (front whole) t).1 (same_text whole l p)))

-- ---- all paddings

module _ (flags : Flags) (sizes : Sizes) (slice : List ℕ) (end : ℕ) where
  abbrev at_padding : Arg → ℕ → List ℕ
  at_padding a padding = padded_end flags sizes slice end padding a

  abbrev text_of_arg : Arg → List ℕ
  text_of_arg a = cut sizes.precision.value (text_bytes a)

  -- only the padding that the lengths leave
  other_padding : (a : Arg) (padding : ℕ) → padding ≢ length slice - length (text_of_arg a) → at_padding a padding ≡ []
  other_padding a padding h = by (eqb (length slice) (length (text_of_arg a) + padding)) refl
    where
      by : (b : Bool) → eqb (length slice) (length (text_of_arg a) + padding) ≡ b → cond b (formed_end flags form.Text sizes slice end a) [] ≡ []
      by true e = absurd (h (omega (arith, eqb-true _ _ e)))
      by false e = refl

  -- what is printed is as long as its field, or as the text
  pub all_paddings : (most : ℕ) → ((unsigned_abs sizes.width.value ≡ length slice) → most ≡ length slice) → (a : Arg) → HasKind kind.Text a
      → upto (λ padding. padded_end flags sizes slice end padding a) (most + 1) ≡ formed_end flags form.Text sizes slice end a
  all_paddings most h (arg.Word x w s) k = absurd k
  all_paddings most h arg.Null k = absurd k
  all_paddings most h (arg.Shown n) k = absurd k
  all_paddings most h (arg.Text whole) k = by (bytes_eq (formed flags form.Text sizes.width.value sizes.precision.value (arg.Text whole)) slice) refl
    where
      a : Arg
      a = arg.Text whole

      by : (b : Bool) → bytes_eq (formed flags form.Text sizes.width.value sizes.precision.value (arg.Text whole)) slice ≡ b
          → upto (λ padding. padded_end flags sizes slice end padding (arg.Text whole)) (most + 1) ≡ cond b (end ∷ []) []
      by true e =
          let is = same_bytes (formed flags form.Text sizes.width.value sizes.precision.value (arg.Text whole)) slice e in
          let long : length slice ≡ max (unsigned_abs sizes.width.value) (length (cut sizes.precision.value whole)) = ap length (sym is) ∙ length_field flags sizes (cut sizes.precision.value whole) in
          let here' : length slice ≡ length (cut sizes.precision.value whole) + (length slice - length (cut sizes.precision.value whole)) = omega (arith, long) in
          upto_one (λ padding. padded_end flags sizes slice end padding (arg.Text whole)) (length slice - length (cut sizes.precision.value whole)) (most + 1)
          (below (unsigned_abs sizes.width.value) (length slice) (length (cut sizes.precision.value whole)) long h)
          (λ padding d. other_padding (arg.Text whole) padding d)
          ∙ ap (λ t. cond t (formed_end flags form.Text sizes slice end (arg.Text whole)) []) (eq-eqb _ _ here') ∙ ap (λ t. cond t (end ∷ []) []) e
        where
          below : (w l t : ℕ) → l ≡ max w t → (w ≡ l → most ≡ l) → l - t < most + 1
          below w l t e f = by' (cases_eq w l)
            where
              by' : (w ≡ l) ⊎ (w ≡ l → ⊥) → l - t < most + 1
              by' (inl p) = omega (arith, f p)
              by' (inr n) = omega arith
      by false e = upto_none (λ padding. padded_end flags sizes slice end padding (arg.Text whole)) (most + 1)
          (λ padding. nothing (eqb (length slice) (length (cut sizes.precision.value whole) + padding)))
        where
          nothing : (t : Bool) → cond t (formed_end flags form.Text sizes slice end (arg.Text whole)) [] ≡ []
          nothing true = ap (λ t. cond t (end ∷ []) []) e
          nothing false = refl
