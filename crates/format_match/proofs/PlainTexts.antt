-- Where `%s` ends: at each position up to the first byte 0.
use Rattle.std.proofs.Common.{◌≡◌, ◌≢◌, ℕ, zero, suc, ◌+◌, ◌-◌, ◌<◌, ◌≤◌, ◌↔◌, Bool, true, false, not, ◌&&◌, ◌||◌, eqb, ltb, inl, inr, ◌⊎◌, negsuc, List, [], ◌∷◌, ◌++◌, length, take, drop, get_or, set, replicate, refl, sym, ap, subst, ◌∙◌, arith, append-nil}
use Rattle.std.proofs.lemmas.List.{drop_more}
use Rattle.std.proofs.lemmas.List.Elements.{All-cons, All-nil, All-append, All-get_or, All-head, All-tail}
use Rattle.std.proofs.lemmas.Bool.{and_parts, and_from, or_cases, or_left, or_right, eqb-true, eq-eqb, eqb-false, ne_eqb, ltb-true, lt-ltb, le-ltb, cases_eq, cases_lt}
use Rattle.printf_text.specs.declared.piece.Arg.{Arg}
use Rattle.printf_text.specs.declared.piece.Arg.TheVariants as arg
use Rattle.printf_text.specs.declared.piece.Flags.{Flags}
use Rattle.printf_text.specs.declared.piece.Form.{Form}
use Rattle.printf_text.specs.declared.piece.Form.TheVariants as form
use Rattle.printf_text.specs.declared.piece.Piece.{Piece}
use Rattle.printf_text.specs.declared.piece.Piece.TheVariants.{Literal, Converted}
use Rattle.printf_text.specs.declared.piece.Size.{Size}
use Rattle.printf_text.specs.declared.piece.Size.TheVariants.{Omitted, Written, Star}
use Rattle.printf_text.specs.declared.kind.Kind.TheVariants as kind
use Rattle.printf_text.specs.Texts.{HasKind, HaveKinds, plain, in_field, fills_zeros, conversion_text}
use Rattle.positions.specs.Sets.{has, are_before}
use Rattle.format_match.specs.Splits.{Spells, begins}
use Rattle.format_match.specs.Spelled.{IsPieceSpelled, IsBehind, EndsBehind, AreWithin, plain_text, is_plain_text, has_no_sizes, is_text, is_printed, goes_on, may_end}
use Rattle.format_match.specs.Beginning.{is_marked, Leads, LeadExactly}
use Rattle.format_match.proofs.Reached.{spells_begins, spells_end, spells_from, taken, joined, cut}
use Rattle.format_match.proofs.Onwards.{leads_less, leads_within}
use Rattle.format_match.proofs.Markings.{AreFrom, from_more, from_next}

-- ---- the text of `%s` is its argument

nothing_before : (flags : Flags) (t : List ℕ) → in_field flags.left (fills_zeros flags (negsuc 0)) 0 (plain t) ≡ t
nothing_before flags t = by flags.left (fills_zeros flags (negsuc 0))
  where
    gone : 0 - length t ≡ 0
    gone = omega arith

    by : (a b : Bool) → in_field a b 0 (plain t) ≡ t
    by true b = ap (λ m. t ++ replicate m 32) gone ∙ append-nil t
    by false true = ap (λ m. replicate m 48 ++ t) gone
    by false false = ap (λ m. replicate m 32 ++ [] ++ t) gone

or_false : (b : Bool) → (b || false) ≡ b
or_false true = refl
or_false false = refl

text_is : (flags : Flags) (t : List ℕ) → conversion_text (plain_text flags) (arg.Text t ∷ []) ≡ t
text_is flags t = ap (λ b. in_field b (fills_zeros flags (negsuc 0)) 0 (plain t)) (or_false flags.left) ∙ nothing_before flags t

-- ---- bytes of a log

dropped : (n : ℕ) (xs : List ℕ) (k : ℕ) → get_or (drop n xs) k 0 ≡ get_or xs (n + k) 0
dropped zero xs k = ap (λ m. get_or xs m 0) (omega arith)
dropped (suc n) [] k = refl
dropped (suc n) (x ∷ xs) k = dropped n xs k ∙ ap (λ m. get_or (x ∷ xs) m 0) (next n k)
  where
    next : (n k : ℕ) → suc (n + k) ≡ suc n + k
    next n k = omega arith

begins_at : (t rest : List ℕ) (k : ℕ) → begins t rest ≡ true → suc k ≤ length t → get_or rest k 0 ≡ get_or t k 0
begins_at [] rest k e h = absurd (omega arith)
begins_at (x ∷ t) [] k e h = absurd cc
begins_at (x ∷ t) (y ∷ rest) zero e h = sym (eqb-true x y (and_parts (eqb x y) (begins t rest) e).0)
begins_at (x ∷ t) (y ∷ rest) (suc k) e h = begins_at t rest k (and_parts (eqb x y) (begins t rest) e).1 (omega arith)

-- ---- bytes that a text may hold

abbrev IsText : List ℕ → Type 0
IsText t = HasKind kind.Text (arg.Text t)

module _ (flags : Flags) (log : List ℕ) (fits : (k : ℕ) → get_or log k 0 < 256) where
  abbrev piece : Piece
  piece = Converted (plain_text flags)

  spelled_by : (t : List ℕ) (from end : ℕ) → IsText t → Spells t log from end → IsPieceSpelled piece log from end
  spelled_by t from end k s = record { args = arg.Text t ∷ []; have = (k, tt); spells = subst (λ u. Spells u log from end) (sym (text_is flags t)) s }

  -- a text is what spells there
  record IsTextThere (from end : ℕ) : Type 0 where
    text : List ℕ
    is_text : IsText text
    spells : Spells text log from end

  text_there : (from end : ℕ) → IsPieceSpelled piece log from end → IsTextThere from end
  text_there from end p = by p.args p.have p.spells
    where
      by : (args : List Arg) → HaveKinds (kind.Text ∷ []) args → Spells (conversion_text (plain_text flags) args) log from end → IsTextThere from end
      by [] h s = absurd h
      by (arg.Text t ∷ []) h s = record { text = t; is_text = h.0; spells = subst (λ u. Spells u log from end) (text_is flags t) s }
      by (arg.Text t ∷ b ∷ args) h s = absurd h.1
      by (arg.Word a w g ∷ args) h s = absurd h.0
      by (arg.Null ∷ args) h s = absurd h.0
      by (arg.Shown n ∷ args) h s = absurd h.0

  printed_byte : (n : ℕ) → is_printed log n ≡ true → (n < length log) × ((get_or log n 0 ≢ 0) × (get_or log n 0 < 256))
  printed_byte n h =
      let p = and_parts (ltb n (length log)) (not (eqb (get_or log n 0) 0)) h in
      (ltb-true n (length log) p.0, (no (eqb (get_or log n 0) 0) refl p.1, fits n))
    where
      no : (b : Bool) → eqb (get_or log n 0) 0 ≡ b → not b ≡ true → get_or log n 0 ≢ 0
      no true e q = absurd cc
      no false e q = eqb-false (get_or log n 0) 0 e

  -- one byte more
  spells_one : (n : ℕ) → n < length log → Spells (get_or log n 0 ∷ []) log n (n + 1)
  spells_one n h =
      let one : n + 1 - n ≡ 1 = omega arith in
      record {
        ordered = omega arith;
        within = omega arith;
        is = ap (λ l. take 1 l) (sym (drop_more log n 0 h)) ∙ ap (λ k. take k (drop n log)) (sym one);
      }

  empty_there : (n : ℕ) → n ≤ length log → IsPieceSpelled piece log n n
  empty_there n h = spelled_by [] n n (All-nil (λ b. (b ≢ 0) × (b < 256))) (subst (λ m. Spells [] log n m) (omega arith) (spells_from [] log n h refl))

  more_there : (from n : ℕ) → IsPieceSpelled piece log from n → is_printed log n ≡ true → IsPieceSpelled piece log from (n + 1)
  more_there from n p h =
      let t = text_there from n p in
      let b = printed_byte n h in
      spelled_by (t.text ++ get_or log n 0 ∷ []) from (n + 1)
      (All-append (λ b. (b ≢ 0) × (b < 256)) t.text (get_or log n 0 ∷ []) t.is_text (All-cons (λ b. (b ≢ 0) × (b < 256)) (get_or log n 0) [] b.1 (All-nil (λ b. (b ≢ 0) × (b < 256)))))
      (joined t.text (get_or log n 0 ∷ []) log from n (n + 1) t.spells (spells_one n b.0))

  -- ---- a text from the front, byte by byte

  text_first : (at end : ℕ) → IsPieceSpelled piece log at end → at < end → (is_printed log at ≡ true) × IsPieceSpelled piece log (at + 1) end
  text_first at end p h = let t = text_there at end p in by t.text t.is_text t.spells
    where
      by : (t : List ℕ) → IsText t → Spells t log at end → (is_printed log at ≡ true) × IsPieceSpelled piece log (at + 1) end
      by [] i s = absurd (omega (arith, spells_end [] log at end s))
      by (x ∷ u) i s =
          let c = cut (x ∷ []) u log at end s in
          let one : c.mid ≡ at + 1 = sym (spells_end (x ∷ []) log at c.mid c.front) in
          let byte : get_or log at 0 ≡ x = ap (λ n. get_or log n 0) (same at) ∙ sym (dropped at log 0) ∙ begins_at (x ∷ u) (drop at log) 0 (spells_begins (x ∷ u) log at end s) (omega arith) in
          let fact = All-head (λ b. (b ≢ 0) × (b < 256)) x u i in (
            and_from (ltb at (length log)) (not (eqb (get_or log at 0) 0)) (lt-ltb at (length log) (omega (arith, s.within))) (ap not (ne_eqb (get_or log at 0) 0 (λ z. fact.0 (sym byte ∙ z)))),
            spelled_by u (at + 1) end (All-tail (λ b. (b ≢ 0) × (b < 256)) x u i) (subst (λ m. Spells u log m end) one c.back),
          )
        where
          same : (n : ℕ) → n ≡ n + 0
          same n = omega arith

  pub text_on_back : (marks : List Bool) (at : ℕ) → is_printed log at ≡ true → Leads piece log marks 0 (at + 1) → Leads piece log marks 1 at
  text_on_back marks at h l =
      let t = text_there (at + 1) l.end l.spelled in
      let b = printed_byte at h in
      record {
        end = l.end;
        long = omega (arith, l.long);
        marked = l.marked;
        spelled = spelled_by (get_or log at 0 ∷ t.text) at l.end (All-cons (λ b. (b ≢ 0) × (b < 256)) (get_or log at 0) t.text b.1 t.is_text)
            (joined (get_or log at 0 ∷ []) t.text log at (at + 1) l.end (spells_one at b.0) t.spells);
      }

  pub text_on_there : (marks : List Bool) (at : ℕ) → Leads piece log marks 1 at → (is_printed log at ≡ true) × Leads piece log marks 0 (at + 1)
  text_on_there marks at l =
      let f = text_first at l.end l.spelled (omega (arith, l.long)) in
      (f.0, record { end = l.end; long = omega (arith, f.1.spells.ordered); marked = l.marked; spelled = f.1 })

  -- where the next position is known, so is this one
  pub text_leads_is : (marks before : List Bool) (at : ℕ) (b : Bool) → at < length log + 1 → b ≡ (is_marked marks at || is_printed log at && is_marked before (at + 1))
      → ((is_marked before (at + 1) ≡ true) ↔ Leads piece log marks 0 (at + 1)) → (b ≡ true) ↔ Leads piece log marks 0 at
  text_leads_is marks before at b h e n = (there, back)
    where
      there : b ≡ true → Leads piece log marks 0 at
      there t = elim (or_cases (is_marked marks at) (is_printed log at && is_marked before (at + 1)) (sym e ∙ t)) [
        | inl m ↦ record { end = at; long = omega arith; marked = m; spelled = empty_there at (omega arith) }
        | inr r ↦ (let p = and_parts (is_printed log at) (is_marked before (at + 1)) r in leads_less piece log marks at (text_on_back marks at p.0 (n.0 p.1)))
      ]

      back : Leads piece log marks 0 at → b ≡ true
      back l = e ∙ elim (cases_lt at l.end) [
        | inl h ↦ or_right (is_marked marks at) (is_printed log at && is_marked before (at + 1))
            (let r = text_on_there marks at (record { end = l.end; long = omega arith; marked = l.marked; spelled = l.spelled }) in
            and_from (is_printed log at) (is_marked before (at + 1)) r.0 (n.1 r.1))
        | inr g ↦ or_left (is_marked marks at) (is_printed log at && is_marked before (at + 1)) (subst (λ k. is_marked marks k ≡ true) (omega (arith, l.long)) l.marked)
      ]

  pub text_set : (marks before view : List Bool) (at k : ℕ) (b : Bool) → at ≡ k + 1 → at ≤ length log + 1 → view ≡ before
      → b ≡ (is_marked marks k || is_printed log k && is_marked view (k + 1)) → AreFrom (λ y. Leads piece log marks 0 y) at (length log + 1) before
      → AreFrom (λ y. Leads piece log marks 0 y) k (length log + 1) (set before k b)
  text_set marks before view at k b e h v t a =
      from_more (λ y. Leads piece log marks 0 y) at k (length log + 1) before b e (omega arith)
      (text_leads_is marks before k b (omega arith) (t ∙ ap (λ l. is_marked marks k || is_printed log k && is_marked l (k + 1)) v)
      (subst (λ j. (is_marked before j ≡ true) ↔ Leads piece log marks 0 j) e (from_next (λ y. Leads piece log marks 0 y) at (length log + 1) before a (λ y l. omega (arith, leads_within piece log marks 0 y l)))))
      a

  pub text_on_is : (marks before : List Bool) (at : ℕ) (b : Bool) → b ≡ (is_printed log at && is_marked before (at + 1)) → LeadExactly piece log marks 0 before → (b ≡ true) ↔ Leads piece log marks 1 at
  text_on_is marks before at b e x = (
    λ t. (let p = and_parts (is_printed log at) (is_marked before (at + 1)) (sym e ∙ t) in text_on_back marks at p.0 ((x (at + 1)).0 p.1)),
    λ l. (let r = text_on_there marks at l in e ∙ and_from (is_printed log at) (is_marked before (at + 1)) r.0 ((x (at + 1)).1 r.1)),
  )

  -- ---- where a text may end it does, and nowhere else

  module _ (before : List ℕ) (within : AreWithin log before) where
    ends_there : (n : ℕ) → may_end before log n ≡ true → IsBehind piece log before n
    ends_there zero h = record { from = 0; begins = h; spelled = empty_there 0 (omega arith) }
    ends_there (suc n) h = elim (or_cases (goes_on before log (suc n)) (has before (suc n)) h) [
      | inl g ↦ (let p = and_parts (goes_on before log n || has before n) (is_printed log n) g in
          let r = ends_there n p.0 in
          record { from = r.from; begins = r.begins; spelled = subst (λ m. IsPieceSpelled piece log r.from m) (omega arith) (more_there r.from n r.spelled p.1) })
      | inr b ↦ record { from = suc n; begins = b; spelled = empty_there (suc n) (within (suc n) b) }
    ]

    -- from a beginning on, as long as its text goes on
    going : (from : ℕ) → has before from ≡ true → (k : ℕ) (t : List ℕ) → IsText t → Spells t log from (from + length t) → k ≤ length t → may_end before log (from + k) ≡ true
    going from b zero t i s h = ap (λ n. may_end before log n) (zeroed from) ∙ or_right (goes_on before log from) (has before from) b
      where
        zeroed : (n : ℕ) → n + 0 ≡ n
        zeroed n = omega arith
    going from b (suc k) t i s h =
        let here : may_end before log (from + k) ≡ true = going from b k t i s (omega arith) in
        let byte : get_or log (from + k) 0 ≡ get_or t k 0 = byte_at t k (spells_begins t log from (from + length t) s) (omega arith) in
        let fact = All-get_or (λ c. (c ≢ 0) × (c < 256)) t k 0 (omega arith) i in
        let printed : is_printed log (from + k) ≡ true = and_from (ltb (from + k) (length log)) (not (eqb (get_or log (from + k) 0) 0)) (lt-ltb (from + k) (length log) (omega (arith, s.within)))
        (ap not (ne_eqb (get_or log (from + k) 0) 0 (λ z. fact.0 (sym byte ∙ z)))) in
        ap (λ n. may_end before log n) (next from k) ∙ or_left (goes_on before log (suc (from + k))) (has before (suc (from + k))) (and_from (may_end before log (from + k)) (is_printed log (from + k)) here printed)
      where
        next : (n m : ℕ) → n + suc m ≡ suc (n + m)
        next n m = omega arith

        byte_at : (t : List ℕ) (k : ℕ) → begins t (drop from log) ≡ true → suc k ≤ length t → get_or log (from + k) 0 ≡ get_or t k 0
        byte_at t k e h = sym (dropped from log k) ∙ begins_at t (drop from log) k e h

    there_ends : (n : ℕ) → IsBehind piece log before n → may_end before log n ≡ true
    there_ends n r =
        let t = text_there r.from n r.spelled in
        let e : r.from + length t.text ≡ n = spells_end t.text log r.from n t.spells in
        subst (λ m. may_end before log m ≡ true) e (going r.from r.begins (length t.text) t.text t.is_text (subst (λ m. Spells t.text log r.from m) (sym e) t.spells) (omega arith))

    pub texts_end : (ends : List ℕ) → ((y : ℕ) → has ends y ≡ (ltb y (length log + 1) && may_end before log y)) → EndsBehind piece log before ends
    texts_end ends h end = (
      λ m. ends_there end (and_parts (ltb end (length log + 1)) (may_end before log end) (sym (h end) ∙ m)).1,
      λ r. h end ∙ and_from (ltb end (length log + 1)) (may_end before log end) (lt-ltb end (length log + 1) (omega (arith, r.spelled.spells.within))) (there_ends end r),
    )

-- the piece is `%s`
pub plain_is : (p : Piece) → is_plain_text p ≡ true → (flags : Flags) × (p ≡ Converted (plain_text flags))
plain_is (Literal bytes) h = absurd cc
plain_is (Converted c) h = by c.flags c.width c.precision c.form h
  where
    by : (flags : Flags) (w q : Size) (f : Form) → has_no_sizes w q && is_text f ≡ true → (g : Flags) × (Converted (record { flags = flags; width = w; precision = q; form = f }) ≡ Converted (plain_text g))
    by flags Omitted Omitted form.Text h = (flags, refl)
    by flags Omitted Omitted (form.Signed w) h = absurd cc
    by flags Omitted Omitted (form.Unsigned r w) h = absurd cc
    by flags Omitted Omitted form.Char h = absurd cc
    by flags Omitted Omitted form.Pointer h = absurd cc
    by flags Omitted (Written n) f h = absurd cc
    by flags Omitted Star f h = absurd cc
    by flags (Written n) q f h = absurd cc
    by flags Star q f h = absurd cc

-- ---- marks

pub mark_more : (marks : List Bool) (before : List ℕ) (i : ℕ) → i < length before → get_or before i 0 < length marks → ((y : ℕ) → get_or marks y false ≡ has (take i before) y) → (y : ℕ)
    → get_or (set marks (get_or before i 0) true) y false ≡ has (take (i + 1) before) y
mark_more marks before i h l m y = by (cases_eq (get_or before i 0) y)
  where
    same : (bs : List Bool) (k : ℕ) → k < length bs → get_or (set bs k true) k false ≡ true
    same [] k h = absurd (omega arith)
    same (b ∷ bs) zero h = refl
    same (b ∷ bs) (suc k) h = same bs k (omega arith)

    other : (bs : List Bool) (k y : ℕ) → (k ≡ y → ⊥) → get_or (set bs k true) y false ≡ get_or bs y false
    other [] k y n = refl
    other (b ∷ bs) zero zero n = absurd (n refl)
    other (b ∷ bs) zero (suc y) n = refl
    other (b ∷ bs) (suc k) zero n = refl
    other (b ∷ bs) (suc k) (suc y) n = other bs k y (λ e. n (ap suc e))

    by : (get_or before i 0 ≡ y) ⊎ (get_or before i 0 ≡ y → ⊥) → get_or (set marks (get_or before i 0) true) y false ≡ has (take (i + 1) before) y
    by (inl e) =
        subst (λ n. get_or (set marks (get_or before i 0) true) n false ≡ has (take (i + 1) before) n) e
        (same marks (get_or before i 0) l ∙ sym (taken before i (get_or before i 0) h ∙ or_right (has (take i before) (get_or before i 0)) (eqb (get_or before i 0) (get_or before i 0)) (eq-eqb (get_or before i 0) (get_or before i 0) refl)))
    by (inr n) =
        other marks (get_or before i 0) y n ∙ m y ∙ sym (taken before i y h ∙ ap (λ b. has (take i before) y || b) (ne_eqb (get_or before i 0) y n) ∙ or_false (has (take i before) y))

-- one more position, where it is wanted
pub ends_one : (f : ℕ → Bool) (at y : ℕ) (old now wanted : Bool) → old ≡ (ltb y at && f y) → wanted ≡ f at → now ≡ (old || (wanted && eqb at y))
    → now ≡ (ltb y (at + 1) && f y)
ends_one f at y old now wanted o w n = n ∙ by (cases_eq at y)
  where
    none : (a b : Bool) → (a || b && false) ≡ a
    none true true = refl
    none true false = refl
    none false true = refl
    none false false = refl

    and_true : (b : Bool) → (b && true) ≡ b
    and_true true = refl
    and_true false = refl

    apart : (at ≡ y → ⊥) → (y < at) ⊎ (at ≤ y) → ltb y at ≡ ltb y (at + 1)
    apart d (inl h) = lt-ltb y at h ∙ sym (lt-ltb y (at + 1) (omega arith))
    apart d (inr h) = le-ltb y at h ∙ sym (le-ltb y (at + 1) (omega arith))

    here : (y : ℕ) → at ≡ y → old ≡ (ltb y at && f y) → (old || (wanted && eqb at y)) ≡ (ltb y (at + 1) && f y)
    here y e q =
        let a : ltb y at ≡ false = le-ltb y at (omega arith) in
        let b : ltb y (at + 1) ≡ true = lt-ltb y (at + 1) (omega arith) in
        ap (λ z. z || (wanted && eqb at y)) (q ∙ ap (λ z. z && f y) a) ∙ ap (λ z. wanted && z) (eq-eqb at y e) ∙ and_true wanted ∙ w
        ∙ ap f e ∙ ap (λ z. z && f y) (sym b)

    by : (at ≡ y) ⊎ (at ≡ y → ⊥) → (old || (wanted && eqb at y)) ≡ (ltb y (at + 1) && f y)
    by (inl e) = here y e o
    by (inr d) = ap (λ z. old || (wanted && z)) (ne_eqb at y d) ∙ none old wanted ∙ o ∙ ap (λ z. z && f y) (apart d (cases_lt y at))

-- what stands before a position stands before the next
pub before_up : (xs : List ℕ) (at : ℕ) → are_before at xs ≡ true → are_before (at + 1) xs ≡ true
before_up [] at h = refl
before_up (x ∷ xs) at h =
    let p = and_parts (ltb x at) (are_before at xs) h in
    and_from (ltb x (at + 1)) (are_before (at + 1) xs) (lt-ltb x (at + 1) (omega (arith, ltb-true x at p.0))) (before_up xs at p.1)
