-- In which lines of a log a site's prints begin.
use Rattle.std.proofs.Common.{◌≡◌, ℕ, zero, suc, ◌+◌, ◌<◌, ◌≤◌, ◌↔◌, ◌||◌, ◌⊎◌, eqb, Bool, true, false, List, [], ◌∷◌, ◌++◌, length, get_or, take, Option, Some, None, refl, sym, ap, subst, ◌∙◌, add-one, arith, inl, inr}
use Rattle.std.specs.Prelude.{slice_get}
use Rattle.std.proofs.Math.Nat.{eq-or-lt_of_le}
use Rattle.std.proofs.lemmas.Bool.{or_cases, or_left, or_right, eqb-true, eq-eqb}
use Rattle.std.proofs.lemmas.List.{length-append, get_or_append_left, get_or_push, take_all}
use Rattle.std.proofs.lemmas.Option.{slice_get-get_or, slice_get_within}
use Rattle.plain_data.specs.declared.fact.Facts.{Facts}
use Rattle.printf_text.specs.declared.piece.Piece.{Piece}
use Rattle.log_text.specs.Lines.{line_of}
use Rattle.positions.specs.Sets.{has, ascends}
use Rattle.positions.proofs.Order.{has_taken}
use Rattle.format_match.specs.Beginning.{IsBegun, BeginsExactly}
use Rattle.core_tree.specs.declared.expr.Watched.{Watched as Variable}
use Rattle.core_marks.specs.declared.mark.Site.{Site}
use Rattle.program_facts.specs.Entries.{with_all}
use Rattle.program_facts.specs.Prints.{IsPrintedIn, AreLinesOf, ArePrintsOf, PutsPrints, print_entries, line_table, PutsLine, IsLineOf, IsAmongLines}

-- ---- the line of each position

table_len : (log : List ℕ) (n : ℕ) → length (line_table log n) ≡ n
table_len log zero = refl
table_len log (suc n) = omega (arith, length-append (line_table log n) (line_of log n ∷ []), table_len log n)

table_at : (log : List ℕ) (n i : ℕ) → i < n → get_or (line_table log n) i 0 ≡ line_of log i
table_at log zero i h = absurd (omega arith)
table_at log (suc n) i h = elim (eq-or-lt_of_le (within i h)) [
  | inl e ↦ ap (λ k. get_or (line_table log (suc n)) k 0) e
      ∙ get_or_push (line_table log n) (line_of log n) 0 n (table_len log n) ∙ ap (line_of log) (sym e)
  | inr l ↦ get_or_append_left (line_table log n) (line_of log n ∷ []) 0 i (subst (λ k. i < k) (sym (table_len log n)) l)
      ∙ table_at log n i l
]
  where
    within : (i : ℕ) → i < suc n → i ≤ n
    within i h = omega arith

pub table_get : (log : List ℕ) (n i : ℕ) → i < n → slice_get (line_table log n) i ≡ Some (line_of log i)
table_get log n i h =
    slice_get-get_or (line_table log n) i 0 (subst (λ k. i < k) (sym (table_len log n)) h) ∙ ap Some (table_at log n i h)

pub table_more : (log : List ℕ) (n : ℕ) (old now : List ℕ) → old ≡ line_table log n → now ≡ old ++ line_of log n ∷ [] → now ≡ line_table log (n + 1)
table_more log n old now p q = q ∙ ap (λ t. t ++ line_of log n ∷ []) p ∙ ap (line_table log) (sym (add-one n))

-- ---- the lines of positions

same_line : (x y : Option ℕ) (a b : ℕ) → x ≡ Some a → y ≡ Some b → x ≡ y → a ≡ b
same_line x y a b p q e = cc

module _ (table starts : List ℕ) (i start : ℕ) (h : i < length starts) (e : start ≡ get_or starts i start) where
  -- a position with a line
  pub line_more : (line : ℕ) (old now : List ℕ) → slice_get table start ≡ Some line → ((y : ℕ) → has now y ≡ (has old y || eqb line y))
      → ((k : ℕ) → IsAmongLines table (take i starts) k old) → (k : ℕ) → IsAmongLines table (take (i + 1) starts) k now
  line_more line old now at is b k = (there, back)
    where
      there : has now k ≡ true → IsLineOf table (take (i + 1) starts) k
      there m = elim (or_cases (has old k) (eqb line k) (sym (is k) ∙ m)) [
        | inl o ↦ (let r = (b k).0 o in
            record { start = r.start; begins = has_taken starts i start r.start h e ∙ or_left (has (take i starts) r.start) (eqb start r.start) r.begins; there = r.there })
        | inr n ↦ record {
          start = start;
          begins = has_taken starts i start start h e ∙ or_right (has (take i starts) start) (eqb start start) (eq-eqb start start refl);
          there = at ∙ ap Some (eqb-true line k n);
        }
      ]

      back : IsLineOf table (take (i + 1) starts) k → has now k ≡ true
      back r = is k ∙ elim (or_cases (has (take i starts) r.start) (eqb start r.start) (sym (has_taken starts i start r.start h e) ∙ r.begins)) [
        | inl o ↦ or_left (has old k) (eqb line k) ((b k).1 (record { start = r.start; begins = o; there = r.there }))
        | inr n ↦ or_right (has old k) (eqb line k)
            (eq-eqb line k (same_line (slice_get table start) (slice_get table r.start) line k at r.there (ap (slice_get table) (eqb-true start r.start n))))
      ]

  -- one without
  pub line_less : (old : List ℕ) → slice_get table start ≡ None
      → ((k : ℕ) → IsAmongLines table (take i starts) k old) → (k : ℕ) → IsAmongLines table (take (i + 1) starts) k old
  line_less old at b k = (there, back)
    where
      there : has old k ≡ true → IsLineOf table (take (i + 1) starts) k
      there o = let r = (b k).0 o in
          record { start = r.start; begins = has_taken starts i start r.start h e ∙ or_left (has (take i starts) r.start) (eqb start r.start) r.begins; there = r.there }

      never : (x y : Option ℕ) → x ≡ None → y ≡ Some k → x ≡ y → ⊥
      never x y p q e = cc

      back : IsLineOf table (take (i + 1) starts) k → has old k ≡ true
      back r = elim (or_cases (has (take i starts) r.start) (eqb start r.start) (sym (has_taken starts i start r.start h e) ∙ r.begins)) [
        | inl o ↦ (b k).1 (record { start = r.start; begins = o; there = r.there })
        | inr n ↦ absurd (never (slice_get table start) (slice_get table r.start) at r.there (ap (slice_get table) (eqb-true start r.start n)))
      ]

  -- a position, whether it has a line or not
  pub line_step : (o : Option ℕ) (old now : List ℕ) → slice_get table start ≡ o → PutsLine o old now
      → ((k : ℕ) → IsAmongLines table (take i starts) k old) → (k : ℕ) → IsAmongLines table (take (i + 1) starts) k now
  line_step None old now at p b k = subst (λ l. IsAmongLines table (take (i + 1) starts) k l) (sym p) (line_less old at b k)
  line_step (Some line) old now at p b k = line_more line old now at p b k

pub no_lines : (table : List ℕ) (k : ℕ) → IsAmongLines table [] k []
no_lines table k = (λ m. absurd (never m), λ r. absurd (never r.begins))
  where
    never : false ≡ true → ⊥
    never e = cc

pub all_lines : (table starts lines : List ℕ) (i : ℕ) → length starts ≤ i → ((k : ℕ) → IsAmongLines table (take i starts) k lines)
    → (k : ℕ) → IsAmongLines table starts k lines
all_lines table starts lines i h b k = subst (λ l. IsAmongLines table l k lines) (take_all i starts h) (b k)

-- ---- those in which prints begin

pub are_lines : (pieces : List Piece) (log starts lines : List ℕ) → ascends lines ≡ true → BeginsExactly pieces log starts
    → ((k : ℕ) → IsAmongLines (line_table log (length log)) starts k lines) → AreLinesOf pieces log lines
are_lines pieces log starts lines up s b = record { ordered = up; exact = λ k. (there k, back k) }
  where
    same_some : (a b : ℕ) (x : Option ℕ) → x ≡ Some a → x ≡ Some b → a ≡ b
    same_some a b x p q = cc

    there : (k : ℕ) → has lines k ≡ true → IsPrintedIn pieces log k
    there k m =
        let r = (b k).0 m in
        let g = (s r.start).0 r.begins in
        let within : r.start < length log = omega (arith, g.behind, g.spelled.spells.within) in
        record {
          from = r.start;
          end = g.end;
          some = g.behind;
          spelled = g.spelled;
          begins = same_some (line_of log r.start) k (slice_get (line_table log (length log)) r.start) (table_get log (length log) r.start within) r.there;
        }

    back : (k : ℕ) → IsPrintedIn pieces log k → has lines k ≡ true
    back k p =
        let within : p.from < length log = omega (arith, p.some, p.spelled.spells.within) in
        (b k).1 (record {
          start = p.from;
          begins = (s p.from).1 (record { end = p.end; behind = p.some; spelled = p.spelled });
          there = table_get log (length log) p.from within ∙ ap Some p.begins;
        })

pub puts_them : (log : List ℕ) (site : Site) (lines : List ℕ) (old now : Facts) → AreLinesOf site.pieces log lines
    → now ≡ with_all old (print_entries site.at site.watched lines) → PutsPrints log site old now
puts_them log site lines old now a e = record {
  entries = print_entries site.at site.watched lines;
  are = record { lines = lines; are = a; is = refl };
  is = e;
}

pub prints_found : (log : List ℕ) (site : Site) (bytes table ss ls starts lines : List ℕ) (shown : List Variable) (old now : Facts)
    → bytes ≡ log → table ≡ line_table log (length log) → ss ≡ starts → ls ≡ lines → shown ≡ site.watched → ascends lines ≡ true
    → BeginsExactly site.pieces bytes starts → ((k : ℕ) → IsAmongLines table ss k lines)
    → now ≡ with_all old (print_entries site.at shown ls) → PutsPrints log site old now
prints_found log site bytes table ss ls starts lines shown old now e_log e_table e_starts e_lines e_shown up begins among is =
    puts_them log site lines old now
    (are_lines site.pieces log starts lines up (subst (λ (l : List ℕ). BeginsExactly site.pieces l starts) e_log begins)
    (λ k. subst (λ (t : List ℕ). IsAmongLines t starts k lines) e_table (subst (λ (l : List ℕ). IsAmongLines table l k lines) e_starts (among k))))
    (is ∙ ap (λ (v : List Variable). with_all old (print_entries site.at v ls)) e_shown
    ∙ ap (λ (l : List ℕ). with_all old (print_entries site.at site.watched l)) e_lines)
