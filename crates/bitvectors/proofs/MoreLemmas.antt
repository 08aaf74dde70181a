-- Clauses for more roots behind those of a formula.
use Rattle.std.proofs.Common.{◌≡◌, ◌<◌, ◌≤◌, ◌+◌, ◌++◌, ◌∷◌, [], ℕ, List, Some, true, length, take, get_or, refl, sym, ap, subst, ◌∙◌, append_assoc, arith}
use Rattle.std.specs.List.{slice_get}
use Rattle.std.proofs.lemmas.List.{take_more}
use Rattle.std.proofs.lemmas.Option.{slice_get-get_or, slice_get_within}
use Rattle.cnf_core.specs.Literal.{Literal}
use Rattle.cnf_core.specs.Truth.{Valuation, formula_holds}
use Rattle.gates.specs.declared.bit.Bit.{Bit}
use Rattle.gates.specs.Nets.{Net}
use Rattle.input_tables.specs.declared.table.Table.{Table}
use Rattle.input_tables.specs.Rows.{all_hold}
use Rattle.input_tables.specs.Tables.{IsSettled, IsTable}
use Rattle.input_tables.proofs.TableLemmas.{settled-table, settled-follow, settled-followed}
use Rattle.term_bank.specs.declared.sort.Node.{Node}
use Rattle.term_bank.specs.declared.shape.Shape.{Shape}
use Rattle.term_bank.specs.Shapes.{Each, IsNode}
use Rattle.term_bank.specs.Values.{Environment, Grows, Models, Values}
use Rattle.term_bank.proofs.BankLemmas.{weaken}
use Rattle.bitvectors.specs.declared.inputs.Inputs.{Inputs}
use Rattle.bitvectors.specs.declared.blasting.Blasted.{Blasted}
use Rattle.bitvectors.specs.declared.more.More.{More}
use Rattle.bitvectors.specs.Amounts.{Signals}
use Rattle.flat_reads.specs.Flats.{IsHonest}
use Rattle.bitvectors.specs.Leaves.{AreSettled}
use Rattle.bitvectors.specs.Signals.{AreInputs, AreKnown, AreOf}
use Rattle.bitvectors.specs.Blasts.{all_asserted, GoesOnAs, HaveValues, IsBlasted, IsMore, Walked, joined, net_of, settled, settled_inputs, words_of}
use Rattle.bitvectors.proofs.FormulaLemmas.{Holds, have-values, holds-parts, holds-from, width-of}

-- ---- lists of clauses

-- one clause more was copied
pub rest-more : (xs now next : List (List Literal)) (start i : ℕ) (x : List Literal) → slice_get xs i ≡ Some x
    → take start xs ++ now ≡ take i xs → next ≡ now ++ x ∷ [] → take start xs ++ next ≡ take (i + 1) xs
rest-more xs now next start i x at rest more =
    let within : i < length xs = slice_get_within xs i x at in
    let read : Some x ≡ Some (get_or xs i x) = sym at ∙ slice_get-get_or xs i x within in
    let same : x ≡ get_or xs i x = cc in
    ap (λ s. take start xs ++ s) more ∙ sym (append_assoc (take start xs) now (x ∷ [])) ∙ ap (λ s. s ++ x ∷ []) rest
    ∙ ap (λ y. take i xs ++ y ∷ []) same ∙ sym (take_more xs i x within)

take-front : (xs ys : List (List Literal)) → take (length xs) (xs ++ ys) ≡ xs
take-front [] ys = refl
take-front (x ∷ xs) ys = ap (λ s. x ∷ s) (take-front xs ys)

-- ---- roots

values-joined : (v : Valuation) (values : Values) (rs roots : List Node) (ws xs : List (List Bit)) → HaveValues v values rs ws
    → HaveValues v values roots xs → HaveValues v values (rs ++ roots) (ws ++ xs)
values-joined v values [] roots [] xs h k = k
values-joined v values [] roots (w ∷ ws) xs h k = absurd h
values-joined v values (r ∷ rs) roots [] xs h k = absurd h
values-joined v values (r ∷ rs) roots (w ∷ ws) xs h k = (h.0, values-joined v values rs roots ws xs h.1 k)

-- ---- inputs

table-copied : (net : Net) (t s : Table) → IsSettled t s → IsTable net (settled t) → IsTable net s
table-copied net t s c h =
    settled-table net (settled t) s (record { bits = c.bits; fixed = c.fixed; free = c.free; conditions = c.conditions; index = c.index })
    h.rows h.fixed h.found (λ v m x y in_x in_y. h.alike v m refl x y in_x in_y)

pub inputs-copied : (net : Net) (i copy : Inputs) → AreSettled i copy → AreInputs net (settled_inputs i) → AreInputs net copy
inputs-copied net i copy c h = record {
  words = table-copied net i.words copy.words c.words h.words;
  bytes = table-copied net i.bytes copy.bytes c.bytes h.bytes;
  words_bits = c.words.bits ∙ h.words_bits;
  bytes_bits = c.bytes.bits ∙ h.bytes_bits;
}

given-copied : (v : Valuation) (e : Environment) (i copy : Inputs) → AreSettled i copy → AreOf v i e → AreOf v copy e
given-copied v e i copy c h = record {
  words = settled-follow v e.words i.words copy.words c.words h.words;
  bytes = settled-follow v e.bytes i.bytes copy.bytes c.bytes h.bytes;
}

given-back : (v : Valuation) (e : Environment) (i copy : Inputs) → AreSettled i copy → AreOf v copy e → AreOf v i e
given-back v e i copy c h = record {
  words = settled-followed v e.words i.words copy.words c.words h.words;
  bytes = settled-followed v e.bytes i.bytes copy.bytes c.bytes h.bytes;
}

pub known-copied : (shapes : List Shape) (net : Net) (i copy : Inputs) (signals : Signals) → AreSettled i copy
    → AreKnown shapes net i signals → AreKnown shapes net copy signals
known-copied shapes net i copy signals c h = record {
  are = λ n word found.
      let k = h.are n word found in
      record {
        sort = k.sort;
        sorted = k.sorted;
        width = k.width;
        stands = k.stands;
        means = λ v e values m o honest models. k.means v e values m (given-back v e i copy c o) honest models;
      };
}

-- the net over a formula's clauses
pub net-of : (b : Blasted) (net : Net) → net.clauses ≡ b.formula → net.count ≡ b.count → net ≡ net_of b
net-of b net e f = λ i. record { clauses = e i; count = f i }

-- ---- the whole

module _ (shapes : List Shape) (roots : List Node) (b : Blasted) (copy inputs : Inputs) (net : Net) (signals : Signals)
    (words : List (List Bit)) (rest f1 f2 : List (List Literal)) (word_bits byte_bits : List Bit) (m : More)
    (nodes : Each (IsNode shapes) roots) (copied : AreSettled b.inputs copy)
    (walked : Walked shapes roots (net_of b) net copy inputs signals) (is_words : words ≡ words_of signals roots)
    (split : b.formula ++ rest ≡ net.clauses)
    (is_word_bits : word_bits ≡ inputs.words.conditions) (is_byte_bits : byte_bits ≡ inputs.bytes.conditions)
    (asserts_words : f1 ≡ rest ++ all_asserted word_bits) (asserts_bytes : f2 ≡ f1 ++ all_asserted byte_bits)
    (is : m ≡ record { formula = f2; roots = words; inputs = inputs }) where
  whole : b.formula ++ f2 ≡ ((b.formula ++ rest) ++ all_asserted word_bits) ++ all_asserted byte_bits
  whole =
      ap (λ s. b.formula ++ s) (asserts_bytes ∙ ap (λ s. s ++ all_asserted byte_bits) asserts_words)
      ∙ sym (append_assoc b.formula (rest ++ all_asserted word_bits) (all_asserted byte_bits))
      ∙ ap (λ s. s ++ all_asserted byte_bits) (sym (append_assoc b.formula rest (all_asserted word_bits)))

  parts : (v : Valuation) → formula_holds v (b.formula ++ f2) ≡ true → Holds net word_bits byte_bits v
  parts v h =
      holds-parts net (b.formula ++ rest) ((b.formula ++ rest) ++ all_asserted word_bits)
      (((b.formula ++ rest) ++ all_asserted word_bits) ++ all_asserted byte_bits) word_bits byte_bits v split refl refl
      (subst (λ f. formula_holds v f ≡ true) whole h)

  from : (v : Valuation) → Holds net word_bits byte_bits v → formula_holds v (b.formula ++ f2) ≡ true
  from v h =
      subst (λ f. formula_holds v f ≡ true) (sym whole)
      (holds-from net (b.formula ++ rest) ((b.formula ++ rest) ++ all_asserted word_bits)
      (((b.formula ++ rest) ++ all_asserted word_bits) ++ all_asserted byte_bits) word_bits byte_bits v split refl refl h)

  abbrev made : More
  made = record { formula = f2; roots = words; inputs = inputs }

  back : (v : Valuation) (e : Environment) → AreOf v inputs e → AreOf v b.inputs e
  back v e h = given-back v e b.inputs copy copied (walked.steps.kept v e h)

  goes-on : (v : Valuation) (e : Environment) → formula_holds v b.formula ≡ true → AreOf v b.inputs e → GoesOnAs b made v e
  goes-on v e h given =
      let g = walked.steps.extends v e h (given-copied v e b.inputs copy copied given) in
      let x = g.extension.model in
      let inside = walked.steps.inputs in
      record {
        model = x;
        agrees = g.extension.agrees;
        holds = from x (record {
          model = g.extension.is;
          words_hold = ap (all_hold x) is_word_bits ∙ inside.words.hold x e.words g.extension.is g.are_of.words;
          bytes_hold = ap (all_hold x) is_byte_bits ∙ inside.bytes.hold x e.bytes g.extension.is g.are_of.bytes;
        });
        given = g.are_of;
      }

  have-both : (old : List Shape) (rs : List Node) → Grows old shapes → IsBlasted old rs b → (v : Valuation) (e : Environment)
      (values : Values) → formula_holds v (b.formula ++ f2) ≡ true → AreOf v inputs e → IsHonest e → Models shapes e values
      → HaveValues v values (rs ++ roots) (b.roots ++ words)
  have-both old rs g blasted v e values h given honest models =
      let k = parts v h in
      values-joined v values rs roots b.roots words
      (blasted.values v e values (walked.steps.grows.keeps v k.model) (back v e given) honest (weaken g models))
      (subst (HaveValues v values roots) (sym is_words)
      (have-values shapes net inputs signals v e values roots k.model given honest models nodes walked.rooted))

  both-blasted : (old : List Shape) (rs : List Node) → Grows old shapes → IsBlasted old rs b → IsBlasted shapes (rs ++ roots) (joined b made)
  both-blasted old rs g blasted = record {
    models = λ e values honest models.
        let base = blasted.models e values honest (weaken g models) in
        let x = goes-on base.model e base.holds base.given in
        record {
          model = x.model;
          holds = x.holds;
          given = x.given;
          are = have-both old rs g blasted x.model e values x.holds x.given honest models;
        };
    values = have-both old rs g blasted;
    words = width-of net 64 inputs.words walked.steps.inputs.words walked.steps.inputs.words_bits;
    bytes = width-of net 8 inputs.bytes walked.steps.inputs.bytes walked.steps.inputs.bytes_bits;
    words_alike = λ v h. let k = parts v h in walked.steps.inputs.words.alike v k.model (sym (ap (all_hold v) is_word_bits) ∙ k.words_hold);
    bytes_alike = λ v h. let k = parts v h in walked.steps.inputs.bytes.alike v k.model (sym (ap (all_hold v) is_byte_bits) ∙ k.bytes_hold);
  }

  pub more-is : IsMore shapes roots b m
  more-is = subst (IsMore shapes roots b) (sym is) (record { is = both-blasted; kept = back; extends = goes-on })

-- ---- as it is made

pub more-of : (shapes : List Shape) (roots : List Node) (b : Blasted) (copy inputs : Inputs) (start net : Net) (signals : Signals)
    (words : List (List Bit)) (front whole rest f1 f2 : List (List Literal)) (word_bits byte_bits : List Bit) (m : More)
    → Each (IsNode shapes) roots → AreSettled b.inputs copy → front ≡ b.formula → start.clauses ≡ front → start.count ≡ b.count
    → Walked shapes roots start net copy inputs signals → words ≡ words_of signals roots → whole ≡ net.clauses
    → take (length b.formula) whole ++ rest ≡ whole → word_bits ≡ inputs.words.conditions → byte_bits ≡ inputs.bytes.conditions
    → f1 ≡ rest ++ all_asserted word_bits → f2 ≡ f1 ++ all_asserted byte_bits → m ≡ record { formula = f2; roots = words; inputs = inputs }
    → IsMore shapes roots b m
more-of shapes roots b copy inputs start net signals words front whole rest f1 f2 word_bits byte_bits m nodes copied is_front clauses count walked
    is_words is_whole split is_word_bits is_byte_bits asserts_words asserts_bytes is =
    let begun = net-of b start (clauses ∙ is_front) count in
    let from_here = subst (λ n. Walked shapes roots n net copy inputs signals) begun walked in
    let begins = from_here.steps.grows.begins in
    let taken : take (length b.formula) whole ≡ b.formula =
    ap (take (length b.formula)) (is_whole ∙ begins.is) ∙ take-front b.formula begins.more in
    more-is shapes roots b copy inputs net signals words rest f1 f2 word_bits byte_bits m nodes copied from_here is_words
    (ap (λ s. s ++ rest) (sym taken) ∙ split ∙ is_whole) is_word_bits is_byte_bits asserts_words asserts_bytes is

pub enough : (xs whole ys : List (List Literal)) → whole ≡ xs ++ ys → length xs ≤ length whole
enough xs whole ys e = rw e (longer xs)
  where
    longer : (zs : List (List Literal)) → length zs ≤ length (zs ++ ys)
    longer [] = omega arith
    longer (z ∷ zs) = let h : length zs ≤ length (zs ++ ys) = longer zs in omega (arith, h)
