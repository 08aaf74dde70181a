-- The formula of a walk, with its conditions.
use Rattle.std.proofs.Common.{◌≡◌, ◌++◌, ◌∷◌, [], ℕ, ◌&&◌, ◌||◌, ◌+◌, ◌<◌, ◌^◌, List, Bool, true, false, refl, sym, ap, subst, ◌∙◌, length, take, get_or, append-nil, append_assoc, arith}
use Rattle.std.proofs.lemmas.Bool.{and_parts, and_from}
use Rattle.std.proofs.lemmas.List.{take_more}
use Rattle.std.proofs.lemmas.List.Elements.{All-nil, All-cons, All-head, All-tail, All-append, All-weaker}
use Rattle.std.proofs.lemmas.List.Folds.{list_all-append}
use Rattle.cnf_core.specs.Literal.{Literal}
use Rattle.cnf_core.specs.Truth.{Valuation, literal_holds, clause_holds, formula_holds}
use Rattle.gates.specs.declared.bit.Bit.{Bit}
use Rattle.gates.specs.declared.bit.Bit.TheVariants.{Known, Unknown}
use Rattle.gates.specs.Nets.{Net, AllBelow, Below, IsBit, IsModel, bit_holds}
use Rattle.word_gates.specs.Spelling.{AreBits}
use Rattle.input_tables.specs.declared.row.Row.{Row}
use Rattle.input_tables.specs.declared.table.Table.{Table}
use Rattle.input_tables.specs.Rows.{AllFollow, IsRow, Member, all_hold}
use Rattle.input_tables.specs.Tables.{IsEmpty, IsTable, rows_of}
use Rattle.input_tables.proofs.TableLemmas.{settled-table}
use Rattle.term_bank.specs.declared.sort.Node.{Node}
use Rattle.term_bank.specs.declared.shape.Shape.{Shape}
use Rattle.term_bank.specs.Shapes.{Each, IsNode}
use Rattle.term_bank.specs.Values.{Environment, Grows, Models, Values}
use Rattle.flat_reads.specs.Flats.{IsHonest}
use Rattle.bitvectors.specs.declared.inputs.Inputs.{Inputs}
use Rattle.bitvectors.specs.declared.blasting.Blasted.{Blasted}
use Rattle.bitvectors.specs.Amounts.{Signals, bits_at}
use Rattle.bitvectors.specs.Leaves.{IsEmptyInputs}
use Rattle.bitvectors.specs.Signals.{AreOf, IsSignalled}
use Rattle.bitvectors.specs.Blasts.{asserted, all_asserted, HasWidth, HaveValues, IsBlasted, IsReady, Walked, net_of, settled, words_of}
use Rattle.bitvectors.proofs.WalkLemmas.{known-later, part-spelled}

-- ---- conditions

pub asserted-more : (old now next : List (List Literal)) (bits : List Bit) (i : ℕ) (at : Bit) → i < length bits → at ≡ get_or bits i at → now ≡ old ++ all_asserted (take i bits) → next ≡ now ++ asserted at → next ≡ old ++ all_asserted (take (i + 1) bits)
asserted-more old now next bits i at h e a s =
    s ∙ ap (λ xs. xs ++ asserted at) a ∙ append_assoc old (all_asserted (take i bits)) (asserted at)
    ∙ ap (λ xs. old ++ xs) (sym (put (take i bits) at) ∙ ap all_asserted (sym (take_more bits i at h ∙ ap (λ b. take i bits ++ b ∷ []) (sym e))))
  where
    put : (bs : List Bit) (b : Bit) → all_asserted (bs ++ b ∷ []) ≡ all_asserted bs ++ asserted b
    put [] b = append-nil (asserted b)
    put (c ∷ bs) b = ap (λ xs. asserted c ++ xs) (put bs b) ∙ sym (append_assoc (asserted c) (all_asserted bs) (asserted b))

asserted-hold : (v : Valuation) (b : Bit) → formula_holds v (asserted b) ≡ bit_holds v b
asserted-hold v (Known true) = refl
asserted-hold v (Known false) = refl
asserted-hold v (Unknown l) = plain (literal_holds v l)
  where
    plain : (b : Bool) → ((b || false) && true) ≡ b
    plain true = refl
    plain false = refl

-- the clauses hold where each bit is true
pub all-asserted-hold : (v : Valuation) (bits : List Bit) → formula_holds v (all_asserted bits) ≡ all_hold v bits
all-asserted-hold v [] = refl
all-asserted-hold v (b ∷ bits) =
    list_all-append (clause_holds v) (asserted b) (all_asserted bits)
    ∙ (λ i. asserted-hold v b i && all-asserted-hold v bits i)

-- they hold behind a formula where it does too
pub asserts : (v : Valuation) (old new : List (List Literal)) (bits : List Bit) → new ≡ old ++ all_asserted bits → formula_holds v new ≡ (formula_holds v old && all_hold v bits)
asserts v old new bits e =
    ap (formula_holds v) e ∙ list_all-append (clause_holds v) old (all_asserted bits)
    ∙ ap (λ b. formula_holds v old && b) (all-asserted-hold v bits)

asserted-below : (net : Net) (b : Bit) → IsBit net b → AllBelow (net.count + 1) (asserted b)
asserted-below net (Known true) h = All-nil _
asserted-below net (Known false) h = All-cons (Below (net.count + 1)) [] [] (All-nil _) (All-nil _)
asserted-below net (Unknown l) h =
    All-cons (Below (net.count + 1)) (l ∷ []) [] (All-cons (λ x. x.variable < net.count + 1) l [] h (All-nil _)) (All-nil _)

all-asserted-below : (net : Net) (bits : List Bit) → AreBits net bits → AllBelow (net.count + 1) (all_asserted bits)
all-asserted-below net [] h = All-nil _
all-asserted-below net (b ∷ bits) h =
    All-append (Below (net.count + 1)) (asserted b) (all_asserted bits) (asserted-below net b (All-head (IsBit net) b bits h))
    (all-asserted-below net bits (All-tail (IsBit net) b bits h))

-- ---- the theorem

pub have-values : (shapes : List Shape) (net : Net) (inputs : Inputs) (signals : Signals) (v : Valuation) (e : Environment) (values : Values) (roots : List Node) → IsModel net v → AreOf v inputs e → IsHonest e → Models shapes e values → Each (IsNode shapes) roots → Each (λ r. IsSignalled shapes net inputs signals r.index) roots → HaveValues v values roots (words_of signals roots)
have-values shapes net inputs signals v e values [] m o honest models n h = tt
have-values shapes net inputs signals v e values (r ∷ roots) m o honest models n h = ((part-spelled shapes net inputs signals r v e values n.0 m o honest models h.0).is, have-values shapes net inputs signals v e values roots m o honest models n.1 h.1)

pub record Holds (net : Net) (words bytes : List Bit) (v : Valuation) : Type 0 where
  pub model : IsModel net v
  pub words_hold : all_hold v words ≡ true
  pub bytes_hold : all_hold v bytes ≡ true

pub holds-parts : (net : Net) (f0 f1 f2 : List (List Literal)) (words bytes : List Bit) (v : Valuation) → f0 ≡ net.clauses → f1 ≡ f0 ++ all_asserted words → f2 ≡ f1 ++ all_asserted bytes → formula_holds v f2 ≡ true → Holds net words bytes v
holds-parts net f0 f1 f2 words bytes v e a b h =
    let p = and_parts (formula_holds v f1) (all_hold v bytes) (sym (asserts v f1 f2 bytes b) ∙ h) in
    let q = and_parts (formula_holds v f0) (all_hold v words) (sym (asserts v f0 f1 words a) ∙ p.0) in
    record { model = ap (formula_holds v) (sym e) ∙ q.0; words_hold = q.1; bytes_hold = p.1 }

pub holds-from : (net : Net) (f0 f1 f2 : List (List Literal)) (words bytes : List Bit) (v : Valuation) → f0 ≡ net.clauses → f1 ≡ f0 ++ all_asserted words → f2 ≡ f1 ++ all_asserted bytes → Holds net words bytes v → formula_holds v f2 ≡ true
holds-from net f0 f1 f2 words bytes v e a b h = asserts v f1 f2 bytes b ∙ and_from (formula_holds v f1) (all_hold v bytes) (asserts v f0 f1 words a ∙ and_from (formula_holds v f0) (all_hold v words) (ap (formula_holds v) e ∙ h.model) h.words_hold) h.bytes_hold

no-rows : (v : Valuation) (n : ℕ) (f : ℕ → ℕ) (bits : ℕ) (t : Table) → IsEmpty bits t → AllFollow v n f (rows_of t)
no-rows v n f bits t e row m = absurd (subst (Member row) (λ i. e.fixed i ++ e.free i) m)

pub width-of : (net : Net) (n : ℕ) (t : Table) → IsTable net t → t.bits ≡ n → HasWidth n t
width-of net n t h e = record { bits = e; rows = λ row m. let r = h.rows row m in record { key = r.key_width; value = r.value_width ∙ e } }

pub blasted-of : (shapes : List Shape) (roots : List Node) (start net : Net) (empty inputs : Inputs) (signals : Signals) (words : List (List Bit)) (f0 f1 f2 : List (List Literal)) (blasted : Blasted) (word_bits byte_bits : List Bit) → Each (IsNode shapes) roots → start.clauses ≡ [] → IsEmptyInputs empty → Walked shapes roots start net empty inputs signals → words ≡ words_of signals roots → f0 ≡ net.clauses → word_bits ≡ inputs.words.conditions → byte_bits ≡ inputs.bytes.conditions → f1 ≡ f0 ++ all_asserted word_bits → f2 ≡ f1 ++ all_asserted byte_bits → blasted ≡ record { formula = f2; roots = words; inputs = inputs; signals = signals; count = net.count } → IsBlasted shapes roots blasted
blasted-of shapes roots start net empty inputs signals words f0 f1 f2 blasted word_bits byte_bits nodes none e walked is_words is_f0 is_word_bits is_byte_bits a b is = subst (IsBlasted shapes roots) (sym is) (record {
  models = λ env values honest models.
      let v0 : Valuation = λ x. false in
      let g = walked.steps.extends v0 env (ap (formula_holds v0) none) (record { words = no-rows v0 empty.words.bits env.words 64 empty.words e.words; bytes = no-rows v0 empty.bytes.bits env.bytes 8 empty.bytes e.bytes }) in
      let v = g.extension.model in
      let inside = walked.steps.inputs in
      let h : Holds net word_bits byte_bits v = record { model = g.extension.is; words_hold = ap (all_hold v) is_word_bits ∙ inside.words.hold v env.words g.extension.is g.are_of.words; bytes_hold = ap (all_hold v) is_byte_bits ∙ inside.bytes.hold v env.bytes g.extension.is g.are_of.bytes } in
      record { model = v; holds = holds-from net f0 f1 f2 word_bits byte_bits v is_f0 a b h; given = g.are_of; are = subst (HaveValues v values roots) (sym is_words) (have-values shapes net inputs signals v env values roots g.extension.is g.are_of honest models nodes walked.rooted) };
  values = λ v env values h o honest models.
      let k = holds-parts net f0 f1 f2 word_bits byte_bits v is_f0 a b h in
      subst (HaveValues v values roots) (sym is_words) (have-values shapes net inputs signals v env values roots k.model o honest models nodes walked.rooted);
  words = width-of net 64 inputs.words walked.steps.inputs.words walked.steps.inputs.words_bits;
  bytes = width-of net 8 inputs.bytes walked.steps.inputs.bytes walked.steps.inputs.bytes_bits;
  words_alike = λ v h. let k = holds-parts net f0 f1 f2 word_bits byte_bits v is_f0 a b h in walked.steps.inputs.words.alike v k.model (sym (ap (all_hold v) is_word_bits) ∙ k.words_hold);
  bytes_alike = λ v h. let k = holds-parts net f0 f1 f2 word_bits byte_bits v is_f0 a b h in walked.steps.inputs.bytes.alike v k.model (sym (ap (all_hold v) is_byte_bits) ∙ k.bytes_hold);
})

-- ---- what it takes to go on

bits-same : (a b : Net) (word : List Bit) → a.count ≡ b.count → AreBits a word → AreBits b word
bits-same a b word e h = All-weaker (IsBit a) (IsBit b) (bit-same e) word h
  where
    bit-same : a.count ≡ b.count → (x : Bit) → IsBit a x → IsBit b x
    bit-same e (Known k) h = tt
    bit-same e (Unknown l) h = omega (arith, e, h)

row-same : (a b : Net) (n : ℕ) (row : Row) → a.count ≡ b.count → IsRow a n row → IsRow b n row
row-same a b n row e h = record {
  key_width = h.key_width;
  value_width = h.value_width;
  key_stands = bits-same a b row.key e h.key_stands;
  value_stands = bits-same a b row.value e h.value_stands;
}

-- where a net's clauses say that a table's conditions are true, the rows stand without them
settled-of : (net whole : Net) (t : Table) → net.count ≡ whole.count → IsTable net t → ((v : Valuation) → IsModel whole v → IsModel net v × (all_hold v t.conditions ≡ true)) → IsTable whole (settled t)
settled-of net whole t e h holds =
    settled-table whole t (settled t) (record { bits = refl; fixed = refl; free = refl; conditions = refl; index = λ key. refl })
    (λ row m. row-same net whole t.bits row e (h.rows row m)) h.fixed h.found
    (λ v m x y in_x in_y. h.alike v (holds v m).0 (holds v m).1 x y in_x in_y)

pub ready-of : (shapes : List Shape) (roots : List Node) (start net : Net) (empty inputs : Inputs) (signals : Signals) (words : List (List Bit)) (f0 f1 f2 : List (List Literal)) (blasted : Blasted) (word_bits byte_bits : List Bit) → AllBelow (net.count + 1) net.clauses → net.count < 2 ^ 31 → Walked shapes roots start net empty inputs signals → f0 ≡ net.clauses → word_bits ≡ inputs.words.conditions → byte_bits ≡ inputs.bytes.conditions → f1 ≡ f0 ++ all_asserted word_bits → f2 ≡ f1 ++ all_asserted byte_bits → blasted ≡ record { formula = f2; roots = words; inputs = inputs; signals = signals; count = net.count } → IsReady shapes blasted
ready-of shapes roots start net empty inputs signals words f0 f1 f2 blasted word_bits byte_bits below within walked is_f0 is_word_bits is_byte_bits a b is =
    let inside = walked.steps.inputs in
    let n = net.count + 1 in
    let whole : Net = record { clauses = f2; count = net.count } in
    let parted : (v : Valuation) → IsModel whole v → Holds net word_bits byte_bits v = λ v m. holds-parts net f0 f1 f2 word_bits byte_bits v is_f0 a b m in
    subst (IsReady shapes) (sym is) (record {
      below = subst (AllBelow n) (sym b) (All-append (Below n) f1 (all_asserted byte_bits)
          (subst (AllBelow n) (sym a) (All-append (Below n) f0 (all_asserted word_bits) (subst (AllBelow n) (sym is_f0) below)
          (all-asserted-below net word_bits (subst (AreBits net) (sym is_word_bits) inside.words.conditions_stand))))
          (all-asserted-below net byte_bits (subst (AreBits net) (sym is_byte_bits) inside.bytes.conditions_stand)));
      within = within;
      inputs = record {
        words = settled-of net whole inputs.words refl inside.words (λ v m. let k = parted v m in (k.model, sym (ap (all_hold v) is_word_bits) ∙ k.words_hold));
        bytes = settled-of net whole inputs.bytes refl inside.bytes (λ v m. let k = parted v m in (k.model, sym (ap (all_hold v) is_byte_bits) ∙ k.bytes_hold));
        words_bits = inside.words_bits;
        bytes_bits = inside.bytes_bits;
      };
      known = record {
        are = λ k word found.
            let h = walked.known.are k word found in
            record {
              sort = h.sort;
              sorted = h.sorted;
              width = h.width;
              stands = bits-same net whole word refl h.stands;
              means = λ v e values m o honest models. h.means v e values (parted v m).model o honest models;
            };
      };
    })

pub ready-grown : (a b : List Shape) (x : Blasted) → Grows a b → IsReady a x → IsReady b x
ready-grown a b x g h = record {
  below = h.below;
  within = h.within;
  inputs = h.inputs;
  known = known-later a b (net_of x) x.inputs x.signals g h.known;
}

-- ---- the roots' bits

pub words-more : (signals : Signals) (roots : List Node) (i : ℕ) (d : Node) → i < length roots → words_of signals (take (i + 1) roots) ≡ words_of signals (take i roots) ++ bits_at signals (get_or roots i d).index ∷ []
words-more signals roots i d h = ap (words_of signals) (take_more roots i d h) ∙ pushed (take i roots) (get_or roots i d)
  where
    pushed : (rs : List Node) (at : Node) → words_of signals (rs ++ at ∷ []) ≡ words_of signals rs ++ bits_at signals at.index ∷ []
    pushed [] at = refl
    pushed (r ∷ rs) at = ap (λ ws. bits_at signals r.index ∷ ws) (pushed rs at)
