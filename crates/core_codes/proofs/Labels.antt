-- A label at the first of a statement's items is one of the statement.
use Rattle.std.proofs.Common.{◌≡◌, ℕ, ◌+◌, false, List, [], ◌∷◌, ◌++◌, map, Option, Some, ℤ}
use Rattle.std.proofs.Common.{refl, sym, ap, ap₂, ◌∙◌, subst, arith}
use Rattle.std.proofs.lemmas.List.{append-nil, append_assoc}
use Rattle.c_language.specs.Scopes.{Name}
use Rattle.c_means.specs.declared.kind.Kind.{Kind}
use Rattle.c_means.specs.Items.{at_label, at_case, at_default}
use Rattle.c_means.specs.Items as runs
use Rattle.c_means.specs.Parts.{Env, State, Part}
use Rattle.c_means.specs.Parts as c
use Rattle.c_means.specs.Marks.{Mark}
use Rattle.c_means.specs.Statements as statements
use Rattle.core_tree.specs.declared.code.Code.{Code}
use Rattle.core_tree.specs.declared.code.Code.TheVariants as tree
use Rattle.core_tree.specs.declared.expr.Expr.{Expr}
use Rattle.core_tree.specs.States.{Output, Level, Measures}
use Rattle.core_tree.specs.Codes.{Item, code, in_turn, nothing, arrived, no_more, node_size}
use Rattle.core_tree.proofs.Equations as eq
use Rattle.core_marks.specs.Marks.{code_marks, items_marks, value_marks}
use Rattle.core_marks.proofs.CodeMarks as codes
use Rattle.elaborate.specs.Means.{Numbering, SameMarks, Like, IsValueOf, Acts, as_done}
use Rattle.core_forms.proofs.Marks.{by_marks, marks_then}
use Rattle.code_forms.specs.Contents.{AreCodesOf}
use Rattle.core_codes.specs.Parts.{or_nothing, round_first}

-- ---- what stands at the tokens of items, the first of which is labeled

nothing_marked : code_marks (tree.Nothing false) ≡ []
nothing_marked = codes.marks-Nothing (tree.Nothing false) false refl

first_marks : (g : Code → Code) (cs : List Code) → ((c : Code) → code_marks (g c) ≡ code_marks c)
    → items_marks (round_first g (or_nothing cs)) ≡ items_marks cs
first_marks g [] same = ap (λ ms. ms ++ []) (same (tree.Nothing false) ∙ nothing_marked)
first_marks g (c ∷ cs) same = ap (λ ms. ms ++ items_marks cs) (same c)

cased_marks : (z : ℤ) (e : Expr) (c : Code) → code_marks (tree.Case z e c) ≡ value_marks e ++ code_marks c
cased_marks z e c = codes.marks-Case (tree.Case z e c) z e c refl

case_marks : (z : ℤ) (e : Expr) (cs : List Code)
    → items_marks (round_first (tree.Case z e) (or_nothing cs)) ≡ value_marks e ++ items_marks cs
case_marks z e [] =
    append-nil (code_marks (tree.Case z e (tree.Nothing false)))
    ∙ cased_marks z e (tree.Nothing false)
    ∙ ap (λ ms. value_marks e ++ ms) nothing_marked
case_marks z e (c ∷ cs) =
    ap (λ ms. ms ++ items_marks cs) (cased_marks z e c)
    ∙ append_assoc (value_marks e) (code_marks c) (items_marks cs)

module _ (numbering : Numbering) where
  -- the first of some items, where the run arrives
  front_acts : (f : Kind → Kind) (more : Measures → ℕ) (size : c.Level → ℕ) (x : Item Output) (xs : List (Item Output))
      (i : runs.Item)
      → ((l : c.Level) (k : Level Output) → Like numbering l k → more k.measures ≡ size l)
      → Acts numbering (in_turn (x ∷ xs)) i
      → Acts numbering (in_turn (arrived f more x ∷ xs))
      (record (statements.arrived f i) { size = λ l. 1 + (size l + i.size l) })
  front_acts f more size x xs i same h = record {
    size = λ l k like. grouped (more k.measures) (x.needs.size k.measures) ((in_turn xs).needs.size k.measures)
        ∙ ap₂ (λ a b. 1 + (a + b)) (same l k like) (h.size l k like);
    room = h.room;
    objects = h.objects;
    runs = λ l k like env base d. h.runs l k like env base (runs.arrive f d);
  } where
    grouped : (m a b : ℕ) → (1 + (m + a)) + b ≡ 1 + (m + (a + b))
    grouped m a b = grind arith

  -- where there is no item, one that does nothing is the same
  with_nothing : (cs : List Code) (i : runs.Item) → AreCodesOf numbering cs i → AreCodesOf numbering (or_nothing cs) i
  with_nothing [] i h = subst (λ (x : Item Output). Acts numbering (in_turn (x ∷ [])) i) (sym (eq.does-Nothing false)) (record {
    size = h.size;
    room = h.room;
    objects = h.objects;
    runs = h.runs;
  })
  with_nothing (c ∷ cs) i h = h

  -- a label round the first item
  first_acts : (g : Code → Code) (f : Kind → Kind) (more : Measures → ℕ) (size : c.Level → ℕ) (cs : List Code)
      (i : runs.Item) → ((c : Code) → code {O = Output} (g c) ≡ arrived f more (code c))
      → ((l : c.Level) (k : Level Output) → Like numbering l k → more k.measures ≡ size l)
      → AreCodesOf numbering (or_nothing cs) i
      → AreCodesOf numbering (round_first g (or_nothing cs))
      (record (statements.arrived f i) { size = λ l. 1 + (size l + i.size l) })
  first_acts g f more size [] i is same h =
      subst (λ (x : Item Output). Acts numbering (in_turn (x ∷ [])) (record (statements.arrived f i) { size = λ l. 1 + (size l + i.size l) }))
      (sym (is (tree.Nothing false))) (front_acts f more size (code (tree.Nothing false)) [] i same h)
  first_acts g f more size (c ∷ cs) i is same h =
      subst (λ (x : Item Output). Acts numbering (in_turn (x ∷ map code cs)) (record (statements.arrived f i) { size = λ l. 1 + (size l + i.size l) }))
      (sym (is c)) (front_acts f more size (code c) (map code cs) i same h)

  -- ---- each label

  bare_size : (f : Kind → Kind) (cs : List Code) (i : runs.Item)
      → AreCodesOf numbering cs (record (statements.arrived f i) { size = λ l. 1 + (0 + i.size l) })
      → AreCodesOf numbering cs (runs.node (statements.arrived f i))
  bare_size f cs i h = record {
    size = λ l k like. h.size l k like ∙ once (i.size l);
    room = h.room;
    objects = h.objects;
    runs = h.runs;
  } where
    once : (n : ℕ) → 1 + (0 + n) ≡ 1 + n
    once n = grind arith

  pub label_first : (name : Name) (cs : List Code) (i : runs.Item) → AreCodesOf numbering cs i
      → AreCodesOf numbering (round_first (tree.Label name) (or_nothing cs)) (runs.node (statements.arrived (at_label name) i))
  label_first name cs i h = bare_size (at_label name) _ i (first_acts (tree.Label name) (at_label name) no_more (λ l. 0) cs i
      (λ c. eq.does-Label name c) (λ l k like. refl) (with_nothing cs i h))

  pub default_first : (cs : List Code) (i : runs.Item) → AreCodesOf numbering cs i
      → AreCodesOf numbering (round_first tree.Default (or_nothing cs)) (runs.node (statements.arrived at_default i))
  default_first cs i h = bare_size at_default _ i (first_acts tree.Default at_default no_more (λ l. 0) cs i
      (λ c. eq.does-Default c) (λ l k like. refl) (with_nothing cs i h))

  pub case_first : (z : ℤ) (e : Expr) (p : Part) (cs : List Code) (i : runs.Item) → IsValueOf numbering e p
      → AreCodesOf numbering cs i
      → AreCodesOf numbering (round_first (tree.Case z e) (or_nothing cs))
      (record (statements.arrived (at_case (Some z)) i) { size = λ l. 1 + (p.size l + i.size l) })
  case_first z e p cs i g h = first_acts (tree.Case z e) (at_case (Some z)) (node_size Output e) p.size cs i
      (λ c. eq.does-Case z e c) (λ l k like. g.size l k like) (with_nothing cs i h)

  -- ---- what stands at the tokens

  pub label_marks : (name : Name) (cs : List Code) {marks : c.Level → List Mark}
      → SameMarks numbering (items_marks cs) marks
      → SameMarks numbering (items_marks (round_first (tree.Label name) (or_nothing cs))) marks
  label_marks name cs h = by_marks numbering
      (first_marks (tree.Label name) cs (λ c. codes.marks-Label (tree.Label name c) name c refl)) h

  pub default_marks : (cs : List Code) {marks : c.Level → List Mark} → SameMarks numbering (items_marks cs) marks
      → SameMarks numbering (items_marks (round_first tree.Default (or_nothing cs))) marks
  default_marks cs h = by_marks numbering
      (first_marks tree.Default cs (λ c. codes.marks-Default (tree.Default c) c refl)) h

  pub case_same : (z : ℤ) (e : Expr) (cs : List Code) {value body : c.Level → List Mark}
      → SameMarks numbering (value_marks e) value → SameMarks numbering (items_marks cs) body
      → SameMarks numbering (items_marks (round_first (tree.Case z e) (or_nothing cs))) (λ l. value l ++ body l)
  case_same z e cs g h = by_marks numbering (case_marks z e cs) (marks_then numbering g h)
