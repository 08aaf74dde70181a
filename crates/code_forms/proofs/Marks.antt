-- What stands at the tokens of the core of each form of statement is what the form says.
use Rattle.std.proofs.Common.{◌≡◌, ℕ, ℤ, Bool, false, List, [], ◌∷◌, ◌++◌, Option, Some, None, refl}
use Rattle.std.proofs.Common.{sym, ap, ◌∙◌}
use Rattle.std.proofs.lemmas.List.{append-nil, append_assoc, map-append}
use Rattle.plain_data.specs.declared.run.Side.TheVariants as side
use Rattle.c_language.specs.Scopes.{Name}
use Rattle.c_means.specs.Parts as c
use Rattle.c_means.specs.Marks.{Mark, Takes, sides}
use Rattle.c_means.specs.Items.{Case}
use Rattle.c_means.specs.Items as runs
use Rattle.c_means.specs.Statements as statements
use Rattle.core_tree.specs.declared.code.Code.{Code}
use Rattle.core_tree.specs.declared.code.Code.TheVariants as tree
use Rattle.core_tree.specs.declared.code.Setting.{Setting}
use Rattle.core_tree.specs.declared.expr.Expr.{Expr}
use Rattle.core_tree.specs.declared.expr.Expr.TheVariants as expr
use Rattle.core_tree.specs.declared.types.ValueType.{ValueType}
use Rattle.core_tree.specs.declared.types.WordType.{WordType}
use Rattle.core_marks.specs.Marks.{code_marks, items_marks, option_marks, settings_marks, test_marks, value_marks}
use Rattle.core_marks.specs.Marks.{values_marks}
use Rattle.core_marks.specs.Marks as core
use Rattle.core_marks.proofs.CodeMarks as codes
use Rattle.core_marks.proofs.ExprMarks as trees
use Rattle.elaborate.specs.Tokens.{all_told, told}
use Rattle.elaborate.specs.Means.{Numbering, SameMarks}
use Rattle.core_forms.proofs.Marks.{by_marks, marks_then, no_marks, own_then}
use Rattle.code_forms.specs.declared.blocks.Content.{Content}
use Rattle.code_forms.specs.Contents.{IsContentOf, value_if, case_values}

-- ---- the items

pub items_joined : (xs ys : List Code) → items_marks (xs ++ ys) ≡ items_marks xs ++ items_marks ys
items_joined [] ys = refl
items_joined (x ∷ xs) ys =
    ap (λ ms. code_marks x ++ ms) (items_joined xs ys)
    ∙ sym (append_assoc (code_marks x) (items_marks xs) (items_marks ys))

-- ---- the cases of a `switch`, as they are told

told_cases : (name : ℕ → Name) (at : ℕ) (xs : List Case)
    → all_told name (core.case_marks at (case_values xs)) ≡ statements.case_marks at xs
told_cases name at [] = refl
told_cases name at (x ∷ xs) = by_value x.value (told_cases name at xs) where
  by_value : (v : Option ℤ) → all_told name (core.case_marks at (case_values xs)) ≡ statements.case_marks at xs
      → all_told name (core.case_marks at (value_if v (case_values xs)))
      ≡ statements.case_marks at (record { at = x.at; value = v } ∷ xs)
  by_value None h = h
  by_value (Some z) h = ap (λ ms. Takes at (side.Case z) ∷ ms) h

told_switch : (name : ℕ → Name) (at : ℕ) (xs : List Case)
    → all_told name (core.switch_marks at (case_values xs)) ≡ statements.switch_marks at xs
told_switch name at xs =
    map-append (told name) (core.case_marks at (case_values xs)) (core.one_side at side.Otherwise)
    ∙ ap (λ ms. ms ++ Takes at side.Otherwise ∷ []) (told_cases name at xs)

module _ (numbering : Numbering) where
  -- ---- items

  -- one
  pub alone_marks : (x : Code) {marks : c.Level → List Mark} → SameMarks numbering (code_marks x) marks
      → SameMarks numbering (items_marks (x ∷ [])) marks
  alone_marks x h = by_marks numbering (append-nil (code_marks x)) h

  -- some behind others
  pub both_marks : (xs ys : List Code) {marks more : c.Level → List Mark} → SameMarks numbering (items_marks xs) marks
      → SameMarks numbering (items_marks ys) more
      → SameMarks numbering (items_marks (xs ++ ys)) (λ l. marks l ++ more l)
  both_marks xs ys h i = by_marks numbering (items_joined xs ys) (marks_then numbering h i)

  -- ---- blocks

  pub block_marks : (b : Bool) (xs : List Code) {marks : c.Level → List Mark}
      → SameMarks numbering (items_marks xs) marks → SameMarks numbering (code_marks (tree.Block b xs)) marks
  block_marks b xs h = by_marks numbering (codes.marks-Block (tree.Block b xs) b xs refl) h

  -- a `for` is a block of what it begins with and its turns
  pub for_marks : (xs : List Code) (y : Code) {marks more : c.Level → List Mark}
      → SameMarks numbering (items_marks xs) marks → SameMarks numbering (code_marks y) more
      → SameMarks numbering (code_marks (tree.Block false (xs ++ y ∷ []))) (λ l. marks l ++ more l)
  for_marks xs y h i = block_marks false (xs ++ y ∷ []) (both_marks xs (y ∷ []) h (alone_marks y i))

  -- ---- selection

  pub if_marks : (at : ℕ) (e : Expr) (x y : Code) {test first second : c.Level → List Mark}
      → SameMarks numbering (value_marks e) test → SameMarks numbering (code_marks x) first
      → SameMarks numbering (code_marks y) second
      → SameMarks numbering (code_marks (tree.If at e x y)) (λ l. sides at ++ (test l ++ (first l ++ second l)))
  if_marks at e x y t f s =
      by_marks numbering (codes.marks-If (tree.If at e x y) at e x y refl)
      (own_then numbering (core.sides at) (sides at) (λ name. refl) (marks_then numbering t (marks_then numbering f s)))

  pub switch_marks : (at : ℕ) (w : WordType) (e : Expr) (x : Content) (i : runs.Item) {value : c.Level → List Mark}
      → SameMarks numbering (value_marks e) value → IsContentOf numbering x i
      → SameMarks numbering (code_marks (tree.Switch at w x.cases e x.is_compound x.items))
      (λ l. statements.switch_marks at i.cases ++ (value l ++ i.marks l))
  switch_marks at w e x i v h =
      by_marks numbering (codes.marks-Switch (tree.Switch at w x.cases e x.is_compound x.items) at w x.cases e
      x.is_compound x.items refl
      ∙ ap (λ zs. core.switch_marks at zs ++ (value_marks e ++ items_marks x.items)) h.cases)
      (own_then numbering (core.switch_marks at (case_values i.cases)) (statements.switch_marks at i.cases)
      (λ name. told_switch name at i.cases) (marks_then numbering v h.marks))

  -- ---- iteration

  pub tested_marks : (at : ℕ) (e : Expr) {marks : c.Level → List Mark} → SameMarks numbering (value_marks e) marks
      → SameMarks numbering (test_marks at (Some e)) (λ l. sides at ++ marks l)
  tested_marks at e h = own_then numbering (core.sides at) (sides at) (λ name. refl) h

  pub loop_marks : (at : ℕ) (test step : Option Expr) (x : Code) {tests steps body : c.Level → List Mark}
      → SameMarks numbering (test_marks at test) tests → SameMarks numbering (option_marks step) steps
      → SameMarks numbering (code_marks x) body
      → SameMarks numbering (code_marks (tree.Loop at test step x)) (λ l. tests l ++ (steps l ++ body l))
  loop_marks at test step x t s b =
      by_marks numbering (codes.marks-Loop (tree.Loop at test step x) at test step x refl)
      (marks_then numbering t (marks_then numbering s b))

  pub repeat_marks : (at : ℕ) (e : Expr) (x : Code) {test body : c.Level → List Mark}
      → SameMarks numbering (value_marks e) test → SameMarks numbering (code_marks x) body
      → SameMarks numbering (code_marks (tree.Repeat at e x)) (λ l. sides at ++ (test l ++ body l))
  repeat_marks at e x t b =
      by_marks numbering (codes.marks-Repeat (tree.Repeat at e x) at e x refl)
      (own_then numbering (core.sides at) (sides at) (λ name. refl) (marks_then numbering t b))

  -- ---- statements without substatements

  pub effect_marks : (b : Bool) (e : Expr) {marks : c.Level → List Mark} → SameMarks numbering (value_marks e) marks
      → SameMarks numbering (code_marks (tree.Value b e)) marks
  effect_marks b e h = by_marks numbering (codes.marks-Value (tree.Value b e) b e refl) h

  pub returned_marks : (t : ValueType) (e : Expr) {marks : c.Level → List Mark}
      → SameMarks numbering (value_marks e) marks
      → SameMarks numbering (code_marks (tree.Return (Some (expr.Convert t e)))) marks
  returned_marks t e h =
      by_marks numbering (codes.marks-Return (tree.Return (Some (expr.Convert t e))) (Some (expr.Convert t e)) refl
      ∙ trees.marks-Convert (expr.Convert t e) t e refl) h

  pub nothing_marks : (b : Bool) → SameMarks numbering (code_marks (tree.Nothing b)) (λ l. [])
  nothing_marks b = by_marks numbering (codes.marks-Nothing (tree.Nothing b) b refl) (no_marks numbering)

  pub goto_marks : (name : Name) → SameMarks numbering (code_marks (tree.Goto name)) (λ l. [])
  goto_marks name = by_marks numbering (codes.marks-Goto (tree.Goto name) name refl) (no_marks numbering)

  pub continue_marks : SameMarks numbering (code_marks tree.Continue) (λ l. [])
  continue_marks = by_marks numbering (codes.marks-Continue tree.Continue refl) (no_marks numbering)

  pub break_marks : SameMarks numbering (code_marks tree.Break) (λ l. [])
  break_marks = by_marks numbering (codes.marks-Break tree.Break refl) (no_marks numbering)

  pub bare_return_marks : SameMarks numbering (code_marks (tree.Return None)) (λ l. [])
  bare_return_marks = by_marks numbering (codes.marks-Return (tree.Return None) None refl) (no_marks numbering)

  -- ---- objects

  pub object_marks : (at size : ℕ) (b : Bool) (xs : List Setting) {marks : c.Level → List Mark}
      → SameMarks numbering (settings_marks xs) marks
      → SameMarks numbering (code_marks (tree.Declare at size b xs)) marks
  object_marks at size b xs h =
      by_marks numbering (codes.marks-Declare (tree.Declare at size b xs) at size b xs refl) h

  pub lasting_marks : (b : Bool) (es : List Expr) {marks : c.Level → List Mark}
      → SameMarks numbering (values_marks es) marks → SameMarks numbering (code_marks (tree.Static b es)) marks
  lasting_marks b es h = by_marks numbering (codes.marks-Static (tree.Static b es) b es refl) h
