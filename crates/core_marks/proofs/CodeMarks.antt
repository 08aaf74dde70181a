-- What stands at the tokens of each kind of code, by what stands in it.
use Rattle.std.proofs.Common.{◌≡◌, ℕ, ℤ, Bool, List, [], ◌++◌, Option, sym, ap, ◌∙◌}
use Rattle.core_tree.specs.declared.expr.Expr.{Expr}
use Rattle.core_tree.specs.declared.types.WordType.{WordType}
use Rattle.core_marks.specs.declared.mark.Mark.{Mark}
use Rattle.core_tree.specs.declared.code.Setting.{Setting}
use Rattle.core_tree.specs.declared.code.Code.{Code, fold-roll-Code}
use Rattle.core_tree.specs.declared.code.Code.TheOpen as code_open
use Rattle.core_tree.specs.declared.code.Code.TheVariants as tree
use Rattle.core_tree.specs.declared.code.Code.TheVariants.{rolls-Nothing, rolls-Value, rolls-Declare, rolls-Static, rolls-Block, rolls-Label, rolls-Case, rolls-Default, rolls-If, rolls-Switch, rolls-Loop, rolls-Repeat, rolls-Goto, rolls-Continue, rolls-Break, rolls-Return}
use Rattle.c_language.specs.Scopes.{Name}
use Rattle.core_marks.specs.Marks.{sides, switch_marks, value_marks, values_marks, option_marks, settings_marks, test_marks}
use Rattle.core_marks.specs.Marks.{code_step, code_marks, items_marks}

module _ (c : Code) where
  pub marks-Nothing : (is_node : Bool) → c ≡ tree.Nothing is_node
      → code_marks c ≡ []
  unfolding code_marks
  marks-Nothing is_node is = ap code_marks (is ∙ sym (rolls-Nothing is_node)) ∙ fold-roll-Code (List Mark) code_step (code_open.Nothing is_node)

  pub marks-Value : (is_node : Bool) (e : Expr) → c ≡ tree.Value is_node e
      → code_marks c ≡ value_marks e
  unfolding code_marks
  marks-Value is_node e is = ap code_marks (is ∙ sym (rolls-Value is_node e)) ∙ fold-roll-Code (List Mark) code_step (code_open.Value is_node e)

  pub marks-Declare : (at size : ℕ) (is_zeroed : Bool) (xs : List Setting) → c ≡ tree.Declare at size is_zeroed xs
      → code_marks c ≡ settings_marks xs
  unfolding code_marks
  marks-Declare at size is_zeroed xs is = ap code_marks (is ∙ sym (rolls-Declare at size is_zeroed xs)) ∙ fold-roll-Code (List Mark) code_step (code_open.Declare at size is_zeroed xs)

  pub marks-Static : (is_node : Bool) (es : List Expr) → c ≡ tree.Static is_node es
      → code_marks c ≡ values_marks es
  unfolding code_marks
  marks-Static is_node es is = ap code_marks (is ∙ sym (rolls-Static is_node es)) ∙ fold-roll-Code (List Mark) code_step (code_open.Static is_node es)

  pub marks-Block : (is_node : Bool) (xs : List Code) → c ≡ tree.Block is_node xs
      → code_marks c ≡ items_marks xs
  unfolding code_marks
  marks-Block is_node xs is = ap code_marks (is ∙ sym (rolls-Block is_node xs)) ∙ fold-roll-Code (List Mark) code_step (code_open.Block is_node xs)

  pub marks-Label : (name : Name) (x : Code) → c ≡ tree.Label name x
      → code_marks c ≡ code_marks x
  unfolding code_marks
  marks-Label name x is = ap code_marks (is ∙ sym (rolls-Label name x)) ∙ fold-roll-Code (List Mark) code_step (code_open.Label name x)

  pub marks-Case : (z : ℤ) (e : Expr) (x : Code) → c ≡ tree.Case z e x
      → code_marks c ≡ value_marks e ++ code_marks x
  unfolding code_marks
  marks-Case z e x is = ap code_marks (is ∙ sym (rolls-Case z e x)) ∙ fold-roll-Code (List Mark) code_step (code_open.Case z e x)

  pub marks-Default : (x : Code) → c ≡ tree.Default x
      → code_marks c ≡ code_marks x
  unfolding code_marks
  marks-Default x is = ap code_marks (is ∙ sym (rolls-Default x)) ∙ fold-roll-Code (List Mark) code_step (code_open.Default x)

  pub marks-If : (at : ℕ) (e : Expr) (x y : Code) → c ≡ tree.If at e x y
      → code_marks c ≡ sides at ++ (value_marks e ++ (code_marks x ++ code_marks y))
  unfolding code_marks
  marks-If at e x y is = ap code_marks (is ∙ sym (rolls-If at e x y)) ∙ fold-roll-Code (List Mark) code_step (code_open.If at e x y)

  pub marks-Switch : (at : ℕ) (word : WordType) (cases : List ℤ) (e : Expr) (is_node : Bool) (xs : List Code) → c ≡ tree.Switch at word cases e is_node xs
      → code_marks c ≡ switch_marks at cases ++ (value_marks e ++ items_marks xs)
  unfolding code_marks
  marks-Switch at word cases e is_node xs is = ap code_marks (is ∙ sym (rolls-Switch at word cases e is_node xs)) ∙ fold-roll-Code (List Mark) code_step (code_open.Switch at word cases e is_node xs)

  pub marks-Loop : (at : ℕ) (test step : Option Expr) (x : Code) → c ≡ tree.Loop at test step x
      → code_marks c ≡ test_marks at test ++ (option_marks step ++ code_marks x)
  unfolding code_marks
  marks-Loop at test step x is = ap code_marks (is ∙ sym (rolls-Loop at test step x)) ∙ fold-roll-Code (List Mark) code_step (code_open.Loop at test step x)

  pub marks-Repeat : (at : ℕ) (test : Expr) (x : Code) → c ≡ tree.Repeat at test x
      → code_marks c ≡ sides at ++ (value_marks test ++ code_marks x)
  unfolding code_marks
  marks-Repeat at test x is = ap code_marks (is ∙ sym (rolls-Repeat at test x)) ∙ fold-roll-Code (List Mark) code_step (code_open.Repeat at test x)

  pub marks-Goto : (name : Name) → c ≡ tree.Goto name
      → code_marks c ≡ []
  unfolding code_marks
  marks-Goto name is = ap code_marks (is ∙ sym (rolls-Goto name)) ∙ fold-roll-Code (List Mark) code_step (code_open.Goto name)

  pub marks-Continue : c ≡ tree.Continue
      → code_marks c ≡ []
  unfolding code_marks
  marks-Continue is = ap code_marks (is ∙ sym rolls-Continue) ∙ fold-roll-Code (List Mark) code_step code_open.Continue

  pub marks-Break : c ≡ tree.Break
      → code_marks c ≡ []
  unfolding code_marks
  marks-Break is = ap code_marks (is ∙ sym rolls-Break) ∙ fold-roll-Code (List Mark) code_step code_open.Break

  pub marks-Return : (e : Option Expr) → c ≡ tree.Return e
      → code_marks c ≡ option_marks e
  unfolding code_marks
  marks-Return e is = ap code_marks (is ∙ sym (rolls-Return e)) ∙ fold-roll-Code (List Mark) code_step (code_open.Return e)
