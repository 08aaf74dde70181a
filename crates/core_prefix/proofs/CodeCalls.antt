-- Whether each kind of code calls functions below a bound alone, by what stands in it.
use Rattle.std.proofs.Common.{◌≡◌, ℕ, ℤ, Bool, true, ◌&&◌, List, Option, sym, ap, ◌∙◌}
use Rattle.std.specs.List.{list_all}
use Rattle.c_language.specs.Scopes.{Name}
use Rattle.core_tree.specs.declared.code.Code.{Code, fold-roll-Code}
use Rattle.core_tree.specs.declared.code.Code.TheOpen as open_
use Rattle.core_tree.specs.declared.code.Code.TheVariants as tree
use Rattle.core_tree.specs.declared.code.Code.TheVariants.{rolls-Nothing, rolls-Value, rolls-Declare, rolls-Static}
use Rattle.core_tree.specs.declared.code.Code.TheVariants.{rolls-Block, rolls-Label, rolls-Case, rolls-Default}
use Rattle.core_tree.specs.declared.code.Code.TheVariants.{rolls-If, rolls-Switch, rolls-Loop, rolls-Repeat}
use Rattle.core_tree.specs.declared.code.Code.TheVariants.{rolls-Goto, rolls-Continue, rolls-Break, rolls-Return}
use Rattle.core_tree.specs.declared.code.Setting.{Setting}
use Rattle.core_tree.specs.declared.expr.Expr.{Expr}
use Rattle.core_tree.specs.declared.types.WordType.{WordType}
use Rattle.core_prefix.specs.Calls.{value_below, option_below, setting_below, code_step, code_below}
use Rattle.core_prefix.proofs.ExprCalls.{all_mapped}

module _ (n : ℕ) (c : Code) where
  pub below-Nothing : (is_node : Bool)
      → c ≡ tree.Nothing is_node
      → code_below n c ≡ true
  unfolding code_below
  below-Nothing is_node is =
      ap (code_below n) (is ∙ sym (rolls-Nothing is_node))
      ∙ fold-roll-Code Bool (code_step n) (open_.Nothing is_node)

  pub below-Value : (is_node : Bool) (e : Expr)
      → c ≡ tree.Value is_node e
      → code_below n c ≡ value_below n e
  unfolding code_below
  below-Value is_node e is =
      ap (code_below n) (is ∙ sym (rolls-Value is_node e))
      ∙ fold-roll-Code Bool (code_step n) (open_.Value is_node e)

  pub below-Declare : (at size : ℕ) (is_zeroed : Bool) (settings : List Setting)
      → c ≡ tree.Declare at size is_zeroed settings
      → code_below n c ≡ list_all (setting_below n) settings
  unfolding code_below
  below-Declare at size is_zeroed settings is =
      ap (code_below n) (is ∙ sym (rolls-Declare at size is_zeroed settings))
      ∙ fold-roll-Code Bool (code_step n) (open_.Declare at size is_zeroed settings)

  pub below-Static : (is_node : Bool) (values : List Expr)
      → c ≡ tree.Static is_node values
      → code_below n c ≡ list_all (value_below n) values
  unfolding code_below
  below-Static is_node values is =
      ap (code_below n) (is ∙ sym (rolls-Static is_node values))
      ∙ fold-roll-Code Bool (code_step n) (open_.Static is_node values)

  pub below-Block : (is_node : Bool) (items : List Code)
      → c ≡ tree.Block is_node items
      → code_below n c ≡ list_all (code_below n) items
  unfolding code_below
  below-Block is_node items is =
      ap (code_below n) (is ∙ sym (rolls-Block is_node items))
      ∙ fold-roll-Code Bool (code_step n) (open_.Block is_node items)
      ∙ all_mapped (code_below n) items

  pub below-Label : (name : Name) (x : Code)
      → c ≡ tree.Label name x
      → code_below n c ≡ code_below n x
  unfolding code_below
  below-Label name x is =
      ap (code_below n) (is ∙ sym (rolls-Label name x))
      ∙ fold-roll-Code Bool (code_step n) (open_.Label name x)

  pub below-Case : (z : ℤ) (e : Expr) (x : Code)
      → c ≡ tree.Case z e x
      → code_below n c ≡ (value_below n e && code_below n x)
  unfolding code_below
  below-Case z e x is =
      ap (code_below n) (is ∙ sym (rolls-Case z e x))
      ∙ fold-roll-Code Bool (code_step n) (open_.Case z e x)

  pub below-Default : (x : Code)
      → c ≡ tree.Default x
      → code_below n c ≡ code_below n x
  unfolding code_below
  below-Default x is =
      ap (code_below n) (is ∙ sym (rolls-Default x))
      ∙ fold-roll-Code Bool (code_step n) (open_.Default x)

  pub below-If : (at : ℕ) (e : Expr) (x y : Code)
      → c ≡ tree.If at e x y
      → code_below n c ≡ (value_below n e && (code_below n x && code_below n y))
  unfolding code_below
  below-If at e x y is =
      ap (code_below n) (is ∙ sym (rolls-If at e x y))
      ∙ fold-roll-Code Bool (code_step n) (open_.If at e x y)

  pub below-Switch : (at : ℕ) (word : WordType) (cases : List ℤ) (e : Expr) (is_node : Bool) (items : List Code)
      → c ≡ tree.Switch at word cases e is_node items
      → code_below n c ≡ (value_below n e && list_all (code_below n) items)
  unfolding code_below
  below-Switch at word cases e is_node items is =
      ap (code_below n) (is ∙ sym (rolls-Switch at word cases e is_node items))
      ∙ fold-roll-Code Bool (code_step n) (open_.Switch at word cases e is_node items)
      ∙ ap (λ b. value_below n e && b) (all_mapped (code_below n) items)

  pub below-Loop : (at : ℕ) (test step : Option Expr) (x : Code)
      → c ≡ tree.Loop at test step x
      → code_below n c ≡ (option_below n test && (option_below n step && code_below n x))
  unfolding code_below
  below-Loop at test step x is =
      ap (code_below n) (is ∙ sym (rolls-Loop at test step x))
      ∙ fold-roll-Code Bool (code_step n) (open_.Loop at test step x)

  pub below-Repeat : (at : ℕ) (test : Expr) (x : Code)
      → c ≡ tree.Repeat at test x
      → code_below n c ≡ (value_below n test && code_below n x)
  unfolding code_below
  below-Repeat at test x is =
      ap (code_below n) (is ∙ sym (rolls-Repeat at test x))
      ∙ fold-roll-Code Bool (code_step n) (open_.Repeat at test x)

  pub below-Goto : (name : Name)
      → c ≡ tree.Goto name
      → code_below n c ≡ true
  unfolding code_below
  below-Goto name is =
      ap (code_below n) (is ∙ sym (rolls-Goto name))
      ∙ fold-roll-Code Bool (code_step n) (open_.Goto name)

  pub below-Continue : c ≡ tree.Continue
      → code_below n c ≡ true
  unfolding code_below
  below-Continue is =
      ap (code_below n) (is ∙ sym rolls-Continue)
      ∙ fold-roll-Code Bool (code_step n) open_.Continue

  pub below-Break : c ≡ tree.Break
      → code_below n c ≡ true
  unfolding code_below
  below-Break is =
      ap (code_below n) (is ∙ sym rolls-Break)
      ∙ fold-roll-Code Bool (code_step n) open_.Break

  pub below-Return : (e : Option Expr)
      → c ≡ tree.Return e
      → code_below n c ≡ option_below n e
  unfolding code_below
  below-Return e is =
      ap (code_below n) (is ∙ sym (rolls-Return e))
      ∙ fold-roll-Code Bool (code_step n) (open_.Return e)
