-- What each kind of expression and of code is worth, in terms of what stands in it.
use Rattle.std.proofs.Common.{◌≡◌, ℕ, ℤ, List, Option, Bool, sym, ap, ◌∙◌}
use Rattle.std.specs.Prelude.{map}
use Rattle.c_language.specs.Scopes.{Name}
use Rattle.core_tree.specs.declared.types.Access.{Access}
use Rattle.core_tree.specs.declared.types.Answered.{Answered}
use Rattle.core_tree.specs.declared.types.Operator.{Operator}
use Rattle.core_tree.specs.declared.types.Turning.{Turning}
use Rattle.core_tree.specs.declared.types.ValueType.{ValueType}
use Rattle.core_tree.specs.declared.types.WordType.{WordType}
use Rattle.core_tree.specs.declared.expr.Callee.{Callee}
use Rattle.core_tree.specs.declared.expr.Expr.{Expr, fold-roll-Expr}
use Rattle.core_tree.specs.declared.expr.Expr.TheOpen as expr_open
use Rattle.core_tree.specs.declared.expr.Expr.TheVariants as expr
use Rattle.core_tree.specs.declared.expr.Expr.TheVariants.{rolls-Constant as rolls-Expr-Constant}
use Rattle.core_tree.specs.declared.expr.Expr.TheVariants.{rolls-Fixed as rolls-Expr-Fixed}
use Rattle.core_tree.specs.declared.expr.Expr.TheVariants.{rolls-Local as rolls-Expr-Local}
use Rattle.core_tree.specs.declared.expr.Expr.TheVariants.{rolls-Load as rolls-Expr-Load}
use Rattle.core_tree.specs.declared.expr.Expr.TheVariants.{rolls-Target as rolls-Expr-Target}
use Rattle.core_tree.specs.declared.expr.Expr.TheVariants.{rolls-Pointer as rolls-Expr-Pointer}
use Rattle.core_tree.specs.declared.expr.Expr.TheVariants.{rolls-Offset as rolls-Expr-Offset}
use Rattle.core_tree.specs.declared.expr.Expr.TheVariants.{rolls-Extract as rolls-Expr-Extract}
use Rattle.core_tree.specs.declared.expr.Expr.TheVariants.{rolls-Convert as rolls-Expr-Convert}
use Rattle.core_tree.specs.declared.expr.Expr.TheVariants.{rolls-Cast as rolls-Expr-Cast}
use Rattle.core_tree.specs.declared.expr.Expr.TheVariants.{rolls-Turn as rolls-Expr-Turn}
use Rattle.core_tree.specs.declared.expr.Expr.TheVariants.{rolls-Not as rolls-Expr-Not}
use Rattle.core_tree.specs.declared.expr.Expr.TheVariants.{rolls-Operate as rolls-Expr-Operate}
use Rattle.core_tree.specs.declared.expr.Expr.TheVariants.{rolls-And as rolls-Expr-And}
use Rattle.core_tree.specs.declared.expr.Expr.TheVariants.{rolls-Or as rolls-Expr-Or}
use Rattle.core_tree.specs.declared.expr.Expr.TheVariants.{rolls-Choose as rolls-Expr-Choose}
use Rattle.core_tree.specs.declared.expr.Expr.TheVariants.{rolls-Store as rolls-Expr-Store}
use Rattle.core_tree.specs.declared.expr.Expr.TheVariants.{rolls-Update as rolls-Expr-Update}
use Rattle.core_tree.specs.declared.expr.Expr.TheVariants.{rolls-Step as rolls-Expr-Step}
use Rattle.core_tree.specs.declared.expr.Expr.TheVariants.{rolls-Comma as rolls-Expr-Comma}
use Rattle.core_tree.specs.declared.expr.Expr.TheVariants.{rolls-Call as rolls-Expr-Call}
use Rattle.core_tree.specs.declared.code.Setting.{Setting}
use Rattle.core_tree.specs.declared.code.Code.{Code, fold-roll-Code}
use Rattle.core_tree.specs.declared.code.Code.TheOpen as code_open
use Rattle.core_tree.specs.declared.code.Code.TheVariants as tree
use Rattle.core_tree.specs.declared.code.Code.TheVariants.{rolls-Nothing as rolls-Code-Nothing}
use Rattle.core_tree.specs.declared.code.Code.TheVariants.{rolls-Value as rolls-Code-Value}
use Rattle.core_tree.specs.declared.code.Code.TheVariants.{rolls-Declare as rolls-Code-Declare}
use Rattle.core_tree.specs.declared.code.Code.TheVariants.{rolls-Static as rolls-Code-Static}
use Rattle.core_tree.specs.declared.code.Code.TheVariants.{rolls-Block as rolls-Code-Block}
use Rattle.core_tree.specs.declared.code.Code.TheVariants.{rolls-Label as rolls-Code-Label}
use Rattle.core_tree.specs.declared.code.Code.TheVariants.{rolls-Case as rolls-Code-Case}
use Rattle.core_tree.specs.declared.code.Code.TheVariants.{rolls-Default as rolls-Code-Default}
use Rattle.core_tree.specs.declared.code.Code.TheVariants.{rolls-If as rolls-Code-If}
use Rattle.core_tree.specs.declared.code.Code.TheVariants.{rolls-Switch as rolls-Code-Switch}
use Rattle.core_tree.specs.declared.code.Code.TheVariants.{rolls-Loop as rolls-Code-Loop}
use Rattle.core_tree.specs.declared.code.Code.TheVariants.{rolls-Repeat as rolls-Code-Repeat}
use Rattle.core_tree.specs.declared.code.Code.TheVariants.{rolls-Goto as rolls-Code-Goto}
use Rattle.core_tree.specs.declared.code.Code.TheVariants.{rolls-Continue as rolls-Code-Continue}
use Rattle.core_tree.specs.declared.code.Code.TheVariants.{rolls-Break as rolls-Code-Break}
use Rattle.core_tree.specs.declared.code.Code.TheVariants.{rolls-Return as rolls-Code-Return}
use Rattle.core_tree.specs.Values.{Value, value, value_step}
use Rattle.core_tree.specs.Codes.{Item, code, code_step}

module _ {O : Type 0} where
  pub worth-Constant : (z : ℤ) → value {O = O} (expr.Constant z)
      ≡ value_step (expr_open.Constant z)
  unfolding value
  worth-Constant z = ap value (sym (rolls-Expr-Constant z)) ∙ fold-roll-Expr (Value O) value_step (expr_open.Constant z)

  pub worth-Fixed : (place : ℕ) → value {O = O} (expr.Fixed place)
      ≡ value_step (expr_open.Fixed place)
  unfolding value
  worth-Fixed place = ap value (sym (rolls-Expr-Fixed place)) ∙ fold-roll-Expr (Value O) value_step
      (expr_open.Fixed place)

  pub worth-Local : (at : ℕ) → value {O = O} (expr.Local at)
      ≡ value_step (expr_open.Local at)
  unfolding value
  worth-Local at = ap value (sym (rolls-Expr-Local at)) ∙ fold-roll-Expr (Value O) value_step (expr_open.Local at)

  pub worth-Load : (access : Access) (x : Expr) → value {O = O} (expr.Load access x)
      ≡ value_step (expr_open.Load access (value x))
  unfolding value
  worth-Load access x = ap value (sym (rolls-Expr-Load access x)) ∙ fold-roll-Expr (Value O) value_step
      (expr_open.Load access x)

  pub worth-Target : (x : Expr) → value {O = O} (expr.Target x)
      ≡ value_step (expr_open.Target (value x))
  unfolding value
  worth-Target x = ap value (sym (rolls-Expr-Target x)) ∙ fold-roll-Expr (Value O) value_step (expr_open.Target x)

  pub worth-Pointer : (x : Expr) → value {O = O} (expr.Pointer x)
      ≡ value_step (expr_open.Pointer (value x))
  unfolding value
  worth-Pointer x = ap value (sym (rolls-Expr-Pointer x)) ∙ fold-roll-Expr (Value O) value_step (expr_open.Pointer x)

  pub worth-Offset : (bytes : ℕ) (x : Expr) → value {O = O} (expr.Offset bytes x)
      ≡ value_step (expr_open.Offset bytes (value x))
  unfolding value
  worth-Offset bytes x = ap value (sym (rolls-Expr-Offset bytes x)) ∙ fold-roll-Expr (Value O) value_step
      (expr_open.Offset bytes x)

  pub worth-Extract : (bytes : ℕ) (member : ValueType) (x : Expr) → value {O = O} (expr.Extract bytes member x)
      ≡ value_step (expr_open.Extract bytes member (value x))
  unfolding value
  worth-Extract bytes member x = ap value (sym (rolls-Expr-Extract bytes member x)) ∙ fold-roll-Expr (Value O)
      value_step (expr_open.Extract bytes member x)

  pub worth-Convert : (to : ValueType) (x : Expr) → value {O = O} (expr.Convert to x)
      ≡ value_step (expr_open.Convert to (value x))
  unfolding value
  worth-Convert to x = ap value (sym (rolls-Expr-Convert to x)) ∙ fold-roll-Expr (Value O) value_step
      (expr_open.Convert to x)

  pub worth-Cast : (to : ValueType) (x : Expr) → value {O = O} (expr.Cast to x)
      ≡ value_step (expr_open.Cast to (value x))
  unfolding value
  worth-Cast to x = ap value (sym (rolls-Expr-Cast to x)) ∙ fold-roll-Expr (Value O) value_step (expr_open.Cast to x)

  pub worth-Turn : (at : ℕ) (operator : Turning) (word : WordType) (is_constant : Bool) (x : Expr) → value {O = O}
      (expr.Turn at operator word is_constant x)
      ≡ value_step (expr_open.Turn at operator word is_constant (value x))
  unfolding value
  worth-Turn at operator word is_constant x = ap value (sym (rolls-Expr-Turn at operator word is_constant x)) ∙
      fold-roll-Expr (Value O) value_step (expr_open.Turn at operator word is_constant x)

  pub worth-Not : (x : Expr) → value {O = O} (expr.Not x)
      ≡ value_step (expr_open.Not (value x))
  unfolding value
  worth-Not x = ap value (sym (rolls-Expr-Not x)) ∙ fold-roll-Expr (Value O) value_step (expr_open.Not x)

  pub worth-Operate : (at : ℕ) (operator : Operator) (is_constant : Bool) (x : Expr) (y : Expr) → value {O = O}
      (expr.Operate at operator is_constant x y)
      ≡ value_step (expr_open.Operate at operator is_constant (value x) (value y))
  unfolding value
  worth-Operate at operator is_constant x y = ap value (sym (rolls-Expr-Operate at operator is_constant x y)) ∙
      fold-roll-Expr (Value O) value_step (expr_open.Operate at operator is_constant x y)

  pub worth-And : (at : ℕ) (x : Expr) (y : Expr) → value {O = O} (expr.And at x y)
      ≡ value_step (expr_open.And at (value x) (value y))
  unfolding value
  worth-And at x y = ap value (sym (rolls-Expr-And at x y)) ∙ fold-roll-Expr (Value O) value_step (expr_open.And at x y)

  pub worth-Or : (at : ℕ) (x : Expr) (y : Expr) → value {O = O} (expr.Or at x y)
      ≡ value_step (expr_open.Or at (value x) (value y))
  unfolding value
  worth-Or at x y = ap value (sym (rolls-Expr-Or at x y)) ∙ fold-roll-Expr (Value O) value_step (expr_open.Or at x y)

  pub worth-Choose : (at : ℕ) (c : Expr) (x : Expr) (y : Expr) → value {O = O} (expr.Choose at c x y)
      ≡ value_step (expr_open.Choose at (value c) (value x) (value y))
  unfolding value
  worth-Choose at c x y = ap value (sym (rolls-Expr-Choose at c x y)) ∙ fold-roll-Expr (Value O) value_step
      (expr_open.Choose at c x y)

  pub worth-Store : (at : ℕ) (access : Access) (x : Expr) (y : Expr) → value {O = O} (expr.Store at access x y)
      ≡ value_step (expr_open.Store at access (value x) (value y))
  unfolding value
  worth-Store at access x y = ap value (sym (rolls-Expr-Store at access x y)) ∙ fold-roll-Expr (Value O) value_step
      (expr_open.Store at access x y)

  pub worth-Update : (at : ℕ) (operator : Operator) (access : Access) (x : Expr) (y : Expr) → value {O = O}
      (expr.Update at operator access x y)
      ≡ value_step (expr_open.Update at operator access (value x) (value y))
  unfolding value
  worth-Update at operator access x y = ap value (sym (rolls-Expr-Update at operator access x y)) ∙ fold-roll-Expr
      (Value O) value_step (expr_open.Update at operator access x y)

  pub worth-Step : (at : ℕ) (operator : Operator) (access : Access) (answer : Answered) (x : Expr) → value {O = O}
      (expr.Step at operator access answer x)
      ≡ value_step (expr_open.Step at operator access answer (value x))
  unfolding value
  worth-Step at operator access answer x = ap value (sym (rolls-Expr-Step at operator access answer x)) ∙
      fold-roll-Expr (Value O) value_step (expr_open.Step at operator access answer x)

  pub worth-Comma : (x : Expr) (y : Expr) → value {O = O} (expr.Comma x y)
      ≡ value_step (expr_open.Comma (value x) (value y))
  unfolding value
  worth-Comma x y = ap value (sym (rolls-Expr-Comma x y)) ∙ fold-roll-Expr (Value O) value_step (expr_open.Comma x y)

  pub worth-Call : (at : ℕ) (xs : List Expr) (callee : Callee) (answer : ValueType) (is_used : Bool) → value {O = O}
      (expr.Call at xs callee answer is_used)
      ≡ value_step (expr_open.Call at (map value xs) callee answer is_used)
  unfolding value
  worth-Call at xs callee answer is_used = ap value (sym (rolls-Expr-Call at xs callee answer is_used)) ∙
      fold-roll-Expr (Value O) value_step (expr_open.Call at xs callee answer is_used)

  pub does-Nothing : (is_node : Bool) → code {O = O} (tree.Nothing is_node)
      ≡ code_step (code_open.Nothing is_node)
  unfolding code
  does-Nothing is_node = ap code (sym (rolls-Code-Nothing is_node)) ∙ fold-roll-Code (Item O) code_step
      (code_open.Nothing is_node)

  pub does-Value : (is_node : Bool) (e : Expr) → code {O = O} (tree.Value is_node e)
      ≡ code_step (code_open.Value is_node e)
  unfolding code
  does-Value is_node e = ap code (sym (rolls-Code-Value is_node e)) ∙ fold-roll-Code (Item O) code_step
      (code_open.Value is_node e)

  pub does-Declare : (at : ℕ) (size : ℕ) (is_zeroed : Bool) (settings : List Setting) → code {O = O}
      (tree.Declare at size is_zeroed settings)
      ≡ code_step (code_open.Declare at size is_zeroed settings)
  unfolding code
  does-Declare at size is_zeroed settings = ap code (sym (rolls-Code-Declare at size is_zeroed settings)) ∙
      fold-roll-Code (Item O) code_step (code_open.Declare at size is_zeroed settings)

  pub does-Static : (is_node : Bool) (values : List Expr) → code {O = O} (tree.Static is_node values)
      ≡ code_step (code_open.Static is_node values)
  unfolding code
  does-Static is_node values = ap code (sym (rolls-Code-Static is_node values)) ∙ fold-roll-Code (Item O) code_step
      (code_open.Static is_node values)

  pub does-Block : (is_node : Bool) (items : List Code) → code {O = O} (tree.Block is_node items)
      ≡ code_step (code_open.Block is_node (map code items))
  unfolding code
  does-Block is_node items = ap code (sym (rolls-Code-Block is_node items)) ∙ fold-roll-Code (Item O) code_step
      (code_open.Block is_node items)

  pub does-Label : (name : Name) (x : Code) → code {O = O} (tree.Label name x)
      ≡ code_step (code_open.Label name (code x))
  unfolding code
  does-Label name x = ap code (sym (rolls-Code-Label name x)) ∙ fold-roll-Code (Item O) code_step
      (code_open.Label name x)

  pub does-Case : (z : ℤ) (e : Expr) (x : Code) → code {O = O} (tree.Case z e x)
      ≡ code_step (code_open.Case z e (code x))
  unfolding code
  does-Case z e x = ap code (sym (rolls-Code-Case z e x)) ∙ fold-roll-Code (Item O) code_step (code_open.Case z e x)

  pub does-Default : (x : Code) → code {O = O} (tree.Default x)
      ≡ code_step (code_open.Default (code x))
  unfolding code
  does-Default x = ap code (sym (rolls-Code-Default x)) ∙ fold-roll-Code (Item O) code_step (code_open.Default x)

  pub does-If : (at : ℕ) (e : Expr) (x : Code) (y : Code) → code {O = O} (tree.If at e x y)
      ≡ code_step (code_open.If at e (code x) (code y))
  unfolding code
  does-If at e x y = ap code (sym (rolls-Code-If at e x y)) ∙ fold-roll-Code (Item O) code_step (code_open.If at e x y)

  pub does-Switch : (at : ℕ) (word : WordType) (cases : List ℤ) (e : Expr) (is_node : Bool) (items : List Code) →
      code {O = O} (tree.Switch at word cases e is_node items)
      ≡ code_step (code_open.Switch at word cases e is_node (map code items))
  unfolding code
  does-Switch at word cases e is_node items = ap code (sym (rolls-Code-Switch at word cases e is_node items)) ∙
      fold-roll-Code (Item O) code_step (code_open.Switch at word cases e is_node items)

  pub does-Loop : (at : ℕ) (test : Option Expr) (step : Option Expr) (x : Code) → code {O = O}
      (tree.Loop at test step x)
      ≡ code_step (code_open.Loop at test step (code x))
  unfolding code
  does-Loop at test step x = ap code (sym (rolls-Code-Loop at test step x)) ∙ fold-roll-Code (Item O) code_step
      (code_open.Loop at test step x)

  pub does-Repeat : (at : ℕ) (test : Expr) (x : Code) → code {O = O} (tree.Repeat at test x)
      ≡ code_step (code_open.Repeat at test (code x))
  unfolding code
  does-Repeat at test x = ap code (sym (rolls-Code-Repeat at test x)) ∙ fold-roll-Code (Item O) code_step
      (code_open.Repeat at test x)

  pub does-Goto : (name : Name) → code {O = O} (tree.Goto name)
      ≡ code_step (code_open.Goto name)
  unfolding code
  does-Goto name = ap code (sym (rolls-Code-Goto name)) ∙ fold-roll-Code (Item O) code_step (code_open.Goto name)

  pub does-Continue : code {O = O} tree.Continue
      ≡ code_step code_open.Continue
  unfolding code
  does-Continue = ap code (sym rolls-Code-Continue) ∙ fold-roll-Code (Item O) code_step code_open.Continue

  pub does-Break : code {O = O} tree.Break
      ≡ code_step code_open.Break
  unfolding code
  does-Break = ap code (sym rolls-Code-Break) ∙ fold-roll-Code (Item O) code_step code_open.Break

  pub does-Return : (e : Option Expr) → code {O = O} (tree.Return e)
      ≡ code_step (code_open.Return e)
  unfolding code
  does-Return e = ap code (sym (rolls-Code-Return e)) ∙ fold-roll-Code (Item O) code_step (code_open.Return e)
