-- One induction over expressions, and one over code.
use Rattle.std.proofs.Common.{ℕ, ℤ, List, [], ◌∷◌, Option, Bool, sym, subst}
use Rattle.std.specs.Prelude.{map}
use denote.Hole.Holds.{Such}
use Rattle.c_language.specs.Scopes.{Name}
use Rattle.core_tree.specs.declared.types.Access.{Access}
use Rattle.core_tree.specs.declared.types.Answered.{Answered}
use Rattle.core_tree.specs.declared.types.Operator.{Operator}
use Rattle.core_tree.specs.declared.types.Turning.{Turning}
use Rattle.core_tree.specs.declared.types.ValueType.{ValueType}
use Rattle.core_tree.specs.declared.types.WordType.{WordType}
use Rattle.core_tree.specs.declared.expr.Callee.{Callee}
use Rattle.core_tree.specs.declared.expr.Expr.{Expr, ind-Expr, roll-Expr, map-Expr}
use Rattle.core_tree.specs.declared.expr.Expr.TheBlock.{the_family as expr_family, member-Expr}
use Rattle.core_tree.specs.declared.expr.Expr.TheFolds.{claims as expr_claims}
use Rattle.core_tree.specs.declared.expr.Expr.TheOpen as expr_open
use Rattle.core_tree.specs.declared.expr.Expr.TheVariants as expr
use Rattle.core_tree.specs.declared.expr.Expr.TheVariants.{rolls-Constant as rolls-Expr-Constant}
use Rattle.core_tree.specs.declared.expr.Expr.TheVariants.{rolls-Fixed as rolls-Expr-Fixed}
use Rattle.core_tree.specs.declared.expr.Expr.TheVariants.{rolls-Local as rolls-Expr-Local}
use Rattle.core_tree.specs.declared.expr.Expr.TheVariants.{rolls-Load as rolls-Expr-Load}
use Rattle.core_tree.specs.declared.expr.Expr.TheVariants.{rolls-Target as rolls-Expr-Target}
use Rattle.core_tree.specs.declared.expr.Expr.TheVariants.{rolls-Pointer as rolls-Expr-Pointer}
use Rattle.core_tree.specs.declared.expr.Expr.TheVariants.{rolls-Offset as rolls-Expr-Offset}
use Rattle.core_tree.specs.declared.expr.Expr.TheVariants.{rolls-Extract as rolls-Expr-Extract}
use Rattle.core_tree.specs.declared.expr.Expr.TheVariants.{rolls-Convert as rolls-Expr-Convert}
use Rattle.core_tree.specs.declared.expr.Expr.TheVariants.{rolls-Cast as rolls-Expr-Cast}
use Rattle.core_tree.specs.declared.expr.Expr.TheVariants.{rolls-Turn as rolls-Expr-Turn}
use Rattle.core_tree.specs.declared.expr.Expr.TheVariants.{rolls-Not as rolls-Expr-Not}
use Rattle.core_tree.specs.declared.expr.Expr.TheVariants.{rolls-Operate as rolls-Expr-Operate}
use Rattle.core_tree.specs.declared.expr.Expr.TheVariants.{rolls-And as rolls-Expr-And}
use Rattle.core_tree.specs.declared.expr.Expr.TheVariants.{rolls-Or as rolls-Expr-Or}
use Rattle.core_tree.specs.declared.expr.Expr.TheVariants.{rolls-Choose as rolls-Expr-Choose}
use Rattle.core_tree.specs.declared.expr.Expr.TheVariants.{rolls-Store as rolls-Expr-Store}
use Rattle.core_tree.specs.declared.expr.Expr.TheVariants.{rolls-Update as rolls-Expr-Update}
use Rattle.core_tree.specs.declared.expr.Expr.TheVariants.{rolls-Step as rolls-Expr-Step}
use Rattle.core_tree.specs.declared.expr.Expr.TheVariants.{rolls-Comma as rolls-Expr-Comma}
use Rattle.core_tree.specs.declared.expr.Expr.TheVariants.{rolls-Call as rolls-Expr-Call}
use Rattle.core_tree.specs.declared.code.Setting.{Setting}
use Rattle.core_tree.specs.declared.code.Code.{Code, ind-Code, roll-Code, map-Code}
use Rattle.core_tree.specs.declared.code.Code.TheBlock.{the_family as code_family, member-Code}
use Rattle.core_tree.specs.declared.code.Code.TheFolds.{claims as code_claims}
use Rattle.core_tree.specs.declared.code.Code.TheOpen as code_open
use Rattle.core_tree.specs.declared.code.Code.TheVariants as tree
use Rattle.core_tree.specs.declared.code.Code.TheVariants.{rolls-Nothing as rolls-Code-Nothing}
use Rattle.core_tree.specs.declared.code.Code.TheVariants.{rolls-Value as rolls-Code-Value}
use Rattle.core_tree.specs.declared.code.Code.TheVariants.{rolls-Declare as rolls-Code-Declare}
use Rattle.core_tree.specs.declared.code.Code.TheVariants.{rolls-Static as rolls-Code-Static}
use Rattle.core_tree.specs.declared.code.Code.TheVariants.{rolls-Block as rolls-Code-Block}
use Rattle.core_tree.specs.declared.code.Code.TheVariants.{rolls-Label as rolls-Code-Label}
use Rattle.core_tree.specs.declared.code.Code.TheVariants.{rolls-Case as rolls-Code-Case}
use Rattle.core_tree.specs.declared.code.Code.TheVariants.{rolls-Default as rolls-Code-Default}
use Rattle.core_tree.specs.declared.code.Code.TheVariants.{rolls-If as rolls-Code-If}
use Rattle.core_tree.specs.declared.code.Code.TheVariants.{rolls-Switch as rolls-Code-Switch}
use Rattle.core_tree.specs.declared.code.Code.TheVariants.{rolls-Loop as rolls-Code-Loop}
use Rattle.core_tree.specs.declared.code.Code.TheVariants.{rolls-Repeat as rolls-Code-Repeat}
use Rattle.core_tree.specs.declared.code.Code.TheVariants.{rolls-Goto as rolls-Code-Goto}
use Rattle.core_tree.specs.declared.code.Code.TheVariants.{rolls-Continue as rolls-Code-Continue}
use Rattle.core_tree.specs.declared.code.Code.TheVariants.{rolls-Break as rolls-Code-Break}
use Rattle.core_tree.specs.declared.code.Code.TheVariants.{rolls-Return as rolls-Code-Return}

-- each of the list meets P
abbrev pub Each : {A : Type 0} → (A → Type 0) → List A → Type 0
Each P [] = Unit {0}
Each P (x ∷ xs) = P x × Each P xs

-- ---- expressions

-- what holds wherever it holds of what stands inside
pub record ExprSteps (P : Expr → Type 0) : Type 0 where
  pub on_Constant : (z : ℤ) → P (expr.Constant z)
  pub on_Fixed : (place : ℕ) → P (expr.Fixed place)
  pub on_Local : (at : ℕ) → P (expr.Local at)
  pub on_Load : (access : Access) (x : Expr) → P x → P (expr.Load access x)
  pub on_Target : (x : Expr) → P x → P (expr.Target x)
  pub on_Pointer : (x : Expr) → P x → P (expr.Pointer x)
  pub on_Offset : (bytes : ℕ) (x : Expr) → P x → P (expr.Offset bytes x)
  pub on_Extract : (bytes : ℕ) (member : ValueType) (x : Expr) → P x → P (expr.Extract bytes member x)
  pub on_Convert : (to : ValueType) (x : Expr) → P x → P (expr.Convert to x)
  pub on_Cast : (to : ValueType) (x : Expr) → P x → P (expr.Cast to x)
  pub on_Turn : (at : ℕ) (operator : Turning) (word : WordType) (is_constant : Bool) (x : Expr) → P x → P
      (expr.Turn at operator word is_constant x)
  pub on_Not : (x : Expr) → P x → P (expr.Not x)
  pub on_Operate : (at : ℕ) (operator : Operator) (is_constant : Bool) (x : Expr) (y : Expr) → P x → P y → P
      (expr.Operate at operator is_constant x y)
  pub on_And : (at : ℕ) (x : Expr) (y : Expr) → P x → P y → P (expr.And at x y)
  pub on_Or : (at : ℕ) (x : Expr) (y : Expr) → P x → P y → P (expr.Or at x y)
  pub on_Choose : (at : ℕ) (c : Expr) (x : Expr) (y : Expr) → P c → P x → P y → P (expr.Choose at c x y)
  pub on_Store : (at : ℕ) (access : Access) (x : Expr) (y : Expr) → P x → P y → P (expr.Store at access x y)
  pub on_Update : (at : ℕ) (operator : Operator) (access : Access) (x : Expr) (y : Expr) → P x → P y → P
      (expr.Update at operator access x y)
  pub on_Step : (at : ℕ) (operator : Operator) (access : Access) (answer : Answered) (x : Expr) → P x → P
      (expr.Step at operator access answer x)
  pub on_Comma : (x : Expr) (y : Expr) → P x → P y → P (expr.Comma x y)
  pub on_Call : (at : ℕ) (xs : List Expr) (callee : Callee) (answer : ValueType) (is_used : Bool) → Each P xs → P
      (expr.Call at xs callee answer is_used)

module _ (P : Expr → Type 0) (s : ExprSteps P) where
  abbrev ProvedExpr : Type 0
  ProvedExpr = Such expr_family (expr_claims P) member-Expr

  each_expr : (ys : List ProvedExpr) → Each P (map (λ e. e.0) ys)
  each_expr [] = tt
  each_expr (y ∷ ys) = (y.1, each_expr ys)

  at_expr : (y : expr_open.Expr-F ProvedExpr) → P (roll-Expr (map-Expr ProvedExpr Expr (λ e. e.0) y))
  at_expr (expr_open.Constant z) = subst P (sym (rolls-Expr-Constant _)) (s.on_Constant z)
  at_expr (expr_open.Fixed place) = subst P (sym (rolls-Expr-Fixed _)) (s.on_Fixed place)
  at_expr (expr_open.Local at) = subst P (sym (rolls-Expr-Local _)) (s.on_Local at)
  at_expr (expr_open.Load access x) = subst P (sym (rolls-Expr-Load _ _)) (s.on_Load access x.0 x.1)
  at_expr (expr_open.Target x) = subst P (sym (rolls-Expr-Target _)) (s.on_Target x.0 x.1)
  at_expr (expr_open.Pointer x) = subst P (sym (rolls-Expr-Pointer _)) (s.on_Pointer x.0 x.1)
  at_expr (expr_open.Offset bytes x) = subst P (sym (rolls-Expr-Offset _ _)) (s.on_Offset bytes x.0 x.1)
  at_expr (expr_open.Extract bytes member x) = subst P (sym (rolls-Expr-Extract _ _ _))
      (s.on_Extract bytes member x.0 x.1)
  at_expr (expr_open.Convert to x) = subst P (sym (rolls-Expr-Convert _ _)) (s.on_Convert to x.0 x.1)
  at_expr (expr_open.Cast to x) = subst P (sym (rolls-Expr-Cast _ _)) (s.on_Cast to x.0 x.1)
  at_expr (expr_open.Turn at operator word is_constant x) = subst P (sym (rolls-Expr-Turn _ _ _ _ _))
      (s.on_Turn at operator word is_constant x.0 x.1)
  at_expr (expr_open.Not x) = subst P (sym (rolls-Expr-Not _)) (s.on_Not x.0 x.1)
  at_expr (expr_open.Operate at operator is_constant x y) = subst P (sym (rolls-Expr-Operate _ _ _ _ _))
      (s.on_Operate at operator is_constant x.0 y.0 x.1 y.1)
  at_expr (expr_open.And at x y) = subst P (sym (rolls-Expr-And _ _ _)) (s.on_And at x.0 y.0 x.1 y.1)
  at_expr (expr_open.Or at x y) = subst P (sym (rolls-Expr-Or _ _ _)) (s.on_Or at x.0 y.0 x.1 y.1)
  at_expr (expr_open.Choose at c x y) = subst P (sym (rolls-Expr-Choose _ _ _ _))
      (s.on_Choose at c.0 x.0 y.0 c.1 x.1 y.1)
  at_expr (expr_open.Store at access x y) = subst P (sym (rolls-Expr-Store _ _ _ _))
      (s.on_Store at access x.0 y.0 x.1 y.1)
  at_expr (expr_open.Update at operator access x y) = subst P (sym (rolls-Expr-Update _ _ _ _ _))
      (s.on_Update at operator access x.0 y.0 x.1 y.1)
  at_expr (expr_open.Step at operator access answer x) = subst P (sym (rolls-Expr-Step _ _ _ _ _))
      (s.on_Step at operator access answer x.0 x.1)
  at_expr (expr_open.Comma x y) = subst P (sym (rolls-Expr-Comma _ _)) (s.on_Comma x.0 y.0 x.1 y.1)
  at_expr (expr_open.Call at xs callee answer is_used) = subst P (sym (rolls-Expr-Call _ _ _ _ _))
      (s.on_Call at _ callee answer is_used (each_expr xs))

  pub of_expr : (x : Expr) → P x
  of_expr x = ind-Expr P (λ x y is. subst (λ (z : expr_open.Expr-F Expr). P (roll-Expr z)) is (at_expr y)) x

-- ---- code

-- what holds wherever it holds of what stands inside
pub record CodeSteps (P : Code → Type 0) : Type 0 where
  pub on_Nothing : (is_node : Bool) → P (tree.Nothing is_node)
  pub on_Value : (is_node : Bool) (e : Expr) → P (tree.Value is_node e)
  pub on_Declare : (at : ℕ) (size : ℕ) (is_zeroed : Bool) (settings : List Setting) → P
      (tree.Declare at size is_zeroed settings)
  pub on_Static : (is_node : Bool) (values : List Expr) → P (tree.Static is_node values)
  pub on_Block : (is_node : Bool) (items : List Code) → Each P items → P (tree.Block is_node items)
  pub on_Label : (name : Name) (x : Code) → P x → P (tree.Label name x)
  pub on_Case : (z : ℤ) (e : Expr) (x : Code) → P x → P (tree.Case z e x)
  pub on_Default : (x : Code) → P x → P (tree.Default x)
  pub on_If : (at : ℕ) (e : Expr) (x : Code) (y : Code) → P x → P y → P (tree.If at e x y)
  pub on_Switch : (at : ℕ) (word : WordType) (cases : List ℤ) (e : Expr) (is_node : Bool) (items : List Code) → Each
      P items → P (tree.Switch at word cases e is_node items)
  pub on_Loop : (at : ℕ) (test : Option Expr) (step : Option Expr) (x : Code) → P x → P (tree.Loop at test step x)
  pub on_Repeat : (at : ℕ) (test : Expr) (x : Code) → P x → P (tree.Repeat at test x)
  pub on_Goto : (name : Name) → P (tree.Goto name)
  pub on_Continue : P tree.Continue
  pub on_Break : P tree.Break
  pub on_Return : (e : Option Expr) → P (tree.Return e)

module _ (P : Code → Type 0) (s : CodeSteps P) where
  abbrev ProvedCode : Type 0
  ProvedCode = Such code_family (code_claims P) member-Code

  each_code : (ys : List ProvedCode) → Each P (map (λ e. e.0) ys)
  each_code [] = tt
  each_code (y ∷ ys) = (y.1, each_code ys)

  at_code : (y : code_open.Code-F ProvedCode) → P (roll-Code (map-Code ProvedCode Code (λ e. e.0) y))
  at_code (code_open.Nothing is_node) = subst P (sym (rolls-Code-Nothing _)) (s.on_Nothing is_node)
  at_code (code_open.Value is_node e) = subst P (sym (rolls-Code-Value _ _)) (s.on_Value is_node e)
  at_code (code_open.Declare at size is_zeroed settings) = subst P (sym (rolls-Code-Declare _ _ _ _))
      (s.on_Declare at size is_zeroed settings)
  at_code (code_open.Static is_node values) = subst P (sym (rolls-Code-Static _ _)) (s.on_Static is_node values)
  at_code (code_open.Block is_node items) = subst P (sym (rolls-Code-Block _ _))
      (s.on_Block is_node _ (each_code items))
  at_code (code_open.Label name x) = subst P (sym (rolls-Code-Label _ _)) (s.on_Label name x.0 x.1)
  at_code (code_open.Case z e x) = subst P (sym (rolls-Code-Case _ _ _)) (s.on_Case z e x.0 x.1)
  at_code (code_open.Default x) = subst P (sym (rolls-Code-Default _)) (s.on_Default x.0 x.1)
  at_code (code_open.If at e x y) = subst P (sym (rolls-Code-If _ _ _ _)) (s.on_If at e x.0 y.0 x.1 y.1)
  at_code (code_open.Switch at word cases e is_node items) = subst P (sym (rolls-Code-Switch _ _ _ _ _ _))
      (s.on_Switch at word cases e is_node _ (each_code items))
  at_code (code_open.Loop at test step x) = subst P (sym (rolls-Code-Loop _ _ _ _)) (s.on_Loop at test step x.0 x.1)
  at_code (code_open.Repeat at test x) = subst P (sym (rolls-Code-Repeat _ _ _)) (s.on_Repeat at test x.0 x.1)
  at_code (code_open.Goto name) = subst P (sym (rolls-Code-Goto _)) (s.on_Goto name)
  at_code code_open.Continue = subst P (sym rolls-Code-Continue) s.on_Continue
  at_code code_open.Break = subst P (sym rolls-Code-Break) s.on_Break
  at_code (code_open.Return e) = subst P (sym (rolls-Code-Return _)) (s.on_Return e)

  pub of_code : (x : Code) → P x
  of_code x = ind-Code P (λ x y is. subst (λ (z : code_open.Code-F Code). P (roll-Code z)) is (at_code y)) x
