-- Whether all functions that are called by their bodies have numbers below a bound: one line a form, over what stands
-- in it, as it is found without a list of what stands at tokens.
use Rattle.std.specs.Prelude.{ℕ, Bool, true, nat_lt, ◌&&◌, List, Option, Some, None}
use Rattle.std.specs.List.{list_all}
use Rattle.core_tree.specs.declared.code.Code.{Code, fold-Code}
use Rattle.core_tree.specs.declared.code.Code.TheOpen as code_open
use Rattle.core_tree.specs.declared.code.Setting.{Setting}
use Rattle.core_tree.specs.declared.code.Setting.TheVariants as setting
use Rattle.core_tree.specs.declared.expr.Callee.{Callee}
use Rattle.core_tree.specs.declared.expr.Callee.TheVariants as callee
use Rattle.core_tree.specs.declared.expr.Expr.{Expr, fold-Expr}
use Rattle.core_tree.specs.declared.expr.Expr.TheOpen as expr_open

-- each of them is true
abbrev pub all_true : List Bool → Bool
all_true bs = list_all (λ b. b) bs

-- ---- calls

abbrev pub callee_below : ℕ → Callee → Bool
callee_below n (callee.Body function) = nat_lt function n
callee_below n (callee.Log pieces before types watched) = true
callee_below n (callee.Identity index) = true
callee_below n callee.Exit = true
callee_below n callee.Abort = true
callee_below n callee.Malloc = true
callee_below n callee.Calloc = true
callee_below n callee.Free = true
callee_below n (callee.Outside answer fill) = true

-- ---- expressions

abbrev pub value_step : ℕ → expr_open.Expr-F Bool → Bool
value_step n (expr_open.Constant z) = true
value_step n (expr_open.Fixed place) = true
value_step n (expr_open.Local at) = true
value_step n (expr_open.Load access x) = x
value_step n (expr_open.Target x) = x
value_step n (expr_open.Pointer x) = x
value_step n (expr_open.Offset bytes x) = x
value_step n (expr_open.Extract bytes member x) = x
value_step n (expr_open.Convert to x) = x
value_step n (expr_open.Cast to x) = x
value_step n (expr_open.Turn at operator word is_constant x) = x
value_step n (expr_open.Not x) = x
value_step n (expr_open.Operate at operator is_constant x y) = x && y
value_step n (expr_open.And at x y) = x && y
value_step n (expr_open.Or at x y) = x && y
value_step n (expr_open.Choose at c x y) = c && (x && y)
value_step n (expr_open.Store at access x y) = x && y
value_step n (expr_open.Update at operator access x y) = x && y
value_step n (expr_open.Step at operator access answer x) = x
value_step n (expr_open.Comma x y) = x && y
value_step n (expr_open.Call at xs c answer is_used) = callee_below n c && all_true xs

-- each call in an expression is of a function below the bound
unfoldable pub value_below : ℕ → Expr → Bool
value_below n e = fold-Expr Bool (value_step n) e

-- an expression that may be missing
abbrev pub option_below : ℕ → Option Expr → Bool
option_below n None = true
option_below n (Some e) = value_below n e

-- ---- statements and declarations

abbrev pub setting_below : ℕ → Setting → Bool
setting_below n (setting.Value offset stored e) = value_below n e
setting_below n (setting.Text offset size bytes) = true

abbrev pub code_step : ℕ → code_open.Code-F Bool → Bool
code_step n (code_open.Nothing is_node) = true
code_step n (code_open.Value is_node e) = value_below n e
code_step n (code_open.Declare at size is_zeroed xs) = list_all (setting_below n) xs
code_step n (code_open.Static is_node es) = list_all (value_below n) es
code_step n (code_open.Block is_node xs) = all_true xs
code_step n (code_open.Label name x) = x
code_step n (code_open.Case z e x) = value_below n e && x
code_step n (code_open.Default x) = x
code_step n (code_open.If at e x y) = value_below n e && (x && y)
code_step n (code_open.Switch at word cases e is_node xs) = value_below n e && all_true xs
code_step n (code_open.Loop at test step x) = option_below n test && (option_below n step && x)
code_step n (code_open.Repeat at test x) = value_below n test && x
code_step n (code_open.Goto name) = true
code_step n code_open.Continue = true
code_step n code_open.Break = true
code_step n (code_open.Return e) = option_below n e

-- each call in code is of a function below the bound
unfoldable pub code_below : ℕ → Code → Bool
code_below n c = fold-Code Bool (code_step n) c
