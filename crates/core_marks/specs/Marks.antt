-- What stands at the tokens of expressions and code: one line a form, over what stands in it. The order of tokens comes
-- later.
use Rattle.std.specs.Prelude.{ℕ, ℤ, Bool, true, false, cond, List, [], ◌∷◌, ◌++◌, map, Option, Some, None}
use Rattle.std.specs.List.{list_any}
use Rattle.plain_data.specs.declared.run.Side.{Side}
use Rattle.plain_data.specs.declared.run.Side.TheVariants.{Yes, No, Case, Otherwise}
use Rattle.plain_data.specs.declared.run.Undefined.{Undefined}
use Rattle.plain_data.specs.declared.run.Undefined.TheVariants.{Dereference, LiteralWrite, Free}
use Rattle.printf_text.specs.declared.piece.Form.{Form}
use Rattle.printf_text.specs.declared.piece.Form.TheVariants as form
use Rattle.printf_text.specs.declared.piece.Piece.{Piece}
use Rattle.printf_text.specs.declared.piece.Piece.TheVariants as piece
use Rattle.core_tree.specs.declared.code.Code.{Code, fold-Code}
use Rattle.core_tree.specs.declared.code.Code.TheOpen as code_open
use Rattle.core_tree.specs.declared.code.Setting.{Setting}
use Rattle.core_tree.specs.declared.code.Setting.TheVariants as setting
use Rattle.core_tree.specs.declared.expr.Callee.{Callee}
use Rattle.core_tree.specs.declared.expr.Callee.TheVariants as callee
use Rattle.core_tree.specs.declared.expr.Expr.{Expr, fold-Expr}
use Rattle.core_tree.specs.declared.expr.Expr.TheOpen as expr_open
use Rattle.core_tree.specs.declared.expr.Fill.{Fill}
use Rattle.core_tree.specs.declared.expr.Watched.{Watched}
use Rattle.core_tree.specs.declared.types.Access.{Access}
use Rattle.core_marks.specs.declared.mark.Mark.{Mark}
use Rattle.core_marks.specs.declared.mark.Mark.TheVariants.{Branch, Call, Body, Log, Exit, Abort, Stop}
use Rattle.core_marks.specs.Kinds.{unless, operator_kinds, turning_kinds}

-- one behind the other
abbrev pub joined : List (List Mark) → List Mark
joined [] = []
joined (xs ∷ more) = xs ++ joined more

-- what stands at each, one behind the other
abbrev pub each : {A : Type 0} → (A → List Mark) → List A → List Mark
each f xs = joined (map f xs)

-- ---- single tokens

abbrev pub one_mark : Mark → List Mark
one_mark m = m ∷ []

abbrev pub one_stop : ℕ → Undefined → List Mark
one_stop at kind = Stop at kind ∷ []

abbrev pub stops : ℕ → List Undefined → List Mark
stops at [] = []
stops at (kind ∷ kinds) = Stop at kind ∷ stops at kinds

abbrev pub one_side : ℕ → Side → List Mark
one_side at side = Branch at side ∷ []

-- a condition, or the left operand, is not zero, or it is
abbrev pub sides : ℕ → List Mark
sides at = Branch at Yes ∷ Branch at No ∷ []

abbrev pub case_marks : ℕ → List ℤ → List Mark
case_marks at cases = each (λ z. one_side at (Case z)) cases

-- each case in order, then none of them (C99 6.8.4.2p5)
abbrev pub switch_marks : ℕ → List ℤ → List Mark
switch_marks at cases = case_marks at cases ++ one_side at Otherwise

-- an object whose bytes may be of no live object is read, at the lvalue's token
abbrev pub read_marks : Access → List Mark
read_marks x = cond x.is_tested (Stop x.at Dereference ∷ []) []

-- it is written, which may also write a literal, by an operator at its own token
abbrev pub write_marks : ℕ → Access → List Mark
write_marks at x = cond x.is_tested (Stop x.at Dereference ∷ Stop at LiteralWrite ∷ []) []

-- ---- calls, at the callee's name

abbrev pub is_text : Form → Bool
is_text form.Text = true
is_text _ = false

abbrev pub is_text_piece : Piece → Bool
is_text_piece (piece.Literal bytes) = false
is_text_piece (piece.Converted c) = is_text c.form

-- a `%s` stands among the pieces
abbrev pub reads_text : List Piece → Bool
reads_text pieces = list_any is_text_piece pieces

abbrev pub site_marks : ℕ → List Piece → List Watched → List Mark
site_marks at pieces watched = Log (record { at = at; pieces = pieces; watched = watched }) ∷ []

abbrev pub log_marks : ℕ → List Piece → List Watched → List Mark
log_marks at pieces watched = site_marks at pieces watched ++ cond (reads_text pieces) (one_stop at Dereference) []

abbrev pub fill_marks : ℕ → Option Fill → List Mark
fill_marks at None = []
fill_marks at (Some fill) = Stop at Dereference ∷ Stop at LiteralWrite ∷ []

-- what is called
abbrev pub callee_marks : ℕ → Callee → List Mark
callee_marks at (callee.Body function) = Body at function ∷ []
callee_marks at (callee.Log pieces before types watched) = log_marks at pieces watched
callee_marks at (callee.Identity index) = []
callee_marks at callee.Exit = Exit at ∷ []
callee_marks at callee.Abort = Abort at ∷ []
callee_marks at callee.Malloc = []
callee_marks at callee.Calloc = []
callee_marks at callee.Free = one_stop at Free
callee_marks at (callee.Outside answer fill) = fill_marks at fill

abbrev pub call_marks : ℕ → Callee → List Mark
call_marks at c = Call at ∷ callee_marks at c

-- ---- expressions

abbrev pub value_step : expr_open.Expr-F (List Mark) → List Mark
value_step (expr_open.Constant z) = []
value_step (expr_open.Fixed place) = []
value_step (expr_open.Local at) = []
value_step (expr_open.Load access x) = read_marks access ++ x
value_step (expr_open.Target x) = x
value_step (expr_open.Pointer x) = x
value_step (expr_open.Offset bytes x) = x
value_step (expr_open.Extract bytes member x) = x
value_step (expr_open.Convert to x) = x
value_step (expr_open.Cast to x) = x
value_step (expr_open.Turn at operator word is_constant x) = stops at (unless is_constant (turning_kinds operator word)) ++ x
value_step (expr_open.Not x) = x
value_step (expr_open.Operate at operator is_constant x y) = stops at (unless is_constant (operator_kinds operator)) ++ (x ++ y)
value_step (expr_open.And at x y) = sides at ++ (x ++ y)
value_step (expr_open.Or at x y) = sides at ++ (x ++ y)
value_step (expr_open.Choose at c x y) = sides at ++ (c ++ (x ++ y))
value_step (expr_open.Store at access x y) = write_marks at access ++ (x ++ y)
value_step (expr_open.Update at operator access x y) = stops at (operator_kinds operator) ++ (write_marks at access ++ (x ++ y))
value_step (expr_open.Step at operator access answer x) = stops at (operator_kinds operator) ++ (write_marks at access ++ x)
value_step (expr_open.Comma x y) = x ++ y
value_step (expr_open.Call at xs c answer is_used) = call_marks at c ++ joined xs

-- what stands at the tokens of an expression
unfoldable pub value_marks : Expr → List Mark
value_marks e = fold-Expr (List Mark) value_step e

abbrev pub values_marks : List Expr → List Mark
values_marks es = each value_marks es

-- an expression that may be missing
abbrev pub option_marks : Option Expr → List Mark
option_marks None = []
option_marks (Some e) = value_marks e

-- ---- statements and declarations

abbrev pub setting_marks : Setting → List Mark
setting_marks (setting.Value offset stored e) = value_marks e
setting_marks (setting.Text offset size bytes) = []

abbrev pub settings_marks : List Setting → List Mark
settings_marks xs = each setting_marks xs

-- a `for` without a condition is no branch (C99 6.8.5.3p2)
abbrev pub test_marks : ℕ → Option Expr → List Mark
test_marks at None = []
test_marks at (Some e) = sides at ++ value_marks e

abbrev pub code_step : code_open.Code-F (List Mark) → List Mark
code_step (code_open.Nothing is_node) = []
code_step (code_open.Value is_node e) = value_marks e
code_step (code_open.Declare at size is_zeroed xs) = settings_marks xs
code_step (code_open.Static is_node es) = values_marks es
code_step (code_open.Block is_node xs) = joined xs
code_step (code_open.Label name x) = x
code_step (code_open.Case z e x) = value_marks e ++ x
code_step (code_open.Default x) = x
code_step (code_open.If at e x y) = sides at ++ (value_marks e ++ (x ++ y))
code_step (code_open.Switch at word cases e is_node xs) = switch_marks at cases ++ (value_marks e ++ joined xs)
code_step (code_open.Loop at test step x) = test_marks at test ++ (option_marks step ++ x)
code_step (code_open.Repeat at test x) = sides at ++ (value_marks test ++ x)
code_step (code_open.Goto name) = []
code_step code_open.Continue = []
code_step code_open.Break = []
code_step (code_open.Return e) = option_marks e

-- what stands at the tokens of code
unfoldable pub code_marks : Code → List Mark
code_marks c = fold-Code (List Mark) code_step c

abbrev pub items_marks : List Code → List Mark
items_marks cs = each code_marks cs
