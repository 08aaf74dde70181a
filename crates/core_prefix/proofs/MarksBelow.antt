-- Whether expressions and code call functions below a bound alone is told by what stands at their tokens.
use Rattle.std.proofs.Common.{◌≡◌, ℕ, ℤ, Bool, true, false, cond, ◌&&◌, List, [], ◌∷◌, ◌++◌, Option, Some, None, map}
use Rattle.std.proofs.Common.{refl, sym, ap, ap₂, ◌∙◌}
use Rattle.std.specs.List.{list_all, list_any}
use Rattle.std.proofs.lemmas.List.Folds.{list_all-append}
use Rattle.plain_data.specs.declared.run.Undefined.{Undefined}
use Rattle.printf_text.specs.declared.piece.Piece.{Piece}
use Rattle.core_tree.specs.declared.code.Code.{Code}
use Rattle.core_tree.specs.declared.code.Code.TheVariants as tree
use Rattle.core_tree.specs.declared.code.Setting.{Setting}
use Rattle.core_tree.specs.declared.code.Setting.TheVariants as setting
use Rattle.core_tree.specs.declared.expr.Callee.{Callee}
use Rattle.core_tree.specs.declared.expr.Callee.TheVariants as callee
use Rattle.core_tree.specs.declared.expr.Expr.{Expr}
use Rattle.core_tree.specs.declared.expr.Expr.TheVariants as expr
use Rattle.core_tree.specs.declared.expr.Fill.{Fill}
use Rattle.core_tree.specs.declared.expr.Watched.{Watched}
use Rattle.core_tree.specs.declared.program.Function.{Function}
use Rattle.core_tree.specs.declared.types.Access.{Access}
use Rattle.core_tree.proofs.Induction.{Each, ExprSteps, of_expr, CodeSteps, of_code}
use Rattle.core_marks.specs.declared.mark.Mark.{Mark}
use Rattle.core_marks.specs.Kinds.{unless, operator_kinds, turning_kinds}
use Rattle.core_marks.specs.Marks as marks
use Rattle.core_marks.specs.Marks.{value_marks, values_marks, option_marks, settings_marks, code_marks, items_marks}
use Rattle.core_marks.proofs.ExprMarks as of
use Rattle.core_marks.proofs.CodeMarks as at
use Rattle.core_prefix.specs.Prefixes.{mark_below, calls_below}
use Rattle.core_prefix.specs.Calls.{callee_below, value_below, option_below, setting_below, code_below}
use Rattle.core_prefix.proofs.ExprCalls as calls
use Rattle.core_prefix.proofs.CodeCalls as codes

module _ (n : ℕ) where
  abbrev all_below : List Mark → Bool
  all_below ms = list_all (mark_below n) ms

  -- ---- lists of marks

  both : (xs ys : List Mark) → all_below (xs ++ ys) ≡ (all_below xs && all_below ys)
  both xs ys = list_all-append (mark_below n) xs ys

  -- behind what has no such call
  behind : (own ms : List Mark) → all_below own ≡ true → all_below (own ++ ms) ≡ all_below ms
  behind own ms h = both own ms ∙ ap (λ b. b && all_below ms) h

  chosen : (b : Bool) (ms : List Mark) → all_below ms ≡ true → all_below (cond b ms []) ≡ true
  chosen true ms h = h
  chosen false ms h = refl

  stops : (at : ℕ) (kinds : List Undefined) → all_below (marks.stops at kinds) ≡ true
  stops at [] = refl
  stops at (kind ∷ kinds) = stops at kinds

  reads : (x : Access) → all_below (marks.read_marks x) ≡ true
  reads x = chosen x.is_tested _ refl

  writes : (at : ℕ) (x : Access) → all_below (marks.write_marks at x) ≡ true
  writes at x = chosen x.is_tested _ refl

  cases : (at : ℕ) (zs : List ℤ) → all_below (marks.switch_marks at zs) ≡ true
  cases at [] = refl
  cases at (z ∷ zs) = cases at zs

  fills : (at : ℕ) (fill : Option Fill) → all_below (marks.fill_marks at fill) ≡ true
  fills at None = refl
  fills at (Some fill) = refl

  callees : (at : ℕ) (c : Callee) → all_below (marks.call_marks at c) ≡ callee_below n c
  callees at (callee.Body function) = and_true (callee_below n (callee.Body function))
    where
      and_true : (b : Bool) → (b && true) ≡ b
      and_true true = refl
      and_true false = refl
  callees at (callee.Log pieces before types watched) = chosen (marks.reads_text pieces) _ refl
  callees at (callee.Identity index) = refl
  callees at callee.Exit = refl
  callees at callee.Abort = refl
  callees at callee.Malloc = refl
  callees at callee.Calloc = refl
  callees at callee.Free = refl
  callees at (callee.Outside answer fill) = fills at fill

  -- ---- expressions

  abbrev SameValue : Expr → Type 0
  SameValue e = value_below n e ≡ all_below (value_marks e)

  none_of : (e : Expr) → value_below n e ≡ true → value_marks e ≡ [] → SameValue e
  none_of e is none = is ∙ sym (ap all_below none)

  -- a form with one part, and such with two, where what stands at its own token is no such call
  with_one : (e x : Expr) (own : List Mark) → value_below n e ≡ value_below n x → value_marks e ≡ own ++ value_marks x
      → all_below own ≡ true → SameValue x → SameValue e
  with_one e x own is told h same = is ∙ same ∙ sym (ap all_below told ∙ behind own (value_marks x) h)

  with_two : (e x y : Expr) (own : List Mark) → value_below n e ≡ (value_below n x && value_below n y)
      → value_marks e ≡ own ++ (value_marks x ++ value_marks y) → all_below own ≡ true
      → SameValue x → SameValue y → SameValue e
  with_two e x y own is told h same more =
      is ∙ ap₂ (λ a b. a && b) same more
      ∙ sym (ap all_below told ∙ behind own (value_marks x ++ value_marks y) h ∙ both (value_marks x) (value_marks y))

  values : (es : List Expr) → Each SameValue es → list_all (value_below n) es ≡ all_below (values_marks es)
  values [] h = refl
  values (e ∷ es) h = ap₂ (λ a b. a && b) h.0 (values es h.1) ∙ sym (both (value_marks e) (values_marks es))

  value_steps : ExprSteps SameValue
  value_steps = record {
    on_Constant = λ z. none_of (expr.Constant z) (calls.below-Constant n _ z refl) (of.marks-Constant _ z refl);
    on_Fixed = λ place. none_of (expr.Fixed place) (calls.below-Fixed n _ place refl) (of.marks-Fixed _ place refl);
    on_Local = λ at. none_of (expr.Local at) (calls.below-Local n _ at refl) (of.marks-Local _ at refl);
    on_Load = λ access x. with_one (expr.Load access x) x (marks.read_marks access)
        (calls.below-Load n _ access x refl) (of.marks-Load _ access x refl) (reads access);
    on_Target = λ x. with_one (expr.Target x) x [] (calls.below-Target n _ x refl) (of.marks-Target _ x refl) refl;
    on_Pointer = λ x. with_one (expr.Pointer x) x [] (calls.below-Pointer n _ x refl) (of.marks-Pointer _ x refl) refl;
    on_Offset = λ bytes x. with_one (expr.Offset bytes x) x [] (calls.below-Offset n _ bytes x refl)
        (of.marks-Offset _ bytes x refl) refl;
    on_Extract = λ bytes member x. with_one (expr.Extract bytes member x) x []
        (calls.below-Extract n _ bytes member x refl) (of.marks-Extract _ bytes member x refl) refl;
    on_Convert = λ to x. with_one (expr.Convert to x) x [] (calls.below-Convert n _ to x refl)
        (of.marks-Convert _ to x refl) refl;
    on_Cast = λ to x. with_one (expr.Cast to x) x [] (calls.below-Cast n _ to x refl) (of.marks-Cast _ to x refl) refl;
    on_Turn = λ at operator word is_constant x. with_one (expr.Turn at operator word is_constant x) x
        (marks.stops at (unless is_constant (turning_kinds operator word)))
        (calls.below-Turn n _ at operator word is_constant x refl)
        (of.marks-Turn _ at operator word is_constant x refl)
        (stops at (unless is_constant (turning_kinds operator word)));
    on_Not = λ x. with_one (expr.Not x) x [] (calls.below-Not n _ x refl) (of.marks-Not _ x refl) refl;
    on_Operate = λ at operator is_constant x y. with_two (expr.Operate at operator is_constant x y) x y
        (marks.stops at (unless is_constant (operator_kinds operator)))
        (calls.below-Operate n _ at operator is_constant x y refl)
        (of.marks-Operate _ at operator is_constant x y refl)
        (stops at (unless is_constant (operator_kinds operator)));
    on_And = λ at x y. with_two (expr.And at x y) x y (marks.sides at) (calls.below-And n _ at x y refl)
        (of.marks-And _ at x y refl) refl;
    on_Or = λ at x y. with_two (expr.Or at x y) x y (marks.sides at) (calls.below-Or n _ at x y refl)
        (of.marks-Or _ at x y refl) refl;
    on_Choose = λ at c x y g h i.
        calls.below-Choose n (expr.Choose at c x y) at c x y refl
        ∙ ap₂ (λ a b. a && b) g (ap₂ (λ a b. a && b) h i)
        ∙ sym (ap all_below (of.marks-Choose (expr.Choose at c x y) at c x y refl)
        ∙ both (value_marks c) (value_marks x ++ value_marks y)
        ∙ ap (λ b. all_below (value_marks c) && b) (both (value_marks x) (value_marks y)));
    on_Store = λ at access x y. with_two (expr.Store at access x y) x y (marks.write_marks at access)
        (calls.below-Store n _ at access x y refl) (of.marks-Store _ at access x y refl) (writes at access);
    on_Update = λ at operator access x y h i.
        let own = marks.stops at (operator_kinds operator) in
        let parts = value_marks x ++ value_marks y in
        calls.below-Update n (expr.Update at operator access x y) at operator access x y refl
        ∙ ap₂ (λ a b. a && b) h i
        ∙ sym (ap all_below (of.marks-Update (expr.Update at operator access x y) at operator access x y refl)
        ∙ behind own (marks.write_marks at access ++ parts) (stops at (operator_kinds operator))
        ∙ behind (marks.write_marks at access) parts (writes at access) ∙ both (value_marks x) (value_marks y));
    on_Step = λ at operator access answer x h.
        let own = marks.stops at (operator_kinds operator) in
        calls.below-Step n (expr.Step at operator access answer x) at operator access answer x refl
        ∙ h
        ∙ sym (ap all_below (of.marks-Step (expr.Step at operator access answer x) at operator access answer x refl)
        ∙ behind own (marks.write_marks at access ++ value_marks x) (stops at (operator_kinds operator))
        ∙ behind (marks.write_marks at access) (value_marks x) (writes at access));
    on_Comma = λ x y. with_two (expr.Comma x y) x y [] (calls.below-Comma n _ x y refl) (of.marks-Comma _ x y refl)
        refl;
    on_Call = λ at xs c type used h.
        calls.below-Call n (expr.Call at xs c type used) at xs c type used refl
        ∙ ap₂ (λ a b. a && b) (sym (callees at c)) (values xs h)
        ∙ sym (ap all_below (of.marks-Call (expr.Call at xs c type used) at xs c type used refl)
        ∙ both (marks.call_marks at c) (values_marks xs));
  }

  pub value_told : (e : Expr) → SameValue e
  value_told e = of_expr SameValue value_steps e

  values_told : (es : List Expr) → list_all (value_below n) es ≡ all_below (values_marks es)
  values_told es = values es (each es)
    where
      each : (es : List Expr) → Each SameValue es
      each [] = tt
      each (e ∷ es) = (value_told e, each es)

  option_told : (e : Option Expr) → option_below n e ≡ all_below (option_marks e)
  option_told None = refl
  option_told (Some e) = value_told e

  test_told : (at : ℕ) (e : Option Expr) → option_below n e ≡ all_below (marks.test_marks at e)
  test_told at None = refl
  test_told at (Some e) = value_told e

  -- ---- statements and declarations

  setting_told : (x : Setting) → setting_below n x ≡ all_below (marks.setting_marks x)
  setting_told (setting.Value offset stored e) = value_told e
  setting_told (setting.Text offset size bytes) = refl

  settings_told : (xs : List Setting) → list_all (setting_below n) xs ≡ all_below (settings_marks xs)
  settings_told [] = refl
  settings_told (x ∷ xs) =
      ap₂ (λ a b. a && b) (setting_told x) (settings_told xs) ∙ sym (both (marks.setting_marks x) (settings_marks xs))

  abbrev SameCode : Code → Type 0
  SameCode c = code_below n c ≡ all_below (code_marks c)

  no_code : (c : Code) → code_below n c ≡ true → code_marks c ≡ [] → SameCode c
  no_code c is none = is ∙ sym (ap all_below none)

  -- a form of which this stands in it
  form : (c : Code) (b : Bool) (ms : List Mark) → code_below n c ≡ b → code_marks c ≡ ms → b ≡ all_below ms
      → SameCode c
  form c b ms is told h = is ∙ h ∙ sym (ap all_below told)

  codes_told : (cs : List Code) → Each SameCode cs → list_all (code_below n) cs ≡ all_below (items_marks cs)
  codes_told [] h = refl
  codes_told (c ∷ cs) h = ap₂ (λ a b. a && b) h.0 (codes_told cs h.1) ∙ sym (both (code_marks c) (items_marks cs))

  -- two parts, one behind the other
  pair : (a b : Bool) (xs ys : List Mark) → a ≡ all_below xs → b ≡ all_below ys → (a && b) ≡ all_below (xs ++ ys)
  pair a b xs ys h i = ap₂ (λ a b. a && b) h i ∙ sym (both xs ys)

  code_steps : CodeSteps SameCode
  code_steps = record {
    on_Nothing = λ is_node. no_code (tree.Nothing is_node) (codes.below-Nothing n _ is_node refl)
        (at.marks-Nothing _ is_node refl);
    on_Value = λ is_node e. form (tree.Value is_node e) _ _ (codes.below-Value n _ is_node e refl)
        (at.marks-Value _ is_node e refl) (value_told e);
    on_Declare = λ place size is_zeroed xs. form (tree.Declare place size is_zeroed xs) _ _
        (codes.below-Declare n _ place size is_zeroed xs refl) (at.marks-Declare _ place size is_zeroed xs refl)
        (settings_told xs);
    on_Static = λ is_node es. form (tree.Static is_node es) _ _ (codes.below-Static n _ is_node es refl)
        (at.marks-Static _ is_node es refl) (values_told es);
    on_Block = λ is_node cs h. form (tree.Block is_node cs) _ _ (codes.below-Block n _ is_node cs refl)
        (at.marks-Block _ is_node cs refl) (codes_told cs h);
    on_Label = λ name x h. form (tree.Label name x) _ _ (codes.below-Label n _ name x refl)
        (at.marks-Label _ name x refl) h;
    on_Case = λ z e x h. form (tree.Case z e x) _ _ (codes.below-Case n _ z e x refl) (at.marks-Case _ z e x refl)
        (pair (value_below n e) (code_below n x) (value_marks e) (code_marks x) (value_told e) h);
    on_Default = λ x h. form (tree.Default x) _ _ (codes.below-Default n _ x refl) (at.marks-Default _ x refl) h;
    on_If = λ token e x y h i. form (tree.If token e x y) _ _ (codes.below-If n _ token e x y refl)
        (at.marks-If _ token e x y refl)
        (pair (value_below n e) (code_below n x && code_below n y) (value_marks e) (code_marks x ++ code_marks y)
        (value_told e) (pair (code_below n x) (code_below n y) (code_marks x) (code_marks y) h i));
    on_Switch = λ token word zs e is_node cs h.
        let parts = value_marks e ++ items_marks cs in
        form (tree.Switch token word zs e is_node cs) _ _ (codes.below-Switch n _ token word zs e is_node cs refl)
        (at.marks-Switch _ token word zs e is_node cs refl)
        (pair (value_below n e) (list_all (code_below n) cs) (value_marks e) (items_marks cs) (value_told e)
        (codes_told cs h) ∙ sym (behind (marks.switch_marks token zs) parts (cases token zs)));
    on_Loop = λ token t s x h. form (tree.Loop token t s x) _ _ (codes.below-Loop n _ token t s x refl)
        (at.marks-Loop _ token t s x refl)
        (pair (option_below n t) (option_below n s && code_below n x) (marks.test_marks token t)
        (option_marks s ++ code_marks x) (test_told token t)
        (pair (option_below n s) (code_below n x) (option_marks s) (code_marks x) (option_told s) h));
    on_Repeat = λ token t x h. form (tree.Repeat token t x) _ _ (codes.below-Repeat n _ token t x refl)
        (at.marks-Repeat _ token t x refl)
        (pair (value_below n t) (code_below n x) (value_marks t) (code_marks x) (value_told t) h);
    on_Goto = λ name. no_code (tree.Goto name) (codes.below-Goto n _ name refl) (at.marks-Goto _ name refl);
    on_Continue = no_code tree.Continue (codes.below-Continue n _ refl) (at.marks-Continue _ refl);
    on_Break = no_code tree.Break (codes.below-Break n _ refl) (at.marks-Break _ refl);
    on_Return = λ e. form (tree.Return e) _ _ (codes.below-Return n _ e refl) (at.marks-Return _ e refl)
        (option_told e);
  }

  pub code_told : (c : Code) → SameCode c
  code_told c = of_code SameCode code_steps c

  -- of a function's body
  pub function_told : (f : Function) → list_all (code_below n) f.items ≡ calls_below n f
  function_told f = codes_told f.items (each f.items)
    where
      each : (cs : List Code) → Each SameCode cs
      each [] = tt
      each (c ∷ cs) = (code_told c, each cs)
