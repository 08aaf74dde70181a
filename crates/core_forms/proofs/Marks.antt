-- What stands at the tokens of the core of each form is what the form says.
use Rattle.std.proofs.Common.{◌≡◌, ℕ, Bool, true, false, cond, List, [], ◌∷◌, ◌++◌, map, Option, Some, None, refl, sym, ap, ap₂, ◌∙◌, subst}
use Rattle.std.specs.Prelude.{is_some, not}
use Rattle.std.proofs.lemmas.List.{map-append}
use Rattle.plain_data.specs.declared.run.Undefined.{Undefined}
use Rattle.c_language.specs.declared.expr.BinaryOperator.{BinaryOperator}
use Rattle.c_language.specs.declared.expr.BinaryOperator.TheVariants as o
use Rattle.c_language.specs.declared.ctype.IntegerKind.{IntegerKind}
use Rattle.c_language.specs.Integers.{promoted}
use Rattle.c_language.specs.Scopes.{Name}
use Rattle.c_means.specs.Parts as c
use Rattle.c_means.specs.Marks.{Mark, operator_kinds, minus_kinds, stops, unless, writes_at}
use Rattle.core_tree.specs.declared.expr.Expr.{Expr}
use Rattle.core_tree.specs.declared.expr.Expr.TheVariants as expr
use Rattle.core_tree.specs.declared.types.Access.{Access}
use Rattle.core_tree.specs.declared.types.Answered.{Answered}
use Rattle.core_tree.specs.declared.types.Operator.{Operator}
use Rattle.core_tree.specs.declared.types.Turning.{Turning}
use Rattle.core_tree.specs.declared.types.Turning.TheVariants as turn
use Rattle.core_tree.specs.declared.types.ValueType.{ValueType}
use Rattle.core_tree.specs.declared.types.ValueType.TheVariants as v
use Rattle.core_marks.specs.declared.mark.Mark.{Mark as CoreMark}
use Rattle.core_marks.specs.declared.mark.Mark.TheVariants as m
use Rattle.core_marks.specs.Kinds as kinds
use Rattle.core_marks.specs.Marks.{value_marks, write_marks}
use Rattle.core_marks.specs.Marks as core
use Rattle.core_marks.proofs.ExprMarks as trees
use Rattle.elaborate.specs.Tokens.{all_told, told}
use Rattle.elaborate.specs.Means.{Numbering, SameMarks}
use Rattle.elaborate.specs.Operators.{operator_on}
use Rattle.elaborate.specs.Types.{word_type}
use Rattle.core_forms.specs.Nodes.{operated_node, refused, turned_node, target_of_sum, updated_by, stepped_by}

-- ---- kinds of undefined behaviour

abbrev pub kinds_in : Option Operator → List Undefined
kinds_in None = []
kinds_in (Some q) = kinds.operator_kinds q

-- those of the operator that the core has on operands of these kinds
pub kinds_on : (b : BinaryOperator) (j k : Option IntegerKind) (m n : ℕ) → kinds_in (operator_on b j k m n) ≡ operator_kinds b j k
kinds_on o.Multiply (Some j) (Some k) m n = refl
kinds_on o.Multiply (Some j) None m n = refl
kinds_on o.Multiply None (Some k) m n = refl
kinds_on o.Multiply None None m n = refl
kinds_on o.Divide (Some j) (Some k) m n = refl
kinds_on o.Divide (Some j) None m n = refl
kinds_on o.Divide None (Some k) m n = refl
kinds_on o.Divide None None m n = refl
kinds_on o.Remainder (Some j) (Some k) m n = refl
kinds_on o.Remainder (Some j) None m n = refl
kinds_on o.Remainder None (Some k) m n = refl
kinds_on o.Remainder None None m n = refl
kinds_on o.Add (Some j) (Some k) m n = refl
kinds_on o.Add (Some j) None m n = refl
kinds_on o.Add None (Some k) m n = refl
kinds_on o.Add None None m n = refl
kinds_on o.Subtract (Some j) (Some k) m n = refl
kinds_on o.Subtract (Some j) None m n = refl
kinds_on o.Subtract None (Some k) m n = refl
kinds_on o.Subtract None None m n = refl
kinds_on o.ShiftLeft (Some j) (Some k) m n = refl
kinds_on o.ShiftLeft (Some j) None m n = refl
kinds_on o.ShiftLeft None (Some k) m n = refl
kinds_on o.ShiftLeft None None m n = refl
kinds_on o.ShiftRight (Some j) (Some k) m n = refl
kinds_on o.ShiftRight (Some j) None m n = refl
kinds_on o.ShiftRight None (Some k) m n = refl
kinds_on o.ShiftRight None None m n = refl
kinds_on o.Less (Some j) (Some k) m n = refl
kinds_on o.Less (Some j) None m n = refl
kinds_on o.Less None (Some k) m n = refl
kinds_on o.Less None None m n = refl
kinds_on o.Greater (Some j) (Some k) m n = refl
kinds_on o.Greater (Some j) None m n = refl
kinds_on o.Greater None (Some k) m n = refl
kinds_on o.Greater None None m n = refl
kinds_on o.LessEqual (Some j) (Some k) m n = refl
kinds_on o.LessEqual (Some j) None m n = refl
kinds_on o.LessEqual None (Some k) m n = refl
kinds_on o.LessEqual None None m n = refl
kinds_on o.GreaterEqual (Some j) (Some k) m n = refl
kinds_on o.GreaterEqual (Some j) None m n = refl
kinds_on o.GreaterEqual None (Some k) m n = refl
kinds_on o.GreaterEqual None None m n = refl
kinds_on o.Equal (Some j) (Some k) m n = refl
kinds_on o.Equal (Some j) None m n = refl
kinds_on o.Equal None (Some k) m n = refl
kinds_on o.Equal None None m n = refl
kinds_on o.NotEqual (Some j) (Some k) m n = refl
kinds_on o.NotEqual (Some j) None m n = refl
kinds_on o.NotEqual None (Some k) m n = refl
kinds_on o.NotEqual None None m n = refl
kinds_on o.BitAnd (Some j) (Some k) m n = refl
kinds_on o.BitAnd (Some j) None m n = refl
kinds_on o.BitAnd None (Some k) m n = refl
kinds_on o.BitAnd None None m n = refl
kinds_on o.BitXor (Some j) (Some k) m n = refl
kinds_on o.BitXor (Some j) None m n = refl
kinds_on o.BitXor None (Some k) m n = refl
kinds_on o.BitXor None None m n = refl
kinds_on o.BitOr (Some j) (Some k) m n = refl
kinds_on o.BitOr (Some j) None m n = refl
kinds_on o.BitOr None (Some k) m n = refl
kinds_on o.BitOr None None m n = refl
kinds_on o.LogicalAnd (Some j) (Some k) m n = refl
kinds_on o.LogicalAnd (Some j) None m n = refl
kinds_on o.LogicalAnd None (Some k) m n = refl
kinds_on o.LogicalAnd None None m n = refl
kinds_on o.LogicalOr (Some j) (Some k) m n = refl
kinds_on o.LogicalOr (Some j) None m n = refl
kinds_on o.LogicalOr None (Some k) m n = refl
kinds_on o.LogicalOr None None m n = refl

pub nothing_unless : (b : Bool) → kinds.unless b [] ≡ []
nothing_unless true = refl
nothing_unless false = refl

-- ---- the nodes

refused_marks : (e f : Expr) → value_marks (refused e f) ≡ value_marks e ++ value_marks f
refused_marks e f = trees.marks-Convert (refused e f) v.Void (expr.Comma e f) refl ∙ trees.marks-Comma (expr.Comma e f) e f refl

pub operated_marks : (at : ℕ) (q : Option Operator) (constant : Bool) (e f : Expr)
    → value_marks (operated_node at q constant e f)
    ≡ core.stops at (kinds.unless constant (kinds_in q)) ++ (value_marks e ++ value_marks f)
operated_marks at None constant e f =
    refused_marks e f ∙ ap (λ ks. core.stops at ks ++ (value_marks e ++ value_marks f)) (sym (nothing_unless constant))
operated_marks at (Some q) constant e f = trees.marks-Operate (expr.Operate at q constant e f) at q constant e f refl

pub sum_marks : (at : ℕ) (q : Option Operator) (e f : Expr)
    → value_marks (target_of_sum at q e f) ≡ core.stops at (kinds_in q) ++ (value_marks e ++ value_marks f)
sum_marks at None e f = refused_marks e f
sum_marks at (Some q) e f =
    trees.marks-Convert (target_of_sum at (Some q) e f) v.Pointer (expr.Operate at q false e f) refl
    ∙ trees.marks-Operate (expr.Operate at q false e f) at q false e f refl

-- `-`
pub minus_marks : (at : ℕ) (kind : Option IntegerKind) (constant : Bool) (e : Expr)
    → value_marks (turned_node at turn.Minus kind constant e)
    ≡ core.stops at (kinds.unless constant (minus_kinds kind)) ++ value_marks e
minus_marks at None constant e =
    trees.marks-Cast (expr.Cast v.Void e) v.Void e refl
    ∙ ap (λ ks. core.stops at ks ++ value_marks e) (sym (nothing_unless constant))
minus_marks at (Some kind) constant e =
    trees.marks-Turn (expr.Turn at turn.Minus (word_type (promoted kind)) constant e) at turn.Minus
    (word_type (promoted kind)) constant e refl

-- `+` and `~`
pub plus_marks : (at : ℕ) (kind : Option IntegerKind) (constant : Bool) (e : Expr)
    → value_marks (turned_node at turn.Plus kind constant e) ≡ value_marks e
plus_marks at None constant e = trees.marks-Cast (expr.Cast v.Void e) v.Void e refl
plus_marks at (Some kind) constant e =
    trees.marks-Turn (expr.Turn at turn.Plus (word_type (promoted kind)) constant e) at turn.Plus
    (word_type (promoted kind)) constant e refl
    ∙ ap (λ ks. core.stops at ks ++ value_marks e) (nothing_unless constant)

pub complement_marks : (at : ℕ) (kind : Option IntegerKind) (constant : Bool) (e : Expr)
    → value_marks (turned_node at turn.Complement kind constant e) ≡ value_marks e
complement_marks at None constant e = trees.marks-Cast (expr.Cast v.Void e) v.Void e refl
complement_marks at (Some kind) constant e =
    trees.marks-Turn (expr.Turn at turn.Complement (word_type (promoted kind)) constant e) at turn.Complement
    (word_type (promoted kind)) constant e refl
    ∙ ap (λ ks. core.stops at ks ++ value_marks e) (nothing_unless constant)

-- what isn't updated
pub left_marks : (e f : Expr) → value_marks (refused e f) ≡ value_marks e ++ value_marks f
left_marks e f = refused_marks e f

pub updated_marks : (at : ℕ) (access : Access) (q : Operator) (e f : Expr)
    → value_marks (updated_by at (Some access) (Some q) e f)
    ≡ core.stops at (kinds.operator_kinds q) ++ (write_marks at access ++ (value_marks e ++ value_marks f))
updated_marks at access q e f = trees.marks-Update (expr.Update at q access e f) at q access e f refl

pub stepped_marks : (at : ℕ) (answer : Answered) (access : Access) (q : Operator) (e : Expr)
    → value_marks (stepped_by at answer (Some access) (Some q) e)
    ≡ core.stops at (kinds.operator_kinds q) ++ (write_marks at access ++ value_marks e)
stepped_marks at answer access q e = trees.marks-Step (expr.Step at q access answer e) at q access answer e refl

-- ---- as they are told

pub told_stops : (name : ℕ → Name) (at : ℕ) (ks : List Undefined) → all_told name (core.stops at ks) ≡ stops at ks
told_stops name at [] = refl
told_stops name at (k ∷ ks) = ap (λ ms. told name (m.Stop at k) ∷ ms) (told_stops name at ks)

module _ (numbering : Numbering) where
  -- the same marks by another tree
  pub by_marks : {ms ns : List CoreMark} {marks : c.Level → List Mark} → ns ≡ ms → SameMarks numbering ms marks
      → SameMarks numbering ns marks
  by_marks is h = record { are = λ name l k like named. ap (all_told name) is ∙ h.are name l k like named }

  -- the same, as it is told otherwise
  pub as_told : {ms : List CoreMark} {marks more : c.Level → List Mark} → SameMarks numbering ms marks
      → ((l : c.Level) → marks l ≡ more l) → SameMarks numbering ms more
  as_told h is = record { are = λ name l k like named. h.are name l k like named ∙ is l }

  pub no_marks : SameMarks numbering [] (λ l. [])
  no_marks = record { are = λ name l k like named. refl }

  -- two parts, one behind the other
  pub marks_then : {ms ns : List CoreMark} {marks more : c.Level → List Mark} → SameMarks numbering ms marks
      → SameMarks numbering ns more → SameMarks numbering (ms ++ ns) (λ l. marks l ++ more l)
  marks_then {ms} {ns} h i = record {
    are = λ name l k like named.
        map-append (told name) ms ns
        ∙ ap₂ (λ a b. a ++ b) (h.are name l k like named) (i.are name l k like named);
  }

  -- what a node is itself, and its parts behind it
  pub own_then : {ms : List CoreMark} {marks : c.Level → List Mark} (own : List CoreMark) (own' : List Mark)
      → ((name : ℕ → Name) → all_told name own ≡ own') → SameMarks numbering ms marks
      → SameMarks numbering (own ++ ms) (λ l. own' ++ marks l)
  own_then own own' is h = marks_then (record { are = λ name l k like named. is name }) h

  pub stops_then : {ms : List CoreMark} {marks : c.Level → List Mark} (at : ℕ) (ks ks' : List Undefined) → ks ≡ ks'
      → SameMarks numbering ms marks → SameMarks numbering (core.stops at ks ++ ms) (λ l. stops at ks' ++ marks l)
  stops_then at ks ks' is h = own_then (core.stops at ks) (stops at ks') (λ name. told_stops name at ks ∙ ap (stops at) is) h
