-- What it is to be the core of a part of an expression, with what the types say of the part.
use Rattle.std.specs.Prelude.{◌≡◌, ℕ, Bool, true, false, ◌++◌, Option, Ok}
use Rattle.c_language.specs.declared.class.Class.{Class}
use Rattle.c_language.specs.declared.ctype.CType.{CType}
use Rattle.c_language.specs.Typing.{told_of, used_told}
use Rattle.c_means.specs.Parts.{State, Env, Part}
use Rattle.c_means.specs.Parts as c
use Rattle.c_language.specs.declared.expr.BinaryOperator.{BinaryOperator}
use Rattle.c_language.specs.declared.expr.UnaryOperator.{UnaryOperator}
use Rattle.c_means.specs.Expressions.{cast_operand, loading, reading, postfix_by, prefix}
use Rattle.c_means.specs.Values.{class_in, converted_to}
use Rattle.core_tree.specs.declared.types.Answered.{Answered}
use Rattle.core_tree.specs.declared.types.Answered.TheVariants as answered
use Rattle.core_tree.specs.declared.expr.Expr.{Expr}
use Rattle.core_tree.specs.Values.{value}
use Rattle.core_marks.specs.Marks.{value_marks}
use Rattle.elaborate.specs.Means.{Numbering, SameMarks, Does, IsValueOf, IsAddressOf, IsEffectOf, HasNoAddress}
use Rattle.core_forms.specs.declared.built.Built.{Built}
use Rattle.core_forms.specs.declared.built.Call.{Call}
use Rattle.core_forms.specs.declared.built.Node.{Node}
use Rattle.core_forms.specs.declared.built.Node.TheVariants as node
use Rattle.core_forms.specs.declared.built.Used.{Used}
use Rattle.core_forms.specs.Nodes.{call_node}

-- the core of an lvalue or function, whose value is what stands at its address
pub record IsPlaceOf (numbering : Numbering) (e : Expr) (p : Part) : Type 0 where
  pub is_place : p.is_place ≡ true
  pub address : IsAddressOf numbering e p
  pub marks : SameMarks numbering (value_marks e) p.place_marks
  pub reads : (l : c.Level) → reading p.typed p.rooted ++ p.place_marks l ≡ p.marks l
  pub value : (l : c.Level) (env : Env) (base : ℕ) (d : State)
      → loading p.typed p.rooted p.reach l env base d ≡ p.run l env base d
  pub effect : (l : c.Level) (env : Env) (base : ℕ) (d : State)
      → loading p.typed p.rooted p.reach l env base d ≡ p.effect l env base d

-- the core of a value, which does the same where the value isn't used
pub record IsWorthOf (numbering : Numbering) (e : Expr) (p : Part) : Type 0 where
  pub is_value : p.is_place ≡ false
  pub nowhere : HasNoAddress p
  pub value : IsValueOf numbering e p
  pub effect : IsEffectOf numbering e p
  pub marks : SameMarks numbering (value_marks e) p.marks
  pub place_marks : (l : c.Level) → p.marks l ≡ p.place_marks l

-- the core of a call, which need not answer where its value isn't used (C99 6.9.1p12)
pub record IsAnswerOf (numbering : Numbering) (x : Call) (p : Part) : Type 0 where
  pub is_value : p.is_place ≡ false
  pub nowhere : HasNoAddress p
  pub value : IsValueOf numbering (call_node x true) p
  pub effect : IsEffectOf numbering (call_node x false) p
  pub marks : (used : Bool) → SameMarks numbering (value_marks (call_node x used)) p.marks
  pub place_marks : (l : c.Level) → p.marks l ≡ p.place_marks l

abbrev pub IsNodeOf : Numbering → Node → Part → Type 0
IsNodeOf numbering (node.Place e) p = IsPlaceOf numbering e p
IsNodeOf numbering (node.Value e) p = IsWorthOf numbering e p
IsNodeOf numbering (node.Call c) p = IsAnswerOf numbering c p

pub record IsBuilt (numbering : Numbering) (x : Built) (p : Part) : Type 0 where
  pub told : x.told ≡ told_of p.typed
  pub rooted : x.rooted ≡ p.rooted
  pub node : IsNodeOf numbering x.node p

-- a part as an operand
pub record IsUsed (numbering : Numbering) (x : Used) (p : Part) : Type 0 where
  pub told : x.told ≡ used_told p.typed.after.tables (told_of p.typed)
  pub value : IsValueOf numbering x.value p
  pub marks : SameMarks numbering (value_marks x.value) p.marks

-- a part whose value isn't used
pub record IsDiscarded (numbering : Numbering) (x : Used) (p : Part) : Type 0 where
  pub told : x.told ≡ told_of p.typed
  pub effect : IsEffectOf numbering x.value p
  pub marks : SameMarks numbering (value_marks x.value) p.marks

-- a part as the operand of a cast to a type of this class
pub record IsCastOperand (numbering : Numbering) (cl : Class) (x : Used) (p : Part) : Type 0 where
  pub told : x.told ≡ used_told p.typed.after.tables (told_of p.typed)
  pub does : Does numbering (value x.value) p.size p.room (cast_operand cl p)
  pub marks : SameMarks numbering (value_marks x.value) p.marks

-- a part's value, converted to a type as by assignment (C99 6.5.16.1p2)
abbrev pub IsConverted : Numbering → Expr → Part → Option CType → Type 0
IsConverted numbering e p t =
    Does numbering (value e) p.size p.room
    (λ l env base d. c.◌>>=◌ (p.run l env base d) (λ v. Ok (converted_to (class_in t) v.0, v.1)))

-- ---- `++` and `--`

-- the core of an object that is read, and stored with 1 more or less
abbrev pub StepsTo : Numbering → Expr → Answered → ℕ → BinaryOperator → Part → Type 0
StepsTo numbering e answered.Before at operator p = IsValueOf numbering e (postfix_by at operator p)
StepsTo numbering e answered.Stored at operator p =
    (written : UnaryOperator) → IsValueOf numbering e (prefix at written operator p)
