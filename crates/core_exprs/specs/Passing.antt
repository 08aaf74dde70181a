-- The arguments of a call in the core (C99 6.5.2.2), one behind the other.
use Rattle.std.specs.Prelude.{◌≡◌, ℕ, List, [], ◌∷◌, ◌++◌, Option, Some}
use Rattle.c_language.specs.declared.ctype.CType.{CType}
use Rattle.c_language.specs.declared.tables.Tables.{Tables}
use Rattle.c_language.specs.declared.scope.Fault.{Fault}
use Rattle.c_language.specs.declared.shown.Told.{Told}
use Rattle.c_language.specs.Typing.{Arguments, and_argument, no_arguments, type_in}
use Rattle.c_means.specs.Expressions.{arguments_said, promoted_type}
use Rattle.c_means.specs.Operators.{value_type}
use Rattle.c_means.specs.Parts.{Level, Part}
use Rattle.core_tree.specs.declared.expr.Expr.{Expr}
use Rattle.core_tree.specs.declared.expr.Expr.TheVariants as expr
use Rattle.core_marks.specs.Marks.{value_marks}
use Rattle.elaborate.specs.Means.{Numbering, SameMarks, IsValueOf}
use Rattle.core_forms.specs.declared.built.Used.{Used}
use Rattle.core_forms.specs.Nodes.{type_as}
use Rattle.core_exprs.specs.declared.arguments.Passing.{Passing}

-- none so far, behind the faults of the callee
abbrev pub none_passed : List Fault → Passing
none_passed faults = record { arguments = no_arguments faults; types = []; texts = []; values = [] }

-- and one more
abbrev pub and_used : Passing → Used → Option (List ℕ) → Passing
and_used x u text = record {
  arguments = and_argument x.arguments u.told;
  types = x.types ++ type_in u.told.shown ∷ [];
  texts = x.texts ++ text ∷ [];
  values = x.values ++ u.value ∷ [];
}

-- the types of arguments' values, and the types to which they are converted
abbrev pub value_types : List Part → List (Option CType)
value_types [] = []
value_types (p ∷ ps) = value_type p.typed ∷ value_types ps

abbrev pub types_passed : List (Option CType) → List CType → List (Option CType)
types_passed [] ts = []
types_passed (u ∷ us) [] = promoted_type u ∷ types_passed us []
types_passed (u ∷ us) (t ∷ ts) = Some t ∷ types_passed us ts

-- those that are string literals
abbrev pub texts_of : List Part → Level → List (Option (List ℕ))
texts_of [] l = []
texts_of (p ∷ ps) l = p.text l ∷ texts_of ps l

-- each converted
abbrev pub all_converted : Tables → List (Option CType) → List Expr → List Expr
all_converted tables [] es = []
all_converted tables (t ∷ ts) [] = []
all_converted tables (t ∷ ts) (e ∷ es) = expr.Convert (type_as tables t) e ∷ all_converted tables ts es

-- the core of a part's value, with what stands at its tokens
pub record IsMarkedValue (numbering : Numbering) (e : Expr) (p : Part) : Type 0 where
  pub value : IsValueOf numbering e p
  pub marks : SameMarks numbering (value_marks e) p.marks

abbrev pub AreValues : Numbering → List Expr → List Part → Type 0
AreValues numbering [] [] = Unit {0}
AreValues numbering (e ∷ es) (p ∷ ps) = IsMarkedValue numbering e p × AreValues numbering es ps
AreValues numbering _ _ = ⊥

-- what was found of arguments
pub record ArePassed (numbering : Numbering) (faults : List Fault) (ps : List Part) (x : Passing) : Type 0 where
  pub said : x.arguments ≡ arguments_said (no_arguments faults) ps
  pub types : x.types ≡ value_types ps
  pub texts : (l : Level) → l.identity ≡ numbering.identity → x.texts ≡ texts_of ps l
  pub values : AreValues numbering x.values ps
