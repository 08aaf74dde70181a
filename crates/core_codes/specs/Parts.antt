-- What it is to be the core of an expression, of a declaration, and of the parts of statements, with the names in force
-- behind it.
use Rattle.std.specs.Prelude.{◌≡◌, ℤ, true, false, List, [], ◌∷◌, Option, Some, None}
use Rattle.c_language.specs.Scopes.{Scope}
use Rattle.c_language.specs.Typing.{told_of}
use Rattle.c_means.specs.Notes.{Noted, ExprNoted}
use Rattle.c_means.specs.Items.{Item}
use Rattle.core_tree.specs.declared.code.Code.{Code}
use Rattle.core_tree.specs.declared.code.Code.TheVariants as code
use Rattle.core_tree.specs.declared.expr.Expr.{Expr}
use Rattle.core_tree.specs.declared.expr.Expr.TheVariants as expr
use Rattle.core_tree.specs.declared.program.LastingSetting.{LastingSetting}
use Rattle.core_tree.specs.declared.types.ValueType.{ValueType}
use Rattle.core_marks.specs.Marks.{items_marks, value_marks}
use Rattle.elaborate.specs.Means.{Numbering, SameMarks, IsValueOf, IsEffectOf}
use Rattle.code_forms.specs.Contents.{AreCodesOf}
use Rattle.core_codes.specs.declared.made.Made.{Made}
use Rattle.core_codes.specs.declared.made.SubBlock.{SubBlock}
use Rattle.core_codes.specs.declared.parts.Begun.{Begun}
use Rattle.core_codes.specs.declared.parts.Valued.{Valued}
use Rattle.core_codes.specs.declared.pieces.ForBegun.{ForBegun}
use Rattle.core_codes.specs.Settings.{AreAllSet}

-- ---- expressions and declarations, behind which these names are in force

-- an expression whose value is used
pub record IsValued (numbering : Numbering) (y : Valued) (n : Noted) (t : Scope) : Type 0 where
  pub told : y.told ≡ told_of n.part.typed
  pub value : IsValueOf numbering y.value n.part
  pub after : t ≡ n.part.typed.after
  pub marks : SameMarks numbering (value_marks y.value) n.part.marks

pub record IsWorth (numbering : Numbering) (e : Expr) (n : Noted) (t : Scope) : Type 0 where
  pub value : IsValueOf numbering e n.part
  pub after : t ≡ n.part.typed.after
  pub marks : SameMarks numbering (value_marks e) n.part.marks

-- one whose value isn't used
pub record IsDone (numbering : Numbering) (e : Expr) (n : Noted) (t : Scope) : Type 0 where
  pub effect : IsEffectOf numbering e n.part
  pub after : t ≡ n.part.typed.after
  pub marks : SameMarks numbering (value_marks e) n.part.marks

-- where there is one
abbrev pub MaybeWorth : Numbering → Option Expr → Option ExprNoted → Scope → Scope → Type 0
MaybeWorth numbering None None s t = t ≡ s
MaybeWorth numbering (Some e) (Some f) s t = IsWorth numbering e (f s) t
MaybeWorth numbering _ _ s t = ⊥

abbrev pub MaybeDone : Numbering → Option Expr → Option ExprNoted → Scope → Scope → Type 0
MaybeDone numbering None None s t = t ≡ s
MaybeDone numbering (Some e) (Some f) s t = IsDone numbering e (f s) t
MaybeDone numbering _ _ s t = ⊥

-- a declaration, or what a `for` begins with
pub record IsBegun (numbering : Numbering) (y : Begun) (i : Item) (t : Scope) : Type 0 where
  pub codes : AreCodesOf numbering y.codes i
  pub lasting : AreAllSet numbering y.settings i.lasting
  pub after : t ≡ i.after
  pub marks : SameMarks numbering (items_marks y.codes) i.marks

-- what stands in front of the body of a `for`: each part with the names in force behind it
pub record IsForBegun (numbering : Numbering) (s : Scope) (begins : Scope → Item) (condition step : Option ExprNoted)
    (y : ForBegun) (t : Scope) : Type 0
  where
    pub behind_first : Scope
    pub behind_condition : Scope
    pub begun : IsBegun numbering y.first (begins s) behind_first
    pub tests : MaybeWorth numbering y.condition condition behind_first behind_condition
    pub steps : MaybeDone numbering y.step step behind_condition t

-- ---- what is made of parts

-- one item, with the cases that it gives, and what is set in it
abbrev pub alone : Code → List ℤ → List LastingSetting → Made
alone c zs xs = record { codes = c ∷ []; cases = zs; settings = xs }

-- one that has neither
abbrev pub bare : Code → Made
bare c = alone c [] []

-- an expression that a `for` begins with
abbrev pub first_codes : Option Expr → List Code
first_codes None = []
first_codes (Some e) = code.Value false e ∷ []

abbrev pub first_begun : Option Expr → Begun
first_begun e = record { codes = first_codes e; settings = [] }

-- of an `else`, where there is one: its block, and what is set in it
abbrev pub code_if : Option SubBlock → Option Code
code_if None = None
code_if (Some x) = Some x.code

abbrev pub settings_if : Option SubBlock → List LastingSetting
settings_if None = []
settings_if (Some x) = x.settings

-- an expression statement
abbrev pub effect_node : Option Expr → Code
effect_node None = code.Nothing true
effect_node (Some e) = code.Value true e

-- `return`, of a value that is converted
abbrev pub return_node : ValueType → Option Expr → Code
return_node t None = code.Return None
return_node t (Some e) = code.Return (Some (expr.Convert t e))

-- items, of which there is one that does nothing where there is no other
abbrev pub or_nothing : List Code → List Code
or_nothing [] = code.Nothing false ∷ []
or_nothing (c ∷ cs) = c ∷ cs

-- a labeled statement: round the first of its items
abbrev pub round_first : (Code → Code) → List Code → List Code
round_first f [] = []
round_first f (c ∷ cs) = f c ∷ cs

abbrev pub labeled_made : (Code → Code) → List ℤ → Made → Made
labeled_made f cases body = record {
  codes = round_first f (or_nothing body.codes);
  cases = cases;
  settings = body.settings;
}

-- a case without value is the statement behind it
abbrev pub case_made : Option ℤ → Expr → Made → Made
case_made None e body = body
case_made (Some z) e body = labeled_made (code.Case z e) (z ∷ body.cases) body
