-- What it is that code has found the core of an expression.
use Rattle.std.specs.Prelude.{◌≡◌, ◌++◌, false, List, map, Option, None, Result, IfOk, IsOkAnd}
use Rattle.c_language.specs.declared.expr.Expr as c_language
use Rattle.c_language.specs.declared.ctype.CType.{CType}
use Rattle.c_language.specs.declared.scope.Fault.{Fault}
use Rattle.c_language.specs.declared.shown.Told.{Told}
use Rattle.c_language.specs.Scopes.{Scope}
use Rattle.c_means.specs.Expressions.{text_at}
use Rattle.c_means.specs.Parts.{Level, Part}
use Rattle.c_means.specs.Trees.{part, through}
use Rattle.core_tree.specs.declared.expr.Callee.{Callee}
use Rattle.core_tree.specs.declared.expr.Expr.{Expr}
use Rattle.core_tree.specs.declared.expr.Expr.TheVariants as expr
use Rattle.core_tree.specs.declared.types.ValueType.{ValueType}
use Rattle.core_marks.specs.Marks.{value_marks}
use Rattle.elaborate.specs.Means.{Numbering, SameMarks, IsCallOf}
use Rattle.core_forms.specs.declared.built.Built.{Built}
use Rattle.core_forms.specs.declared.built.Used.{Used}
use Rattle.core_forms.specs.declared.built.Node.TheVariants as node
use Rattle.core_forms.specs.Nodes.{type_as}
use Rattle.core_forms.specs.Built.{IsBuilt, IsConverted}
use Rattle.core_exprs.specs.declared.arguments.Passing.{Passing}
use Rattle.core_exprs.specs.declared.found.Found.{Found}
use Rattle.core_exprs.specs.declared.site.Site.{Site}
use Rattle.core_exprs.specs.Passing.{ArePassed}
use Rattle.core_exprs.specs.Sites.{site_of}

-- the core of a part, with the names in force behind it
pub record IsFoundOf (numbering : Numbering) (x : Found) (p : Part) (behind : Scope) : Type 0 where
  pub built : IsBuilt numbering x.built p
  pub text : (l : Level) → l.identity ≡ numbering.identity → x.text ≡ p.text l
  pub after : behind ≡ p.typed.after

-- the core of an expression in a scope
abbrev pub IsFound : Numbering → c_language.Expr → Scope → Found → Scope → Type 0
IsFound numbering e s x behind = IsFoundOf numbering x (part e s) behind

-- what was made of a part, which may have failed, stands in R to that part
abbrev pub Makes : {E : Type 0} → Numbering → Scope → (Used → Part → Type 0) → Result Found E → Result Used E → Type 0
Makes numbering behind R x u =
    (p : Part) → IfOk u (λ u. IsOkAnd x (λ x. IsFoundOf numbering x p behind → R u p))

-- what was found of a form over a part, which may have failed
abbrev pub OverOne : {E : Type 0} → Numbering → Scope → (Part → Part) → Result Found E → Result Found E → Type 0
OverOne numbering behind form x z =
    (p : Part) → IfOk z (λ z. IsOkAnd x (λ x. IsFoundOf numbering x p behind → IsFoundOf numbering z (form p) behind))

-- what was found of a form over two parts, which may have failed, where R says what is known of the first
abbrev pub OverTwo : {E X : Type 0} → Numbering → Scope → (X → Part → Type 0) → (Part → Part → Part) → Result X E →
    Result Found E → Result Found E → Type 0
OverTwo numbering behind R form x y z =
    (p q : Part) → IfOk z (λ z. IsOkAnd x (λ x. IsOkAnd y (λ y.
    R x p → IsFoundOf numbering y q behind → IsFoundOf numbering z (form p q) behind)))

-- a part that is no string literal
abbrev pub plain : Built → Found
plain x = record { built = x; text = None }

-- arguments from left to right, each in the scope that those before it leave
pub record AreFound (numbering : Numbering) (faults : List Fault) (es : List c_language.Expr) (s : Scope) (x : Passing)
    (behind : Scope) : Type 0 where
  pub passed : ArePassed numbering faults (through (map part es) s).all x
  pub after : behind ≡ (through (map part es) s).after

-- some of them, where these are left
pub record LeadsTo (numbering : Numbering) (faults : List Fault) (es : List c_language.Expr) (s : Scope)
    (rest : List c_language.Expr) (x : Passing) (here : Scope) : Type 0 where
  pub done : List Part
  pub passed : ArePassed numbering faults done x
  pub all : done ++ (through (map part rest) here).all ≡ (through (map part es) s).all
  pub after : (through (map part rest) here).after ≡ (through (map part es) s).after

-- a call at a site, of what is told of it
pub record IsCallAt (numbering : Numbering) (s : Scope) (said : Told) (g : Site) (es : List Expr) (x : Found) : Type 0
  where
    pub callee : Callee
    pub is : x ≡ record {
      built = record {
        told = said;
        rooted = false;
        node = node.Call (record {
          at = g.at;
          arguments = es;
          callee = callee;
          answer = type_as s.tables g.ctype;
        });
      };
      text = text_at (numbering.identity g.callee.name) g.texts;
    }
    pub calls : IsCallOf numbering callee g.at (type_as s.tables g.ctype) (λ l. site_of g s)

-- a value under its conversion to a type
pub record IsConvertedAs (numbering : Numbering) (e : Expr) (p : Part) (t : Option CType) : Type 0 where
  pub to : ValueType
  pub inner : Expr
  pub is : e ≡ expr.Convert to inner
  pub does : IsConverted numbering (expr.Convert to inner) p t
  pub marks : SameMarks numbering (value_marks inner) p.marks
