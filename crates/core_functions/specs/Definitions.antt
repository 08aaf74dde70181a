-- What it is to be the core of a function definition (C99 6.9.1).
use Rattle.std.specs.Prelude.{◌≡◌, ◌↔◌, IsTrue, Bool, List, [], ◌∷◌, ◌++◌, Option, Some, None, not}
use Rattle.c_language.specs.declared.scope.Entry.{Entry}
use Rattle.c_language.specs.Declarations.{FunctionSaid}
use Rattle.c_language.specs.Scopes.{Scope}
use Rattle.c_means.specs.Items.{Item, node}
use Rattle.c_means.specs.Items as runs
use Rattle.c_means.specs.Programs.{Function, Outer, body_item}
use Rattle.c_means.specs.Statements.{returns_void}
use Rattle.core_tree.specs.declared.code.Code.{Code}
use Rattle.core_tree.specs.declared.code.Code.TheVariants as code
use Rattle.core_tree.specs.declared.expr.Expr.{Expr}
use Rattle.core_tree.specs.Programs.{body_of}
use Rattle.core_tree.specs.States.{Output}
use Rattle.core_marks.specs.Marks.{items_marks}
use Rattle.core_marks.specs.Programs.{function_marks}
use Rattle.elaborate.specs.Means.{Numbering, SameMarks, AreParameters, IsBodyOf}
use Rattle.core_forms.specs.Nodes.{type_as}
use Rattle.code_forms.specs.Contents.{AreCodesOf}
use Rattle.core_codes.specs.declared.made.Body.{Body}
use Rattle.core_codes.specs.Settings.{AreAllSet}
use Rattle.core_functions.specs.declared.definitions.Definition.{Definition}
use Rattle.core_functions.specs.declared.heads.Head.{Head}
use Rattle.core_functions.specs.declared.heads.Named.{Named}

-- ---- heads

-- the name that is declared
abbrev pub name_of : Option Entry → Option Named
name_of None = None
name_of (Some e) = Some (record { at = e.at; name = e.name })

-- what is kept of the head of a definition
pub record IsHeadOf (x : Head) (f : FunctionSaid) : Type 0 where
  pub named : x.named ≡ name_of f.entry
  pub has_value : x.has_value ≡ not (returns_void f.returned)
  pub returned : x.returned ≡ type_as f.inside.tables f.returned
  pub parameters : AreParameters f.inside x.parameters f.parameters

-- ---- bodies

-- what stands in the body of a function, which is a node itself, and the names in force at its end
pub record IsInside (numbering : Numbering) (f : FunctionSaid) (b : Option runs.Code) (y : Body) (t : Scope) :
    Type 0
  where
    pub item : Item
    pub is : body_item f b ≡ node item
    pub items : AreCodesOf numbering y.content.items item
    pub lasting : AreAllSet numbering y.settings (body_item f b).lasting
    pub after : t ≡ (body_item f b).after
    pub marks : SameMarks numbering (items_marks y.content.items) (body_item f b).marks

-- an item that is a `return`
pub record IsReturn (c : Code) : Type 0 where
  pub value : Option Expr
  pub is : c ≡ code.Return value

-- the last of these items is one
pub record EndsInReturn (xs : List Code) : Type 0 where
  pub before : List Code
  pub last : Code
  pub is : xs ≡ before ++ last ∷ []
  pub is_return : IsReturn last

-- a value of a function can be missing where it is used: it returns one, and the last item of its block is no `return`
abbrev pub MayMiss : Bool → List Code → Type 0
MayMiss has_value xs = IsTrue has_value × (EndsInReturn xs → ⊥)

-- ---- definitions

-- what is made of a head and of what stands in a body
pub record IsMadeOf (h : Head) (is_prelude : Bool) (y : Body) (x : Definition) : Type 0 where
  pub named : h.named ≡ Some (record { at = x.function.at; name = x.function.name })
  pub kind : x.function.is_prelude ≡ is_prelude
  pub misses : IsTrue x.function.may_miss ↔ MayMiss h.has_value y.content.items
  pub parameters : x.function.parameters ≡ h.parameters
  pub items : x.function.items ≡ y.content.items
  pub settings : x.settings ≡ y.settings

-- none is made of a head without a name
abbrev pub MaybeMadeOf : Head → Bool → Body → Option Definition → Type 0
MaybeMadeOf h is_prelude y None = h.named ≡ None
MaybeMadeOf h is_prelude y (Some x) = IsMadeOf h is_prelude y x

-- the core of the function that an external declaration defines
pub record IsDefinitionOf (numbering : Numbering) (x : Definition) (is_prelude : Bool) (o : Outer) : Type 0 where
  pub function : Function
  pub is : o.function ≡ Some function
  pub at : x.function.at ≡ function.at
  pub name : x.function.name ≡ function.name
  pub kind : x.function.is_prelude ≡ is_prelude
  pub misses : IsTrue x.function.may_miss ↔ MayMiss (not (returns_void function.result)) x.function.items
  pub item : Item
  pub is_body : IsBodyOf numbering (body_of {O = Output} x.function) function item
  pub lasting : AreAllSet numbering x.settings function.body.lasting
  pub marks : SameMarks numbering (function_marks x.function) function.body.marks

-- none where it defines no function
abbrev pub MaybeDefinitionOf : Numbering → Option Definition → Bool → Outer → Type 0
MaybeDefinitionOf numbering None is_prelude o = o.function ≡ None
MaybeDefinitionOf numbering (Some x) is_prelude o = IsDefinitionOf numbering x is_prelude o
