-- What the grammar says of each kind of initializer and of statement, in terms of those in it, and inductions over
-- them.
use Rattle.std.proofs.Common.{◌≡◌, ℕ, List, [], ◌∷◌, Option, Some, None, Bool, sym, ap, ◌∙◌, subst}
use Rattle.std.specs.Prelude.{map, option_map}
use denote.Hole.Holds.{Such}
use Rattle.c_language.specs.declared.expr.Expr.{Expr}
use Rattle.c_language.specs.declared.unit.Initializer.{
  Initializer,
  fold-roll-Initializer,
  ind-Initializer,
  roll-Initializer,
  map-Initializer,
}
use Rattle.c_language.specs.declared.unit.InitializerItem.{
  InitializerItem,
  fold-roll-InitializerItem,
  roll-InitializerItem,
}
use Rattle.c_language.specs.declared.unit.Initializer.TheBlock.{
  the_family as initial_family,
  member-Initializer,
  member-InitializerItem,
}
use Rattle.c_language.specs.declared.unit.Initializer.TheFolds.{claims as initial_claims}
use Rattle.c_language.specs.declared.unit.Initializer.TheOpen as initial_open
use Rattle.c_language.specs.declared.unit.Initializer.TheVariants as initial
use Rattle.c_language.specs.declared.unit.Initializer.TheVariants.{
  rolls-Value as rolls-Initializer-Value,
  rolls-List as rolls-Initializer-List,
}
use Rattle.c_language.specs.declared.unit.Declaration.{Declaration}
use Rattle.c_language.specs.declared.unit.ForStart.{ForStart}
use Rattle.c_language.specs.declared.unit.Stmt.{Stmt, fold-roll-Stmt, ind-Stmt, roll-Stmt, map-Stmt}
use Rattle.c_language.specs.declared.unit.Stmt.TheBlock.{the_family, member-Stmt}
use Rattle.c_language.specs.declared.unit.Stmt.TheFolds.{claims}
use Rattle.c_language.specs.declared.unit.Stmt.TheOpen as open_
use Rattle.c_language.specs.declared.unit.Stmt.TheVariants as stmt
use Rattle.c_language.specs.declared.unit.Stmt.TheVariants.{
  rolls-Block,
  rolls-Declared,
  rolls-Value,
  rolls-Label,
  rolls-Case,
  rolls-Default,
  rolls-If,
  rolls-Switch,
  rolls-While,
  rolls-Do,
  rolls-For,
  rolls-Goto,
  rolls-Continue,
  rolls-Break,
  rolls-Return,
}
use Rattle.c_grammar.specs.Parts.{Name}
use Rattle.c_grammar.specs.Grammar.{Shape, Piece}
use Rattle.c_grammar.specs.Units.{initialized, initialized_item, initializer_of, item_of, stated, stmt_shape}

-- ---- initializers

pub initializer-Value : (value : Expr) → initializer_of (initial.Value value) ≡ initialized (initial_open.Value value)
unfolding initializer_of item_of
initializer-Value value =
    ap initializer_of (sym (rolls-Initializer-Value value)) ∙ fold-roll-Initializer Piece Piece initialized
    initialized_item (initial_open.Value value)

pub initializer-List : (at : ℕ) (items : List InitializerItem) (trailing : Bool) → initializer_of
    (initial.List at items trailing) ≡ initialized (initial_open.List at (map item_of items) trailing)
unfolding initializer_of item_of
initializer-List at items trailing =
    ap initializer_of (sym (rolls-Initializer-List at items trailing)) ∙ fold-roll-Initializer Piece Piece initialized
    initialized_item (initial_open.List at items trailing)

pub item-is : (x : InitializerItem) → item_of x ≡ initialized_item (record {
  designators = x.designators;
  value = initializer_of x.value;
})
unfolding initializer_of item_of
item-is x =
    fold-roll-InitializerItem Piece Piece initialized initialized_item (record {
      designators = x.designators;
      value = x.value;
    })

-- each item's value meets P
abbrev pub EachValue : (Initializer → Type 0) → List InitializerItem → Type 0
EachValue P [] = Unit {0}
EachValue P (x ∷ xs) = P x.value × EachValue P xs

pub record InitialSteps (P : Initializer → Type 0) : Type 0 where
  pub on_value : (value : Expr) → P (initial.Value value)
  pub on_list : (at : ℕ) (items : List InitializerItem) (trailing : Bool) → EachValue P items →
      P (initial.List at items trailing)

module _ (P : Initializer → Type 0) (s : InitialSteps P) where
  abbrev Q : InitializerItem → Type 0
  Q x = P x.value

  abbrev ProvedInitializer : Type 0
  ProvedInitializer = Such initial_family (initial_claims P Q) member-Initializer

  abbrev ProvedItem : Type 0
  ProvedItem = Such initial_family (initial_claims P Q) member-InitializerItem

  each_value : (ys : List ProvedItem) → EachValue P (map (λ e. e.0) ys)
  each_value [] = tt
  each_value (y ∷ ys) = (y.1, each_value ys)

  at_initializer : (y : initial_open.Initializer-F ProvedInitializer ProvedItem) →
      P (roll-Initializer (map-Initializer ProvedInitializer ProvedItem Initializer InitializerItem (λ e. e.0)
      (λ e. e.0) y))
  at_initializer (initial_open.Value value) = subst P (sym (rolls-Initializer-Value _)) (s.on_value value)
  at_initializer (initial_open.List at items trailing) =
      subst P (sym (rolls-Initializer-List _ _ _)) (s.on_list at _ trailing (each_value items))

  pub of_initializer : (x : Initializer) → P x
  of_initializer x =
      ind-Initializer P Q (λ x y is. subst (λ (z : initial_open.Initializer-F Initializer InitializerItem). P
      (roll-Initializer z)) is (at_initializer y))
      (λ x y is. subst (λ (z : initial_open.InitializerItem-F Initializer InitializerItem). Q
      (roll-InitializerItem z)) is y.value.1) x

-- ---- statements

pub stmt-Block : (at : ℕ) (items : List Stmt) → stmt_shape (stmt.Block at items) ≡ stated
    (open_.Block at (map stmt_shape items))
unfolding stmt_shape
stmt-Block at items = ap stmt_shape (sym (rolls-Block at items)) ∙ fold-roll-Stmt Shape stated (open_.Block at items)

pub stmt-Declared : (declaration : Declaration) → stmt_shape (stmt.Declared declaration) ≡ stated
    (open_.Declared declaration)
unfolding stmt_shape
stmt-Declared declaration =
    ap stmt_shape (sym (rolls-Declared declaration)) ∙ fold-roll-Stmt Shape stated (open_.Declared declaration)

pub stmt-Value : (at : ℕ) (value : Option Expr) → stmt_shape (stmt.Value at value) ≡ stated (open_.Value at value)
unfolding stmt_shape
stmt-Value at value = ap stmt_shape (sym (rolls-Value at value)) ∙ fold-roll-Stmt Shape stated (open_.Value at value)

pub stmt-Label : (at : ℕ) (name : Name) (body : Stmt) → stmt_shape (stmt.Label at name body) ≡ stated
    (open_.Label at name (stmt_shape body))
unfolding stmt_shape
stmt-Label at name body =
    ap stmt_shape (sym (rolls-Label at name body)) ∙ fold-roll-Stmt Shape stated (open_.Label at name body)

pub stmt-Case : (at : ℕ) (value : Expr) (body : Stmt) → stmt_shape (stmt.Case at value body) ≡ stated
    (open_.Case at value (stmt_shape body))
unfolding stmt_shape
stmt-Case at value body =
    ap stmt_shape (sym (rolls-Case at value body)) ∙ fold-roll-Stmt Shape stated (open_.Case at value body)

pub stmt-Default : (at : ℕ) (body : Stmt) → stmt_shape (stmt.Default at body) ≡ stated
    (open_.Default at (stmt_shape body))
unfolding stmt_shape
stmt-Default at body =
    ap stmt_shape (sym (rolls-Default at body)) ∙ fold-roll-Stmt Shape stated (open_.Default at body)

pub stmt-If : (at : ℕ) (condition : Expr) (positive : Stmt) (negative : Option Stmt) →
    stmt_shape (stmt.If at condition positive negative) ≡ stated (open_.If at condition (stmt_shape positive)
    (option_map stmt_shape negative))
unfolding stmt_shape
stmt-If at condition positive None =
    ap stmt_shape (sym (rolls-If at condition positive None)) ∙ fold-roll-Stmt Shape stated (open_.If at condition
    positive None)
stmt-If at condition positive (Some x) =
    ap stmt_shape (sym (rolls-If at condition positive (Some x))) ∙ fold-roll-Stmt Shape stated (open_.If at condition
    positive (Some x))

pub stmt-Switch : (at : ℕ) (value : Expr) (body : Stmt) → stmt_shape (stmt.Switch at value body) ≡ stated
    (open_.Switch at value (stmt_shape body))
unfolding stmt_shape
stmt-Switch at value body =
    ap stmt_shape (sym (rolls-Switch at value body)) ∙ fold-roll-Stmt Shape stated (open_.Switch at value body)

pub stmt-While : (at : ℕ) (condition : Expr) (body : Stmt) → stmt_shape (stmt.While at condition body) ≡ stated
    (open_.While at condition (stmt_shape body))
unfolding stmt_shape
stmt-While at condition body =
    ap stmt_shape (sym (rolls-While at condition body)) ∙ fold-roll-Stmt Shape stated (open_.While at condition body)

pub stmt-Do : (at : ℕ) (body : Stmt) (condition : Expr) → stmt_shape (stmt.Do at body condition) ≡ stated
    (open_.Do at (stmt_shape body) condition)
unfolding stmt_shape
stmt-Do at body condition =
    ap stmt_shape (sym (rolls-Do at body condition)) ∙ fold-roll-Stmt Shape stated (open_.Do at body condition)

pub stmt-For : (at : ℕ) (start : ForStart) (condition : Option Expr) (step : Option Expr) (body : Stmt) →
    stmt_shape (stmt.For at start condition step body) ≡ stated (open_.For at start condition step (stmt_shape body))
unfolding stmt_shape
stmt-For at start condition step body =
    ap stmt_shape (sym (rolls-For at start condition step body)) ∙ fold-roll-Stmt Shape stated
    (open_.For at start condition step body)

pub stmt-Goto : (at : ℕ) (name : Name) → stmt_shape (stmt.Goto at name) ≡ stated (open_.Goto at name)
unfolding stmt_shape
stmt-Goto at name = ap stmt_shape (sym (rolls-Goto at name)) ∙ fold-roll-Stmt Shape stated (open_.Goto at name)

pub stmt-Continue : (at : ℕ) → stmt_shape (stmt.Continue at) ≡ stated (open_.Continue at)
unfolding stmt_shape
stmt-Continue at = ap stmt_shape (sym (rolls-Continue at)) ∙ fold-roll-Stmt Shape stated (open_.Continue at)

pub stmt-Break : (at : ℕ) → stmt_shape (stmt.Break at) ≡ stated (open_.Break at)
unfolding stmt_shape
stmt-Break at = ap stmt_shape (sym (rolls-Break at)) ∙ fold-roll-Stmt Shape stated (open_.Break at)

pub stmt-Return : (at : ℕ) (value : Option Expr) → stmt_shape (stmt.Return at value) ≡ stated (open_.Return at value)
unfolding stmt_shape
stmt-Return at value =
    ap stmt_shape (sym (rolls-Return at value)) ∙ fold-roll-Stmt Shape stated (open_.Return at value)

-- each of the list meets P
abbrev pub EachStmt : (Stmt → Type 0) → List Stmt → Type 0
EachStmt P [] = Unit {0}
EachStmt P (x ∷ xs) = P x × EachStmt P xs

abbrev pub MaybeStmt : (Stmt → Type 0) → Option Stmt → Type 0
MaybeStmt P None = Unit {0}
MaybeStmt P (Some x) = P x

-- what holds of a statement wherever it holds of the statements in it
pub record StmtSteps (P : Stmt → Type 0) : Type 0 where
  pub on_block : (at : ℕ) (items : List Stmt) → EachStmt P items → P (stmt.Block at items)
  pub on_declared : (declaration : Declaration) → P (stmt.Declared declaration)
  pub on_value : (at : ℕ) (value : Option Expr) → P (stmt.Value at value)
  pub on_label : (at : ℕ) (name : Name) (body : Stmt) → P body → P (stmt.Label at name body)
  pub on_case : (at : ℕ) (value : Expr) (body : Stmt) → P body → P (stmt.Case at value body)
  pub on_default : (at : ℕ) (body : Stmt) → P body → P (stmt.Default at body)
  pub on_if : (at : ℕ) (condition : Expr) (positive : Stmt) (negative : Option Stmt) → P positive →
      MaybeStmt P negative → P (stmt.If at condition positive negative)
  pub on_switch : (at : ℕ) (value : Expr) (body : Stmt) → P body → P (stmt.Switch at value body)
  pub on_while : (at : ℕ) (condition : Expr) (body : Stmt) → P body → P (stmt.While at condition body)
  pub on_do : (at : ℕ) (body : Stmt) (condition : Expr) → P body → P (stmt.Do at body condition)
  pub on_for : (at : ℕ) (start : ForStart) (condition : Option Expr) (step : Option Expr) (body : Stmt) → P body →
      P (stmt.For at start condition step body)
  pub on_goto : (at : ℕ) (name : Name) → P (stmt.Goto at name)
  pub on_continue : (at : ℕ) → P (stmt.Continue at)
  pub on_break : (at : ℕ) → P (stmt.Break at)
  pub on_return : (at : ℕ) (value : Option Expr) → P (stmt.Return at value)

module _ (P : Stmt → Type 0) (s : StmtSteps P) where
  abbrev Proved : Type 0
  Proved = Such the_family (claims P) member-Stmt

  each : (ys : List Proved) → EachStmt P (map (λ e. e.0) ys)
  each [] = tt
  each (y ∷ ys) = (y.1, each ys)

  at_layer : (y : open_.Stmt-F Proved) → P (roll-Stmt (map-Stmt Proved Stmt (λ e. e.0) y))
  at_layer (open_.Block at items) = subst P (sym (rolls-Block _ _)) (s.on_block at _ (each items))
  at_layer (open_.Declared declaration) = subst P (sym (rolls-Declared _)) (s.on_declared declaration)
  at_layer (open_.Value at value) = subst P (sym (rolls-Value _ _)) (s.on_value at value)
  at_layer (open_.Label at name body) = subst P (sym (rolls-Label _ _ _)) (s.on_label at name body.0 body.1)
  at_layer (open_.Case at value body) = subst P (sym (rolls-Case _ _ _)) (s.on_case at value body.0 body.1)
  at_layer (open_.Default at body) = subst P (sym (rolls-Default _ _)) (s.on_default at body.0 body.1)
  at_layer (open_.If at condition positive None) =
      subst P (sym (rolls-If _ _ _ _)) (s.on_if at condition positive.0 None positive.1 tt)
  at_layer (open_.If at condition positive (Some negative)) =
      subst P (sym (rolls-If _ _ _ _)) (s.on_if at condition positive.0 (Some negative.0) positive.1 negative.1)
  at_layer (open_.Switch at value body) = subst P (sym (rolls-Switch _ _ _)) (s.on_switch at value body.0 body.1)
  at_layer (open_.While at condition body) = subst P (sym (rolls-While _ _ _)) (s.on_while at condition body.0 body.1)
  at_layer (open_.Do at body condition) = subst P (sym (rolls-Do _ _ _)) (s.on_do at body.0 condition body.1)
  at_layer (open_.For at start condition step body) =
      subst P (sym (rolls-For _ _ _ _ _)) (s.on_for at start condition step body.0 body.1)
  at_layer (open_.Goto at name) = subst P (sym (rolls-Goto _ _)) (s.on_goto at name)
  at_layer (open_.Continue at) = subst P (sym (rolls-Continue _)) (s.on_continue at)
  at_layer (open_.Break at) = subst P (sym (rolls-Break _)) (s.on_break at)
  at_layer (open_.Return at value) = subst P (sym (rolls-Return _ _)) (s.on_return at value)

  pub of_stmt : (x : Stmt) → P x
  of_stmt x = ind-Stmt P (λ x y is. subst (λ (z : open_.Stmt-F Stmt). P (roll-Stmt z)) is (at_layer y)) x
