-- What each kind of statement and of initializer is worth, in terms of what stands in it.
use Rattle.std.proofs.Common.{◌≡◌, ℕ, List, Option, Some, None, Bool, sym, ap, ◌∙◌}
use Rattle.std.specs.Prelude.{map, option_map}
use Rattle.c_language.specs.declared.expr.Expr.{Expr}
use Rattle.c_language.specs.declared.unit.Declaration.{Declaration}
use Rattle.c_language.specs.declared.unit.ForStart.{ForStart}
use Rattle.c_language.specs.declared.unit.Initializer.{fold-roll-Initializer}
use Rattle.c_language.specs.declared.unit.Initializer.TheOpen as initial_open
use Rattle.c_language.specs.declared.unit.Initializer.TheVariants as initial
use Rattle.c_language.specs.declared.unit.Initializer.TheVariants.{rolls-Value as rolls-Initializer-Value}
use Rattle.c_language.specs.declared.unit.Initializer.TheVariants.{rolls-List as rolls-Initializer-List}
use Rattle.c_language.specs.declared.unit.InitializerItem.{InitializerItem, fold-roll-InitializerItem}
use Rattle.c_language.specs.declared.unit.Stmt.{Stmt, fold-roll-Stmt}
use Rattle.c_language.specs.declared.unit.Stmt.TheOpen as open_
use Rattle.c_language.specs.declared.unit.Stmt.TheVariants as tree
use Rattle.c_language.specs.declared.unit.Stmt.TheVariants.{rolls-Block, rolls-Declared, rolls-Value, rolls-Label}
use Rattle.c_language.specs.declared.unit.Stmt.TheVariants.{rolls-Case}
use Rattle.c_language.specs.declared.unit.Stmt.TheVariants.{rolls-Default, rolls-If, rolls-Switch, rolls-While, rolls-Do}
use Rattle.c_language.specs.declared.unit.Stmt.TheVariants.{rolls-For, rolls-Goto, rolls-Continue, rolls-Break}
use Rattle.c_language.specs.declared.unit.Stmt.TheVariants.{rolls-Return}
use Rattle.c_language.specs.Scopes.{Name}
use Rattle.c_means.specs.Items.{Code}
use Rattle.c_means.specs.Statements.{stmt, stmt_step}
use Rattle.c_means.specs.Initials.{Initially, Listed, initially, listed_item, initially_step, listed_step}

pub does-Block : (at : ℕ) (items : List Stmt) → stmt (tree.Block at items)
    ≡ stmt_step (open_.Block at (map stmt items))
unfolding stmt
does-Block at items = ap stmt (sym (rolls-Block at items)) ∙ fold-roll-Stmt Code stmt_step (open_.Block at items)

pub does-Declared : (declaration : Declaration) → stmt (tree.Declared declaration)
    ≡ stmt_step (open_.Declared declaration)
unfolding stmt
does-Declared declaration =
    ap stmt (sym (rolls-Declared declaration))
    ∙ fold-roll-Stmt Code stmt_step (open_.Declared declaration)

pub does-Value : (at : ℕ) (value : Option Expr) → stmt (tree.Value at value) ≡ stmt_step (open_.Value at value)
unfolding stmt
does-Value at value = ap stmt (sym (rolls-Value at value)) ∙ fold-roll-Stmt Code stmt_step (open_.Value at value)

pub does-Label : (at : ℕ) (name : Name) (body : Stmt) → stmt (tree.Label at name body)
    ≡ stmt_step (open_.Label at name (stmt body))
unfolding stmt
does-Label at name body =
    ap stmt (sym (rolls-Label at name body))
    ∙ fold-roll-Stmt Code stmt_step (open_.Label at name body)

pub does-Case : (at : ℕ) (value : Expr) (body : Stmt) → stmt (tree.Case at value body)
    ≡ stmt_step (open_.Case at value (stmt body))
unfolding stmt
does-Case at value body =
    ap stmt (sym (rolls-Case at value body))
    ∙ fold-roll-Stmt Code stmt_step (open_.Case at value body)

pub does-Default : (at : ℕ) (body : Stmt) → stmt (tree.Default at body) ≡ stmt_step (open_.Default at (stmt body))
unfolding stmt
does-Default at body = ap stmt (sym (rolls-Default at body)) ∙ fold-roll-Stmt Code stmt_step (open_.Default at body)

pub does-If : (at : ℕ) (condition : Expr) (positive : Stmt) (negative : Option Stmt)
    → stmt (tree.If at condition positive negative) ≡ stmt_step
    (open_.If at condition (stmt positive) (option_map stmt negative))
unfolding stmt
does-If at condition positive None =
    ap stmt (sym (rolls-If at condition positive None))
    ∙ fold-roll-Stmt Code stmt_step (open_.If at condition positive None)
does-If at condition positive (Some x) =
    ap stmt (sym (rolls-If at condition positive (Some x)))
    ∙ fold-roll-Stmt Code stmt_step (open_.If at condition positive (Some x))

pub does-Switch : (at : ℕ) (value : Expr) (body : Stmt) → stmt (tree.Switch at value body)
    ≡ stmt_step (open_.Switch at value (stmt body))
unfolding stmt
does-Switch at value body =
    ap stmt (sym (rolls-Switch at value body))
    ∙ fold-roll-Stmt Code stmt_step (open_.Switch at value body)

pub does-While : (at : ℕ) (condition : Expr) (body : Stmt) → stmt (tree.While at condition body)
    ≡ stmt_step (open_.While at condition (stmt body))
unfolding stmt
does-While at condition body =
    ap stmt (sym (rolls-While at condition body))
    ∙ fold-roll-Stmt Code stmt_step (open_.While at condition body)

pub does-Do : (at : ℕ) (body : Stmt) (condition : Expr) → stmt (tree.Do at body condition)
    ≡ stmt_step (open_.Do at (stmt body) condition)
unfolding stmt
does-Do at body condition =
    ap stmt (sym (rolls-Do at body condition))
    ∙ fold-roll-Stmt Code stmt_step (open_.Do at body condition)

pub does-For : (at : ℕ) (start : ForStart) (condition : Option Expr) (step : Option Expr) (body : Stmt)
    → stmt (tree.For at start condition step body) ≡ stmt_step (open_.For at start condition step (stmt body))
unfolding stmt
does-For at start condition step body =
    ap stmt (sym (rolls-For at start condition step body))
    ∙ fold-roll-Stmt Code stmt_step (open_.For at start condition step body)

pub does-Goto : (at : ℕ) (name : Name) → stmt (tree.Goto at name) ≡ stmt_step (open_.Goto at name)
unfolding stmt
does-Goto at name = ap stmt (sym (rolls-Goto at name)) ∙ fold-roll-Stmt Code stmt_step (open_.Goto at name)

pub does-Continue : (at : ℕ) → stmt (tree.Continue at) ≡ stmt_step (open_.Continue at)
unfolding stmt
does-Continue at = ap stmt (sym (rolls-Continue at)) ∙ fold-roll-Stmt Code stmt_step (open_.Continue at)

pub does-Break : (at : ℕ) → stmt (tree.Break at) ≡ stmt_step (open_.Break at)
unfolding stmt
does-Break at = ap stmt (sym (rolls-Break at)) ∙ fold-roll-Stmt Code stmt_step (open_.Break at)

pub does-Return : (at : ℕ) (value : Option Expr) → stmt (tree.Return at value) ≡ stmt_step (open_.Return at value)
unfolding stmt
does-Return at value = ap stmt (sym (rolls-Return at value)) ∙ fold-roll-Stmt Code stmt_step (open_.Return at value)

-- ---- initializers

pub initially-Value : (value : Expr) → initially (initial.Value value) ≡ initially_step (initial_open.Value value)
unfolding initially listed_item
initially-Value value =
    ap initially (sym (rolls-Initializer-Value value))
    ∙ fold-roll-Initializer Initially Listed initially_step listed_step (initial_open.Value value)

pub initially-List : (at : ℕ) (items : List InitializerItem) (trailing : Bool) →
    initially (initial.List at items trailing) ≡ initially_step (initial_open.List at (map listed_item items) trailing)
unfolding initially listed_item
initially-List at items trailing =
    ap initially (sym (rolls-Initializer-List at items trailing))
    ∙ fold-roll-Initializer Initially Listed initially_step listed_step (initial_open.List at items trailing)

pub listed-Item : (x : InitializerItem) →
    listed_item x ≡ listed_step (record { designators = x.designators; value = initially x.value })
unfolding initially listed_item
listed-Item x =
    fold-roll-InitializerItem Initially Listed initially_step listed_step
    (record { designators = x.designators; value = x.value })
