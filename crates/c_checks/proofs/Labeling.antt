-- Which labels each kind of statement has, in terms of what stands in it.
use Rattle.std.proofs.Common.{◌≡◌, ℕ, List, [], ◌∷◌, ◌++◌, Option, map, refl, sym, ap, ◌∙◌}
use Rattle.std.specs.Prelude.{option_map}
use Rattle.c_language.specs.declared.expr.Expr.{Expr}
use Rattle.c_language.specs.declared.unit.Declaration.{Declaration}
use Rattle.c_language.specs.declared.unit.ForStart.{ForStart}
use Rattle.c_language.specs.declared.unit.Stmt.{Stmt}
use Rattle.c_language.specs.declared.unit.Stmt.TheVariants as tree
use Rattle.c_language.specs.Scopes.{Name}
use Rattle.c_means.specs.Items.{Code, Label, labels_of, every_of}
use Rattle.c_means.specs.Statements.{stmt, every_if}
use Rattle.c_means.proofs.RunEquations as eq

-- what a statement has in front of it, in the block that it is, and in all
pub record Has (x : Stmt) (front block all : List Label) : Type 0 where
  pub labels : (stmt x).labels ≡ front
  pub own : (stmt x).own ≡ block
  pub every : (stmt x).every ≡ all

abbrev has : (x : Stmt) (c : Code) → stmt x ≡ c → Has x c.labels c.own c.every
has x c is = record { labels = ap (λ y. y.labels) is; own = ap (λ y. y.own) is; every = ap (λ y. y.every) is }

pub on-Block : {x : Stmt} (at : ℕ) (items : List Stmt) → x ≡ tree.Block at items →
    Has x [] (labels_of (map stmt items)) (every_of (map stmt items))
on-Block at items is = has _ _ (ap stmt is ∙ eq.does-Block at items)

pub on-Declared : {x : Stmt} (d : Declaration) → x ≡ tree.Declared d → Has x [] [] []
on-Declared d is = has _ _ (ap stmt is ∙ eq.does-Declared d)

pub on-Value : {x : Stmt} (at : ℕ) (value : Option Expr) → x ≡ tree.Value at value → Has x [] [] []
on-Value at value is = has _ _ (ap stmt is ∙ eq.does-Value at value)

pub on-Label : {x : Stmt} (at : ℕ) (name : Name) (body : Stmt) → x ≡ tree.Label at name body →
    Has x (record { at = at; name = name } ∷ (stmt body).labels) (record { at = at; name = name } ∷ (stmt body).labels)
    (record { at = at; name = name } ∷ (stmt body).every)
on-Label at name body is = has _ _ (ap stmt is ∙ eq.does-Label at name body)

pub on-Case : {x : Stmt} (at : ℕ) (value : Expr) (body : Stmt) → x ≡ tree.Case at value body →
    Has x (stmt body).labels (stmt body).labels (stmt body).every
on-Case at value body is = has _ _ (ap stmt is ∙ eq.does-Case at value body)

pub on-Default : {x : Stmt} (at : ℕ) (body : Stmt) → x ≡ tree.Default at body →
    Has x (stmt body).labels (stmt body).labels (stmt body).every
on-Default at body is = has _ _ (ap stmt is ∙ eq.does-Default at body)

pub on-If : {x : Stmt} (at : ℕ) (condition : Expr) (positive : Stmt) (negative : Option Stmt) →
    x ≡ tree.If at condition positive negative →
    Has x [] [] ((stmt positive).every ++ every_if (option_map stmt negative))
on-If at condition positive negative is = has _ _ (ap stmt is ∙ eq.does-If at condition positive negative)

pub on-Switch : {x : Stmt} (at : ℕ) (value : Expr) (body : Stmt) → x ≡ tree.Switch at value body →
    Has x [] [] (stmt body).every
on-Switch at value body is = has _ _ (ap stmt is ∙ eq.does-Switch at value body)

pub on-While : {x : Stmt} (at : ℕ) (condition : Expr) (body : Stmt) → x ≡ tree.While at condition body →
    Has x [] [] (stmt body).every
on-While at condition body is = has _ _ (ap stmt is ∙ eq.does-While at condition body)

pub on-Do : {x : Stmt} (at : ℕ) (body : Stmt) (condition : Expr) → x ≡ tree.Do at body condition →
    Has x [] [] (stmt body).every
on-Do at body condition is = has _ _ (ap stmt is ∙ eq.does-Do at body condition)

pub on-For : {x : Stmt} (at : ℕ) (start : ForStart) (condition step : Option Expr) (body : Stmt) →
    x ≡ tree.For at start condition step body → Has x [] [] (stmt body).every
on-For at start condition step body is = has _ _ (ap stmt is ∙ eq.does-For at start condition step body)

pub on-Goto : {x : Stmt} (at : ℕ) (name : Name) → x ≡ tree.Goto at name → Has x [] [] []
on-Goto at name is = has _ _ (ap stmt is ∙ eq.does-Goto at name)

pub on-Continue : {x : Stmt} (at : ℕ) → x ≡ tree.Continue at → Has x [] [] []
on-Continue at is = has _ _ (ap stmt is ∙ eq.does-Continue at)

pub on-Break : {x : Stmt} (at : ℕ) → x ≡ tree.Break at → Has x [] [] []
on-Break at is = has _ _ (ap stmt is ∙ eq.does-Break at)

pub on-Return : {x : Stmt} (at : ℕ) (value : Option Expr) → x ≡ tree.Return at value → Has x [] [] []
on-Return at value is = has _ _ (ap stmt is ∙ eq.does-Return at value)

-- ---- lists that grow

pub none : (fs : List Label) {ls : List Label} → ls ≡ [] → fs ≡ fs ++ ls
none [] is = sym is
none (f ∷ fs) is = ap (λ gs. f ∷ gs) (none fs is)

-- the same labels
pub same : (fs : List Label) {gs ls ks : List Label} → gs ≡ fs ++ ks → ls ≡ ks → gs ≡ fs ++ ls
same fs found is = found ∙ ap (λ (zs : List Label). fs ++ zs) (sym is)

grouped : (xs ys zs : List Label) → (xs ++ ys) ++ zs ≡ xs ++ (ys ++ zs)
grouped [] ys zs = refl
grouped (x ∷ xs) ys zs = ap (λ ws. x ∷ ws) (grouped xs ys zs)

-- some behind others
pub behind : (fs ks ms : List Label) {gs hs : List Label} → gs ≡ fs ++ ks → hs ≡ gs ++ ms → hs ≡ fs ++ (ks ++ ms)
behind fs ks ms first second = second ∙ ap (λ (zs : List Label). zs ++ ms) first ∙ grouped fs ks ms

-- those of a child that was read through its owner
pub child : {A : Type 0} (f : A → List Label) (fs : List Label) {x y : A} {gs ls : List Label} → gs ≡ fs ++ f x →
    x ≡ y → ls ≡ f y → gs ≡ fs ++ ls
child f fs found as_read is = found ∙ ap (λ z. fs ++ f z) as_read ∙ ap (λ (zs : List Label). fs ++ zs) (sym is)

-- a label in front of others
pub label : (fs ks : List Label) (at : ℕ) {gs hs ls : List Label} {copied name : Name} →
    gs ≡ fs ++ record { at = at; name = copied } ∷ [] → hs ≡ gs ++ ks → copied ≡ name →
    ls ≡ record { at = at; name = name } ∷ ks → hs ≡ fs ++ ls
label fs ks at {copied} pushed found is_copy is =
    behind fs (record { at = at; name = copied } ∷ []) ks pushed found
    ∙ ap (λ (n : Name). fs ++ record { at = at; name = n } ∷ ks) is_copy
    ∙ ap (λ (zs : List Label). fs ++ zs) (sym is)
