-- What the types say of a tree is what its meaning says to them.
use Rattle.std.proofs.Common.{◌≡◌, ap, sym}
use Rattle.c_language.specs.declared.expr.Expr.{Expr}
use Rattle.c_language.specs.declared.expr.TypeName.{TypeName}
use Rattle.c_language.specs.Scopes.{Scope}
use Rattle.c_language.specs.Trees.{typed, type_name_says}
use Rattle.c_means.specs.Trees.{part, type_name_said}
use Rattle.c_means.proofs.Fusion.{part_typed, type_name_same}

pub typed_is : (e : Expr) (s : Scope) → typed e s ≡ (part e s).typed
typed_is e s = sym (part_typed e s)

pub type_name_is : (t : TypeName) (s : Scope) → type_name_says t s ≡ type_name_said t s
type_name_is t s = ap (λ f. f s) (sym (type_name_same t))
