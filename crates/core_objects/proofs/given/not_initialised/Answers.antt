use Rattle.std.proofs.Common.{List, false, ap₂}
use Rattle.core_tree.specs.declared.code.Setting.{Setting}
use Rattle.core_tree.specs.declared.expr.Expr.{Expr}
use Rattle.core_objects.specs.declared.given.Initial.{Initial}
use Rattle.core_objects.proofs.DeclaredObjects.{none_is_given}
use Rattle.core_objects.proofs.given.not_initialised.Goals as goal

abbrev initial_of : List Setting → List Expr → Initial
initial_of xs es = record { is_zeroed = false; settings = xs; counted = es }

pub returns : goal.returns
returns c = λ m n. none_is_given m n (initial_of c.new.result c.new-2.result) (ap₂ initial_of c.new.ensures c.new-2.ensures)
