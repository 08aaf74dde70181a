use Rattle.std.proofs.Common.{◌∙◌}
use Rattle.c_type_scope.proofs.names.Named.get.Goals as goal

pub returns : goal.returns
returns g c = rw (← c.self.view_is) (c.get.ensures.value ∙ c.self.invariant c.args.name.now)
