use Rattle.std.proofs.Common.{◌∙◌, ap}
use Rattle.c_type_scope.proofs.ByBytes.{last_by_name}
use Rattle.c_type_scope.proofs.names.Named.push.Goals as goal

pub invariant_of-self-in-Ok : goal.invariant_of-self-in-Ok
invariant_of-self-in-Ok g c =
    last_by_name g.T.HasName.name_of c.args.value c.in_ok-copy.copy c.in_ok-key.key.items c.self.inside.items.items
    c.push.new.self.items c.self.inside.last c.insert.new.self
    (c.in_ok-key.ensures.items ∙ c.as_slice.ensures ∙ c.get-2.ensures ∙ c.name.ensures ∙ ap g.T.HasName.name_of c.get.ensures)
    c.in_ok-copy.ensures.cases c.in-Ok.ensures.updates c.in_ok-push.ensures.items c.self.invariant
