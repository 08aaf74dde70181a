use Rattle.std.proofs.Common.{◌++◌, ◌∷◌, [], ap, ◌∙◌}
use Rattle.c_grammar.specs.Parts.{Bound}
use Rattle.c_scope.proofs.Knowing.{put_last}
use Rattle.c_scope.proofs.file.FileNames.declare.Goals as goal

pub invariant_of-self-in-Ok : goal.invariant_of-self-in-Ok
invariant_of-self-in-Ok c =
    put_last c.args.declared.now c.self.inside.names.items c.push.new.self.items c.self.inside.kinds c.put.new.self c.self.invariant
    (rw (c.name.ensures, c.is_type.ensures) at c.in-Ok.ensures.changes)
    (c.in_ok-push.ensures.items ∙ ap (λ (b : Bound). c.self.inside.names.items ++ b ∷ []) c.in_ok-copy.ensures)
