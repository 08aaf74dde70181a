use Rattle.std.proofs.Common.{◌∙◌, ◌-◌, ap, arith, reverse, slice_set}
use Rattle.c_grammar.specs.Parts.{Bound}
use Rattle.c_scope.specs.Local.{declared_at}
use Rattle.c_scope.proofs.Found.{declared_in_last}
use Rattle.c_scope.proofs.Usual.{usual_declared}
use Rattle.c_scope.proofs.levels.Levels.declare.Goals as goal

pub returns : goal.returns
returns c = rw (← c.self.view_is)
    (declared_in_last c.in_ok-declared.declared c.self.inside.levels.items c.len-count.result c.index_mut-level.result.now c.declare.new.self
    (omega arith) (omega arith) c.index_mut-level.ensures.value c.in_ok-declare.ensures
    ∙ ap (λ (b : Bound). declared_at b (reverse c.self.inside.levels.items)) c.in_ok-declared.ensures)

pub invariant_of-self-2 : goal.invariant_of-self-2
invariant_of-self-2 c = rw c.take-in_file.ensures.value
    (usual_declared c.in_ok-declared.declared c.self.inside.in_file c.self.inside.levels.items
    (slice_set c.self.inside.levels.items (c.len-count.result - 1) c.declare.new.self) c.self.inside.known c.note.new.self (omega arith)
    c.in_ok-note.ensures
    (declared_in_last c.in_ok-declared.declared c.self.inside.levels.items c.len-count.result c.index_mut-level.result.now c.declare.new.self
    (omega arith) (omega arith) c.index_mut-level.ensures.value c.in_ok-declare.ensures)
    c.self.invariant)
