use Rattle.std.proofs.Common.{arith}
use Rattle.c_language.specs.Scopes.{with_entry}
use Rattle.c_type_scope.proofs.Innermost.{replaced}
use Rattle.c_type_scope.proofs.scope.Scope.declare_entry.Goals as goal

pub returns : goal.returns
returns c = rw (← c.self.view_is)
    (replaced c.self.inside.file c.self.inside.linked c.self.inside.function c.self.inside.tables
    (λ b. with_entry c.args.entry b) c.self.inside.blocks.items c.len-count.result c.index_mut-block.result.now
    c.add_entry-2.new.self (omega arith) (omega arith) c.index_mut-block.ensures.value c.in_ok-add_entry.ensures)
