use Rattle.std.proofs.Common.{ℕ, map, drop, option_map}
use Rattle.core_tree.specs.Codes.{code, maybe_evaluated}
use Rattle.core_tree.specs.Values.{value}
use Rattle.log_expr.proofs.OnCodes.{CodesLead}
use Rattle.log_expr.proofs.Turns.{LoopLeads, while_of, do_of}
use Rattle.log_expr.proofs.codes.+codes.Given as goal

abbrev pub invariant-walk_codes-loop-c : goal.invariant-walk_codes-loop-c
invariant-walk_codes-loop-c g l =
    CodesLead (g.L.Stage.site l.walk.stage.now) l.fn.table l.table (map code l.cs) (map code (drop l.c-index l.cs)) l.fn.course l.course

abbrev pub invariant-walk_code-turns : goal.invariant-walk_code-turns
invariant-walk_code-turns g l = (at : ℕ) → LoopLeads (g.L.Stage.site l.walk.stage.now)
    (while_of at (option_map value l.test) (code l.body) (maybe_evaluated (option_map value l.step)))
    l.initial.table l.table l.initial.left l.left l.initial.course l.course

abbrev pub decreases-walk_code-turns : goal.decreases-walk_code-turns
decreases-walk_code-turns g l = l.left

abbrev pub invariant-walk_code-rounds : goal.invariant-walk_code-rounds
invariant-walk_code-rounds g l = (at : ℕ) → LoopLeads (g.L.Stage.site l.walk.stage.now) (do_of at (code l.body) (value l.test))
    l.initial.table l.table l.initial.left l.left l.initial.course l.course

abbrev pub decreases-walk_code-rounds : goal.decreases-walk_code-rounds
decreases-walk_code-rounds g l = l.left
