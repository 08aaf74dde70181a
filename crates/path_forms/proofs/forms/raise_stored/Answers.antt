use Rattle.std.proofs.Common.{pos}
use Rattle.core_tree.specs.declared.types.Answered.TheVariants as answered
use Rattle.path_states.specs.Ways.{Trial, tried}
use Rattle.path_steps.specs.declared.leaf.Leaf.TheVariants as leaf
use Rattle.path_steps.specs.Leaves.{leaf_way}
use Rattle.path_forms.specs.Reaching.{operated_way}
use Rattle.path_forms.specs.Steps.{raised_way}
use Rattle.path_forms.proofs.Outcomes.{stored_by_leaves}
use Rattle.path_forms.proofs.Reached.{reach_then, reach_where}
use Rattle.path_forms.proofs.forms.raise_stored.Goals as goal

pub returns : goal.returns
returns c =
    let one : Trial = leaf_way (leaf.Constant (pos 1)) in
    let raised : Trial = operated_way c.args.at c.args.operator in
    let stored : Trial = leaf_way (leaf.Put c.args.at c.args.access) in
    reach_where c.args.room _ _ c.args.walked.now _ (λ e v h. tried (tried (one e v h) (raised e v)) (stored e v))
    (raised_way c.args.at c.args.operator c.args.access answered.Stored)
    (λ e v m r h. stored_by_leaves c.args.at c.args.access e v c.args.operator h)
    (reach_then c.args.room _ _ _ c.args.walked.now _ _ (λ e v h. tried (one e v h) (raised e v)) stored
    (reach_then c.args.room _ _ _ c.args.walked.now _ _ one raised c.in_ok-leaf.ensures c.in_ok-operate.ensures) c.in_ok-leaf-2.ensures)
