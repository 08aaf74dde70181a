use Rattle.path_states.specs.Ways.{tried}
use Rattle.path_steps.specs.declared.leaf.Leaf.TheVariants as leaf
use Rattle.path_steps.specs.Leaves.{leaf_way}
use Rattle.path_forms.specs.Steps.{recalled_way}
use Rattle.path_forms.proofs.Outcomes.{recalled_by_leaves}
use Rattle.path_forms.proofs.Reached.{reach_then, reach_where}
use Rattle.path_forms.proofs.forms.recall.Goals as goal

pub returns : goal.returns
returns c =
    reach_where c.args.room _ _ c.args.walked.now _
    (λ e v h. tried (leaf_way leaf.Again e v h) (leaf_way (leaf.Load c.args.access) e v)) (recalled_way c.args.access)
    (λ e v m r h. recalled_by_leaves c.args.access e v h)
    (reach_then c.args.room _ _ _ c.args.walked.now _ _ (leaf_way leaf.Again) (leaf_way (leaf.Load c.args.access)) c.in_ok-leaf.ensures
    c.in_ok-leaf-2.ensures)
