use Rattle.std.proofs.Common.{pos}
use Rattle.core_tree.specs.declared.types.Answered.TheVariants as answered
use Rattle.path_states.specs.Ways.{Trial, tried}
use Rattle.path_steps.specs.declared.leaf.Leaf.TheVariants as leaf
use Rattle.path_steps.specs.Leaves.{leaf_way}
use Rattle.path_forms.specs.Reaching.{operated_way}
use Rattle.path_forms.specs.Steps.{raised_way}
use Rattle.path_forms.proofs.Outcomes.{before_by_leaves}
use Rattle.path_forms.proofs.Reached.{reach_then, reach_where}
use Rattle.path_forms.proofs.forms.raise_before.Goals as goal

pub returns : goal.returns
returns c =
    let tuck : Trial = leaf_way leaf.Tuck in
    let one : Trial = leaf_way (leaf.Constant (pos 1)) in
    let raised : Trial = operated_way c.args.at c.args.operator in
    let stored : Trial = leaf_way (leaf.Put c.args.at c.args.access) in
    let last : Trial = leaf_way leaf.Drop in
    let first : Trial = λ e v h. tried (tuck e v h) (one e v) in
    let second : Trial = λ e v h. tried (first e v h) (raised e v) in
    let third : Trial = λ e v h. tried (second e v h) (stored e v) in
    reach_where c.args.room _ _ c.args.walked.now _ (λ e v h. tried (third e v h) (last e v))
    (raised_way c.args.at c.args.operator c.args.access answered.Before)
    (λ e v m r h. before_by_leaves c.args.at c.args.access e v c.args.operator h)
    (reach_then c.args.room _ _ _ c.args.walked.now _ _ third last
    (reach_then c.args.room _ _ _ c.args.walked.now _ _ second stored
    (reach_then c.args.room _ _ _ c.args.walked.now _ _ first raised
    (reach_then c.args.room _ _ _ c.args.walked.now _ _ tuck one c.in_ok-leaf.ensures c.in_ok-leaf-2.ensures) c.in_ok-operate.ensures)
    c.in_ok-leaf-3.ensures) c.in_ok-leaf-4.ensures)
