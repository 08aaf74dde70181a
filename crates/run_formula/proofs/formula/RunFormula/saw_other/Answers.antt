use mir.Val.{SFits}
use mir.Syntax.{w128}
use Rattle.std.proofs.Common.{rules}
use Rattle.std.proofs.lemmas.Int.{to_z-of_z}
use Rattle.run_formula.proofs.Laws.{other_answered}
use Rattle.run_formula.proofs.formula.RunFormula.saw_other.Goals as goal

pub returns : goal.returns
returns c =
    let fits : SFits w128 c.args.value.now = search rules in
    let same = to_z-of_z w128 c.args.value.now fits in
    other_answered c.args.bank.now _ _ c.args.self.now c.args.watch c.args.value.now c.in_ok-seen.seen c.in_ok-node.node
    (rw c.as_slice.ensures at c.in_ok-seen.ensures) (rw (same, c.as_slice-lists.ensures, c.as_slice-2.ensures) at c.in_ok-node.ensures)
