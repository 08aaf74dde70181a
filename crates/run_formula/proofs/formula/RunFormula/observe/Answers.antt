use Rattle.run_formula.proofs.Laws.{observations_are}
use Rattle.run_formula.proofs.formula.RunFormula.observe.Goals as goal

pub returns : goal.returns
returns c =
    observations_are c.args.bank.now _ c.args.self.now c.args.watch c.in_ok-seen.seen c.in_ok-all.all
    (rw c.as_slice.ensures at c.in_ok-seen.ensures) (rw (c.as_slice-lists.ensures, c.as_slice-2.ensures) at c.in_ok-all.ensures)
