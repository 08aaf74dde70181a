use Rattle.std.proofs.Common.{refl}
use Rattle.run_formula.proofs.ArgumentTerms.{binds_false}
use Rattle.run_formula.proofs.arguments.without_arguments.Goals as goal

pub returns : goal.returns
returns c =
    λ l.
    rw c.new.ensures
    (binds_false c.args.bank.now _ c.args.memory c.in_ok-base.base _ l c.args.place c.requires.place c.requires.memory refl c.in_ok-base.ensures)
