use Rattle.std.proofs.Common.{subst}
use Rattle.run_formula.specs.Watched.{IsAt}
use Rattle.run_formula.proofs.SeenLaws.{other-none, other-some}
use Rattle.run_formula.proofs.seen.sees_other.Goals as goal

pub returns-in_ok-always-in-None : goal.returns-in_ok-always-in-None
returns-in_ok-always-in-None c =
    other-none c.args.bank.now _ c.args.numbers c.args.place c.args.value.now c.in_ok-always-in-None.always
    (subst (IsAt c.args.bank.now c.args.numbers c.args.place) c.in-None.is c.in_ok-number_at.ensures) c.in_ok-always-in-None.ensures

pub returns-in_ok-other-in-Some : goal.returns-in_ok-other-in-Some
returns-in_ok-other-in-Some c =
    other-some c.args.bank.now _ c.args.numbers c.args.place c.in-Some.seen c.args.value.now c.in_ok-other-in-Some.other
    (subst (IsAt c.args.bank.now c.args.numbers c.args.place) c.in-Some.is c.in_ok-number_at.ensures) c.in_ok-other-in-Some.ensures
