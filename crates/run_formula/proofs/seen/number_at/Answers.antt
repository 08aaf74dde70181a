use Rattle.std.proofs.Common.{subst, sym}
use Rattle.run_formula.specs.Watched.{AreSeen}
use Rattle.run_formula.proofs.SeenLaws.{at-none, at-some}
use Rattle.run_formula.proofs.seen.number_at.Goals as goal

pub returns-in-None : goal.returns-in-None
returns-in-None c =
    let seen = rw c.as_slice-seen.ensures at c.in-None.ensures in
    at-none c.args.bank.now c.args.numbers c.args.place c.in_ok-all.all c.in_ok-all.ensures seen

pub returns : goal.returns
returns c =
    let seen = subst (AreSeen c.args.bank.now c.args.numbers) (sym c.as_slice-seen.ensures) c.in_ok-all.ensures in
    at-some c.args.bank.now c.args.numbers c.args.place c.in-Some.index c.as_slice-seen.result.now _ seen c.in-Some.ensures.0 c.in-Some.ensures.1
