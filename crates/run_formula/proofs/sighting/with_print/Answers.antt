use Rattle.run_formula.proofs.Asked.{not_so}
use Rattle.run_formula.proofs.Sights.{print_unwatched, print_watched}
use Rattle.run_formula.proofs.sighting.with_print.Goals as goal

pub returns-then-not-is_watched : goal.returns-then-not-is_watched
returns-then-not-is_watched c =
    let look = c.args.look.now in
    print_unwatched look.log.now look.watch.now look.lists.now c.args.bank.now c.args.before c.args.printed c.args.at c.args.seen c.requires.len
    c.requires.terms (not_so c.is_watched.result c.if-not-is_watched.true c.is_watched.ensures)

pub returns-in_ok-always-in-Some : goal.returns-in_ok-always-in-Some
returns-in_ok-always-in-Some c =
    let look = c.args.look.now in
    print_watched look.log.now look.watch.now look.lists.now c.args.bank.now _ c.args.before c.set.new.self c.in-Some.index c.args.printed c.args.at
    c.args.seen c.in_ok-always-in-Some.always c.requires.len c.requires.terms (c.is_watched.ensures.0 c.if-not-is_watched.false) c.in-Some.ensures
    c.in_ok-always-in-Some.ensures c.set.ensures
