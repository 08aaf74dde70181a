use Rattle.run_formula.proofs.Sights.{all_none}
use Rattle.run_formula.proofs.sighting.sight_all.Goals as goal

pub loop-number-init : goal.loop-number-init
loop-number-init c =
    let look = c.args.look.now in
    all_none look.log.now look.watch.now look.lists.now c.args.bank.now c.new-told.result c.new-told.ensures.empty
