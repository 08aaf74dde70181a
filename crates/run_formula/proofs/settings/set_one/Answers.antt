use Rattle.run_formula.specs.Settings.{still_around}
use Rattle.run_formula.proofs.Readied.{sets_one}
use Rattle.run_formula.proofs.settings.set_one.Goals as goal

pub returns : goal.returns
returns c =
    let a = c.args in
    sets_one (still_around a.still.now.log.now a.still.now.bounds.now) 4294967296 _ _ a.states.now a.one.now c.in_ok-coded.coded
    (rw (c.as_slice.ensures, c.new-frame.ensures) at c.in_ok-coded.ensures)
