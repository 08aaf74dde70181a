use Rattle.std.proofs.Common.{take, get_or}
use Rattle.std.proofs.lemmas.List.{take_all, take_more}
use Rattle.path_forms.specs.declared.frame.Placed.{Placed}
use Rattle.path_forms.proofs.Located.{found_later, located}
use Rattle.path_forms.proofs.frame.place_of.Goals as goal

pub loop-placed-preserved : goal.loop-placed-preserved
loop-placed-preserved c =
    let none : Placed = record { at = 0; offset = 0 } in
    let i = c.loop-placed.placed-index in
    rw (take_more c.args.frame.now i none c.loop-placed-test.true)
    (found_later (take i c.args.frame.now) (get_or c.args.frame.now i none) c.args.at c.loop-placed.found _ c.loop-placed.invariant
    c.later-found.ensures)

pub returns : goal.returns
returns c =
    located c.args.frame.now c.args.room c.args.at c.loop-placed.found c.within.result
    (rw (take_all c.loop-placed.placed-index c.args.frame.now c.loop-placed-test.false) at c.loop-placed.invariant) c.within.ensures.room
    c.within.ensures.same
