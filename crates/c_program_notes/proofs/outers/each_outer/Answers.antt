use Rattle.c_item_notes.specs.Levels.{judged}
use Rattle.c_program_notes.proofs.EachOuter.{next_outer}
use Rattle.c_program_notes.proofs.outers.each_outer.Goals as goal

pub loop-external-preserved : goal.loop-external-preserved
loop-external-preserved c =
    next_outer (judged c.args.source.now) c.args.externals.now c.loop-external.external-index c.external-item.result
    c.get.result.now c.loop-external.outers c.push.new.self c.in_ok-found.found c.loop-external.scope
    c.outer_notes.new.scope c.loop-external-test.true c.external-item.is c.get.ensures c.in_ok-found.ensures
    c.in_ok-push.ensures.ok c.loop-external.invariant
