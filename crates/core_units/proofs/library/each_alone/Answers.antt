use Rattle.std.proofs.Common.{subst, sym}
use Rattle.core_units.proofs.Making.{Library, library_start, library_next, library_end}
use Rattle.core_units.proofs.library.each_alone.Goals as goal

pub loop-external-init : goal.loop-external-init
loop-external-init c =
    subst (Library c.args.around.now c.args.externals.now c.args.externals.now) (sym c.new-all.ensures)
    (library_start c.args.around.now c.args.externals.now)

pub loop-external-preserved : goal.loop-external-preserved
loop-external-preserved c =
    library_next c.args.around.now c.requires.around c.args.externals.now c.loop-external.external-index
    c.external-item.result c.get.result.now c.loop-external.all c.in_ok-more.more c.append.new.self
    c.loop-external-test.true c.external-item.is c.get.ensures c.loop-external.invariant c.in_ok-more.ensures
    c.in_ok-append.ensures.ok

pub returns : goal.returns
returns c =
    library_end c.args.around.now c.args.externals.now c.loop-external.external-index c.loop-external.all
    c.loop-external-test.false c.loop-external.invariant
