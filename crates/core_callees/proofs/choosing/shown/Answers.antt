use Rattle.std.proofs.Common.{sym, ap, ◌∙◌}
use Rattle.c_means.specs.Calls.{automatic_in}
use Rattle.c_means.specs.Runs.{place_in}
use Rattle.core_callees.proofs.WatchingLaws.{both_shown}
use Rattle.core_callees.proofs.choosing.shown.Goals as goal

pub returns : goal.returns
returns c =
    both_shown (place_in c.args.calling.now.places.now) c.args.calling.now.watched.now c.as_slice.result.now
    (automatic_in c.args.scope.now.blocks) c.new-all.result c.watch.new.all c.watch-2.new.all c.new-all.ensures
    (c.as_slice.ensures.value ∙ c.in_ok-automatic.ensures ∙ ap automatic_in (sym c.blocks-2.ensures))
    c.in_ok-watch.ensures c.in_ok-watch-2.ensures
