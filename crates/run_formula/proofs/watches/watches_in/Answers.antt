use Rattle.std.proofs.Common.{ap, ◌∙◌}
use Rattle.run_formula.specs.Watched.{watch_at}
use Rattle.run_formula.proofs.SeenWatches.{watch-more, watch-ends}
use Rattle.run_formula.proofs.watches.watches_in.Goals as goal

pub watched-preserved : goal.watched-preserved
watched-preserved c =
    watch-more c.args.facts.now c.watched.last c.watched.next c.args.watched.now c.watched.index _ c.place_behind-place.result c.in_ok-next.next
    c.watch_of-watch.result c.watched.all c.push.new.self c.watched-test.true c.place_behind-place.ensures
    (c.watch_of-watch.ensures ∙ ap (λ f. watch_at f c.place_behind-place.result) c.fact_numbered-fact.ensures) c.in_ok-next.ensures
    c.in_ok-push.ensures.ok c.watched.invariant

pub returns : goal.returns
returns c =
    watch-ends c.args.facts.now c.watched.last c.watched.next c.args.watched.now c.watched.index c.watched.all c.watched-test.false c.watched.invariant
