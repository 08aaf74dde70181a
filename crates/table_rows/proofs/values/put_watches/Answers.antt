use Rattle.table_rows.proofs.Asking.{kept-on, kept-self, watched-at, watched-kept}
use Rattle.table_rows.proofs.values.put_watches.Goals as goal

pub watches-init : goal.watches-init
watches-init c = kept-self c.args.query.now

pub put_watch-requires-clause-whole : goal.put_watch-requires-clause-whole
put_watch-requires-clause-whole c = c.watches.invariant.whole c.requires.whole

pub put_watch-requires-clause-watch : goal.put_watch-requires-clause-watch
put_watch-requires-clause-watch c =
    watched-kept c.args.query.now c.watches.query c.in_ok-number.number c.watches.invariant
    (watched-at c.args.watches.now c.args.query.now c.watches.index c.in_ok-number.number c.requires.watches c.watches-test.true c.in_ok-number.ensures)

pub watches-preserved : goal.watches-preserved
watches-preserved c = kept-on c.args.query.now c.watches.query c.put_watch.new.query c.watches.invariant c.put_watch.ensures
