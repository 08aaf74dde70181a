use Rattle.std.proofs.Common.{sym, ◌∙◌}
use Rattle.cdcl.proofs.Visiting.{are-left, first-code, second-code, left-visited, goes-rest, ready-rest, held-visited}
use Rattle.cdcl.proofs.search.Search.visit.Goals as goal

pub returns-then-holds-clause-visited : goal.returns-then-holds-clause-visited
returns-then-holds-clause-visited c = held-visited c.args.falsified c.args.watch c.args.self.now c.requires.ready c.requires.watch (sym c.holds.ensures ∙ c.if-holds.true)

pub heed-requires-clause-named : goal.heed-requires-clause-named
heed-requires-clause-named c = let w = c.requires.watch in (w.0, w.1)

pub move_watch-requires-clause-one : goal.move_watch-requires-clause-one
move_watch-requires-clause-one c =
    let a = c.args.self.now in
    let b = c.heed.new.self in
    let e = c.in_ok-reading.ensures in
    let w = c.requires.watch in
    first-code a b c.args.watch.id c.in-Some.pair w.0 e.ready e.goes e.watches c.requires.sound w.1 (are-left a b c.args.watch.id c.in_ok-reading.reading c.in-Some.pair w.0 e.ready w.1 e.says (sym c.left_in.ensures ∙ c.in-Some.is))

pub move_watch-requires-clause-another : goal.move_watch-requires-clause-another
move_watch-requires-clause-another c =
    let a = c.args.self.now in
    let b = c.heed.new.self in
    let e = c.in_ok-reading.ensures in
    let w = c.requires.watch in
    second-code a b c.args.watch.id c.in-Some.pair w.0 e.ready e.goes e.watches c.requires.sound w.1 (are-left a b c.args.watch.id c.in_ok-reading.reading c.in-Some.pair w.0 e.ready w.1 e.says (sym c.left_in.ensures ∙ c.in-Some.is))

pub returns-in_ok-visit-in-Some-clause-ready : goal.returns-in_ok-visit-in-Some-clause-ready
returns-in_ok-visit-in-Some-clause-ready c = ready-rest c.heed.new.self c.move_watch.new.self c.in_ok-visit-in-Some.ensures.rest c.in_ok-reading.ensures.ready

pub returns-in_ok-visit-in-Some-clause-goes : goal.returns-in_ok-visit-in-Some-clause-goes
returns-in_ok-visit-in-Some-clause-goes c = goes-rest c.args.self.now c.heed.new.self c.move_watch.new.self c.in_ok-visit-in-Some.ensures.rest c.in_ok-reading.ensures.goes

pub returns-in_ok-visit-in-Some-clause-visited : goal.returns-in_ok-visit-in-Some-clause-visited
returns-in_ok-visit-in-Some-clause-visited c =
    let a = c.args.self.now in
    let b = c.heed.new.self in
    let e = c.in_ok-reading.ensures in
    let w = c.requires.watch in
    left-visited c.args.falsified c.args.watch a b c.move_watch.new.self c.in-Some.pair c.in_ok-visit-in-Some.visit e.watches c.in_ok-visit-in-Some.ensures.rest c.in_ok-visit-in-Some.ensures.moved
    (are-left a b c.args.watch.id c.in_ok-reading.reading c.in-Some.pair w.0 e.ready w.1 e.says (sym c.left_in.ensures ∙ c.in-Some.is))
