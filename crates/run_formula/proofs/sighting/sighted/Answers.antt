use Rattle.run_formula.proofs.Asked.{condition_of}
use Rattle.run_formula.proofs.Sights.{shape_none, shape_branch, shape_call, shape_print, shape_both, shape_chosen}
use Rattle.run_formula.proofs.sighting.sighted.Goals as goal

pub returns-in_ok-none-in-NoEvents : goal.returns-in_ok-none-in-NoEvents
returns-in_ok-none-in-NoEvents c =
    let look = c.args.look.now in
    rw c.in-NoEvents.is (shape_none look.log.now look.watch.now look.lists.now c.args.bank.now _ c.in_ok-none-in-NoEvents.none c.in_ok-none-in-NoEvents.ensures)

pub returns-in_ok-before-in-BranchEvent : goal.returns-in_ok-before-in-BranchEvent
returns-in_ok-before-in-BranchEvent c =
    let look = c.args.look.now in
    let s = c.in-BranchEvent in
    let before = c.in_ok-before-in-BranchEvent in
    rw s.is
    (shape_branch look.log.now look.watch.now look.lists.now c.args.bank.now s.events s.printed s.at s.side before.before
    (c.requires.told.tell _ before.before before.ensures))

pub returns-in_ok-before-in-CallEvent : goal.returns-in_ok-before-in-CallEvent
returns-in_ok-before-in-CallEvent c =
    let look = c.args.look.now in
    let s = c.in-CallEvent in
    let before = c.in_ok-before-in-CallEvent in
    rw s.is
    (shape_call look.log.now look.watch.now look.lists.now c.args.bank.now s.events s.printed s.at before.before
    (c.requires.told.tell _ before.before before.ensures))

pub with_print-requires-clause-len : goal.with_print-requires-clause-len
with_print-requires-clause-len c =
    (c.requires.told.tell _ c.in_ok-before-in-PrintEvent.before c.in_ok-before-in-PrintEvent.ensures).len

pub with_print-requires-clause-terms : goal.with_print-requires-clause-terms
with_print-requires-clause-terms c =
    (c.requires.told.tell _ c.in_ok-before-in-PrintEvent.before c.in_ok-before-in-PrintEvent.ensures).terms

pub returns-in_ok-nodes-in-PrintEvent : goal.returns-in_ok-nodes-in-PrintEvent
returns-in_ok-nodes-in-PrintEvent c =
    let look = c.args.look.now in
    let s = c.in-PrintEvent in
    let before = c.in_ok-before-in-PrintEvent in
    rw s.is
    (shape_print look.log.now look.watch.now look.lists.now c.args.bank.now _ s.events s.printed s.at s.length s.seen before.before
    c.in_ok-nodes-in-PrintEvent.nodes (c.requires.told.tell _ before.before before.ensures) c.in_ok-nodes-in-PrintEvent.ensures)

pub returns-in_ok-nodes-in-EventsBehind : goal.returns-in_ok-nodes-in-EventsBehind
returns-in_ok-nodes-in-EventsBehind c =
    let look = c.args.look.now in
    let s = c.in-EventsBehind in
    rw s.is
    (shape_both look.log.now look.watch.now look.lists.now c.args.bank.now _ c.args.told.now s.first s.second c.in_ok-nodes-in-EventsBehind.nodes
    c.requires.told c.in_ok-nodes-in-EventsBehind.ensures)

pub both-requires-in-Choose-clause-how : goal.both-requires-in-Choose-clause-how
both-requires-in-Choose-clause-how c =
    let s = c.in-Choose in
    condition_of c.args.bank.now c.args.number s.sort s.condition s.yes s.no c.args.shape c.requires.bank c.requires.stands s.is

pub returns-in_ok-nodes-in-Choose : goal.returns-in_ok-nodes-in-Choose
returns-in_ok-nodes-in-Choose c =
    let look = c.args.look.now in
    let s = c.in-Choose in
    rw s.is
    (shape_chosen look.log.now look.watch.now look.lists.now c.args.bank.now _ c.args.told.now s.sort s.condition s.yes s.no
    c.in_ok-nodes-in-Choose.nodes c.requires.told c.in_ok-nodes-in-Choose.ensures)
