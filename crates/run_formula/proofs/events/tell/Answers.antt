use Rattle.run_formula.proofs.Asked.{shape_branch, shape_call, shape_print, shape_both, shape_chosen, condition_of}
use Rattle.run_formula.proofs.events.tell.Goals as goal

pub or_meant-requires : goal.or_meant-requires
or_meant-requires c = (c.requires.told.tell _ c.in_ok-before-in-BranchEvent.before c.in_ok-before-in-BranchEvent.ensures).term

pub returns-in_ok-node-in-BranchEvent : goal.returns-in_ok-node-in-BranchEvent
returns-in_ok-node-in-BranchEvent c =
    let s = c.in-BranchEvent in
    rw s.is
    (shape_branch c.args.log.now c.args.question.now c.args.bank.now _ s.events s.printed s.at s.side c.in_ok-before-in-BranchEvent.before c.in_ok-node-in-BranchEvent.node c.seeks_branch-meant.result
    (c.requires.told.tell _ c.in_ok-before-in-BranchEvent.before c.in_ok-before-in-BranchEvent.ensures) c.in_ok-node-in-BranchEvent.ensures c.seeks_branch-meant.ensures)

pub or_meant-requires-in-CallEvent : goal.or_meant-requires-in-CallEvent
or_meant-requires-in-CallEvent c = (c.requires.told.tell _ c.in_ok-before-in-CallEvent.before c.in_ok-before-in-CallEvent.ensures).term

pub returns-in_ok-node-in-CallEvent : goal.returns-in_ok-node-in-CallEvent
returns-in_ok-node-in-CallEvent c =
    let s = c.in-CallEvent in
    rw s.is
    (shape_call c.args.log.now c.args.question.now c.args.bank.now _ s.events s.printed s.at c.in_ok-before-in-CallEvent.before c.in_ok-node-in-CallEvent.node c.seeks_call-meant.result
    (c.requires.told.tell _ c.in_ok-before-in-CallEvent.before c.in_ok-before-in-CallEvent.ensures) c.in_ok-node-in-CallEvent.ensures c.seeks_call-meant.ensures)

pub or_meant-requires-in-PrintEvent : goal.or_meant-requires-in-PrintEvent
or_meant-requires-in-PrintEvent c = (c.requires.told.tell _ c.in_ok-before-in-PrintEvent.before c.in_ok-before-in-PrintEvent.ensures).term

pub returns-in_ok-node-in-PrintEvent : goal.returns-in_ok-node-in-PrintEvent
returns-in_ok-node-in-PrintEvent c =
    let s = c.in-PrintEvent in
    rw s.is
    (shape_print c.args.log.now c.args.question.now c.args.bank.now _ s.events s.printed s.at s.length s.seen c.in_ok-before-in-PrintEvent.before
    c.in_ok-node-in-PrintEvent.node c.seeks_print-meant.result (c.requires.told.tell _ c.in_ok-before-in-PrintEvent.before c.in_ok-before-in-PrintEvent.ensures)
    c.in_ok-node-in-PrintEvent.ensures c.seeks_print-meant.ensures)

pub connect-requires-clause-left : goal.connect-requires-clause-left
connect-requires-clause-left c = (c.requires.told.tell _ c.in_ok-one-in-EventsBehind.one c.in_ok-one-in-EventsBehind.ensures).term

pub connect-requires-clause-right : goal.connect-requires-clause-right
connect-requires-clause-right c = (c.requires.told.tell _ c.in_ok-other-in-EventsBehind.other c.in_ok-other-in-EventsBehind.ensures).term

pub returns-in_ok-node-in-EventsBehind : goal.returns-in_ok-node-in-EventsBehind
returns-in_ok-node-in-EventsBehind c =
    let s = c.in-EventsBehind in
    let one = c.in_ok-one-in-EventsBehind in
    let other = c.in_ok-other-in-EventsBehind in
    rw s.is
    (shape_both c.args.log.now c.args.question.now c.args.bank.now _ s.first s.second one.one other.other c.in_ok-node-in-EventsBehind.node
    (c.requires.told.tell _ one.one one.ensures) (c.requires.told.tell _ other.other other.ensures) c.in_ok-node-in-EventsBehind.ensures)

pub choose-requires-clause-condition : goal.choose-requires-clause-condition
choose-requires-clause-condition c =
    let s = c.in-Choose in
    condition_of c.args.bank.now c.args.number s.sort s.condition s.yes s.no c.args.shape c.requires.bank c.requires.stands s.is

pub choose-requires-clause-yes : goal.choose-requires-clause-yes
choose-requires-clause-yes c = (c.requires.told.tell _ c.in_ok-first-in-Choose.first c.in_ok-first-in-Choose.ensures).term

pub choose-requires-clause-no : goal.choose-requires-clause-no
choose-requires-clause-no c = (c.requires.told.tell _ c.in_ok-second-in-Choose.second c.in_ok-second-in-Choose.ensures).term

pub returns-in_ok-node-in-Choose : goal.returns-in_ok-node-in-Choose
returns-in_ok-node-in-Choose c =
    let s = c.in-Choose in
    let one = c.in_ok-first-in-Choose in
    let other = c.in_ok-second-in-Choose in
    rw s.is
    (shape_chosen c.args.log.now c.args.question.now c.args.bank.now _ s.sort s.condition s.yes s.no one.first other.second
    c.in_ok-node-in-Choose.node (c.requires.told.tell _ one.first one.ensures) (c.requires.told.tell _ other.second other.ensures)
    c.in_ok-node-in-Choose.ensures)
