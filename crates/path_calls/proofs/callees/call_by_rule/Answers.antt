use Rattle.core_tree.specs.declared.expr.Callee.TheVariants as callee
use Rattle.path_calls.proofs.OutsideTrials.{within_bounds}
use Rattle.path_calls.proofs.callees.call_by_rule.Goals as goal

pub returns-in_ok-walked-in-Identity : goal.returns-in_ok-walked-in-Identity
returns-in_ok-walked-in-Identity c =
    rw c.in-Identity.is
    (within_bounds c.args.bounds.now c.args.room c.args.bank.now c.identity.new.bank c.args.state.now (callee.Identity c.in-Identity.index) c.args.site
    c.in_ok-walked-in-Identity.walked (c.in_ok-walked-in-Identity.ensures c.args.room))

pub returns-in_ok-walked-in-Exit : goal.returns-in_ok-walked-in-Exit
returns-in_ok-walked-in-Exit c =
    rw c.in-Exit.is
    (within_bounds c.args.bounds.now c.args.room c.args.bank.now c.exit.new.bank c.args.state.now callee.Exit c.args.site
    c.in_ok-walked-in-Exit.walked (c.in_ok-walked-in-Exit.ensures c.args.room))

pub returns-in_ok-walked-in-Abort : goal.returns-in_ok-walked-in-Abort
returns-in_ok-walked-in-Abort c =
    rw c.in-Abort.is
    (within_bounds c.args.bounds.now c.args.room c.args.bank.now c.abort.new.bank c.args.state.now callee.Abort c.args.site
    c.in_ok-walked-in-Abort.walked (c.in_ok-walked-in-Abort.ensures c.args.room))

pub returns-in_ok-walked-in-Malloc : goal.returns-in_ok-walked-in-Malloc
returns-in_ok-walked-in-Malloc c = rw c.in-Malloc.is c.in_ok-walked-in-Malloc.ensures

pub returns-in_ok-walked-in-Calloc : goal.returns-in_ok-walked-in-Calloc
returns-in_ok-walked-in-Calloc c = rw c.in-Calloc.is c.in_ok-walked-in-Calloc.ensures

pub returns-in_ok-walked-in-Free : goal.returns-in_ok-walked-in-Free
returns-in_ok-walked-in-Free c =
    rw c.in-Free.is
    (within_bounds c.args.bounds.now c.args.room c.args.bank.now c.free.new.bank c.args.state.now callee.Free c.args.site
    c.in_ok-walked-in-Free.walked (c.in_ok-walked-in-Free.ensures c.args.room))
