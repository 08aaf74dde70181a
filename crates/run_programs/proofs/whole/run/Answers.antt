use Rattle.std.proofs.Common.{rules}
use Rattle.c_machine.specs.States.{state}
use Rattle.core_running.specs.Running.{done}
use Rattle.run_programs.proofs.Machines.{starts}
use Rattle.run_programs.proofs.Running.{over, goes_on}
use Rattle.run_programs.proofs.whole.run.Goals as goal

pub returns-then-not-is_running : goal.returns-then-not-is_running
returns-then-not-is_running c =
    over c.args.core.now c.args.world.now c.args.bounds.now (done c.new-m.result) (done c.prepare.new.m) c.in_ok-ended.ended
    (starts c.args.world.now c.in_ok-duplicate.field-0 (state c.new-m.result) c.new-m.ensures.state
    c.in_ok-duplicate.ensures) c.in_ok-prepare.ensures.prepares (search rules) c.in_ok-ended.ensures

pub returns : goal.returns
returns c =
    goes_on c.args.core.now c.args.world.now c.args.bounds.now (done c.new-m.result) (done c.prepare.new.m)
    c.in_ok-whole.whole
    (starts c.args.world.now c.in_ok-duplicate.field-0 (state c.new-m.result) c.new-m.ensures.state
    c.in_ok-duplicate.ensures) c.in_ok-prepare.ensures.prepares (search rules) c.in_ok-whole.ensures
