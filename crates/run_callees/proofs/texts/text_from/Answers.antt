use Rattle.std.proofs.Common.{rules, ◌+◌}
use Rattle.c_machine.specs.States.{state}
use Rattle.c_means.specs.Calls.{text_from}
use Rattle.run_callees.proofs.Reading.{goes_on}
use Rattle.run_callees.proofs.texts.text_from.Goals as goal

pub bytes-preserved : goal.bytes-preserved
bytes-preserved c = record {
  reads = goes_on c.bytes.rest c.bytes.wanted c.fewer-wanted.result (state c.args.m.now).store c.bytes.place
      (c.bytes.place + 1) c.in_ok-byte.byte c.bytes.text c.push.new.self
      (text_from c.args.left c.args.most (state c.args.m.now).store c.args.address) (search rules) (search rules)
      (search rules) (search rules) (search rules) (search rules) (search rules) c.bytes.invariant.reads;
  low = search rules;
}
