use Rattle.std.proofs.Common.{arith, rules}
use Rattle.plain_data.specs.Words.{to_bytes, from_bytes}
use Rattle.c_machine.proofs.Spelling.{one_more}
use Rattle.c_machine.proofs.value.first.Goals as goal

pub bytes-preserved-in-Some : goal.bytes-preserved-in-Some
bytes-preserved-in-Some c = record {
  all = one_more c.bytes.found c.push.new.self c.bytes.left c.in-Some.byte.now c.in-Some.more.now
      (to_bytes c.args.count (from_bytes c.args.bytes.now)) c.bytes.rest.now (search rules) c.bytes-test.true (search rules) (search rules) c.bytes.invariant.all;
}
