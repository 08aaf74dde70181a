use Rattle.std.proofs.Common.{refl, arith}
use Rattle.cert_text.proofs.EntryLemmas.{after_more, after_all}
use Rattle.cert_text.proofs.entry.entry_in.Goals as goal

pub bytes-preserved : goal.bytes-preserved
bytes-preserved c = after_more c.bytes.entry _ c.bytes.byte-index _ c.args.line.now _ c.bytes-test.true refl c.entry_with-entry.ensures c.bytes.invariant

pub returns : goal.returns
returns c = after_all c.bytes.entry _ c.bytes.byte-index c.args.line.now (omega arith) c.bytes.invariant
