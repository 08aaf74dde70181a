use Rattle.std.proofs.Common.{◌+◌, append-nil}
use Rattle.std.specs.Slice.Iter.{iter_rest}
use Rattle.std.specs.Iterator.Adapters.{zip_first, zip_second}
use Rattle.std.proofs.lemmas.Slice.Zip.{either_empty_from_Zip}
use Rattle.report_text.proofs.Parts.{no_lines}
use Rattle.report_text.proofs.verdict_lines.put_fact_lines.Goals as goal

pub returns : goal.returns
returns c =
    let last = no_lines c.args.places.now (c.loop-fact.number + 1) (iter_rest (zip_first c.loop-fact.fact-iterator)) (iter_rest (zip_second c.loop-fact.fact-iterator)) (either_empty_from_Zip c.loop-fact.fact-iterator c.next.new.self c.next.result c.in-None.is c.next.ensures.steps) in
    rw (last, append-nil) at c.loop-fact.invariant.written
