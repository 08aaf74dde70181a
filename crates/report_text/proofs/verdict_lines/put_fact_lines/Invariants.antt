use Rattle.std.proofs.Common.{◌≡◌, ◌++◌, ◌+◌, length}
use Rattle.std.specs.Slice.Iter.{iter_rest}
use Rattle.std.specs.Iterator.Adapters.{zip_first, zip_second}
use Rattle.report_text.specs.VerdictLines.{fact_lines}
use Rattle.report_text.proofs.verdict_lines.put_fact_lines.Given as goal

abbrev pub invariant-loop-fact : goal.invariant-loop-fact
invariant-loop-fact l = record {
  written : l.text ++ fact_lines l.places (l.number + 1) (iter_rest (zip_first l.fact-iterator)) (iter_rest (zip_second l.fact-iterator)) ≡ l.fn.text ++ fact_lines l.places 1 l.fn.facts l.fn.verdicts;
  counted : l.number + length (iter_rest (zip_first l.fact-iterator)) ≡ length l.fn.facts;
}
