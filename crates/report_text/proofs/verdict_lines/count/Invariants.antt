use Rattle.std.proofs.Common.{◌≡◌, ◌≤◌, ◌+◌, drop, count_by}
use Rattle.report_text.specs.VerdictLines.{is_must, is_mustnot, is_may, is_unknown}
use Rattle.report_text.proofs.verdict_lines.count.Given as goal

abbrev pub invariant-loop-verdict : goal.invariant-loop-verdict
invariant-loop-verdict l = record {
  must : l.must + count_by is_must (drop l.verdict-index l.verdicts) ≡ count_by is_must l.verdicts;
  mustnot : l.mustnot + count_by is_mustnot (drop l.verdict-index l.verdicts) ≡ count_by is_mustnot l.verdicts;
  may : l.may + count_by is_may (drop l.verdict-index l.verdicts) ≡ count_by is_may l.verdicts;
  unknown : l.unknown + count_by is_unknown (drop l.verdict-index l.verdicts) ≡ count_by is_unknown l.verdicts;
  all : l.must + l.mustnot + l.may + l.unknown ≤ l.verdict-index;
}
