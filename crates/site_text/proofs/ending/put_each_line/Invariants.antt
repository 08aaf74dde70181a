use Rattle.std.proofs.Common.{◌≡◌, ◌+◌, drop}
use Rattle.log_text.specs.Lines.{line_starts}
use Rattle.format_ends.specs.Found.{IsReadyFor}
use Rattle.site_text.specs.Ends.{IsLineText, numbered}
use Rattle.site_text.proofs.Adding.{Leads}
use Rattle.site_text.proofs.ending.put_each_line.Given as goal

abbrev pub invariant-lines : goal.invariant-lines
invariant-lines l = record {
  ready : IsReadyFor l.pieces l.log l.format;
  counted : l.number ≡ l.start-index;
  leads : Leads (IsLineText l.places l.log l.at l.pieces) (numbered 1 (line_starts l.log))
      (numbered (l.number + 1) (drop l.start-index (line_starts l.log))) l.fn.text l.text;
}
