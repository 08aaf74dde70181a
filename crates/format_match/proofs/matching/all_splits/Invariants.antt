use Rattle.std.proofs.Common.{take, drop}
use Rattle.printf_text.specs.Texts.{kinds, text_of}
use Rattle.format_match.specs.Splits.{marks}
use Rattle.format_match.specs.Ways.{Describes, ends_of, kept_ends, next_literal}
use Rattle.format_match.proofs.matching.all_splits.Given as goal

abbrev pub invariant-pieces : goal.invariant-pieces
invariant-pieces l =
    Describes (kinds (take l.index l.pieces)) (marks (take l.index l.pieces)) (λ args. kept_ends (next_literal (drop l.index l.pieces)) l.log (ends_of (text_of (take l.index l.pieces) args) l.log l.from)) l.splits
