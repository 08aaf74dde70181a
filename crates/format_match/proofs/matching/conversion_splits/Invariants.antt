use Rattle.std.proofs.Common.{take, drop, ◌+◌}
use Rattle.printf_text.specs.Texts.{conversion_kinds, conversion_text}
use Rattle.format_match.specs.Splits.{conversion_marks}
use Rattle.format_match.specs.Ways.{Describes, upto, here, kept_here}
use Rattle.format_match.proofs.matching.conversion_splits.Given as goal

abbrev pub invariant-lengths : goal.invariant-lengths
invariant-lengths l =
    Describes (conversion_kinds l.c) (conversion_marks l.c) (λ args. upto (λ len. kept_here l.next (drop len l.rest) (here (conversion_text l.c args) (take len l.rest) (l.from + len))) l.len) l.out
