use Rattle.std.proofs.Common.{◌≡◌, length}
use Rattle.regex.specs.Bytes.{matcher_pattern}
use Rattle.log_text.specs.Patterns.{prefix_pattern}
use Rattle.log_text.proofs.StripLemmas.{IsStripped}
use Rattle.log_text.proofs.stripping.without_prefixes.Given as goal

abbrev pub invariant-lines : goal.invariant-lines
invariant-lines l = (matcher_pattern l.matcher ≡ prefix_pattern l.prefix) × IsStripped (prefix_pattern l.prefix) l.drop_unmatched l.log l.bytes l.rest

abbrev pub decreases-lines : goal.decreases-lines
decreases-lines l = length l.rest
