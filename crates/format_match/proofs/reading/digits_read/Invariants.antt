use Rattle.std.proofs.Common.{◌≡◌, ◌%◌, ◌^◌, ◌<◌, drop}
use Rattle.std.specs.List.{filter}
use Rattle.std.specs.Char.{is_digit}
use Rattle.std.specs.Str.Parse.{digits_value_after}
use Rattle.format_match.specs.Reading.{digits_read}
use Rattle.format_match.proofs.reading.digits_read.Given as goal

abbrev pub invariant-bytes : goal.invariant-bytes
invariant-bytes l = (digits_value_after l.base l.number (filter (λ c. is_digit c l.base) (drop l.byte-index l.slice)) % 2 ^ 64 ≡ digits_read l.base l.slice) × (l.number < 2 ^ 64)
