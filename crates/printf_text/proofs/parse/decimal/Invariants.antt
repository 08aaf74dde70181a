use Rattle.std.proofs.Common.{◌≡◌, ◌≤◌, take}
use Rattle.printf_text.specs.Pieces.{decimal}
use Rattle.printf_text.proofs.parse.decimal.Given as goal

abbrev pub invariant-loop-digit : goal.invariant-loop-digit
invariant-loop-digit l = (l.value ≡ decimal (take l.digit-index l.digits)) × (l.value ≤ 65536)
