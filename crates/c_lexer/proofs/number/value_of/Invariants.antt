use Rattle.std.proofs.Common.{◌≡◌, ◌+◌, ◌*◌, ◌<◌, ◌^◌, drop, fold}
use Rattle.c_lexer.specs.Number.{digit_of, value_of}
use Rattle.c_lexer.proofs.number.value_of.Given as goal

abbrev pub invariant-loop-digit : goal.invariant-loop-digit
invariant-loop-digit l =
    (fold (λ value digit. value * l.base + digit_of digit) l.value (drop l.digit-index l.digits)
    ≡ value_of l.base l.digits) × (l.value < 2 ^ 64)
