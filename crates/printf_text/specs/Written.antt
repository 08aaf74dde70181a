-- The parts of a text as the writer holds them.
use Rattle.std.specs.Prelude.{◌++◌, replicate}
use Rattle.printf_text.specs.Texts.{Parts}
use Rattle.printf_text.specs.declared.printing.Parts.{Parts as Held}

-- zeros of the precision stand before the digits
abbrev pub parts_of : Held → Parts
parts_of p = record { sign = p.sign.now; prefix = p.prefix.now; body = replicate p.zeros 48 ++ p.digits.now }
