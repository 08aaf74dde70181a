use Rattle.std.proofs.Common.{sym, subst}
use Rattle.format_match.specs.Reaches.{HasMostDigits}
use Rattle.format_match.proofs.Widths.{most_digits_8, most_digits_16, most_digits_32, most_digits_64}
use Rattle.format_match.proofs.reaching.most_digits.Goals as goal

pub returns-in-W8-clause-digits : goal.returns-in-W8-clause-digits
returns-in-W8-clause-digits c = subst (λ w. HasMostDigits w 3) (sym c.in-W8.is) most_digits_8

pub returns-in-W16-clause-digits : goal.returns-in-W16-clause-digits
returns-in-W16-clause-digits c = subst (λ w. HasMostDigits w 6) (sym c.in-W16.is) most_digits_16

pub returns-in-W32-clause-digits : goal.returns-in-W32-clause-digits
returns-in-W32-clause-digits c = subst (λ w. HasMostDigits w 11) (sym c.in-W32.is) most_digits_32

pub returns-in-W64-clause-digits : goal.returns-in-W64-clause-digits
returns-in-W64-clause-digits c = subst (λ w. HasMostDigits w 22) (sym c.in-W64.is) most_digits_64
