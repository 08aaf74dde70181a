use Rattle.std.proofs.Common.{negsuc, ap, arith}
use Rattle.printf_text.specs.Texts.{digits_wanted, size_of}
use Rattle.format_match.proofs.Widths.{number_longest}
use Rattle.format_match.proofs.reaching.longest_number.Goals as goal

pub returns-in-Omitted : goal.returns-in-Omitted
returns-in-Omitted c =
    let digits = c.most_digits-digits in
    number_longest c.args.width c.args.precision digits.result digits.result digits.ensures.digits
    (λ args. omega (arith, digits.ensures.some, ap (λ s. digits_wanted (size_of (negsuc 0) s args)) c.in-Omitted.is)) (omega arith)

pub returns-in-Written : goal.returns-in-Written
returns-in-Written c =
    let digits = c.most_digits-digits in
    number_longest c.args.width c.args.precision digits.result c.max.result digits.ensures.digits
    (λ args. omega (arith, c.max.ensures, ap (λ s. digits_wanted (size_of (negsuc 0) s args)) c.in-Written.is)) (omega (arith, c.max.ensures))
