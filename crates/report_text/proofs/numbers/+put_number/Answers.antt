use Rattle.std.proofs.Common.{arith, rules, ◌≡◌, ◌++◌, ◌∷◌, [], ◌+◌, ◌%◌, ◌/◌, ◌≤◌, append_assoc}
use Rattle.std.specs.Fmt.{decimal}
use Rattle.std.proofs.lemmas.Fmt.{decimal_digit, decimal_step_wide}
use Rattle.report_text.proofs.numbers.+put_number.Goals as goal

pub returns-then-number-lt10 : goal.returns-then-number-lt10
returns-then-number-lt10 t c =
    let same : c.args.number % 10 ≡ c.args.number = omega arith in
    let digit : decimal c.args.number ≡ (48 + c.args.number % 10) ∷ [] = rw same (decimal_digit c.args.number c.if-number-lt10.true) in
    rw digit (search rules)

pub returns : goal.returns
returns t c =
    let high : 10 ≤ c.args.number = omega arith in
    let step : decimal c.args.number ≡ decimal (c.args.number / 10) ++ (48 + c.args.number % 10) ∷ [] = decimal_step_wide c.args.number high (omega arith) in
    let before = c.in_ok-put_number.ensures in
    let put = rw (before, append_assoc) at c.push-2.ensures.ok in
    rw step put
