use Rattle.std.proofs.Common.{◌∙◌, ◌≡◌, ◌^◌, ◌/◌, ap, subst, rules, IfOk}
use Rattle.std.specs.Prelude.{unsigned_abs}
use Rattle.plain_data.specs.Words.{to_bytes}
use Rattle.c_machine.specs.Worth.{worth}
use Rattle.c_machine.proofs.Spelling.{sixteen}
use Rattle.c_machine.proofs.value.Value.bytes.Goals as goal

pub returns-in_ok-all-in-Number : goal.returns-in_ok-all-in-Number
returns-in_ok-all-in-Number c =
    let number : c.unsigned_abs.result ≡ unsigned_abs (worth c.args.self.now) = rw c.in-Number.is (search rules) in
    let behind = sixteen c.unsigned_abs.result (256 ^ c.args.offset) c.unsigned_abs.ensures.bound c.as_slice.result.now
    c.behind.result.now (c.as_slice.ensures ∙ c.in_ok-all-in-Number.ensures) c.behind.ensures in
    subst (λ x. IfOk c.first.result (λ bytes. bytes ≡ to_bytes c.args.count x))
    (behind ∙ ap (λ n. n / 256 ^ c.args.offset) number) c.first.ensures
