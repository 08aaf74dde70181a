use Rattle.std.proofs.Common.{arith, ap, ◌∙◌}
use Rattle.plain_data.specs.Words.{from_bytes}
use Rattle.c_machine.proofs.Spelling.{from_drop, past_the_end}
use Rattle.c_machine.proofs.value.behind.Goals as goal

pub returns-then-offset-bytes : goal.returns-then-offset-bytes
returns-then-offset-bytes c =
    ap from_bytes c.split_at.ensures.back ∙ from_drop c.args.bytes.now c.args.offset (λ i. omega (arith, c.type_inv.bytes i))

pub returns-else-offset-bytes : goal.returns-else-offset-bytes
returns-else-offset-bytes c =
    ap from_bytes c.split_at-else-offset-bytes.ensures.back
    ∙ past_the_end c.args.bytes.now c.args.offset (λ i. omega (arith, c.type_inv.bytes i)) c.if-offset-bytes.false
