use Rattle.std.proofs.Common.{arith}
use Rattle.log_text.proofs.stripping.strip.Goals as goal

pub overflow_cast-result : goal.overflow_cast-result
overflow_cast-result c = record { fits = omega (arith, c.count_lines-count.ensures.few) }
