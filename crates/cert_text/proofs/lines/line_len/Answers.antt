use Rattle.std.proofs.Common.{not, ◌==◌, arith}
use Rattle.std.proofs.lemmas.List.Sums.{prefix_len-le-length}
use Rattle.cert_text.proofs.lines.line_len.Goals as goal

pub returns-else-plain-bytes-clause-value : goal.returns-else-plain-bytes-clause-value
returns-else-plain-bytes-clause-value c = omega (arith, c.plain_len-plain.ensures, prefix_len-le-length (λ b. not (b == 10)) c.args.bytes.now)

pub returns-else-plain-bytes-clause-within : goal.returns-else-plain-bytes-clause-within
returns-else-plain-bytes-clause-within c = omega (arith, c.plain_len-plain.ensures, prefix_len-le-length (λ b. not (b == 10)) c.args.bytes.now)
