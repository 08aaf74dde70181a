use Rattle.std.proofs.Common.{◌∙◌, ap, sym, arith}
use Rattle.std.specs.Str.{bytes_eq}
use Rattle.format_match.proofs.Following.{begins_long, begins_slice}
use Rattle.format_ends.proofs.literals.begins.Goals as goal

pub returns-then-bytes-text : goal.returns-then-bytes-text
returns-then-bytes-text c = sym (begins_long c.args.text.now c.args.bytes.now (omega arith))

pub returns : goal.returns
returns c = begins_slice c.args.text.now c.args.bytes.now _ (omega arith) (c.eq.ensures ∙ ap (bytes_eq c.args.text.now) c.split_at.ensures.front)
