use Rattle.std.proofs.lemmas.List.Sums.{prefix_len-le-length}
use Rattle.printf_text.specs.Pieces.{is_flag}
use Rattle.printf_text.proofs.parse.read_flags.Goals as goal

pub split_at-requires : goal.split_at-requires
split_at-requires c = rw c.flags_len.ensures (prefix_len-le-length is_flag c.args.bytes.now)
