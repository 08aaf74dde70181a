use Rattle.std.proofs.lemmas.List.Sums.{prefix_len-le-length}
use Rattle.printf_text.specs.Pieces.{is_plain}
use Rattle.printf_text.proofs.parse.first_piece.Goals as goal

pub split_at-requires : goal.split_at-requires
split_at-requires c = rw c.plain_len.ensures (prefix_len-le-length is_plain c.args.bytes.now)
