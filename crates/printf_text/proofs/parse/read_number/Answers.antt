use Rattle.std.proofs.Common.{All, IsTrue, take, subst, sym, ap, ◌∙◌}
use Rattle.std.proofs.lemmas.List.Sums.{prefix_len-le-length}
use Rattle.printf_text.specs.Pieces.{is_digit}
use Rattle.printf_text.proofs.Reading.{All-run}
use Rattle.printf_text.proofs.parse.read_number.Goals as goal

pub split_at-requires : goal.split_at-requires
split_at-requires c = rw c.digits_len.ensures (prefix_len-le-length is_digit c.args.bytes.now)

pub decimal-requires : goal.decimal-requires
decimal-requires c =
    subst (λ digits. All (λ b. IsTrue (is_digit b)) digits) (sym (c.split_at.ensures.front ∙ ap (λ n. take n c.args.bytes.now) c.digits_len.ensures)) (All-run is_digit c.args.bytes.now)
