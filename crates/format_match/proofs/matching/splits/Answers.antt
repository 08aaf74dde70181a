use Rattle.std.proofs.Common.{subst}
use Rattle.printf_text.specs.Texts.{kinds, text_of}
use Rattle.format_match.specs.Splits.{marks}
use Rattle.format_match.specs.Ways.{Describes, ends_of}
use Rattle.format_match.proofs.Exact.{exactly}
use Rattle.format_match.proofs.matching.splits.Goals as goal

pub returns-in-Ok : goal.returns-in-Ok
returns-in-Ok c =
    exactly c.args.pieces.now c.args.log.now c.args.from c.in-Ok.splits c.requires
    (subst (λ ps. Describes (kinds ps) (marks ps) (λ args. ends_of (text_of ps args) c.args.log.now c.args.from) c.in-Ok.splits) c.as_slice.ensures c.in-Ok.ensures)
