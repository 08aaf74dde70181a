use Rattle.std.proofs.Common.{◌∙◌}
use Rattle.c_declares.proofs.Counts.{integer_kind_by}
use Rattle.c_declares.proofs.words.integer_kind.Goals as goal

pub returns : goal.returns
returns c = c.kind_by.ensures ∙ integer_kind_by c.args.words.now c.has_char.result c.has_signed.result c.has_unsigned.result
    c.has_short.result c.longs.result c.has_char.ensures c.has_signed.ensures c.has_unsigned.ensures c.has_short.ensures
    c.longs.ensures
