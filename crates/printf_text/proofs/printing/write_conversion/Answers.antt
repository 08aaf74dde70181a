use Rattle.std.proofs.Common.{drop, length, ap, ◌∙◌}
use Rattle.printf_text.specs.Texts.{size_kinds, form_kind}
use Rattle.printf_text.proofs.Writing.{kind_at, rest_at}
use Rattle.printf_text.proofs.printing.write_conversion.Goals as goal

pub write_formed-requires : goal.write_formed-requires
write_formed-requires c =
    let conversion = c.args.c.now in
    kind_at (size_kinds conversion.width) (size_kinds conversion.precision) (form_kind conversion.form) _ _ _ c.requires
    (c.size_of-precision.ensures.rest ∙ ap (drop (length (size_kinds conversion.precision))) c.size_of-width.ensures.rest) c.in-len1-up.len_at_least c.arg-item.is

pub returns-clause-rest : goal.returns-clause-rest
returns-clause-rest c =
    let conversion = c.args.c.now in
    rest_at (size_kinds conversion.width) (size_kinds conversion.precision) (form_kind conversion.form) _ _
    (c.size_of-precision.ensures.rest ∙ ap (drop (length (size_kinds conversion.precision))) c.size_of-width.ensures.rest)
