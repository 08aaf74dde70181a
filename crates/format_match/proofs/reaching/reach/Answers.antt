use Rattle.std.proofs.Common.{◌∙◌, sym, pos, negsuc, length, drop}
use Rattle.printf_text.specs.Texts.{conversion_text, size_of, size_kinds, first}
use Rattle.format_match.proofs.Numerals.{plain_formed}
use Rattle.format_match.proofs.reaching.reach.Goals as goal

pub returns-then-is_numeric-clause-reached : goal.returns-then-is_numeric-clause-reached
returns-then-is_numeric-clause-reached c = λ args h b.
    let k = c.args.c.now in
    c.numerals.ensures.before (conversion_text k args) b
    (plain_formed k.flags (size_of (pos 0) k.width args) (size_of (negsuc 0) k.precision (drop (length (size_kinds k.width)) args))
    (first (drop (length (size_kinds k.precision)) (drop (length (size_kinds k.width)) args))) k.form (sym c.is_numeric.ensures ∙ c.if-is_numeric.true))
    (c.field_within-most.ensures.reached args h b)
