use Rattle.std.proofs.Common.{◌∙◌, sym, subst, arith}
use Rattle.printf_text.specs.declared.piece.Piece.TheVariants.{Converted}
use Rattle.format_match.specs.Spelled.{EndsBehind}
use Rattle.format_match.proofs.PlainTexts.{plain_is}
use Rattle.format_ends.specs.Reached.{reached, text_ends}
use Rattle.format_ends.proofs.TextLaws.{text_reached}
use Rattle.format_ends.proofs.ending.behind_conversion.Goals as goal

pub returns-then-is_plain_text-clause-ends : goal.returns-then-is_plain_text-clause-ends
returns-then-is_plain_text-clause-ends c =
    let log = c.args.log.now in
    let from = c.args.from in
    let plain = plain_is (Converted c.args.c) (sym c.is_plain_text.ensures ∙ c.if-is_plain_text.true) in
    subst (λ p. EndsBehind p log (reached log from.text from.before) (text_ends log from.before)) (sym plain.1)
    (text_reached plain.0 log (λ k. omega (arith, c.type_inv.log k)) from.text from.before c.requires.within)
