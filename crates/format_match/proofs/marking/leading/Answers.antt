use Rattle.std.proofs.Common.{◌∙◌, sym, subst}
use Rattle.format_match.specs.Beginning.{LeadExactly}
use Rattle.format_match.proofs.PlainTexts.{plain_is}
use Rattle.format_match.proofs.marking.leading.Goals as goal

pub returns-then-is_plain_text : goal.returns-then-is_plain_text
returns-then-is_plain_text c =
    let r = plain_is c.args.piece.now (sym c.is_plain_text.ensures ∙ c.if-is_plain_text.true) in
    subst (λ p. LeadExactly p c.args.log.now c.args.marks.now 0 c.in_ok-before.before.items) (sym r.1) (c.in_ok-before.ensures r.0)
