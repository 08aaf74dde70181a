use Rattle.std.proofs.Common.{◌≡◌, ◌∙◌, ◌↔◌, true, sym, subst, arith}
use Rattle.format_match.specs.Beginning.{Leads, LeadExactly, is_marked}
use Rattle.format_match.proofs.Onwards.{is_not, leads_less, differ}
use Rattle.format_match.proofs.PlainTexts.{plain_is, text_on_is}
use Rattle.format_match.proofs.marking.leads_on.Goals as goal

pub returns-then-is_plain_text : goal.returns-then-is_plain_text
returns-then-is_plain_text c =
    let a = c.args in
    let r = plain_is a.piece.now (sym c.is_plain_text.ensures ∙ c.if-is_plain_text.true) in
    subst (λ p. (c.text_leads_on.result ≡ true) ↔ Leads p a.log.now a.marks.now 1 a.from) (sym r.1)
    (text_on_is r.0 a.log.now (λ j. omega (arith, c.type_inv.log j)) a.marks.now a.before.now a.from c.text_leads_on.result c.text_leads_on.ensures
    (subst (λ p. LeadExactly p a.log.now a.marks.now 0 a.before.now) r.1 c.requires.before))

pub returns-then-not-is_marked : goal.returns-then-not-is_marked
returns-then-not-is_marked c =
    let a = c.args in
    is_not (Leads a.piece.now a.log.now a.marks.now 1 a.from)
    (λ l. differ (is_marked a.before.now a.from) (sym c.is_marked.ensures ∙ c.if-not-is_marked.true) ((c.requires.before a.from).1 (leads_less a.piece.now a.log.now a.marks.now a.from l)))
