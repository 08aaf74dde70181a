use Rattle.std.proofs.Common.{◌≡◌, ◌∙◌, ◌+◌, true, false, length, drop, ap, sym, arith}
use Rattle.format_match.specs.Splits.{begins}
use Rattle.format_match.specs.Beginning.{Leads, is_marked}
use Rattle.printf_text.specs.declared.piece.Piece.TheVariants.{Literal}
use Rattle.format_match.proofs.Onwards.{stands_there, stands_back, is_not, differ}
use Rattle.format_match.proofs.marking.stands.Goals as goal

pub returns-then-text-least : goal.returns-then-text-least
returns-then-text-least c =
    let a = c.args in
    is_not (Leads (Literal a.bytes.now) a.log.now a.marks.now a.least a.from)
    (λ l. omega (arith, (stands_back a.bytes.now a.log.now a.marks.now a.least a.from l).long, ap length c.as_slice-text.ensures, c.if-text-least.true))

pub returns-then-not-is_marked : goal.returns-then-not-is_marked
returns-then-not-is_marked c =
    let a = c.args in
    let e : is_marked a.marks.now (a.from + length a.bytes.now) ≡ false = ap (λ t. is_marked a.marks.now (a.from + length t)) (sym c.as_slice-text.ensures) ∙ sym c.is_marked.ensures ∙ c.if-not-is_marked.true in
    is_not (Leads (Literal a.bytes.now) a.log.now a.marks.now a.least a.from)
    (λ l. differ (is_marked a.marks.now (a.from + length a.bytes.now)) e (stands_back a.bytes.now a.log.now a.marks.now a.least a.from l).marked)

pub returns : goal.returns
returns c =
    let a = c.args in
    let m : is_marked a.marks.now (a.from + length a.bytes.now) ≡ true = ap (λ t. is_marked a.marks.now (a.from + length t)) (sym c.as_slice-text.ensures) ∙ sym c.is_marked.ensures ∙ c.if-not-is_marked.false in
    let b : c.begins.result ≡ begins a.bytes.now (drop a.from a.log.now) =
    c.begins.ensures ∙ ap (λ t. begins t c.split_at.result.1.now) c.as_slice-text.ensures ∙ ap (begins a.bytes.now) c.split_at.ensures.back in (
      λ t. stands_there a.bytes.now a.log.now a.marks.now a.least a.from c.requires (omega (arith, ap length c.as_slice-text.ensures, c.if-text-least.false)) (sym b ∙ t) m,
      λ l. b ∙ (stands_back a.bytes.now a.log.now a.marks.now a.least a.from l).begins_so,
    )
