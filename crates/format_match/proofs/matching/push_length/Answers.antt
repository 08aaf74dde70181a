use Rattle.std.proofs.Common.{◌∙◌, ◌+◌, [], take, ap, sym, cond}
use Rattle.printf_text.specs.Texts.{conversion_text}
use Rattle.format_match.specs.Splits.{begins}
use Rattle.format_match.specs.Ways.{here}
use Rattle.format_match.proofs.MetEnds.{Adds-nothing}
use Rattle.format_match.proofs.matching.push_length.Goals as goal

pub returns-then-not-begins : goal.returns-then-not-begins
returns-then-not-begins c =
    let a = c.args in
    Adds-nothing _ _
    (λ args h. ap (λ b. cond b (here (conversion_text a.c.now args) (take a.len a.rest.now) (a.from + a.len)) [])
    (ap (begins a.next.now) (sym c.split_at.ensures.back) ∙ sym c.begins.ensures ∙ c.if-not-begins.true))
