use Rattle.std.proofs.Common.{◌∙◌, ◌||◌, ◌+◌, eqb, ap, sym}
use Rattle.positions.specs.Sets.{has}
use Rattle.format_match.specs.Splits.{begins}
use Rattle.format_match.proofs.Reached.{literal_none, literal_one}
use Rattle.format_ends.proofs.literals.put_literal_end.Goals as goal

pub returns-then-not-begins : goal.returns-then-not-begins
returns-then-not-begins c =
    let a = c.args in
    literal_none a.bytes.now a.log.now a.from a.out.now
    (ap (begins a.bytes.now) (sym c.split_at.ensures.back) ∙ ap (λ t. begins t c.split_at.result.1.now) (sym c.as_slice.ensures) ∙ sym c.begins.ensures ∙ c.if-not-begins.true)

pub returns : goal.returns
returns c =
    let a = c.args in
    literal_one a.bytes.now a.log.now a.from a.out.now c.put.new.self c.requires
    (ap (begins a.bytes.now) (sym c.split_at.ensures.back) ∙ ap (λ t. begins t c.split_at.result.1.now) (sym c.as_slice.ensures) ∙ sym c.begins.ensures ∙ c.if-not-begins.false)
    (λ y. c.in_ok-put.ensures y ∙ ap (λ n. has a.out.now y || eqb (a.from + n) y) c.len.ensures)
