use Rattle.std.proofs.Common.{◌≡◌, ◌≤◌, ◌∙◌, ◌+◌, true, length, drop, ap, sym, subst}
use Rattle.format_match.specs.Splits.{begins}
use Rattle.format_match.specs.Ways.{Moves}
use Rattle.format_match.proofs.Following.{literal_none, literal_moves, literal_fits}
use Rattle.format_match.proofs.matching.push_literal.Goals as goal

pub returns-then-not-begins : goal.returns-then-not-begins
returns-then-not-begins c =
    let a = c.args in
    literal_none a.next.now a.bytes.now a.log.now a.before a.out.now
    (ap (begins a.bytes.now) (sym c.split_at.ensures.back) ∙ ap (λ t. begins t c.split_at.result.1.now) (sym c.as_slice.ensures) ∙ sym c.begins.ensures ∙ c.if-not-begins.true)

pub push_moved-requires : goal.push_moved-requires
push_moved-requires c =
    let a = c.args in
    let is : begins a.bytes.now (drop a.before.end a.log.now) ≡ true =
    ap (begins a.bytes.now) (sym c.split_at.ensures.back) ∙ ap (λ t. begins t c.split_at.result.1.now) (sym c.as_slice.ensures) ∙ sym c.begins.ensures ∙ c.if-not-begins.false in
    subst (λ n. a.before.end + n ≤ length a.log.now) (sym c.len.ensures) (literal_fits a.bytes.now a.log.now a.before.end c.requires is)

pub returns : goal.returns
returns c =
    let a = c.args in
    let is : begins a.bytes.now (drop a.before.end a.log.now) ≡ true =
    ap (begins a.bytes.now) (sym c.split_at.ensures.back) ∙ ap (λ t. begins t c.split_at.result.1.now) (sym c.as_slice.ensures) ∙ sym c.begins.ensures ∙ c.if-not-begins.false in
    literal_moves a.next.now a.bytes.now a.log.now a.before a.out.now _ is
    (subst (λ n. Moves a.next.now a.log.now n a.before a.out.now c.push_moved.new.out) c.len.ensures c.in_ok-push_moved.ensures)
