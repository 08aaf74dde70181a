use Rattle.std.proofs.Common.{◌∙◌, ◌++◌, ◌∷◌, [], ap, sym, subst}
use Rattle.format_match.specs.Splits.{begins}
use Rattle.format_match.specs.Ways.{Describes, kept_ends, ends_of}
use Rattle.format_match.proofs.Following.{start_none, start_one}
use Rattle.format_match.proofs.matching.start.Goals as goal

pub returns-then-not-begins : goal.returns-then-not-begins
returns-then-not-begins c =
    let a = c.args in
    subst (λ l. Describes [] [] (λ args. kept_ends a.next.now a.log.now (ends_of [] a.log.now a.from)) l) (sym c.new-splits.ensures)
    (start_none a.next.now a.log.now a.from (ap (begins a.next.now) (sym c.split_at.ensures.back) ∙ sym c.begins.ensures ∙ c.if-not-begins.true))

pub returns : goal.returns
returns c =
    let a = c.args in
    start_one a.next.now a.log.now a.from _ (ap (begins a.next.now) (sym c.split_at.ensures.back) ∙ sym c.begins.ensures ∙ c.if-not-begins.false)
    (c.in_ok-push.ensures.ok ∙ ap (λ l. l ++ record { end = a.from; constraints = c.new.result } ∷ []) c.new-splits.ensures ∙ ap (λ k. record { end = a.from; constraints = k } ∷ []) c.new.ensures)
