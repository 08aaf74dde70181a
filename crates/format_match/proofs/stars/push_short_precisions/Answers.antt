use Rattle.std.proofs.Common.{refl, arith, [], ◌∷◌, ◌+◌, ◌++◌, ◌≡◌, ◌∙◌, length, ap}
use Rattle.printf_text.specs.Texts.{form_kind}
use Rattle.printf_text.specs.declared.kind.Kind.TheVariants as kind
use Rattle.format_match.specs.Ways.{short_precisions_end, precision_at_end, ranged}
use Rattle.format_match.proofs.MetEnds.{Adds-nothing, Adds-both, Adds-same, ranged_none, ranged_append, ranged_same, upto_more}
use Rattle.format_match.proofs.stars.push_short_precisions.Goals as goal

pub precisions-init : goal.precisions-init
precisions-init c =
    let a = c.args in
    Adds-nothing _ _ (ranged_none a.width.range (kind.Integer ∷ form_kind a.c.now.form ∷ []) (short_precisions_end a.c.now a.width.value a.slice.now a.end 0) (λ args h. refl))

pub precisions-preserved : goal.precisions-preserved
precisions-preserved c =
    let a = c.args in
    let k = c.precisions.k in
    Adds-same _ (Adds-both c.precisions.invariant c.in_ok-push_precision.ensures)
    (λ args h. ranged_append a.width.range (short_precisions_end a.c.now a.width.value a.slice.now a.end k) (precision_at_end a.c.now a.width.value a.slice.now a.end k) args
    ∙ ranged_same a.width.range (kind.Integer ∷ form_kind a.c.now.form ∷ [])
    (λ rest. short_precisions_end a.c.now a.width.value a.slice.now a.end k rest ++ precision_at_end a.c.now a.width.value a.slice.now a.end k rest)
    (short_precisions_end a.c.now a.width.value a.slice.now a.end (k + 1))
    (λ rest g. upto_more (λ k. precision_at_end a.c.now a.width.value a.slice.now a.end k rest) k) args h)

pub returns : goal.returns
returns c =
    let a = c.args in
    let n : c.precisions.k ≡ length a.slice.now + 1 = omega arith in
    Adds-same _ c.precisions.invariant (λ args h. ap (λ k. ranged a.width.range (short_precisions_end a.c.now a.width.value a.slice.now a.end k) args) n)
