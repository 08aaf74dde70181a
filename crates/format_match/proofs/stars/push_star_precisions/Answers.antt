use Rattle.std.proofs.Common.{[], ◌∷◌, ◌+◌, ◌++◌, ◌∙◌, length, ap}
use Rattle.printf_text.specs.Texts.{form_kind}
use Rattle.printf_text.specs.declared.kind.Kind.TheVariants as kind
use Rattle.format_match.specs.Ways.{no_precision_end, short_precisions_end, long_precisions_end, star_precision_end, ranged}
use Rattle.format_match.proofs.MetEnds.{Adds-both, Adds-same, ranged_append, ranged_same}
use Rattle.format_match.proofs.StarLaws.{star_precisions}
use Rattle.format_match.proofs.stars.push_star_precisions.Goals as goal

pub returns : goal.returns
returns c =
    let a = c.args in
    let n = length a.slice.now + 1 in
    let none = no_precision_end a.c.now a.width.value a.slice.now a.end in
    let short = short_precisions_end a.c.now a.width.value a.slice.now a.end n in
    let long = long_precisions_end a.c.now a.width.value a.slice.now a.end in
    Adds-same _ (Adds-both (Adds-both c.in_ok-push_no_precision.ensures c.in_ok-push_short_precisions.ensures) c.in_ok-push_long_precisions.ensures)
    (λ args h. ap (λ l. l ++ ranged a.width.range long args) (ranged_append a.width.range none short args)
    ∙ ranged_append a.width.range (λ rest. none rest ++ short rest) long args
    ∙ ranged_same a.width.range (kind.Integer ∷ form_kind a.c.now.form ∷ []) (λ rest. none rest ++ short rest ++ long rest) (star_precision_end a.c.now a.width.value a.slice.now a.end)
    (star_precisions a.c.now a.width.value a.slice.now a.end) args h)
