use Rattle.std.proofs.Common.{◌++◌, ◌∷◌, [], true, false}
use Rattle.printf_text.specs.Texts.{form_kind}
use Rattle.printf_text.specs.declared.kind.Kind.TheVariants as kind
use Rattle.format_match.specs.Ways.{Adds, range_kinds, range_marks, ranged, short_precisions_end}
use Rattle.format_match.proofs.stars.push_short_precisions.Given as goal

abbrev pub invariant-precisions : goal.invariant-precisions
invariant-precisions l =
    Adds (range_kinds l.width.range ++ kind.Integer ∷ form_kind l.c.form ∷ []) (range_marks l.width.range ++ true ∷ false ∷ []) (ranged l.width.range (short_precisions_end l.c l.width.value l.slice l.end l.k)) l.fn.out l.out
