use Rattle.std.proofs.Common.{◌≡◌, ◌∙◌, rules, w64, to_z, of_z, arith, [], ◌∷◌}
use Rattle.printf_text.specs.Texts.{form_kind}
use Rattle.printf_text.specs.declared.kind.Kind.TheVariants as kind
use Rattle.format_match.specs.Ways.{precision_at_end}
use Rattle.format_match.proofs.MetEnds.{Adds-nothing, ranged_none}
use Rattle.format_match.proofs.StarLaws.{held_exact, int_pos, precision_added, precision_past}
use Rattle.format_match.proofs.stars.push_precision.Goals as goal

pub returns-then-k-gt-MOST : goal.returns-then-k-gt-MOST
returns-then-k-gt-MOST c =
    let a = c.args in
    Adds-nothing _ _
    (ranged_none a.width.range (kind.Integer ∷ form_kind a.c.now.form ∷ []) (precision_at_end a.c.now a.width.value a.slice.now a.end a.k)
    (precision_past a.c.now a.width.value a.slice.now a.end a.k (omega arith)))

pub push_sizes-requires : goal.push_sizes-requires
push_sizes-requires c =
    let z = to_z w64 (of_z w64 c.positive-value.result) in
    let fits : z ≡ c.positive-value.result = search rules in
    record { width = c.requires; precision = held_exact z (int_pos z c.args.k (fits ∙ c.positive-value.ensures) (omega arith)) }

pub returns : goal.returns
returns c =
    let z = to_z w64 (of_z w64 c.positive-value.result) in
    let fits : z ≡ c.positive-value.result = search rules in
    precision_added c.args.c.now c.args.width.range c.args.width.value c.args.slice.now c.args.end _ _ c.args.k z (fits ∙ c.positive-value.ensures) c.in_ok-push_sizes.ensures
