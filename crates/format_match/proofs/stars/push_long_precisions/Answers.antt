use Rattle.std.proofs.Common.{◌≡◌, ◌∙◌, rules, w64, to_z, of_z, arith, [], ◌∷◌, ◌+◌, length}
use Rattle.printf_text.specs.Texts.{form_kind}
use Rattle.printf_text.specs.declared.kind.Kind.TheVariants as kind
use Rattle.format_match.specs.Ways.{long_precisions_end}
use Rattle.format_match.proofs.MetEnds.{Adds-nothing, ranged_none}
use Rattle.format_match.proofs.StarLaws.{held_long, long_added, long_past}
use Rattle.format_match.proofs.stars.push_long_precisions.Goals as goal

pub returns-then-slice-ge-MOST : goal.returns-then-slice-ge-MOST
returns-then-slice-ge-MOST c =
    let a = c.args in
    Adds-nothing _ _
    (ranged_none a.width.range (kind.Integer ∷ form_kind a.c.now.form ∷ []) (long_precisions_end a.c.now a.width.value a.slice.now a.end)
    (long_past a.c.now a.width.value a.slice.now a.end (omega arith)))

pub push_sizes-requires : goal.push_sizes-requires
push_sizes-requires c =
    let z = to_z w64 (of_z w64 c.positive-value.result) in
    let fits : z ≡ c.positive-value.result = search rules in
    record { width = c.requires; precision = held_long z (length c.args.slice.now + 1) (fits ∙ c.positive-value.ensures) (omega arith) }

pub returns : goal.returns
returns c =
    let z = to_z w64 (of_z w64 c.positive-value.result) in
    let fits : z ≡ c.positive-value.result = search rules in
    long_added c.args.c.now c.args.width.range c.args.width.value c.args.slice.now c.args.end _ _ z (fits ∙ c.positive-value.ensures) c.in_ok-push_sizes.ensures
