use Rattle.std.proofs.Common.{◌≡◌, map, max, drop}
use Rattle.c_grammar.specs.Grammar.{
  shape,
  highest_shape,
  highest,
  highest_specifier,
  specifier_of,
  member_of,
  field_of,
  enumerator_of,
  parameter_of,
}
use Rattle.c_heights.specs.Capped.{capped}
use Rattle.c_heights.proofs.expr.+heights.Given as goal

abbrev pub invariant-highest_expr-loop-item : goal.invariant-highest_expr-loop-item
invariant-highest_expr-loop-item l =
    max l.highest (capped (highest_shape (map shape (drop l.item-index l.items)))) ≡ capped
    (highest_shape (map shape l.items))

abbrev pub invariant-highest_specifier-loop-item : goal.invariant-highest_specifier-loop-item
invariant-highest_specifier-loop-item l =
    max l.highest (capped (highest_specifier (map specifier_of (drop l.item-index l.items)))) ≡ capped
    (highest_specifier (map specifier_of l.items))

abbrev pub invariant-highest_member-loop-item : goal.invariant-highest_member-loop-item
invariant-highest_member-loop-item l =
    max l.highest (capped (highest (map member_of (drop l.item-index l.items)))) ≡ capped
    (highest (map member_of l.items))

abbrev pub invariant-highest_field-loop-item : goal.invariant-highest_field-loop-item
invariant-highest_field-loop-item l =
    max l.highest (capped (highest (map field_of (drop l.item-index l.items)))) ≡ capped
    (highest (map field_of l.items))

abbrev pub invariant-highest_enumerator-loop-item : goal.invariant-highest_enumerator-loop-item
invariant-highest_enumerator-loop-item l =
    max l.highest (capped (highest (map enumerator_of (drop l.item-index l.items)))) ≡ capped
    (highest (map enumerator_of l.items))

abbrev pub invariant-highest_parameter-loop-item : goal.invariant-highest_parameter-loop-item
invariant-highest_parameter-loop-item l =
    max l.highest (capped (highest (map parameter_of (drop l.item-index l.items)))) ≡ capped
    (highest (map parameter_of l.items))
