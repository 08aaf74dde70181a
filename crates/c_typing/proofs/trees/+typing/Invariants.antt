use Rattle.std.proofs.Common.{◌≡◌, pos, Some, map, drop}
use Rattle.c_language.specs.Scopes.{enter}
use Rattle.c_language.specs.Typing.{no_arguments}
use Rattle.c_language.specs.Declares.{in_order, said_by, none_laid, form_of, each_field, listed, none_listed}
use Rattle.c_language.specs.Trees.{
  through,
  typed,
  specifier_says,
  member_says,
  field_says,
  enumerator_says,
  parameter_says,
}
use Rattle.c_declares.specs.Views.{said_in, laid_in, counting_in, listed_in}
use Rattle.c_typing.specs.Parts.{behind}
use Rattle.c_typing.proofs.trees.+typing.Given as goal

abbrev pub invariant-all_arguments-loop-item : goal.invariant-all_arguments-loop-item
invariant-all_arguments-loop-item l =
    through (behind l.all l.scope) (map typed (drop l.item-index l.items)) ≡ through (behind (no_arguments l.fn.faults)
    l.fn.scope) (map typed l.items)

abbrev pub invariant-all_specifiers-loop-item : goal.invariant-all_specifiers-loop-item
invariant-all_specifiers-loop-item l =
    in_order (map specifier_says (drop l.item-index l.items)) (said_in l.said l.scope) ≡ said_by (map specifier_says
    l.items) l.alone l.fn.faults l.fn.scope

abbrev pub invariant-all_members-loop-item : goal.invariant-all_members-loop-item
invariant-all_members-loop-item l =
    in_order (map member_says (drop l.item-index l.items)) (laid_in l.laid l.scope) ≡ in_order (map member_says l.items)
    (none_laid (form_of l.fn.kind) l.fn.faults l.fn.scope)

abbrev pub invariant-all_fields-loop-item : goal.invariant-all_fields-loop-item
invariant-all_fields-loop-item l =
    each_field (map field_says (drop l.item-index l.items)) l.ctype (laid_in l.laid l.scope) ≡ each_field (map
    field_says l.items) l.ctype (laid_in l.fn.laid l.fn.scope)

abbrev pub invariant-all_enumerators-loop-item : goal.invariant-all_enumerators-loop-item
invariant-all_enumerators-loop-item l =
    in_order (map enumerator_says (drop l.item-index l.items)) (counting_in l.counting l.scope) ≡ in_order (map
    enumerator_says l.items) (record { next = Some (pos 0); faults = l.fn.faults; scope = l.fn.scope })

abbrev pub invariant-all_parameters-loop-item : goal.invariant-all_parameters-loop-item
invariant-all_parameters-loop-item l =
    listed (listed_in l.listed l.scope) (map parameter_says (drop l.item-index l.items)) ≡ listed (none_listed
    (enter l.fn.scope)) (map parameter_says l.items)
