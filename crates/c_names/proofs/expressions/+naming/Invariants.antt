use Rattle.std.proofs.Common.{◌≡◌, drop}
use Rattle.c_means.specs.Names.{names_of, specifier_of}
use Rattle.c_names.specs.Trees.{member_names, field_names, enumerator_names, parameter_names}
use Rattle.c_names.specs.Working.{put_each}
use Rattle.c_names.proofs.expressions.+naming.Given as goal

abbrev pub invariant-put_exprs-loop-item : goal.invariant-put_exprs-loop-item
invariant-put_exprs-loop-item l = put_each names_of (drop l.item-index l.items) l.done ≡ put_each names_of l.items l.fn.done

abbrev pub invariant-put_specifiers-loop-item : goal.invariant-put_specifiers-loop-item
invariant-put_specifiers-loop-item l = put_each specifier_of (drop l.item-index l.items) l.done ≡ put_each specifier_of l.items l.fn.done

abbrev pub invariant-put_members-loop-item : goal.invariant-put_members-loop-item
invariant-put_members-loop-item l = put_each member_names (drop l.item-index l.items) l.done ≡ put_each member_names l.items l.fn.done

abbrev pub invariant-put_fields-loop-item : goal.invariant-put_fields-loop-item
invariant-put_fields-loop-item l = put_each field_names (drop l.item-index l.items) l.done ≡ put_each field_names l.items l.fn.done

abbrev pub invariant-put_enumerators-loop-item : goal.invariant-put_enumerators-loop-item
invariant-put_enumerators-loop-item l = put_each enumerator_names (drop l.item-index l.items) l.done ≡ put_each enumerator_names l.items l.fn.done

abbrev pub invariant-put_parameters-loop-item : goal.invariant-put_parameters-loop-item
invariant-put_parameters-loop-item l = put_each parameter_names (drop l.item-index l.items) l.done ≡ put_each parameter_names l.items l.fn.done
