use Rattle.std.proofs.Common.{◌≡◌, ◌++◌, drop}
use Rattle.serde_json.specs.View.{items_view}
use Rattle.config_text.specs.Values.{texts_in}
use Rattle.config_text.proofs.building.put_names.Given as goal

abbrev pub invariant-loop-value : goal.invariant-loop-value
invariant-loop-value l = l.all ++ texts_in (items_view (drop l.value-index l.values)) ≡ l.fn.all ++ texts_in (items_view l.fn.values)
