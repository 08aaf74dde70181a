use Rattle.std.proofs.Common.{◌≡◌, drop}
use Rattle.serde_json.specs.View.{items_view}
use Rattle.config_text.specs.Keys.{are_strings}
use Rattle.config_text.proofs.keys.are_strings.Given as goal

abbrev pub invariant-loop-value : goal.invariant-loop-value
invariant-loop-value l = are_strings (items_view (drop l.value-index l.values)) ≡ are_strings (items_view l.fn.values)
