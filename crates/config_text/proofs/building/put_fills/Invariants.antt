use Rattle.std.proofs.Common.{◌≡◌, ◌++◌}
use Rattle.serde_json.specs.View.{members_view}
use Rattle.config_text.specs.Values.{for_each, fill_function}
use Rattle.config_text.proofs.building.put_fills.Given as goal

abbrev pub invariant-loop-key : goal.invariant-loop-key
invariant-loop-key l = l.all ++ for_each fill_function (members_view l.key-iterator) ≡ l.fn.all ++ for_each fill_function (members_view l.fn.entries.entries)
