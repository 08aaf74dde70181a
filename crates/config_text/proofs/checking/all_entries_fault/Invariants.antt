use Rattle.std.proofs.Common.{◌≡◌}
use Rattle.serde_json.specs.View.{members_view}
use Rattle.config_text.specs.Keys.{first_fault, entry_fault}
use Rattle.config_text.proofs.checking.all_entries_fault.Given as goal

abbrev pub invariant-loop-name : goal.invariant-loop-name
invariant-loop-name l = first_fault (entry_fault l.kind) (members_view l.name-iterator) ≡ first_fault (entry_fault l.fn.kind) (members_view l.fn.entries.entries)
