use Rattle.std.proofs.Common.{◌≡◌}
use Rattle.serde_json.specs.View.{members_view}
use Rattle.config_text.specs.Keys.{first_fault, setting_fault}
use Rattle.config_text.proofs.checking.first_fault.Given as goal

abbrev pub invariant-loop-word : goal.invariant-loop-word
invariant-loop-word l = first_fault (setting_fault l.refused) (members_view l.word-iterator) ≡ first_fault (setting_fault l.fn.refused) (members_view l.fn.members.entries)
