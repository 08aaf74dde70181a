use Rattle.std.proofs.Common.{◌≡◌}
use Rattle.serde_json.specs.View.{members_view}
use Rattle.config_text.specs.Keys.{first_fault, key_fault, under}
use Rattle.config_text.proofs.checking.keys_fault.Given as goal

abbrev pub invariant-loop-key : goal.invariant-loop-key
invariant-loop-key l = first_fault (λ key value. under key (key_fault l.kind key value)) (members_view l.key-iterator) ≡ first_fault (λ key value. under key (key_fault l.fn.kind key value)) (members_view l.fn.members.entries)
