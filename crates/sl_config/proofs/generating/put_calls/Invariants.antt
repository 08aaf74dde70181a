use Rattle.std.proofs.Common.{◌≡◌, ◌++◌, ◌+◌, ◌-◌}
use Rattle.sl_config.specs.Generated.{numbered, call_line}
use Rattle.sl_config.proofs.generating.put_calls.Given as goal

abbrev pub invariant-lines : goal.invariant-lines
invariant-lines l = l.text ++ numbered call_line (l.index + 1) (l.count - l.index) ≡ l.fn.text ++ numbered call_line 1 l.count
