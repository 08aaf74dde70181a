use Rattle.std.proofs.Common.{◌≡◌, ◌++◌, ◌+◌, ◌-◌}
use Rattle.sl_config.specs.Generated.{numbered, log_line}
use Rattle.sl_config.proofs.generating.put_log.Given as goal

abbrev pub invariant-lines : goal.invariant-lines
invariant-lines l = l.text ++ numbered log_line (l.index + 1) (l.count - l.index) ≡ l.fn.text ++ numbered log_line 1 l.count
