-- What can be said of a sink at one moment.
use Rattle.std.specs.Prelude.{ℕ, List, Option}

pub record SinkState : Type 0 where
  -- all bytes written so far; None: the sink doesn't tell them
  pub bytes : Option (List ℕ)
  -- how many writes failed
  pub faults : ℕ
