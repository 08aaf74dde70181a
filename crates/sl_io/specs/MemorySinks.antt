-- What a sink in memory holds and tells.
use Rattle.std.specs.Prelude.{◌≡◌, ◌≤◌, ◌<◌, ◌+◌, ◌++◌, if◌then◌else◌, ℕ, List, Some, Result, OnOk, OnErr, length, nat_le}
use Rattle.sl_io.specs.Counts.{capped_sum}
use Rattle.sl_io.specs.SinkStates.{SinkState}

pub record Buffered : Type 0 where
  -- all bytes written so far
  pub bytes : List ℕ
  -- how many writes failed
  pub faults : ℕ
  -- how many bytes fit in all
  pub room : ℕ

-- its bytes are told
abbrev pub sink_state : Buffered → SinkState
sink_state sink = record { bytes = Some sink.bytes; faults = sink.faults }

-- this many bytes more fit
abbrev pub Fits : Buffered → ℕ → Type 0
Fits sink count = length sink.bytes + count ≤ sink.room

-- a write: the whole piece where it fits, and else a fault and nothing of it
pub record IsWritten {T E : Type 0} (old new : Buffered) (piece : List ℕ) (result : Result T E) : Type 0 where
  pub fits : OnOk result (Fits old (length piece))
  pub whole : OnOk result (new ≡ record old { bytes = old.bytes ++ piece })
  pub full : OnErr result (old.room < length old.bytes + length piece)
  pub counted : OnErr result (new ≡ record old { faults = capped_sum old.faults 1 })

-- a failed write of which these bytes were written, where they fit
abbrev pub failed_after : Buffered → List ℕ → Buffered
failed_after sink front = record sink {
  bytes = if nat_le (length sink.bytes + length front) sink.room then sink.bytes ++ front else sink.bytes;
  faults = capped_sum sink.faults 1;
}
