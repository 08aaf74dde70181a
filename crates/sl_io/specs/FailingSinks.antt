-- Which writes of a sink fail, and after how many bytes.
use Rattle.std.specs.Prelude.{◌==◌, ℕ, List, Option, find, option_map}
use Rattle.sl_io.specs.Counts.{capped_sum}
use Rattle.sl_io.specs.MemorySinks.{Buffered}
use Rattle.sl_io.specs.declared.fail_sink.FailedWrite.{FailedWrite}

pub record FailingSink : Type 0 where
  -- the bytes, and how many writes failed
  pub sink : Buffered
  -- which writes are to fail
  pub failing : List FailedWrite
  -- how many writes were made
  pub calls : ℕ

-- how many bytes this write is to write before it fails, where it is listed
abbrev pub failure_of : List FailedWrite → ℕ → Option ℕ
failure_of failing call = option_map (λ failed. failed.written) (find (λ failed. failed.call == call) failing)

-- the same of the next write
abbrev pub next_failure : FailingSink → Option ℕ
next_failure sink = failure_of sink.failing (capped_sum sink.calls 1)
