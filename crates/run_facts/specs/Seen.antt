-- What a single event has to do with a value that is seen.
use Rattle.std.specs.Prelude.{ℕ, ℤ, List}
use Rattle.plain_data.specs.declared.run.Event.{Event}
use Rattle.log_text.specs.Shown.{BeginsIn, IsPrint, Saw}

-- where it is a print by the site that begins in the line, it saw the value
unfoldable pub SeenBy : List ℕ → ℕ → ℕ → ℕ → ℤ → Event → Type 0
SeenBy log at line place value event = IsPrint at event.what → BeginsIn log line event → Saw place value event.what
