-- What a function that reads promises of what it found.
use Rattle.std.specs.Prelude.{◌≤◌, ℕ, Result, IfOk}
use Rattle.c_grammar.specs.Parts.{State}
use Rattle.c_grammar.specs.Reading.{Reading}
use Rattle.c_reading.specs.declared.cursor.Cursor.{Cursor}
use Rattle.c_reading.specs.declared.cursor.Source.{Source}
use Rattle.c_reading.specs.declared.fault.ParseFault.{ParseFault}
use Rattle.c_reading.specs.Cursor.{here, Gives}

-- what was found, seen by view, is what the rule reads from where the cursor stood to where it stands
abbrev pub Reads : {X Y : Type 0} → (X → Y) → Source → Cursor → Cursor → Result X ParseFault → (State → Reading Y)
    → Type 0
Reads view source old new result rule = Gives (λ f. (view f, here source new)) result (rule (here source old))

-- and it is at most so high
pub record ReadsLow {X Y : Type 0} (view : X → Y) (height : X → ℕ) (source : Source) (old new : Cursor)
    (result : Result X ParseFault) (rule : State → Reading Y) (most : ℕ) : Type 0 where
  pub reads : Reads view source old new result rule
  pub low : IfOk result (λ f. height f ≤ most)
