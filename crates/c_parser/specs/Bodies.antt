-- A function's body, as the reading of a block gives it.
use Rattle.std.specs.Prelude.{ℕ, Bool, true, false, Result, Ok, Err}
use Rattle.c_language.specs.declared.unit.Stmt.{Stmt}
use Rattle.c_language.specs.declared.unit.Body.{Body}
use Rattle.c_language.specs.declared.unit.Body.TheVariants as body
use Rattle.c_grammar.specs.Reading.{Reading}
use Rattle.c_grammar.specs.UnitReading.{whole}
use Rattle.c_reading.specs.declared.fault.ParseFault.{ParseFault}
use Rattle.c_reading.specs.declared.fault.ParseFault.TheVariants as fault

-- the whole of a brace group as a block, if it is one
unfoldable pub body_of : ℕ → Reading Stmt → Body
body_of at read = whole at read

-- the body where no block is read, unless memory ran out
abbrev pub unread_by : ParseFault → ℕ → Result Body ParseFault
unread_by fault.Memory at = Err fault.Memory
unread_by _ at = Ok (body.Unread at)

-- a block, where it is the whole of its brace group
abbrev pub found_by : Bool → Stmt → ℕ → Body
found_by true x at = body.Read x
found_by false x at = body.Unread at
