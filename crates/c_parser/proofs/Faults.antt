-- A fault of a part is one of the whole.
use Rattle.std.proofs.Common.{◌≡◌, Option, None}
use Rattle.c_reading.specs.declared.fault.ParseFault.{ParseFault}
use Rattle.c_reading.specs.declared.fault.ParseFault.TheVariants as fault
use Rattle.c_reading.specs.Cursor.{Fails}

pub carried : {A B : Type 0} (f : ParseFault) (part : Option A) (whole : Option B) → Fails f part
    → (part ≡ None → whole ≡ None) → Fails f whole
carried fault.Memory part whole fails then = tt
carried (fault.Syntax at) part whole fails then = then fails
carried (fault.TooDeep at) part whole fails then = then fails
