-- What a call that needs memory may answer.
use Rattle.std.specs.Prelude.{◌≡◌, Result, Ok, Err}
use Rattle.c_lexer.specs.declared.fault.LexFault.{LexFault}
use Rattle.c_lexer.specs.declared.fault.LexFault.TheVariants as fault

-- what is meant is this fault, unless memory ran out
abbrev pub Refused : {Y : Type 0} → Result Y LexFault → LexFault → Type 0
Refused meant fault.Memory = Unit {0}
Refused meant (fault.BadByte at) = meant ≡ Err (fault.BadByte at)
Refused meant (fault.OpenText at) = meant ≡ Err (fault.OpenText at)
Refused meant (fault.WideNumber at) = meant ≡ Err (fault.WideNumber at)
Refused meant (fault.BadConstant at) = meant ≡ Err (fault.BadConstant at)
Refused meant (fault.BadDirective at) = meant ≡ Err (fault.BadDirective at)

-- a call answers what is meant, as `view` sees it, unless memory ran out
abbrev pub Answers : {X Y : Type 0} → (X → Y) → Result Y LexFault → Result X LexFault → Type 0
Answers view meant (Ok x) = meant ≡ Ok (view x)
Answers view meant (Err f) = Refused meant f
